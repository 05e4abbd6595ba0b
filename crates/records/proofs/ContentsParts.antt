-- Names for parts of the definitions in specs/Contents and specs/Records, for the lemmas on these
-- parts.
use Rattle.std.specs.Prelude.{ℕ, ◌==◌, if◌then◌else◌, Bool, Option, Some, None}
use Rattle.std.specs.List.{list_any}
use Rattle.std.specs.Ordering.{is_eq}
use Rattle.records.specs.declared.record.Record.{Record}
use Rattle.records.specs.declared.shown.Held.{Held}
use Rattle.records.specs.Records.{name_cmp}
use Rattle.records.specs.Contents.{Adds, Content, Finding, Holds, put}

abbrev pub after_finding : Content → Record → Finding → Option Content
after_finding R r refusal = elim refusal [ Adds ↦ Some (put r R) | Holds ↦ Some R | _ ↦ None ]

abbrev pub number_from : ℕ → Record → ℕ
number_from origin r = if r.origin == origin then r.number else 0

-- a record of this one's name is there
abbrev pub names : Content → Record → Bool
names R s = list_any (λ r. is_eq (name_cmp r s)) R

-- the record's value as the live one; extra where it isn't the only record of its story
abbrev pub held_of : Bool → Option Record → Option Held
held_of extra given = elim given [
  | None ↦ None
  | Some r ↦
      Some (record { time = r.time; value = r.value; extra = extra })
]
