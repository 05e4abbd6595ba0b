-- Names for parts of the definitions in specs/Spelling, for the lemmas on these parts.
use Rattle.std.specs.Prelude.{ℕ, nat_le, ◌==◌, Bool, false, List, length, Option, Some, None, if◌then◌else◌, ℤ, pos, ◌≤ℤ◌}
use Rattle.ua_variant.specs.declared.data.DataValue.{DataValue}
use Rattle.records.specs.declared.record.Record.{Record}
use Rattle.ua_variant.specs.declared.update_type.HistoryUpdateType.{HistoryUpdateType}
use Rattle.ua_variant.specs.declared.update_type.HistoryUpdateType.TheVariants.{Insert, Replace, Update, Delete}
use Rattle.stamp.specs.Limits.{greatest}
use Rattle.records.specs.Fields.{Front}

abbrev pub asked_of_number : ℕ → HistoryUpdateType
asked_of_number n = if n == 1 then Insert else if n == 2 then Replace else if n == 3 then Update
    else Delete

abbrev pub is_user : Option (List ℕ) → Bool
is_user given = elim given [ None ↦ false | Some name ↦ nat_le (length name) 256 ]

abbrev pub record_of : Front × DataValue → Record
record_of p = record {
  origin = p.0.1.0;
  number = p.0.1.1.0;
  tick = p.0.1.1.1.0;
  node =
      p.0.1.1.1.1.0;
  time = p.0.1.1.1.1.1.0;
  asked = p.0.1.1.1.1.1.1.0;
  user =
      p.0.1.1.1.1.1.1.1;
  value = p.1;
}

abbrev pub IsTick : ℤ → Type 0
IsTick t = (pos 1 ≤ℤ t) × (t ≤ℤ pos greatest)
