-- Names for parts of the definitions in specs/Outcome, for the lemmas on these parts.
use Rattle.std.specs.Option.{option_map_or}
use Rattle.std.specs.Prelude.{ℕ, ◌+◌, nat_lt, ℤ, pos, Bool, length, Option, Result, Ok, Err}
use Rattle.records.specs.Contents.{Content, vec}
use Rattle.records.specs.Spelling.{fields, longest, empty}
use Rattle.hist_update.specs.declared.request.Request.{Request}
use Rattle.ua_binary.specs.declared.codes.Status.{Status}
use Rattle.ua_binary.specs.declared.codes.TheConstants.Status.{BAD_RESOURCE_UNAVAILABLE}
use Rattle.ua_variant.specs.declared.update_type.HistoryUpdateType.TheVariants.{Delete}
use Rattle.hist_update.specs.Outcome.{Added, Change, Outcome, Refused, conflict, is_live, checked_change, record_by}

-- the change's record has too many bytes; its number and its tick take eight each, whatever they
-- are
abbrev pub is_too_long : Request → ℕ → Change → Bool
is_too_long request own change = nat_lt longest (length
    (fields.canon (record_by request own 1 (pos 1) change)))

abbrev pub stamped : Content → ℕ → Request → Change → Status → Option ℤ → Outcome
stamped R own request change code given =
    option_map_or (λ tick. Added code (record_by request own (vec R own + 1) tick change)) given
    (Refused BAD_RESOURCE_UNAVAILABLE)

abbrev pub outcome_of : Content → ℕ → Request → Result Change Status → Outcome
outcome_of R own request given = elim given [
  | Err code ↦ Refused code
  | Ok change ↦
      checked_change R own request change (is_live R request.node change.time)
      (conflict change.asked (is_live R request.node change.time))
]

abbrev pub deletion : ℤ → Change
deletion time = record { time = time; asked = Delete; value = empty }
