-- Which update is asked for, and why a list of operations is refused as a whole (Part 11,
-- HistoryUpdate).
use Rattle.std.specs.Prelude.{ℕ, nat_lt, ℤ, pos, Option, Some, None, ◌==◌, if◌then◌else◌, List, [], ◌∷◌}
use Rattle.std.specs.Ordering.{int_eq}
use Rattle.ua_binary.specs.declared.codes.Status.{Status}
use Rattle.ua_binary.specs.declared.codes.TheConstants.Status.{GOOD, BAD_NOTHING_TO_DO, BAD_TOO_MANY_OPERATIONS}
use Rattle.ua_variant.specs.declared.update_type.HistoryUpdateType.{HistoryUpdateType}
use Rattle.ua_variant.specs.declared.update_type.HistoryUpdateType.TheVariants.{Insert, Replace, Update}

-- which update a number asks for (Part 11, PerformUpdateType)
abbrev pub asked_by : ℤ → Option HistoryUpdateType
asked_by perform =
    if int_eq perform (pos 1) then Some Insert else if int_eq perform (pos 2) then Some Replace
    else if int_eq perform (pos 3) then Some Update else None

-- why a list of so many items is refused as a whole, of which a service takes 1 to this many
abbrev pub list_refusal : (most count : ℕ) → Option Status
list_refusal most count =
    if count == 0 then Some BAD_NOTHING_TO_DO else if nat_lt most count
    then Some BAD_TOO_MANY_OPERATIONS else None

-- the first that isn't Good, or Good
abbrev pub first_other : List Status → Status
first_other [] = GOOD
first_other (code ∷ codes) = if code.0 == 0 then first_other codes else code
