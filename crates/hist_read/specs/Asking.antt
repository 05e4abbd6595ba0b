-- What a read of history asks for (Part 11, ReadRawModifiedDetails).
use Rattle.std.specs.Prelude.{ℤ, pos, int_le, int_lt, Bool, not, ◌&&◌, Option, Some, None, if◌then◌else◌}
use Rattle.records.specs.Moments.{moment}
use Rattle.archive.specs.declared.reading.Direction.{Direction}
use Rattle.archive.specs.declared.reading.Direction.TheVariants.{Forward, Backward}
use Rattle.ua_services.specs.declared.history.ReadRawModifiedDetails.{ReadRawModifiedDetails as Details}

-- a time below 1 isn't given
abbrev pub is_given : ℤ → Bool
is_given time = int_le (pos 1) time

-- a start and an end are given
abbrev pub has_both : Details → Bool
has_both d = is_given d.start_time.0 && is_given d.end_time.0

-- the first moment of the time 1
abbrev pub first_time : ℤ
first_time = moment (pos 1) 0

-- where reading begins
abbrev pub origin_time : Details → ℤ
origin_time d = moment (if is_given d.start_time.0 then d.start_time.0 else d.end_time.0) 0

-- the end of the stretch that is asked for
abbrev pub end_time : Details → ℤ
end_time d = moment d.end_time.0 0

-- where it ends, in case both times are given
abbrev pub far_limit : Details → Option ℤ
far_limit d = if has_both d then Some (end_time d) else None

-- backward where the end is before the start, or no start is given
abbrev pub direction : Details → Direction
direction d =
    if is_given d.start_time.0 && not (is_given d.end_time.0 && int_lt d.end_time.0 d.start_time.0)
    then Forward else Backward
