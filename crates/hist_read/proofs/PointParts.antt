-- Names for parts of the definitions in specs/Point, for the lemmas on these parts.
use Rattle.std.specs.Prelude.{ℕ, ℤ, pos, Option}
use Rattle.std.specs.Option.{option_map_or}
use Rattle.stamp.specs.declared.stamps.Stamp.{Stamp}
use Rattle.hist_read.specs.Point.{stamp}

abbrev pub stamp_fields : Option Stamp → ℤ × ℕ
stamp_fields stamp = option_map_or (λ s. (s.tick, s.origin)) stamp (pos 0, 0)
