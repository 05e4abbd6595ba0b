-- The order of stamps.
use Rattle.std.specs.declared.cmp.Ordering.{Ordering}
use Rattle.std.specs.Ordering.{nat_cmp, int_cmp, on, then_cmp}
use Rattle.stamp.specs.declared.stamps.Stamp.{Stamp}

-- by tick, then origin
abbrev pub stamp_cmp : Stamp → Stamp → Ordering
stamp_cmp = then_cmp (on (λ s. s.tick) int_cmp) (on (λ s. s.origin) nat_cmp)
