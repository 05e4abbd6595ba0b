-- The order of stamps.
use Rattle.std.specs.Cmp.{IsTotalOrder}
use Rattle.std.proofs.lemmas.Cmp.{then_total, on_total, nat_cmp_total, int_cmp_total}
use Rattle.stamp.specs.Stamp.{stamp_cmp}

pub stamp_total : IsTotalOrder stamp_cmp
stamp_total = then_total (on_total (λ s. s.tick) int_cmp_total)
    (on_total (λ s. s.origin) nat_cmp_total)
