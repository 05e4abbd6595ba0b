-- How many items a page has.
use Rattle.std.proofs.Common.{ℕ, ◌-◌, ◌≤◌, ◌==◌, min, Bool, true, false, cond, Option, arith}
use Rattle.ua_services.specs.declared.history.ReadRawModifiedDetails.{ReadRawModifiedDetails as Details}
use Rattle.hist_read.specs.Asking.{has_both}
use Rattle.hist_read.specs.Reads.{given_before, page_size, most_items}
use Rattle.hist_read.specs.declared.point.Position.{Position}

-- at most the most of any page
pub page_most : (q : Details) (p : Option Position) → page_size q p ≤ most_items q
page_most q p = go (q.num_values_per_node == 0) (has_both q) q.num_values_per_node (given_before p)
  where
    go : (none both : Bool) (count given : ℕ)
        → cond none 1000 (min 1000 (cond both count (count - given)))
        ≤ cond none 1000 (min 1000 count)
    go true both count given = omega arith
    go false true count given = omega arith
    go false false count given = omega arith
