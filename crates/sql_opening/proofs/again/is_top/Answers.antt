use Rattle.std.proofs.Common.{rules, FitsSigned, to_z, ◌≡◌, sym, ap, ◌∙◌, length, get_or, ◌<◌}
use Rattle.std.specs.Int.{int_max, w64}
use Rattle.std.proofs.lemmas.Int.{to_z-of_z}
use Rattle.sqlite_value.specs.Order.{Row, column}
use Rattle.sql_tables.specs.Derived.{int_in}
use Rattle.sql_opening.proofs.AgainLemmas.{top_more, max_is}
use Rattle.sql_opening.proofs.again.is_top.Goals as goal

pub loop-row-preserved : goal.loop-row-preserved
loop-row-preserved c =
    let lt : c.loop-row.row-index < length c.args.rows.now = search rules in
    let more = top_more c.args.rows.now c.loop-row.row-index c.row-item.result lt in
    let fits : FitsSigned w64 c.in-Ok.found = search rules in
    let last : FitsSigned w64 c.max-newest.result = search rules in
    let here : int_in (column (get_or c.args.rows.now c.loop-row.row-index c.row-item.result) 2)
    ≡ c.in-Ok.found = ap (λ (r : Row). int_in (column r 2)) (sym c.row-item.is)
    ∙ c.in-Ok.ensures.found in
    more ∙ (λ k. int_max (c.loop-row.invariant k) (here k))
    ∙ sym (rw (to_z-of_z w64 c.in-Ok.found fits) at c.max-newest.ensures
    ∙ max_is (to_z w64 c.loop-row.newest-bits) c.in-Ok.found)
    ∙ sym (to_z-of_z w64 c.max-newest.result last)
