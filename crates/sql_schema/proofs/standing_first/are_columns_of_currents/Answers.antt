use Rattle.std.proofs.Common.{rules, ◌∙◌, arith, refl, ap, slice_index_or}
use Rattle.sql_schema.proofs.StandingLemmas.{seven}
use Rattle.sql_schema.proofs.standing_first.are_columns_of_currents.Goals as goal

pub returns-then-are_current : goal.returns-then-are_current
returns-then-are_current c = (
  λ told.
      let n = c.are_current.ensures.0 c.if-are_current.true in
      let p = c.are_shown.ensures.0 told in
      seven c.args.columns.now c.node-item.result c.time-item.result c.tick-item.result
      c.origin-item.result c.live-item.result c.extra-item.result c.value-item.result
      (omega (arith, c.in-len7.len_at_least, c.in-len7.len_below))
      c.node-item.is c.time-item.is c.tick-item.is c.origin-item.is c.live-item.is c.extra-item.is
      c.value-item.is
      ∙ rw (n.0, n.1, n.2, n.3, p.0, p.1, p.2) refl,
  λ is. c.are_shown.ensures.1 (
    c.live-item.is
        ∙ ap (λ xs. slice_index_or xs 4 c.live-item.result) is,
    c.extra-item.is
        ∙ ap (λ xs. slice_index_or xs 5 c.extra-item.result) is,
    c.value-item.is
        ∙ ap (λ xs. slice_index_or xs 6 c.value-item.result) is,
  ),
)

pub returns-else-are_current : goal.returns-else-are_current
returns-else-are_current c = (
  λ told. absurd (search rules),
  λ is. c.are_current.ensures.1 (
    c.node-item.is
        ∙ ap (λ xs. slice_index_or xs 0 c.node-item.result) is,
    c.time-item.is
        ∙ ap (λ xs. slice_index_or xs 1 c.time-item.result) is,
    c.tick-item.is
        ∙ ap (λ xs. slice_index_or xs 2 c.tick-item.result) is,
    c.origin-item.is
        ∙ ap (λ xs. slice_index_or xs 3 c.origin-item.result) is,
  ),
)
