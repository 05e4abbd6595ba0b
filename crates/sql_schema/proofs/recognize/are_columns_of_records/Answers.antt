use Rattle.std.proofs.Common.{◌∙◌, arith, refl, sym, ap, true≢false, slice_index_or}
use Rattle.sql_schema.proofs.StandingLemmas.{nine}
use Rattle.sql_schema.proofs.recognize.are_columns_of_records.Goals.{then-are_named, else-are_named}
use Rattle.sql_schema.proofs.recognize.are_columns_of_records.Goals as goal

pub returns-then-are_placed : goal.returns-then-are_placed
returns-then-are_placed c = (
  λ told.
      elim c.if-are_named.branch [
        | then-are_named w ↦
            let n = c.are_named.ensures.0 w.if-are_named.true in
            let p = w.are_placed.ensures.0 (sym w.value-is ∙ c.if-are_placed.true) in
            let q = c.are_asked.ensures.0 told in
            nine c.args.columns.now c.origin-item.result c.number-item.result c.tick-item.result
            c.node-item.result c.time-item.result c.pico-item.result c.asked-item.result
            c.who-item.result c.value-item.result (omega
            (arith, c.in-len9.len_at_least, c.in-len9.len_below))
            c.origin-item.is c.number-item.is c.tick-item.is c.node-item.is c.time-item.is
            c.pico-item.is c.asked-item.is c.who-item.is c.value-item.is
            ∙ rw (n.0, n.1, n.2, p.0, p.1, p.2, q.0, q.1, q.2) refl
        | else-are_named w ↦ absurd (true≢false
            (sym c.if-are_placed.true ∙ (w.value-is ∙ w.if-are_named.false)))
      ],
  λ is. c.are_asked.ensures.1 (
    c.asked-item.is
        ∙ ap (λ xs. slice_index_or xs 6 c.asked-item.result) is,
    c.who-item.is
        ∙ ap (λ xs. slice_index_or xs 7 c.who-item.result) is,
    c.value-item.is
        ∙ ap (λ xs. slice_index_or xs 8 c.value-item.result) is,
  ),
)

pub returns-else-are_placed : goal.returns-else-are_placed
returns-else-are_placed c = (
  λ told. absurd (true≢false (sym told ∙ c.if-are_placed.false)),
  λ is.
      elim c.if-are_named.branch [
        | then-are_named w ↦ w.value-is ∙ w.are_placed.ensures.1 (
          c.node-item.is
              ∙ ap (λ xs. slice_index_or xs 3 c.node-item.result) is,
          c.time-item.is
              ∙ ap (λ xs. slice_index_or xs 4 c.time-item.result) is,
          c.pico-item.is
              ∙ ap (λ xs. slice_index_or xs 5 c.pico-item.result) is,
        )
        | else-are_named w ↦ absurd (true≢false (sym (c.are_named.ensures.1 (
          c.origin-item.is
              ∙ ap (λ xs. slice_index_or xs 0 c.origin-item.result) is,
          c.number-item.is
              ∙ ap (λ xs. slice_index_or xs 1 c.number-item.result) is,
          c.tick-item.is
              ∙ ap (λ xs. slice_index_or xs 2 c.tick-item.result) is,
        )) ∙ w.if-are_named.false))
      ],
)
