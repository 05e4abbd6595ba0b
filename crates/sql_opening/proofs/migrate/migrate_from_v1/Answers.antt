use Rattle.std.proofs.Common.{◌∙◌, map, subst, sym, arith, IsPermutation}
use Rattle.sqlite.specs.State.{HasCleanDisk}
use Rattle.sqlite.specs.Held.{state}
use Rattle.sql_tables.specs.Derived.{vector_columns}
use Rattle.sql_opening.specs.Renewing.{IsTurned}
use Rattle.sql_opening.proofs.RenewLemmas.{turned, makes_still}
use Rattle.sql_opening.proofs.migrate.migrate_from_v1.Goals as goal

pub returns-clause-made : goal.returns-clause-made
returns-clause-made g c clean =
    let old = state g.S.Store c.args.tx.now.conn.now in
    let made = state g.S.Store c.refill.new.tx.conn.now in
    let between = state g.S.Store c.currents_made.new.tx.conn.now in
    let new = state g.S.Store c.vectors_made.new.tx.conn.now in
    let between_clean : HasCleanDisk between =
    omega (arith, c.in_ok-vectors.ensures.crash.clean, clean) in
    let made_clean : HasCleanDisk made =
    omega (arith, c.in_ok-currents.ensures.crash.clean, between_clean) in
    let first : HasCleanDisk old = omega (arith, c.in_ok-refill.ensures.crash.clean, made_clean) in
    let one = rw c.deref.ensures.value at (c.in_ok-refill.ensures.made made_clean) in
    let two = c.in_ok-currents.ensures.made between_clean in
    let three = c.in_ok-vectors.ensures.made clean in
    let still = makes_still made between new one.0 two.0 three.0 in (
      still.0,
      still.1 ∙ one.1,
      subst (IsTurned c.args.id.now c.args.replica.now old.now.trees) (sym still.2)
          (turned c.args.id.now c.args.replica.now old.now.trees made.now.trees c.args.rows.now
          c.in_ok-currents.currents.items c.in_ok-vectors.vectors.items
          (c.requires.read first) one.2 two.1
          (subst (λ t. IsPermutation (map vector_columns (t 6)) c.in_ok-vectors.vectors.items)
          still.3 three.1)
          (sym c.deref-2.ensures.value ∙ c.are_same.ensures c.if-not-are_same.false
          ∙ c.deref-3.ensures.value)
          (sym c.deref-4.ensures.value ∙ c.are_same-2.ensures c.if-not-are_same-2.false
          ∙ c.deref-5.ensures.value)),
    )
