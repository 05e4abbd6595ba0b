use Rattle.std.proofs.Common.{◌∙◌, arith}
use Rattle.sqlite.specs.State.{HasCleanDisk}
use Rattle.sqlite.specs.Held.{state}
use Rattle.sqlite.proofs.StateLemmas.{survives_then}
use Rattle.sql_opening.proofs.RenewLemmas.{puts_next}
use Rattle.sql_opening.proofs.migrate.put_records.Goals as goal

pub loop-row-preserved : goal.loop-row-preserved
loop-row-preserved g c =
    let old = state g.S.Store c.args.tx.now.conn.now in
    let mid = state g.S.Store c.loop-row.tx.conn.now in
    let new = state g.S.Store c.put_record.new.tx.conn.now in
    let was = c.loop-row.invariant in
    let e = c.in_ok-put_record.ensures in (
      e.same ∙ was.0,
      survives_then old mid new _ _ _ (λ clean db none. absurd none)
          (λ clean db none. absurd none) was.1 e.crash,
      λ clean.
          let early : HasCleanDisk mid = omega (arith, e.crash.clean, clean) in
          let before = was.2 early in
          let made = e.made clean in (
            made.0,
            made.1 ∙ before.1,
            puts_next c.args.rows.now c.loop-row.row-index c.row-item.result old.now.trees
                mid.now.trees new.now.trees
                (omega (arith, c.loop-row-test.true)) c.row-item.is before.2 made.2,
          ),
    )
