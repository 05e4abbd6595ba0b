use Rattle.std.proofs.Common.{arith, refl}
use Rattle.history_report.proofs.TextlessLemmas.{not-both, one-at, one-end, one-next}
use Rattle.history_report.proofs.parts.one_lacks_text.Goals as goal

pub loop-row-init : goal.loop-row-init
loop-row-init g c = record { behind = λ one. one }

pub loop-row-preserved : goal.loop-row-preserved
loop-row-preserved g c = record {
  behind = λ one. one-next g.T.Row.is_textless c.loop-row.row-index c.args.rows.now
      c.row-item.result (omega arith)
      (λ textless. not-both c.lacks_text.result c.if-lacks_text.false
      (c.lacks_text.ensures.1 (rw c.row-item.is textless)))
      (c.loop-row.invariant.behind one);
}

pub returns-then-lacks_text : goal.returns-then-lacks_text
returns-then-lacks_text g c = (
  λ told. one-at g.T.Row.is_textless c.loop-row.row-index c.args.rows.now c.row-item.result
      (omega arith) (rw (← c.row-item.is) (c.lacks_text.ensures.0 c.if-lacks_text.true)),
  λ one. refl,
)

pub returns : goal.returns
returns g c = (
  λ told. absurd (not-both _ refl told),
  λ one. absurd (one-end g.T.Row.is_textless c.loop-row.row-index c.args.rows.now (omega arith)
      (c.loop-row.invariant.behind one)),
)
