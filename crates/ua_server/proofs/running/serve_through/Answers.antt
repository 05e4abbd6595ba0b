use Rattle.std.proofs.Common.{Ok, Err, subst}
use Rattle.std.proofs.lemmas.Bool.{not-false, not-true}
use Rattle.multiplex.specs.declared.limits.Limits.{Limits}
use Rattle.multiplex.specs.Turns.{state}
use Rattle.ua_server.specs.Host.{known_machine}
use Rattle.ua_server.specs.Serving.{ServesRun}
use Rattle.ua_server.proofs.Reopened.{reopened, served-broken, served-on, served-refused, served-whole}
use Rattle.ua_server.proofs.running.serve_through.Goals as goal

pub returns-then-not-report-clause-through : goal.returns-then-not-report-clause-through
returns-then-not-report-clause-through g c first =
    let known =
    known_machine g.H.Host.means g.H.Archive.Archive.state g.H.Source.Source.effects
    g.H.Source.Reader.NonBlockingRead.input g.H.Source.Writer.NonBlockingWrite.output
    g.H.Reader.Read.remaining g.H.Writer.Write.contents g.H.Rows.Read.remaining in
    let (last, run) = c.serve_run-report.ensures first in (
      last,
      served-whole known g.C.Clock.gave g.E.Write.contents c.args.course.now.limits
          c.args.course.now.successor
          (record {
            host = c.args.host.now;
            loop = state c.args.source.now c.args.slots.now c.args.world.now first;
          })
          (state c.serve_run-report.new.source c.serve_run-report.new.slots
          c.serve_run-report.new.world last)
          c.serve_run-report.result.accepted c.serve_run-report.result.is_over run
          (not-true c.serve_run-report.result.is_over c.if-not-report.true) c.run_result.result c.run_result.ensures.same,
    )

pub returns-in_default-clause-through : goal.returns-in_default-clause-through
returns-in_default-clause-through g c first =
    let known =
    known_machine g.H.Host.means g.H.Archive.Archive.state g.H.Source.Source.effects
    g.H.Source.Reader.NonBlockingRead.input g.H.Source.Writer.NonBlockingWrite.output
    g.H.Reader.Read.remaining g.H.Writer.Write.contents g.H.Rows.Read.remaining in
    let (last, run) = c.serve_run-report.ensures first in (
      last,
      served-broken known g.C.Clock.gave g.E.Write.contents c.args.course.now.limits
          c.args.course.now.successor
          (record {
            host = c.args.host.now;
            loop = state c.args.source.now c.args.slots.now c.args.world.now first;
          })
          (state c.serve_run-report.new.source c.serve_run-report.new.slots
          c.serve_run-report.new.world last)
          c.serve_run-report.result.accepted c.serve_run-report.result.is_over run
          (not-false c.serve_run-report.result.is_over c.if-not-report.false) c.in_default.is c.run_result-in_default.result
          c.run_result-in_default.ensures.same,
    )

pub returns-in-Err-clause-through : goal.returns-in-Err-clause-through
returns-in-Err-clause-through g c first =
    let known =
    known_machine g.H.Host.means g.H.Archive.Archive.state g.H.Source.Source.effects
    g.H.Source.Reader.NonBlockingRead.input g.H.Source.Writer.NonBlockingWrite.output
    g.H.Reader.Read.remaining g.H.Writer.Write.contents g.H.Rows.Read.remaining in
    let (last, run) = c.serve_run-report.ensures first in (
      last,
      served-refused known g.C.Clock.gave g.E.Write.contents c.args.course.now.limits
          c.args.course.now.successor
          (record {
            host = c.args.host.now;
            loop = state c.args.source.now c.args.slots.now c.args.world.now first;
          })
          (state c.serve_run-report.new.source c.serve_run-report.new.slots
          c.serve_run-report.new.world last)
          c.serve_run-report.result.accepted c.serve_run-report.result.is_over run
          c.in-Some.successor c.in-Some.is
          (not-false c.serve_run-report.result.is_over c.if-not-report.false)
          (record {
            host = c.reopen.new.host;
            loop = state c.serve_run-report.new.source c.serve_run-report.new.slots
                c.reopen.new.world last;
          })
          c.in-Err.fault
          (reopened known g.E.Write.contents c.in-Some.successor c.args.host.now c.reopen.new.host
          c.serve_run-report.new.source c.serve_run-report.new.slots c.serve_run-report.new.world
          c.reopen.new.world last (Err c.in-Err.fault) c.in-Err.ensures.tries c.in-Err.ensures.tells
          c.in-Err.ensures.others),
    )

pub returns-clause-through : goal.returns-clause-through
returns-clause-through g c first =
    let known =
    known_machine g.H.Host.means g.H.Archive.Archive.state g.H.Source.Source.effects
    g.H.Source.Reader.NonBlockingRead.input g.H.Source.Writer.NonBlockingWrite.output
    g.H.Reader.Read.remaining g.H.Writer.Write.contents g.H.Rows.Read.remaining in
    let (last, run) = c.serve_run-report.ensures first in
    let (end, second) = c.serve_run-again.ensures last in (
      end,
      served-on known g.C.Clock.gave g.E.Write.contents c.args.course.now.limits
          c.args.course.now.successor
          (record {
            host = c.args.host.now;
            loop = state c.args.source.now c.args.slots.now c.args.world.now first;
          })
          (state c.serve_run-report.new.source c.serve_run-report.new.slots
          c.serve_run-report.new.world last)
          c.serve_run-report.result.accepted c.serve_run-report.result.is_over run
          c.in-Some.successor c.in-Some.is
          (not-false c.serve_run-report.result.is_over c.if-not-report.false)
          (record {
            host = c.reopen.new.host;
            loop = state c.serve_run-report.new.source c.serve_run-report.new.slots
                c.reopen.new.world last;
          })
          c.in-Ok.field-0
          (reopened known g.E.Write.contents c.in-Some.successor c.args.host.now c.reopen.new.host
          c.serve_run-report.new.source c.serve_run-report.new.slots c.serve_run-report.new.world
          c.reopen.new.world last (Ok c.in-Ok.field-0) c.in-Ok.ensures.tries c.in-Ok.ensures.tells
          c.in-Ok.ensures.others)
          (state c.serve_run-again.new.source c.serve_run-again.new.slots
          c.serve_run-again.new.world end)
          c.serve_run-again.result.accepted c.serve_run-again.result.is_over
          (subst (λ (l : Limits). ServesRun known g.C.Clock.gave g.E.Write.contents l
          (state c.serve_run-report.new.source c.serve_run-report.new.slots c.reopen.new.world last)
          (state c.serve_run-again.new.source c.serve_run-again.new.slots
          c.serve_run-again.new.world end)
          c.serve_run-again.result.accepted c.serve_run-again.result.is_over)
          c.limits_behind-left.ensures second)
          c.run_result-2.result c.run_result-2.ensures.same,
    )
