use Rattle.std.proofs.Common.{subst, sym, refl}
use Rattle.multiplex.specs.Serving.{HasCalled}
use Rattle.multiplex.proofs.Turning.{none_due, call_failed}
use Rattle.multiplex.proofs.serving.begin_call.Goals as goal

pub returns-in_err-call : goal.returns-in_err-call
returns-in_err-call g c =
    subst (λ begun. HasCalled g.S.Source.effects g.S.Reader.NonBlockingRead.input
    g.S.Writer.NonBlockingWrite.output g.H.Handler.behavior c.args.round.limits
    c.args.round.now c.args.source.now c.args.world.now begun c.call.new.self c.args.world.now)
    (sym c.from_residual.ensures)
    (λ slots. none_due g.S.Source.effects g.S.Reader.NonBlockingRead.input
    g.S.Writer.NonBlockingWrite.output g.H.Handler.behavior c.args.round.limits
    c.args.source.now
    c.call.new.self slots c.args.world.now c.args.round.now c.in_err-call.ensures)

pub returns-in-None : goal.returns-in-None
returns-in-None g c slots =
    call_failed g.S.Source.effects g.S.Reader.NonBlockingRead.input
    g.S.Writer.NonBlockingWrite.output g.H.Handler.behavior c.args.round.limits
    c.args.source.now
    c.call.new.self c.close.new.self slots c.args.world.now c.call-2.new.world c.args.round.now
    c.in_ok-call.call c.in-None.ensures.0 c.in_ok-call.ensures c.in-None.ensures.2
    c.close.ensures

pub returns-in-Some : goal.returns-in-Some
returns-in-Some g c = (
  c.in_ok-call.call,
  c.in-Some.first,
  c.in-Some.ensures.0,
  c.in_ok-call.ensures,
  c.in-Some.ensures.2,
  rw (c.new.ensures, c.begin-stay.ensures, c.in-Some.ensures.1, c.new-out.ensures.items) refl,
)
