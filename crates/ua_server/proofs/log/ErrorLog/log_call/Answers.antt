use Rattle.std.proofs.Common.{arith, w64}
use Rattle.std.specs.Int.RustNames.{FitsSigned}
use Rattle.std.proofs.lemmas.Int.{ints, to_z-of_z}
use Rattle.event_lines.specs.Lines.{call_text}
use Rattle.ua_server.specs.Logging.{call_reason, moved_of}
use Rattle.ua_server.proofs.Logged.{timed}
use Rattle.ua_server.proofs.log.ErrorLog.log_call.Goals as goal

pub returns : goal.returns
returns g c =
    let at = c.now-at.result in
    let fits : FitsSigned w64 at = omega (arith, ints, c.now-at.type_inv) in
    let event = (call_text c.args.address.now (call_reason c.args.outcome) (moved_of c.args.moved))
    in
    timed g.E.Write.contents g.C.Clock.gave event c.args.self.now c.tell_line.new.self
    c.now-at.new.self c.tell_line.new.self.errors at c.now-at.ensures c.tell_line.ensures.same
    (c.tell_line.ensures.told event at (rw (to_z-of_z w64 at fits) at c.called_line-line.ensures))
