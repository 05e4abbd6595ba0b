use Rattle.std.proofs.Common.{true, arith, w64}
use Rattle.std.specs.Int.RustNames.{FitsSigned}
use Rattle.std.proofs.lemmas.Int.{ints, to_z-of_z}
use Rattle.event_lines.specs.Lines.{broken_text}
use Rattle.ua_server.proofs.Logged.{timed}
use Rattle.ua_server.proofs.log.ErrorLog.log_break.Goals as goal

pub returns : goal.returns
returns g c =
    let at = c.now-at.result in
    let fits : FitsSigned w64 at = omega (arith, ints, c.now-at.type_inv) in
    timed g.E.Write.contents g.C.Clock.gave broken_text
    (record c.args.self.now { is_break_told = true }) c.tell_line.new.self
    c.now-at.new.self c.tell_line.new.self.errors at c.now-at.ensures c.tell_line.ensures.same
    (c.tell_line.ensures.told broken_text at (rw
    (to_z-of_z w64 at fits) at c.broken_line-line.ensures))
