use Rattle.std.proofs.Common.{Some, ap, arith, refl}
use Rattle.ua_server.proofs.TellingParts.{denied}
use Rattle.ua_server.proofs.Logged.{table-logged}
use Rattle.ua_server.proofs.log.ErrorLog.log_clash.Goals as goal

pub returns-then-callee-lt-MOST_CALLED : goal.returns-then-callee-lt-MOST_CALLED
returns-then-callee-lt-MOST_CALLED g c =
    table-logged g.E.Write.contents c.args.self.now _ c.args.callee c.args.clash.now
    (Some c.clash_name.result) (ap Some c.clash_name.ensures)
    (denied c.is_clash_told.result _ c.is_clash_told.ensures c.if-is_clash_told.false) refl
    (λ h. refl, λ h. absurd (omega (arith, c.if-callee-lt-MOST_CALLED.true, h)))
    c.print_clash.ensures

pub returns-else-callee-lt-MOST_CALLED : goal.returns-else-callee-lt-MOST_CALLED
returns-else-callee-lt-MOST_CALLED g c =
    table-logged g.E.Write.contents c.args.self.now _ c.args.callee c.args.clash.now
    (Some c.clash_name.result) (ap Some c.clash_name.ensures)
    (denied c.is_clash_told.result _ c.is_clash_told.ensures c.if-is_clash_told.false) refl
    (λ h. absurd (omega (arith, c.if-callee-lt-MOST_CALLED.false, h)), λ h. refl)
    c.print_clash.ensures
