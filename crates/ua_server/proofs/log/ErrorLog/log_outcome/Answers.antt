use Rattle.std.proofs.Common.{arith, refl}
use Rattle.ua_server.proofs.TellingParts.{call-logged, line-logged, denied}
use Rattle.ua_server.proofs.log.ErrorLog.log_outcome.Goals as goal

pub returns-then-callee-lt-MOST_CALLED : goal.returns-then-callee-lt-MOST_CALLED
returns-then-callee-lt-MOST_CALLED g c =
    let told = c.tell_outcome.ensures in
    call-logged g.E.Write.contents c.args.self.now _ c.args.callee c.args.address.now
    c.args.outcome c.err-fault.result c.err-fault.ensures.value
    (denied c.is_told.result _ c.is_told.ensures c.if-is_told.false) refl
    (λ h. refl, λ h. absurd (omega (arith, c.if-callee-lt-MOST_CALLED.true, h)))
    (line-logged g.E.Write.contents c.args.self.now.errors c.tell_outcome.new.errors
    c.tell_outcome.result _ told.ok told.kept told.part told.write)

pub returns-else-callee-lt-MOST_CALLED : goal.returns-else-callee-lt-MOST_CALLED
returns-else-callee-lt-MOST_CALLED g c =
    let told = c.tell_outcome.ensures in
    call-logged g.E.Write.contents c.args.self.now _ c.args.callee c.args.address.now
    c.args.outcome c.err-fault.result c.err-fault.ensures.value
    (denied c.is_told.result _ c.is_told.ensures c.if-is_told.false) refl
    (λ h. absurd (omega (arith, c.if-callee-lt-MOST_CALLED.false, h)), λ h. refl)
    (line-logged g.E.Write.contents c.args.self.now.errors c.tell_outcome.new.errors
    c.tell_outcome.result _ told.ok told.kept told.part told.write)
