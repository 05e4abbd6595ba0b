use Rattle.std.proofs.Common.{◌≡◌, ◌∙◌, Bool, true, false, sym, subst, arith, w64}
use Rattle.std.specs.Int.RustNames.{FitsSigned}
use Rattle.std.proofs.lemmas.Int.{ints, to_z-of_z}
use Rattle.ua_server.specs.Logging.{LogsCounted, LogsTimed, LogsLimited, Whether, is_second_full, is_still, parting_text}
use Rattle.ua_server.proofs.Logged.{timed, told-counted}
use Rattle.ua_server.proofs.log.ErrorLog.log_end.Goals as goal

pub returns-then-not-is_still : goal.returns-then-not-is_still
returns-then-not-is_still g c =
    let at = c.now-at.result in
    let fits : FitsSigned w64 at = omega (arith, ints, c.now-at.type_inv) in
    let event = parting_text c.args.parting in
    let contents = g.E.Write.contents in
    let new = c.tell_line.new.self in
    let moves : is_still c.args.parting.moved ≡ false =
    cc (c.is_still.ensures, c.if-not-is_still.true) in
    subst (λ (b : Bool). Whether b (LogsLimited contents g.C.Clock.gave event c.args.self.now new)
    (LogsTimed contents g.C.Clock.gave event c.args.self.now new)) (sym moves)
    (timed contents g.C.Clock.gave event c.args.self.now new c.now-at.new.self new.errors at
    c.now-at.ensures c.tell_line.ensures.same
    (c.tell_line.ensures.told event at (rw (to_z-of_z w64 at fits) at c.parting_line-line.ensures)))

pub returns : goal.returns
returns g c =
    let at = c.now-at.result in
    let fits : FitsSigned w64 at = omega (arith, ints, c.now-at.type_inv) in
    let same = to_z-of_z w64 at fits in
    let contents = g.E.Write.contents in
    let event = parting_text c.args.parting in
    let new = c.tell_counted.new.self in
    let spent : is_second_full c.args.self.now.recent at ≡ false =
    sym (rw same at c.leaves_out.ensures.told) ∙ c.if-leaves_out.false in
    let still : is_still c.args.parting.moved ≡ true =
    cc (c.is_still.ensures, c.if-not-is_still.false) in
    subst (λ (b : Bool). Whether b (LogsLimited contents g.C.Clock.gave event c.args.self.now new)
    (LogsTimed contents g.C.Clock.gave event c.args.self.now new)) (sym still)
    (told-counted contents g.C.Clock.gave event c.args.self.now new c.now-at.new.self
    at c.now-at.ensures spent
    (subst (λ s. LogsCounted contents event at s new)
    (c.leaves_out.ensures.same c.if-leaves_out.false)
    ((rw same at c.tell_counted.ensures) event (rw same at c.parting_line-line-2.ensures))))
