use Rattle.std.proofs.Common.{◌≡◌, ◌∙◌, false, sym, subst, arith, w64}
use Rattle.std.specs.Prelude.{Option, IfOk}
use Rattle.std.specs.Int.RustNames.{FitsSigned}
use Rattle.std.proofs.lemmas.Int.{ints, to_z-of_z}
use Rattle.std.specs.declared.net.socket_addr.SocketAddr.{SocketAddr}
use Rattle.event_lines.specs.Lines.{IsEventLine, denial_text}
use Rattle.ua_server.specs.Logging.{LogsCounted, is_second_full, address_of}
use Rattle.ua_server.proofs.Logged.{told-counted}
use Rattle.ua_server.proofs.log.ErrorLog.log_denied.Goals as goal

pub returns : goal.returns
returns g c =
    let at = c.now-at.result in
    let fits : FitsSigned w64 at = omega (arith, ints, c.now-at.type_inv) in
    let same = to_z-of_z w64 at fits in
    let P : Option SocketAddr → Type 0 = λ from. IfOk c.denial_line-line.result (λ line.
    IsEventLine at (denial_text from) line.items) in
    let made = subst P c.address_of.ensures
    (rw same at c.denial_line-line.ensures) in
    let contents = g.E.Write.contents in
    let event = denial_text (address_of c.args.stay) in
    let spent : is_second_full c.args.self.now.recent at ≡ false =
    sym (rw same at c.leaves_out.ensures.told) ∙ c.if-leaves_out.false in
    told-counted contents g.C.Clock.gave event c.args.self.now c.tell_counted.new.self
    c.now-at.new.self
    at c.now-at.ensures spent
    (subst (λ s. LogsCounted contents event at s c.tell_counted.new.self)
    (c.leaves_out.ensures.same c.if-leaves_out.false)
    ((rw same at c.tell_counted.ensures) event made))
