use Rattle.std.proofs.Common.{◌≡◌, ◌∙◌, ℕ, List, false, sym, ap, subst, arith, w64}
use Rattle.std.specs.Prelude.{IfOk}
use Rattle.std.specs.Int.RustNames.{FitsSigned}
use Rattle.std.proofs.lemmas.Int.{ints, to_z-of_z}
use Rattle.event_lines.specs.Lines.{IsEventLine, connected_text}
use Rattle.conversation.specs.Doors.{door_of_listener}
use Rattle.ua_server.specs.Logging.{LogsCounted, is_second_full, door_text}
use Rattle.ua_server.proofs.Logged.{told-counted}
use Rattle.ua_server.proofs.log.ErrorLog.log_connected.Goals as goal

pub returns : goal.returns
returns g c =
    let at = c.now-at.result in
    let fits : FitsSigned w64 at = omega (arith, ints, c.now-at.type_inv) in
    let same = to_z-of_z w64 at fits in
    let origin = c.args.origin in
    let P : List ℕ → Type 0 = λ door. IfOk c.connected_line-line.result (λ line.
    IsEventLine at (connected_text origin.address door) line.items) in
    let made = subst P (c.door_text-door.ensures ∙ ap door_text c.of_listener.ensures)
    (rw same at c.connected_line-line.ensures) in
    let contents = g.E.Write.contents in
    let event = connected_text origin.address (door_text (door_of_listener origin.listener)) in
    let spent : is_second_full c.args.self.now.recent at ≡ false =
    sym (rw same at c.leaves_out.ensures.told) ∙ c.if-leaves_out.false in
    told-counted contents g.C.Clock.gave event c.args.self.now c.tell_counted.new.self
    c.now-at.new.self
    at c.now-at.ensures spent
    (subst (λ s. LogsCounted contents event at s c.tell_counted.new.self)
    (c.leaves_out.ensures.same c.if-leaves_out.false)
    ((rw same at c.tell_counted.ensures) event made))
