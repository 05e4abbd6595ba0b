use Rattle.std.proofs.Common.{◌≡◌, ◌∙◌, ◌++◌, ◌-◌, ℕ, List, ap, subst}
use Rattle.std.specs.Prelude.{Option, IfOk}
use Rattle.std.specs.Int.{w64}
use Rattle.std.specs.declared.net.socket_addr.SocketAddr.{SocketAddr}
use Rattle.std.proofs.lemmas.Int.{to_z-of_z}
use Rattle.event_lines.specs.Lines.{IsEventLine, end_text}
use Rattle.event_lines.specs.declared.lines.Moved.{Moved}
use Rattle.ua_server.specs.Logging.{end_reason, moved_if}
use Rattle.ua_server.proofs.events.parting_line.Goals as goal

pub returns : goal.returns
returns c =
    let parting = c.args.parting in
    let P : Option SocketAddr → ℕ → List ℕ → Option Moved → Type 0 = λ from lasted reason moved.
    IfOk c.end_line.result (λ line. IsEventLine c.args.at
    (end_text from lasted parting.stay.answered reason moved) line.items) in
    let reason : c.as_slice.result.now ≡ end_reason parting.ending =
    c.as_slice.ensures.value ∙ c.in_ok-put_end_reason.ensures
    ∙ ap (λ (l : List ℕ). l ++ end_reason parting.ending) c.new-reason.ensures.items in
    let first : P c.address_of.result c.saturating_sub.result c.as_slice.result.now c.moved_if.result =
    rw (to_z-of_z w64 c.args.at c.ranges.at) at c.end_line.ensures in
    let lasted = parting.at - parting.stay.began in
    subst (λ from. P from lasted (end_reason parting.ending) (moved_if parting.moved))
    c.address_of.ensures
    (subst (λ n. P c.address_of.result n (end_reason parting.ending) (moved_if parting.moved))
    c.saturating_sub.ensures
    (subst (λ r. P c.address_of.result c.saturating_sub.result r (moved_if parting.moved)) reason
    (subst (λ m. P c.address_of.result c.saturating_sub.result c.as_slice.result.now m)
    c.moved_if.ensures first)))
