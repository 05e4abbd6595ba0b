use Rattle.std.proofs.Common.{◌≡◌, ◌∙◌, ℕ, sym, subst}
use Rattle.std.specs.Prelude.{Option, IfOk}
use Rattle.conversation.specs.Logins.{no_refusals}
use Rattle.ua_server.specs.Network.{refusals_kept}
use Rattle.ua_server.proofs.connections.logins_of.Goals as goal

pub returns-in-Some : goal.returns-in-Some
returns-in-Some c =
    subst (λ (limit : Option ℕ). IfOk c.new.result (λ l. l ≡ no_refusals (refusals_kept limit)))
    (sym c.in-Some.is ∙ c.logins.ensures) c.new.ensures
