use Rattle.std.proofs.Common.{◌≡◌, ◌∙◌, inl, inr, ap, subst}
use Rattle.ua_session.specs.Users.{Claim}
use Rattle.ua_client.specs.Asking.{claim_in}
use Rattle.ua_client.specs.Talking.{flow_of, Activates, SendsPart, activate_request, message_of}
use Rattle.remote_import.specs.Sessions.{claim_by}
use Rattle.remote_import.proofs.Opening.{on-error}
use Rattle.remote_import.proofs.session.open_session.Goals as goal

pub returns-in_err-create_session-clause-part : goal.returns-in_err-create_session-clause-part
returns-in_err-create_session-clause-part g c =
    let R = g.R.Read.remaining in
    let W = g.W.Write.contents in
    on-error c.from_residual-in_err-create_session.result (inr (
      record { client = c.in_ok-client.client; flow = flow_of R W c.connect.new.line },
      c.in_ok-client.ensures.connects,
      inl c.in_err-create_session.ensures.part,
    ))

pub returns-in_err-activate_session-clause-part : goal.returns-in_err-activate_session-clause-part
returns-in_err-activate_session-clause-part g c =
    let R = g.R.Read.remaining in
    let W = g.W.Write.contents in
    let made = c.create_session.new.self in
    let users = c.args.settings.now.users in
    let user = c.args.asked.now.user.now in
    let claims : claim_in c.in_ok-login.login ≡ claim_by users user =
    c.in_ok-login.ensures.claims ∙ ap (λ u. claim_by u user) c.users.ensures in
    let P : Claim → Type 0 = λ claim.
    SendsPart (flow_of R W c.create_session.new.line) (flow_of R W c.activate_session.new.line)
    (message_of made (activate_request made c.args.asked.now.reading claim)) in
    on-error c.from_residual-in_err-activate_session.result (inr (
      record { client = c.in_ok-client.client; flow = flow_of R W c.connect.new.line },
      c.in_ok-client.ensures.connects,
      inr (
        record { client = made; flow = flow_of R W c.create_session.new.line },
        c.in_ok-create_session.ensures.opens,
        subst P claims c.in_err-activate_session.ensures.part,
      ),
    ))

pub returns-clause-opens : goal.returns-clause-opens
returns-clause-opens g c =
    let R = g.R.Read.remaining in
    let W = g.W.Write.contents in
    let made = c.create_session.new.self in
    let users = c.args.settings.now.users in
    let user = c.args.asked.now.user.now in
    let claims : claim_in c.in_ok-login.login ≡ claim_by users user =
    c.in_ok-login.ensures.claims ∙ ap (λ u. claim_by u user) c.users.ensures in
    let P : Claim → Type 0 = λ claim.
    Activates made c.activate_session.new.self
    (activate_request made c.args.asked.now.reading claim)
    (flow_of R W c.create_session.new.line) (flow_of R W c.activate_session.new.line) in record {
      connected = record { client = c.in_ok-client.client; flow = flow_of R W c.connect.new.line };
      made = record { client = made; flow = flow_of R W c.create_session.new.line };
      connects = c.in_ok-client.ensures.connects;
      creates = c.in_ok-create_session.ensures.opens;
      activates = subst P claims c.in_ok-activate_session.ensures.activates;
    }
