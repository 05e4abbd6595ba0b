use Rattle.std.proofs.Common.{position, sym, ap, ◌∙◌}
use Rattle.ua_binary.specs.Binary.{node_of}
use Rattle.ua_session.specs.Sessions.{is_named}
use Rattle.ua_session.proofs.Calls.{closes-one}
use Rattle.ua_session.proofs.sessions.Sessions.close.Goals as goal

pub returns : goal.returns
returns c =
    let token = node_of c.args.token in
    let at = ap (position (is_named token)) (sym c.deref.ensures.value) ∙ sym c.place_of.ensures
    ∙ c.in-Some.is in
    rw (← c.self.view_is) (closes-one _ token c.in-Some.place _ at c.remove.ensures.items)
