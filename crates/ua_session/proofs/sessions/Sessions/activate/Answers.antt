use Rattle.std.proofs.Common.{position, sym, ap, ◌∙◌}
use Rattle.ua_binary.specs.Binary.{node_of}
use Rattle.ua_session.specs.Sessions.{is_named}
use Rattle.ua_session.proofs.Calls.{activates-one}
use Rattle.ua_session.proofs.sessions.Sessions.activate.Goals as goal

pub returns-clause-activates : goal.returns-clause-activates
returns-clause-activates c =
    let token = node_of c.args.token in
    let at = ap (position (is_named token)) (sym c.deref.ensures.value) ∙ sym c.place_of.ensures
    ∙ c.in-Some.is in
    rw (← c.self.view_is) (activates-one _ token c.args.users.now _ c.in-Some.place _ _ _ at
    c.in_ok-user.ensures.judged c.index_mut.ensures.value c.in_ok-name.ensures)
