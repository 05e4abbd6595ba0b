use Rattle.std.proofs.Common.{◌≡◌, ◌∙◌, Ok, Err, ap, refl}
use Rattle.ua_connection.specs.declared.turn.Step.{Step}
use Rattle.ua_connection.specs.declared.turn.Step.TheVariants.{Ended}
use Rattle.ua_connection.specs.Turns.{ending_of, link_of}
use Rattle.ua_connection.proofs.Turning.{ends-other}
use Rattle.ua_connection.proofs.connection.Connection.advance.Goals as goal

pub returns-in-Ok-Ended-clause-turned : goal.returns-in-Ok-Ended-clause-turned
returns-in-Ok-Ended-clause-turned g c =
    let t = c.take_next-turn.ensures.turned in
    let old = c.self.inside in
    let ends_so : c.in-Ok-Ended.field-0 ≡ Ended c.in-Ok-Ended.field-0-0 =
    rw c.in-Ok-Ended.is at c.in-Ok-Ended.field-0-is in
    let is : ending_of c.take_next-turn.result ≡ ending_of (Ok (Ended c.in-Ok-Ended.field-0-0)) =
    ap ending_of c.in-Ok-Ended.is ∙ ap (λ (turn : Step). ending_of (Ok turn)) ends_so in
    let start = link_of old.intake old.client.taken old.client.channel old.client.sessions in (
      t.0,
      t.1,
      ends-other c.args.server.now.settings _ _ start _ _ _ t.0 _ _ c.take_next-turn.result
          (Ok c.in-Ok-Ended.field-0-0) c.self.view_is is refl t.2,
    )

pub returns-in-Err-clause-turned : goal.returns-in-Err-clause-turned
returns-in-Err-clause-turned g c =
    let t = c.take_next-turn.ensures.turned in
    let old = c.self.inside in
    let start = link_of old.intake old.client.taken old.client.channel old.client.sessions in (
      t.0,
      t.1,
      ends-other c.args.server.now.settings _ _ start _ _ _ t.0 _ _ c.take_next-turn.result
          (Err c.in-Err.field-0) c.self.view_is (ap ending_of c.in-Err.is) refl t.2,
    )
