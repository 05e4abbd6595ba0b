use Rattle.std.proofs.Common.{Some, rules}
use Rattle.ua_channel.specs.Taking.{piece_of}
use Rattle.historian.specs.Services.{site_of}
use Rattle.ua_connection.specs.Environments.{before}
use Rattle.ua_connection.specs.Turns.{ending_of, client_after}
use Rattle.ua_connection.proofs.Outsides.{marked}
use Rattle.archive.specs.Store.{Done}
use Rattle.std.proofs.Common.{◌∷◌, []}
use Rattle.ua_connection.proofs.Steps.{unopened, untaken, taken-answered}
use Rattle.ua_connection.proofs.client.ClientChannel.answer_on_channel.Goals as goal

pub returns-in_default-clause-answered : goal.returns-in_default-clause-answered
returns-in_default-clause-answered g c client =
    let a = g.A.Archive.state c.args.server.now.replica.archive in
    let h = unopened a (site_of c.args.server.now.settings a) client
    (client_after client c.refuse.result c.args.self.now.channel c.args.self.now.sessions)
    c.args.self.now.sessions c.args.self.now.channel
    (piece_of c.args.chunk) c.code.result c.args.out.now.items c.refuse.new.out.items
    c.refuse.result
    (search rules) c.code.ensures c.refuse.ensures.refuses in
    (marked h.0, g.met.C.Clock.gave_none c.args.clock.now, h.1)

pub returns-in-Ok-clause-answered : goal.returns-in-Ok-clause-answered
returns-in-Ok-clause-answered g c client =
    let a = g.A.Archive.state c.args.server.now.replica.archive in
    let b = g.A.Archive.state c.answer_item.new.server.replica.archive in
    let h = c.answer_item.ensures.answered client in
    let next = client_after client c.answer_item.result
    (Some c.answer_item.new.channel) c.answer_item.new.sessions in (
      before (marked (Done ∷ [])) h.0,
      h.1,
      taken-answered a b (site_of c.args.server.now.settings a) client next c.args.self.now.sessions
          c.args.self.now.channel c.in-Some.channel c.take.new.self
          (piece_of c.args.chunk) c.in-Ok.taken h.0 c.args.out.now.items c.answer_item.new.out.items
          (ending_of c.answer_item.result)
          c.in-Some.is c.in-Ok.ensures.takes h.2,
    )

pub returns-in-Err-clause-answered : goal.returns-in-Err-clause-answered
returns-in-Err-clause-answered g c client =
    let a = g.A.Archive.state c.args.server.now.replica.archive in
    let next = client_after client c.refuse-in-Err.result
    (Some c.take.new.self) c.args.self.now.sessions in
    let h = untaken a (site_of c.args.server.now.settings a) client next c.args.self.now.sessions
    c.args.self.now.channel c.in-Some.channel c.take.new.self
    (piece_of c.args.chunk) c.in-Err.fault c.code-in-Err.result c.args.out.now.items
    c.refuse-in-Err.new.out.items c.refuse-in-Err.result
    c.in-Some.is c.in-Err.ensures.takes c.code-in-Err.ensures c.refuse-in-Err.ensures.refuses in
    (marked h.0, g.met.C.Clock.gave_none c.args.clock.now, h.1)
