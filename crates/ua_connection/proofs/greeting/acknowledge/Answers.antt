use Rattle.std.proofs.Common.{refl, subst, List, ℕ}
use Rattle.ua_binary.specs.declared.codes.TheConstants.Status.{BAD_OUT_OF_MEMORY}
use Rattle.ua_connection.specs.Turns.{RefusesTurn}
use Rattle.ua_connection.proofs.Steps.{at, acknowledges, here-memory}
use Rattle.ua_connection.specs.Turns.{client_after}
use Rattle.ua_connection.specs.Client.{ClientState, goes}
use Rattle.ua_channel.specs.Taking.{new_channel}
use Rattle.uacp.specs.Greeting.{acknowledge}
use Rattle.std.proofs.Common.{Some}
use Rattle.archive.specs.Steps.{give}
use Rattle.ua_connection.proofs.greeting.acknowledge.Goals as goal

pub returns-in-Ok-clause-answered : goal.returns-in-Ok-clause-answered
returns-in-Ok-clause-answered c client =
    acknowledges c.args.hello.now c.args.ack.now client c.new.result c.args.out.now.items
    c.put_ack.new.out.items c.in-Ok.ensures c.new.ensures

pub returns-in-Err-clause-answered : goal.returns-in-Err-clause-answered
returns-in-Err-clause-answered c client =
    let P : List ℕ → Type 0 = λ front.
    RefusesTurn BAD_OUT_OF_MEMORY c.refuse.result front c.refuse.new.out.items in
    here-memory (λ R.
    give (goes (let standing : ClientState = at client R in
    record standing { client = record standing.client { limit = c.args.ack.now.receive_size } })
    (acknowledge.canon c.args.ack.now) (Some (new_channel c.args.hello.now c.args.ack.now))))
    (at client)
    (client_after client c.refuse.result c.args.channel.now client.sessions) c.args.out.now.items
    c.refuse.new.out.items c.refuse.result (λ R. refl)
    (subst P c.in-Err.ensures.1 c.refuse.ensures.refuses)
