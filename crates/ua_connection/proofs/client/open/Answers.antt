use Rattle.std.proofs.Common.{Some, refl, subst, List, ℕ}
use Rattle.ua_binary.specs.declared.codes.TheConstants.Status.{BAD_OUT_OF_MEMORY}
use Rattle.ua_connection.specs.Turns.{RefusesTurn}
use Rattle.ua_channel.specs.Sending.{opened_chunk, number_after}
use Rattle.archive.specs.Steps.{give}
use Rattle.ua_connection.specs.Client.{goes}
use Rattle.ua_connection.specs.Turns.{client_after}
use Rattle.ua_connection.proofs.Steps.{at, opens, here-memory}
use Rattle.ua_connection.proofs.client.open.Goals as goal

pub returns-in-Ok-clause-answered : goal.returns-in-Ok-clause-answered
returns-in-Ok-clause-answered c client =
    opens c.args.channel.now c.put_opened.new.self c.args.request.now c.args.now client
    c.args.out.now.items c.put_opened.new.out.items c.in-Ok.ensures.0 c.in-Ok.ensures.1

pub returns-in-Err-clause-answered : goal.returns-in-Err-clause-answered
returns-in-Err-clause-answered c client =
    let state = c.args.channel.now in
    let P : List ℕ → Type 0 = λ front.
    RefusesTurn BAD_OUT_OF_MEMORY c.refuse.result front c.refuse.new.out.items in
    here-memory (λ R. give (goes (at client R)
    (opened_chunk state.next c.args.request.now c.args.now)
    (Some (record state { next = number_after state.next 1 })))) (at client)
    (client_after client c.refuse.result (Some c.put_opened.new.self) client.sessions)
    c.args.out.now.items c.refuse.new.out.items c.refuse.result (λ R. refl)
    (subst P c.in-Err.ensures.1 c.refuse.ensures.refuses)
