use Rattle.uacp.specs.Greeting.{hello_at}
use Rattle.ua_connection.specs.Turns.{client_after}
use Rattle.ua_connection.proofs.Steps.{greet-refused, greet-ungranted, greet-granted}
use Rattle.ua_connection.proofs.greeting.greet.Goals as goal

pub returns-in-Err-clause-answered : goal.returns-in-Err-clause-answered
returns-in-Err-clause-answered c client =
    greet-refused (hello_at c.args.body.now) c.in-Err.fault c.code.result client
    (client_after client c.refuse.result c.args.channel.now client.sessions)
    c.args.out.now.items c.refuse.new.out.items c.refuse.result
    c.in-Err.ensures c.code.ensures c.refuse.ensures.refuses

pub returns-in-Ok-answer_hello-clause-answered : goal.returns-in-Ok-answer_hello-clause-answered
returns-in-Ok-answer_hello-clause-answered c client =
    greet-granted (hello_at c.args.body.now) c.in-Ok.hello c.in-Ok-answer_hello.ack client
    (client_after client c.acknowledge.result c.acknowledge.new.channel client.sessions)
    c.args.out.now.items c.acknowledge.new.out.items c.acknowledge.result
    c.in-Ok.ensures c.in-Ok-answer_hello.ensures (c.acknowledge.ensures.answered client)

pub returns-in-Err-answer_hello-clause-answered : goal.returns-in-Err-answer_hello-clause-answered
returns-in-Err-answer_hello-clause-answered c client =
    greet-ungranted (hello_at c.args.body.now) c.in-Ok.hello c.in-Err-answer_hello.fault
    c.code-in-Err-answer_hello.result client
    (client_after client c.refuse-in-Err-answer_hello.result c.args.channel.now client.sessions)
    c.args.out.now.items
    c.refuse-in-Err-answer_hello.new.out.items c.refuse-in-Err-answer_hello.result c.in-Ok.ensures
    c.in-Err-answer_hello.ensures c.code-in-Err-answer_hello.ensures
    c.refuse-in-Err-answer_hello.ensures.refuses
