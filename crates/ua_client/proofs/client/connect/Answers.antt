use Rattle.ua_client.specs.Asking.{greeting, opening}
use Rattle.ua_client.specs.Talking.{flow_of, hello_asked}
use Rattle.ua_client.proofs.Connecting.{connects-so}
use Rattle.ua_client.proofs.Parts.{on-err, part-first, part-then}
use Rattle.ua_client.proofs.client.connect.Goals as goal

pub returns-clause-connects : goal.returns-clause-connects
returns-clause-connects g c =
    let R = g.R.Read.remaining in
    let W = g.W.Write.contents in
    connects-so (flow_of R W c.args.line.now) (flow_of R W c.greet.new.line)
    (flow_of R W c.open_channel.new.line) c.args.lifetime c.in_ok-ack.ack c.in_ok-opened.opened
    c.in_ok-ack.ensures.sent c.in_ok-opened.ensures.sent c.in_ok-ack.ensures.came
    c.in_ok-opened.ensures.came

pub returns-in_err-ack-clause-part : goal.returns-in_err-ack-clause-part
returns-in_err-ack-clause-part g c =
    let contents = g.W.Write.contents in
    on-err c.from_residual.result
    (part-first (contents c.args.line.now.writer.inner) (contents c.greet.new.line.writer.inner)
    (greeting hello_asked) (opening 1 1 c.args.lifetime) c.in_err-ack.ensures.part)

pub returns-in_err-opened-clause-part : goal.returns-in_err-opened-clause-part
returns-in_err-opened-clause-part g c =
    let contents = g.W.Write.contents in
    on-err c.from_residual-in_err-opened.result
    (part-then (contents c.args.line.now.writer.inner) (contents c.greet.new.line.writer.inner)
    (contents c.open_channel.new.line.writer.inner) (greeting hello_asked)
    (opening 1 1 c.args.lifetime) c.in_ok-ack.ensures.sent c.in_err-opened.ensures.part)
