use Rattle.ua_client.specs.Talking.{message_of}
use Rattle.ua_client.proofs.Parts.{part-sent}
use Rattle.ua_client.proofs.client.Client.request.Goals as goal

pub returns-clause-part : goal.returns-clause-part
returns-clause-part g c =
    let contents = g.W.Write.contents in
    part-sent c.told_in.result (contents c.args.line.now.writer.inner)
    (contents c.ask.new.line.writer.inner) (message_of c.args.self.now c.args.body.now)
    c.in_ok-message.ensures.asks.sends
