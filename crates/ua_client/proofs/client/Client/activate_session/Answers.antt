use Rattle.ua_client.proofs.Parts.{sent-so}
use Rattle.ua_client.proofs.client.Client.activate_session.Goals as goal

pub returns-clause-part : goal.returns-clause-part
returns-clause-part g c =
    let contents = g.W.Write.contents in
    sent-so c.only_activated.result (contents c.args.line.now.writer.inner)
    (contents c.request.new.line.writer.inner) c.args.self.now c.in_ok-body.body.items
    c.as_slice.result.now _ c.as_slice.ensures.value c.in_ok-body.ensures
    c.in_ok-told.ensures.responds.asks.sends
