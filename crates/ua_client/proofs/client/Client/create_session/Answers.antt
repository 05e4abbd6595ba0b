use Rattle.ua_client.proofs.Parts.{part-so, sent-so}
use Rattle.ua_client.proofs.client.Client.create_session.Goals as goal

pub returns-in_err-told-clause-part : goal.returns-in_err-told-clause-part
returns-in_err-told-clause-part g c =
    let contents = g.W.Write.contents in
    part-so c.from_residual-in_err-told.result (contents c.args.line.now.writer.inner)
    (contents c.request.new.line.writer.inner) c.args.self.now c.in_ok-body.body.items
    c.as_slice.result.now _ c.as_slice.ensures.value c.in_ok-body.ensures
    c.in_err-told.ensures.part

pub returns-in_err-self-inside-clause-part : goal.returns-in_err-self-inside-clause-part
returns-in_err-self-inside-clause-part g c =
    let contents = g.W.Write.contents in
    sent-so c.from_residual-in_err-self-inside.result (contents c.args.line.now.writer.inner)
    (contents c.request.new.line.writer.inner) c.args.self.now c.in_ok-body.body.items
    c.as_slice.result.now _ c.as_slice.ensures.value c.in_ok-body.ensures
    c.in_ok-told.ensures.responds.asks.sends
