use Rattle.ua_client.proofs.Parts.{on-err}
use Rattle.ua_client.proofs.client.Client.ask.Goals as goal

pub returns-in_err-next-clause-part : goal.returns-in_err-next-clause-part
returns-in_err-next-clause-part g c =
    rw (← c.self.view_is) (on-err c.from_residual.result c.in_err-next.ensures.part)
