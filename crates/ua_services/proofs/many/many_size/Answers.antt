use Rattle.ua_services.proofs.Fits.{may_fit}
use Rattle.ua_services.proofs.many.many_size.Goals as goal

pub returns-clause-spelled : goal.returns-clause-spelled
returns-clause-spelled g c = λ h. may_fit g.T.Encode.can_put g.T.Encode.view g.T.Encode.format
    c.args.items.now c.array_size.ensures.spelled h.0 h.1
