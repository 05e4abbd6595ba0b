use Rattle.std.proofs.Common.{sym, ap, ◌∙◌}
use Rattle.web_connection.specs.Access.{claim_in}
use Rattle.web_connection.proofs.AccessLemmas.{named, unnamed}
use Rattle.web_connection.proofs.access.identity_of.Goals as goal

pub returns-in-Ok : goal.returns-in-Ok
returns-in-Ok c =
    named c.in-Some.given c.as_slice.result.now c.in-Ok.name.now c.as_slice-in-Ok.result.now
    c.as_slice.ensures c.in-Ok.ensures.cases.0 c.as_slice-in-Ok.ensures c.in-Ok.ensures.cases.1
    ∙ ap claim_in (sym c.in-Some.is)

pub returns-in-Err : goal.returns-in-Err
returns-in-Err c =
    unnamed c.in-Some.given c.as_slice.result.now c.as_slice.ensures c.in-Err.ensures.cases.0
    ∙ ap claim_in (sym c.in-Some.is)
