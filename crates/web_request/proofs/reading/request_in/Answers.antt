use Rattle.std.proofs.Common.{inl, refl, subst}
use Rattle.http1.specs.Server.{ServerRefuses}
use Rattle.web_request.proofs.reading.request_in.Goals as goal

-- a server that waits for a head tells why none begins these bytes
pub returns-in-Err-clause-reads : goal.returns-in-Err-clause-reads
returns-in-Err-clause-reads c =
    let told = subst (λ s. ServerRefuses s c.args.came.now 64 c.in-Err.error)
    c.new-server.ensures c.in-Err.ensures.err in
    inl ((told.0, c.in-Err.error, told.1, c.refused_by.ensures), refl)
