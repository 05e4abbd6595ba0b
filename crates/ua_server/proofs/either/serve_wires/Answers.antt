use Rattle.std.proofs.Common.{rules}
use Rattle.ua_server.proofs.either.serve_wires.Goals as goal

pub returns-clause-serves : goal.returns-clause-serves
returns-clause-serves g c =
    let s = c.serve.ensures.serves in
    let passes = s.3.2 in (s.0, s.1, s.2, search rules, s.4)
