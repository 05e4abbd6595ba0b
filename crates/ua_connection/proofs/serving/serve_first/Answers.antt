use Rattle.std.proofs.Common.{subst}
use Rattle.ua_connection.specs.Turns.{ConnectionState}
use Rattle.ua_connection.specs.Serving.{ServesPromptly}
use Rattle.ua_connection.proofs.Flow.{starts-short}
use Rattle.ua_connection.proofs.serving.serve_first.Goals as goal

pub returns-clause-serves : goal.returns-clause-serves
returns-clause-serves g c =
    let s = c.serve_on.ensures.serves in
    let state = g.A.Archive.state in (
      s.0,
      s.1,
      s.2,
      s.3,
      subst (λ (l : ConnectionState).
          ServesPromptly c.args.server.now.settings (state c.args.server.now.replica.archive)
          (state c.serve_on.new.server.replica.archive) l.waiting s.2 s.0 c.serve_on.result)
          c.new-connection.ensures s.4,
    )

pub serve_on-requires-clause-short : goal.serve_on-requires-clause-short
serve_on-requires-clause-short g c = starts-short c.new-connection.result c.new-connection.ensures
