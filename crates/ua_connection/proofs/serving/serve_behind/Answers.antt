use Rattle.std.proofs.Common.{List, ℕ, ℤ, subst, sym}
use Rattle.ua_connection.specs.Environments.{before}
use Rattle.ua_connection.specs.Serving.{ServesPromptly}
use Rattle.ua_connection.proofs.Outsides.{empty_environment}
use Rattle.ua_connection.proofs.Flow.{fed-short}
use Rattle.ua_connection.proofs.Whole.{serves-unfed}
use Rattle.ua_connection.proofs.serving.serve_behind.Goals as goal

pub returns-in-Err-clause-serves : goal.returns-in-Err-clause-serves
returns-in-Err-clause-serves g c =
    let sends = c.send_starved.ensures.sends in
    let end = serves-unfed c.args.server.now.settings
    (g.A.Archive.state c.args.server.now.replica.archive) c.args.first.now sends.0
    c.send_starved.result c.requires.some sends.2 in
    let P : List ℤ → Type 0 = λ r. g.C.Clock.gave c.args.clock.now r c.args.clock.now in (
      before empty_environment end.0,
      subst P (sym end.1) (g.met.C.Clock.gave_none c.args.clock.now),
      sends.0,
      sends.1,
      end.2,
    )

pub returns-clause-serves : goal.returns-clause-serves
returns-clause-serves g c =
    let s = c.serve_on.ensures.serves in
    let state = g.A.Archive.state in
    let fed = fed-short c.new-connection.result c.feed.new.self c.args.first.now
    c.new-connection.ensures c.in-Ok.ensures.ok c.requires.few in (
      s.0,
      s.1,
      s.2,
      s.3,
      subst (λ (l : List ℕ).
          ServesPromptly c.args.server.now.settings (state c.args.server.now.replica.archive)
          (state c.serve_on.new.server.replica.archive) l s.2 s.0 c.serve_on.result) fed.1 s.4,
    )

pub serve_on-requires-clause-short : goal.serve_on-requires-clause-short
serve_on-requires-clause-short g c =
    (fed-short c.new-connection.result c.feed.new.self c.args.first.now c.new-connection.ensures
    c.in-Ok.ensures.ok c.requires.few).2
