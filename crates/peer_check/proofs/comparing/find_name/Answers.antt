use Rattle.std.proofs.Common.{arith}
use Rattle.stamp.specs.Numbers.{number_of}
use Rattle.archive.proofs.Calls.{in_use}
use Rattle.peer_check.proofs.Names.{finds_name}
use Rattle.peer_check.proofs.comparing.find_name.Goals as goal

pub returns-clause-asks : goal.returns-clause-asks
returns-clause-asks g c =
    let a = g.A.Archive.state c.args.archive.now in
    let b = g.A.Archive.state c.since.new.self in
    let asks = c.in_ok-found.ensures.asks in
    let rest = c.pop.new.self in
    record {
      answer = λ h. finds_name a.content
          (asks.leaves.before (asks.leaves.passes.honest h) (in_use a b asks.leaves)).lawful
          c.args.origin c.args.number (number_of c.numbers_before.result) c.numbers_before.ensures
          c.requires.least c.in_ok-found.found.items rest.items c.pop.result (asks.answer h)
          c.pop.ensures.items
          (omega (arith, c.pop.ensures.len, rest.ok, c.in_ok-found.found.ok))
          (λ none. let k = rw none at c.pop.ensures.cases in omega (arith, k.0, c.in_ok-found.found.ok));
      stays = asks.stays;
      leaves = asks.leaves;
    }
