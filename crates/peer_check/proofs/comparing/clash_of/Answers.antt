use Rattle.std.proofs.Common.{◌∙◌, sym}
use Rattle.std.proofs.lemmas.Bool.{true≢false}
use Rattle.archive.proofs.Calls.{in_use}
use Rattle.peer_check.proofs.Names.{agrees_held, clashes}
use Rattle.peer_check.proofs.comparing.clash_of.Goals as goal

pub returns-then-are_equal-clause-asks : goal.returns-then-are_equal-clause-asks
returns-then-are_equal-clause-asks g c =
    let a = g.A.Archive.state c.args.archive.now in
    let b = g.A.Archive.state c.find_name.new.archive in
    let asks = c.in_ok-held.ensures.asks in
    record {
      answer = λ h. agrees_held a.content c.args.brought.now c.in-Some.held
          (asks.leaves.before (asks.leaves.passes.honest h) (in_use a b asks.leaves)).lawful
          (rw c.in-Some.is at (asks.answer h)) (c.are_equal.ensures.0 c.if-are_equal.true);
      stays = asks.stays;
      leaves = asks.leaves;
    }

pub returns-clause-asks : goal.returns-clause-asks
returns-clause-asks g c =
    let a = g.A.Archive.state c.args.archive.now in
    let asks = c.in_ok-held.ensures.asks in
    record {
      answer = λ h. clashes a.content c.args.brought.now c.in-Some.held c.in_ok-brought.brought
          (rw c.in-Some.is at (asks.answer h))
          (λ e. true≢false (sym (c.are_equal.ensures.1 e) ∙ c.if-are_equal.false)) c.in_ok-brought.ensures;
      stays = asks.stays;
      leaves = asks.leaves;
    }
