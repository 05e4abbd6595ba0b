use Rattle.std.proofs.Common.{ℕ, ◌-◌, ◌+◌, ◌==◌, if◌then◌else◌, sym, subst, arith}
use Rattle.stamp.specs.Limits.{greatest}
use Rattle.peer_check.proofs.Raising.{IsRaisedBelow, none_raised, next_raised, all_raised}
use Rattle.peer_check.proofs.comparing.numbers_before.Goals as goal
use Rattle.peer_check.proofs.comparing.numbers_before.Goals.{in-Some, in_default}

pub loop-n-init : goal.loop-n-init
loop-n-init c = (
  none_raised (λ replica. if replica == c.args.origin then c.args.number - 1 else greatest)
      c.new-numbers.result c.new-numbers.ensures.none,
  omega arith,
)

pub loop-n-preserved : goal.loop-n-preserved
loop-n-preserved c =
    let f : ℕ → ℕ = λ replica. if replica == c.args.origin then c.args.number - 1 else greatest in
    elim c.match-new.branch [
      | in-Some w ↦
          let next = next_raised f c.loop-n.n w.in-Some.replica w.last_before.result
          c.loop-n.numbers w.raise.new.self c.loop-n.invariant.0 c.loop-n.invariant.1
          w.in-Some.ensures.0 w.last_before.ensures w.raise.ensures.raised
          w.raise.ensures.others in (
            subst (λ numbers. IsRaisedBelow (c.loop-n.n + 1) f numbers) (sym w.numbers-is) next,
            omega (arith, c.loop-n.invariant.1),
          )
      | in_default w ↦ absurd (w.in_default.ensures
          (c.loop-n.invariant.1, omega (arith, c.loop-n-test.true)))
    ]

pub returns : goal.returns
returns c =
    all_raised (λ replica. if replica == c.args.origin then c.args.number - 1 else greatest)
    c.loop-n.n c.loop-n.numbers c.loop-n.invariant.0 c.loop-n-test.false
