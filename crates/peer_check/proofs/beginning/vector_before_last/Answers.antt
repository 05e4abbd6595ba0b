use Rattle.std.proofs.Common.{ℕ, ◌+◌, ◌-◌, ◌∙◌, ap, sym, subst, arith}
use Rattle.stamp.specs.Numbers.{number_of}
use Rattle.peer_check.proofs.Raising.{IsRaisedBelow, none_raised, next_raised, all_raised}
use Rattle.peer_check.proofs.beginning.vector_before_last.Goals as goal
use Rattle.peer_check.proofs.beginning.vector_before_last.Goals.{in-Some, in_default}

pub loop-n-init : goal.loop-n-init
loop-n-init c = (
  none_raised (λ replica. number_of c.args.held.now replica - 1) c.new-numbers.result
      c.new-numbers.ensures.none,
  omega arith,
)

pub loop-n-preserved : goal.loop-n-preserved
loop-n-preserved c =
    let f : ℕ → ℕ = λ replica. number_of c.args.held.now replica - 1 in
    elim c.match-new.branch [
      | in-Some w ↦
          let next = next_raised f c.loop-n.n w.in-Some.replica w.number_before.result
          c.loop-n.numbers w.raise.new.self c.loop-n.invariant.0 c.loop-n.invariant.1
          w.in-Some.ensures.0 (w.number_before.ensures.is ∙ ap (λ (x : ℕ). x - 1) w.get.ensures.number)
          w.raise.ensures.raised w.raise.ensures.others in (
            subst (λ numbers. IsRaisedBelow (c.loop-n.n + 1) f numbers) (sym w.numbers-is) next,
            omega (arith, c.loop-n.invariant.1),
          )
      | in_default w ↦ absurd (w.in_default.ensures
          (c.loop-n.invariant.1, omega (arith, c.loop-n-test.true)))
    ]

pub returns : goal.returns
returns c =
    all_raised (λ replica. number_of c.args.held.now replica - 1) c.loop-n.n c.loop-n.numbers
    c.loop-n.invariant.0 c.loop-n-test.false
