use Rattle.std.specs.Prelude.{Some, nat_lt}
use Rattle.std.proofs.Common.{◌≡◌, ◌+◌, [], refl, sym, ap, ◌∙◌, ℕ, arith, subst, inl, inr, length}
use Rattle.std.proofs.lemmas.Bool.Decides.{eqb_tells}
use Rattle.std.proofs.lemmas.Option.{slice_get_within}
use Rattle.multiplex.specs.Slots.{IsAtRestAt, has_room}
use Rattle.multiplex.specs.Rounds.{AreTurnOf, AreTurnsOf}
use Rattle.multiplex.specs.Turns.{state}
use Rattle.multiplex.proofs.Places.{rests-kept, all-changed, part-of-all, all-fit, countable-changed}
use Rattle.multiplex.proofs.Rounding.{no_turns, next_turn}
use Rattle.multiplex.proofs.Turning.{more}
use Rattle.multiplex.proofs.turns.serve_round.Goals as goal

pub loop-place-init : goal.loop-place-init
loop-place-init g c = record {
  turns = ([], refl, no_turns);
  places = refl;
  sum = c.all_waiting-waiting.ensures.sum;
  each = c.all_waiting-waiting.ensures.each;
  rest = λ quiet k below. absurd (omega (arith, below));
}

pub loop-place-preserved : goal.loop-place-preserved
loop-place-preserved g c = record {
  turns =
      let place = c.loop-place.place in
      more g.S.Source.effects g.S.Reader.NonBlockingRead.input g.S.Writer.NonBlockingWrite.output
      g.H.Handler.behavior c.args.round.limits (AreTurnsOf place c.loop-place.busy)
      (AreTurnOf place c.turn_at-here.result) (AreTurnsOf (place + 1) c.either-busy.result)
      (state c.args.source.now c.args.slots.now c.args.world.now c.args.round.now)
      (state c.loop-place.source c.loop-place.slots c.loop-place.world c.args.round.now)
      (state c.turn_at-here.new.source c.turn_at-here.new.slots c.turn_at-here.new.world
      c.args.round.now)
      (λ turns others. next_turn place c.loop-place.busy c.turn_at-here.result c.either-busy.result
      turns others c.either-busy.ensures.some)
      c.loop-place.invariant.turns c.turn_at-here.ensures.turns;
  places = c.turn_at-here.ensures.length ∙ c.loop-place.invariant.places;
  sum =
      let sums = all-changed c.loop-place.slots c.turn_at-here.new.slots c.loop-place.place
      c.waiting_at-before.result c.waiting_at.result
      (omega (arith, c.loop-place-test.true, c.loop-place.invariant.places))
      c.turn_at-here.ensures.length c.turn_at-here.ensures.others c.waiting_at-before.ensures.waits
      c.waiting_at.ensures.waits in
      let part = part-of-all c.loop-place.slots c.loop-place.place c.waiting_at-before.result
      (omega (arith, c.loop-place-test.true, c.loop-place.invariant.places))
      c.waiting_at-before.ensures.waits in
      omega (arith, sums, part, c.loop-place.invariant.sum);
  each = countable-changed c.loop-place.slots c.turn_at-here.new.slots c.loop-place.place
      c.waiting_at.result c.loop-place.invariant.each c.turn_at-here.ensures.others
      c.waiting_at.ensures.waits c.waiting_at.ensures.fits;
  rest = λ quiet k below.
      let both = c.either-busy.ensures.none quiet in
      let most = c.args.round.limits.waiting_bytes in
      elim (eqb_tells k c.loop-place.place) [
        | inl same ↦
            subst (λ i. IsAtRestAt g.H.Handler.behavior (has_room most c.turn_at-here.new.slots)
            c.turn_at-here.new.slots i)
            (sym same.1) (c.turn_at-here.ensures.rest both.1)
        | inr other ↦
            rests-kept g.H.Handler.behavior (has_room most c.loop-place.slots)
            (has_room most c.turn_at-here.new.slots)
            c.loop-place.slots c.turn_at-here.new.slots k (c.turn_at-here.ensures.others k other.1)
            (sym (ap (λ (n : ℕ). nat_lt n most) (c.turn_at-here.ensures.same both.1)))
            (c.loop-place.invariant.rest both.0 k (omega (arith, below, other.1)))
      ];
}

pub returns-clause-turns : goal.returns-clause-turns
returns-clause-turns g c =
    let all : c.loop-place.place ≡ length c.args.slots.now = omega (
      arith,
      c.loop-place-test.false,
      c.loop-place.auto.place-end,
    ) in
    let (turns, are, each) = c.loop-place.invariant.turns in
    (turns, are, subst (λ n. AreTurnsOf n c.loop-place.busy turns) all each)

pub returns-clause-rest : goal.returns-clause-rest
returns-clause-rest g c quiet k slot got =
    let within = slice_get_within c.loop-place.slots k (Some slot) got in
    c.loop-place.invariant.rest quiet k (omega (
      arith,
      within,
      c.loop-place.auto.slots,
      c.loop-place-test.false,
    )) slot got

pub turn_at-here-requires-clause-judged : goal.turn_at-here-requires-clause-judged
turn_at-here-requires-clause-judged g c =
    ap (λ (n : ℕ). nat_lt n c.args.round.limits.waiting_bytes) c.loop-place.invariant.sum

pub overflow_sub-waiting : goal.overflow_sub-waiting
overflow_sub-waiting g c =
    let part = part-of-all c.loop-place.slots c.loop-place.place c.waiting_at-before.result
    (omega (arith, c.loop-place-test.true, c.loop-place.invariant.places))
    c.waiting_at-before.ensures.waits in
    omega (arith, part, c.loop-place.invariant.sum)

pub overflow_add-waiting : goal.overflow_add-waiting
overflow_add-waiting g c =
    let sums = all-changed c.loop-place.slots c.turn_at-here.new.slots c.loop-place.place
    c.waiting_at-before.result c.waiting_at.result
    (omega (arith, c.loop-place-test.true, c.loop-place.invariant.places))
    c.turn_at-here.ensures.length c.turn_at-here.ensures.others c.waiting_at-before.ensures.waits
    c.waiting_at.ensures.waits in
    let part = part-of-all c.loop-place.slots c.loop-place.place c.waiting_at-before.result
    (omega (arith, c.loop-place-test.true, c.loop-place.invariant.places))
    c.waiting_at-before.ensures.waits in
    let fits = all-fit c.turn_at-here.new.slots (countable-changed c.loop-place.slots
    c.turn_at-here.new.slots c.loop-place.place c.waiting_at.result c.loop-place.invariant.each
    c.turn_at-here.ensures.others c.waiting_at.ensures.waits c.waiting_at.ensures.fits) in
    omega (arith, sums, part, fits, c.loop-place.invariant.sum)
