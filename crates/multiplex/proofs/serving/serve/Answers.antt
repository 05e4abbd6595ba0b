use Rattle.std.proofs.Common.{◌≡◌, length, refl, sym, ◌∙◌, subst, arith}
use Rattle.std.proofs.lemmas.Bool.{true≢false}
use Rattle.multiplex.specs.Rounds.{AreTurnsOf}
use Rattle.multiplex.specs.Turns.{state}
use Rattle.multiplex.proofs.Counts.{none_yet, with_more}
use Rattle.multiplex.proofs.Asking.{begun, round_more}
use Rattle.multiplex.proofs.serving.serve.Goals as goal

pub loop-init : goal.loop-init
loop-init g c = record {
  far = λ first. (
    first,
    begun g.S.Source.effects g.S.Reader.NonBlockingRead.input g.S.Writer.NonBlockingWrite.output
        g.H.Handler.behavior c.args.limits
        (state c.args.source.now c.args.slots.now c.args.world.now first),
  );
  rest = λ quiet. absurd (true≢false quiet);
  most = none_yet c.args.limits.connections;
  each = omega arith;
}

pub returns-then-is_done : goal.returns-then-is_done
returns-then-is_done g c first =
    let (last, far) = c.loop.invariant.far first in (
      last,
      record {
        turns = far.turns;
        execution = far.execution;
        rounds = far.rounds;
        asks = far.asks;
        accepts = far.accepts;
        most = c.loop.invariant.most;
        ended = λ done. c.if-is_done.ensures refl;
        stops = λ over. absurd (true≢false (sym over));
        spent = λ undone. absurd (true≢false undone);
      },
    )

pub returns-then-is_over : goal.returns-then-is_over
returns-then-is_over g c first =
    let (last, far) = c.loop.invariant.far first in (
      last,
      record {
        turns = far.turns;
        execution = far.execution;
        rounds = far.rounds;
        asks = far.asks;
        accepts = far.accepts;
        most = c.loop.invariant.most;
        ended = λ done. absurd (true≢false (sym done));
        stops = λ over. sym c.is_over.ensures ∙ c.if-is_over.true;
        spent = λ undone going. absurd (true≢false going);
      },
    )

pub overflow_add-accepted : goal.overflow_add-accepted
overflow_add-accepted g c =
    omega (
      arith,
      c.loop.invariant.each,
      c.loop-test.true,
      c.accept_next-accepted.ensures.one,
      c.rounds-end.type_inv,
    )

pub loop-preserved : goal.loop-preserved
loop-preserved g c = record {
  far = λ first.
      let (last, before) = c.loop.invariant.far first in
      let now = c.wait-now.result in
      let same : length c.call_next.new.slots ≡ length c.args.slots.now = omega (
        arith,
        c.call_next.auto.slots,
        c.accept_next-accepted.auto.slots,
        c.loop.auto.slots,
      ) in
      let world = c.loop.world in (
        now,
        round_more g.S.Source.effects g.S.Reader.NonBlockingRead.input
            g.S.Writer.NonBlockingWrite.output g.H.Handler.behavior c.args.limits
            c.loop.counter c.loop.accepted c.accept_next-accepted.result c.loop.busy
            c.serve_round-busy.result now
            (state c.args.source.now c.args.slots.now c.args.world.now first)
            (state c.loop.source c.loop.slots world last) (state c.wait-now.new.self c.loop.slots
            c.pass.new.world now)
            (state c.accept_next-accepted.new.source c.accept_next-accepted.new.slots
            c.accept_next-accepted.new.world now)
            (state c.call_next.new.source c.call_next.new.slots c.call_next.new.world now)
            (state c.serve_round-busy.new.source c.serve_round-busy.new.slots
            c.serve_round-busy.new.world now)
            before (record {
              goes_on = sym c.is_over.ensures ∙ c.if-is_over.false;
              rest = c.loop.invariant.rest;
              waited = c.wait-now.ensures;
              longest_turn = c.loop.longest_turn;
              passes = c.pass.ensures;
              others =
                  refl;
            })
            c.accept_next-accepted.ensures.turns c.call_next.ensures (
              c.serve_round-busy.ensures.turns.0,
              c.serve_round-busy.ensures.turns.1,
              subst (λ n. AreTurnsOf n c.serve_round-busy.result c.serve_round-busy.ensures.turns.0)
                  same c.serve_round-busy.ensures.turns.2,
            )
            c.accept_next-accepted.ensures.most,
      );
  rest = λ quiet. c.serve_round-busy.ensures.rest quiet;
  most = with_more c.args.limits.connections c.loop.accepted c.accept_next-accepted.result
      c.loop.invariant.most
      c.accept_next-accepted.ensures.most;
  each = omega (arith, c.loop.invariant.each, c.accept_next-accepted.ensures.one);
}

pub returns : goal.returns
returns g c first =
    let (last, far) = c.loop.invariant.far first in (
      last,
      record {
        turns = far.turns;
        execution = far.execution;
        rounds = far.rounds;
        asks = far.asks;
        accepts = far.accepts;
        most = c.loop.invariant.most;
        ended = λ done. absurd (true≢false (sym done));
        stops = λ over. absurd (true≢false (sym over));
        spent = λ undone going. far.waited ∙ omega (arith, c.loop.auto.counter-end, c.loop-test.false);
      },
    )
