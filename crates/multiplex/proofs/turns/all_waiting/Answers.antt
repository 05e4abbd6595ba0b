use Rattle.std.proofs.Common.{arith}
use Rattle.std.proofs.lemmas.Option.{slice_get_within}
use Rattle.multiplex.proofs.Places.{sum-more, countable-more}
use Rattle.multiplex.proofs.turns.all_waiting.Goals as goal

pub loop-slot-preserved : goal.loop-slot-preserved
loop-slot-preserved g c = record {
  sum = sum-more c.args.slots.now c.loop-slot.slot-index c.waiting_in.result c.loop-slot.sum
      c.slot-item.result c.loop-slot.invariant.sum c.loop-slot-test.true c.slot-item.is
      c.waiting_in.ensures;
  fits = omega (arith, c.loop-slot.invariant.fits, c.waiting_in.type_inv);
  each = countable-more c.args.slots.now c.loop-slot.slot-index c.waiting_in.result
      c.slot-item.result c.loop-slot.invariant.each c.loop-slot-test.true c.slot-item.is
      c.waiting_in.ensures c.waiting_in.type_inv;
}

pub returns-clause-each : goal.returns-clause-each
returns-clause-each g c k slot got =
    let within = slice_get_within c.args.slots.now k slot got in
    c.loop-slot.invariant.each k slot (omega (arith, within, c.loop-slot-test.false)) got
