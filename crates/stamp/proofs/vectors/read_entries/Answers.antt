use Rattle.std.proofs.Common.{sym, subst, refl}
use Rattle.std.proofs.lemmas.Result.{err_from_is_err_and}
use Rattle.stamp.specs.Numbers.{IsVector, zeros}
use Rattle.stamp.proofs.Filling.{filling, starts, goes_on, ends}
use Rattle.stamp.proofs.Maps.{zeros_vector, set_vector}
use Rattle.stamp.proofs.vectors.read_entries.Goals as goal

pub loop-init : goal.loop-init
loop-init c = record {
  read = starts c.no_numbers-numbers.result c.fork-next.result c.args.cursor.now c.args.count
      c.no_numbers-numbers.ensures c.fork-next.ensures;
  vector = subst IsVector (sym c.no_numbers-numbers.ensures) zeros_vector;
}

pub returns-in_err-replica-clause-numbers : goal.returns-in_err-replica-clause-numbers
returns-in_err-replica-clause-numbers c =
    let p = err_from_is_err_and c.from_residual.result c.from_residual.ensures.1 in
    rw (p.1, p.2) (
      ends c.loop.numbers c.loop.last c.args.count c.loop.counter c.loop.next _
          (filling zeros 0 c.args.count c.args.cursor.now) c.loop-test.true
          c.in_err-replica.ensures.entry.0 c.loop.invariant.read,
      refl,
    )

pub loop-preserved : goal.loop-preserved
loop-preserved c = record {
  read = rw (c.get-last.ensures.same)
      (goes_on c.loop.numbers c.loop.last c.args.count c.loop.counter c.loop.next c.place_of.result
      c.in_ok-replica.replica c.in_ok-replica.number c.read_entry.new.cursor
      (filling zeros 0 c.args.count c.args.cursor.now) c.loop-test.true c.place_of.ensures.place
      c.in_ok-replica.ensures.entry c.loop.invariant.read);
  vector = set_vector c.loop.numbers c.place_of.result c.in_ok-replica.number
      c.loop.invariant.vector c.place_of.ensures.within c.in_ok-replica.ensures.within;
}
