use Rattle.std.proofs.Common.{List, arith, subst}
use Rattle.std.specs.List.{AllByRecursion}
use Rattle.std.proofs.lemmas.List.{take_all}
use Rattle.archive.specs.Listed.{Listed, store_of}
use Rattle.headline.specs.Answers.{IsInUse}
use Rattle.exchange.proofs.MergeLemmas.{all_more}
use Rattle.headline.proofs.witness.are_in_use.Goals as goal

pub loop-machine-preserved : goal.loop-machine-preserved
loop-machine-preserved c =
    let P : Listed → Type 0 = λ machine. IsInUse (store_of machine) in
    all_more P c.args.machines.now c.loop-machine.machine-index c.machine-item.result
    c.loop-machine.invariant c.loop-machine-test.true
    (subst P c.machine-item.is c.is_in_use.ensures)

pub returns : goal.returns
returns c =
    let P : List Listed → Type 0 = AllByRecursion (λ machine. IsInUse (store_of machine)) in
    subst P (take_all c.loop-machine.machine-index c.args.machines.now
    (omega (arith, c.loop-machine-test.false))) c.loop-machine.invariant
