use Rattle.std.proofs.Common.{rules, arith, subst}
use Rattle.std.specs.List.{AllByRecursion}
use Rattle.std.proofs.lemmas.List.{take_all}
use Rattle.records.specs.Spelling.{IsLawfulRecord}
use Rattle.exchange.proofs.MergeLemmas.{all_more}
use Rattle.history_rows.proofs.exchanges.are_lawful.Goals as goal

pub loop-held-preserved : goal.loop-held-preserved
loop-held-preserved c = all_more IsLawfulRecord c.args.records.now c.loop-held.held-index
    c.held-item.result c.loop-held.invariant c.loop-held-test.true
    (subst IsLawfulRecord c.held-item.is (c.is_lawful.ensures (search rules)))

pub returns : goal.returns
returns c = λ t. subst (AllByRecursion IsLawfulRecord)
    (take_all c.loop-held.held-index c.args.records.now (omega (arith, c.loop-held-test.false)))
    c.loop-held.invariant
