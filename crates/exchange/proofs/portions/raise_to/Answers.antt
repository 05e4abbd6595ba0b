use Rattle.std.proofs.Common.{refl, ◌≡◌, ℕ, List, subst}
use Rattle.std.proofs.lemmas.List.{take_all}
use Rattle.stamp.specs.Numbers.{number_of}
use Rattle.records.specs.declared.record.Record.{Record}
use Rattle.exchange.specs.Batches.{numbers_with}
use Rattle.exchange.proofs.PortionLemmas.{raised_more}
use Rattle.exchange.proofs.portions.raise_to.Goals as goal

pub loop-record-init : goal.loop-record-init
loop-record-init c = λ replica. refl

pub loop-record-preserved : goal.loop-record-preserved
loop-record-preserved c =
    raised_more (number_of c.args.known.now) (number_of c.loop-record.known)
    (number_of c.raise.new.self) c.args.records.now c.loop-record.record-index c.min.result
    c.record-item.result c.record-item.result c.loop-record-test.true c.record-item.is c.min.ensures
    c.loop-record.invariant c.raise.ensures.raised c.raise.ensures.others

pub returns : goal.returns
returns c =
    subst (λ (rs : List Record). (replica : ℕ) → number_of c.loop-record.known replica
    ≡ numbers_with (number_of c.args.known.now) rs replica)
    (take_all _ _ c.loop-record-test.false) c.loop-record.invariant
