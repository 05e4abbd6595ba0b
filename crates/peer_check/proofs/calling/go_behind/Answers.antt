use Rattle.std.proofs.Common.{refl, ◌≡◌, ◌∙◌, ℕ, List, ap, subst}
use Rattle.std.proofs.lemmas.List.{take_all}
use Rattle.stamp.specs.Numbers.{number_of}
use Rattle.records.specs.declared.record.Record.{Record}
use Rattle.peer_check.specs.Comparing.{number_behind, numbers_behind}
use Rattle.peer_check.proofs.Raising.{more_behind}
use Rattle.peer_check.proofs.calling.go_behind.Goals as goal

pub loop-record-init : goal.loop-record-init
loop-record-init c = λ replica. refl

pub loop-record-preserved : goal.loop-record-preserved
loop-record-preserved c =
    more_behind c.args.extent (number_of c.args.ours.now) (number_of c.args.numbers.now)
    (number_of c.loop-record.numbers) (number_of c.raise.new.self) c.args.brought.now
    c.loop-record.record-index c.record-item.result c.record-item.result
    c.number_behind-number.result c.loop-record-test.true c.record-item.is c.loop-record.invariant
    (c.number_behind-number.ensures.is
    ∙ ap (λ (held : ℕ). number_behind c.args.extent held c.record-item.result.number)
    c.get.ensures.number)
    c.raise.ensures.raised c.raise.ensures.others

pub returns : goal.returns
returns c =
    subst (λ (rs : List Record). (replica : ℕ) → number_of c.loop-record.numbers replica
    ≡ numbers_behind c.args.extent (number_of c.args.ours.now) (number_of c.args.numbers.now) rs
    replica)
    (take_all _ _ c.loop-record-test.false) c.loop-record.invariant
