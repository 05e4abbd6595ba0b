use Rattle.std.proofs.Common.{refl, ◌≡◌, List, subst}
use Rattle.std.proofs.lemmas.List.{take_all}
use Rattle.ua_binary.specs.Format.{saturated}
use Rattle.records.specs.declared.record.Record.{Record}
use Rattle.exchange.specs.Batches.{records_length}
use Rattle.exchange.proofs.PortionLemmas.{size_more}
use Rattle.exchange.proofs.portions.size_in_frame.Goals as goal

pub loop-record-init : goal.loop-record-init
loop-record-init c = refl

pub loop-record-preserved : goal.loop-record-preserved
loop-record-preserved c =
    size_more c.args.records.now c.loop-record.record-index c.loop-record.size
    c.encoded_size.result c.saturating_add.result c.saturating_add-size.result
    c.record-item.result c.record-item.result c.loop-record-test.true c.record-item.is
    c.loop-record.invariant c.encoded_size.ensures c.saturating_add.ensures
    c.saturating_add-size.ensures

pub returns : goal.returns
returns c =
    subst (λ (rs : List Record). c.loop-record.size ≡ saturated (records_length rs))
    (take_all _ _ c.loop-record-test.false) c.loop-record.invariant
