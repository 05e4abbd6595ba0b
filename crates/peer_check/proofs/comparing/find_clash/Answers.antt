use Rattle.std.proofs.Common.{◌≡◌, ◌+◌, ℕ, refl, Ok, Err, Some, None, Option, take, sym, ap, ◌∙◌, subst, arith}
use Rattle.std.specs.Prelude.{Result, ⊤}
use Rattle.std.proofs.lemmas.Bool.{true≢false}
use Rattle.std.proofs.lemmas.List.{take_all}
use Rattle.std.proofs.lemmas.Result.{err_from_is_err_and}
use Rattle.stamp.specs.Numbers.{number_of}
use Rattle.records.specs.Contents.{vec, AreCompatible}
use Rattle.archive.proofs.Calls.{asks-then}
use Rattle.exchange.specs.declared.fault.ExchangeFault.{ExchangeFault}
use Rattle.exchange.specs.Batches.{AsksFor}
use Rattle.exchange.proofs.PortionLemmas.{asks_for_then, asks_for_failed}
use Rattle.peer_check.specs.declared.comparing.Clash.{Clash}
use Rattle.peer_check.specs.Clashes.{FindsClash}
use Rattle.peer_check.proofs.Names.{compatible_none, compatible_next, compatible_beyond, clash_among}
use Rattle.peer_check.proofs.comparing.find_clash.Goals as goal
use Rattle.peer_check.proofs.comparing.find_clash.Goals.{then-covers+in_ok-clash_of+in-None, else-covers}

pub loop-record-init : goal.loop-record-init
loop-record-init g c = record {
  asks = record {
    answer = λ h. (
      c.in_ok-held.ensures.asks.answer h,
      compatible_none (g.A.Archive.state c.args.archive.now).content,
    );
    stays = c.in_ok-held.ensures.asks.stays;
    leaves = c.in_ok-held.ensures.asks.leaves;
  };
  asked = omega (arith, c.in_ok-held.ensures.asked);
}

pub returns-in_err-clash_of-clause-asks : goal.returns-in_err-clash_of-clause-asks
returns-in_err-clash_of-clause-asks g c =
    let a = g.A.Archive.state c.args.archive.now in
    let b = g.A.Archive.state c.loop-record.archive in
    let d = g.A.Archive.state c.clash_of.new.archive in
    let p = err_from_is_err_and c.from_residual-in_err-clash_of.result
    c.from_residual-in_err-clash_of.ensures.1 in
    let Finds : Option Clash → Type 0 = FindsClash a.content c.args.brought.now in
    let Any : Option Clash → Type 0 = λ found. ⊤ in
    let failed : AsksFor {A = Option Clash} a d (Err c.in_err-clash_of.field-0.0) Any =
    asks_for_then a b d c.in_ok-held.held (Err c.in_err-clash_of.field-0.0) _ _ Any
    c.loop-record.invariant.asks c.in_err-clash_of.ensures.asks (λ h same px y q. tt) in
    subst (λ (r : Result (Option Clash) ExchangeFault). AsksFor a d r Finds)
    (sym (p.1 ∙ ap Err p.2)) (asks_for_failed a d c.in_err-clash_of.field-0.0 Any Finds failed)

pub returns-in-Some-clause-asks : goal.returns-in-Some-clause-asks
returns-in-Some-clause-asks g c =
    let a = g.A.Archive.state c.args.archive.now in
    let b = g.A.Archive.state c.loop-record.archive in
    let d = g.A.Archive.state c.clash_of.new.archive in
    let asks = rw c.in-Some.is at c.in_ok-clash_of.ensures.asks in
    asks-then a b d c.in_ok-held.held (Ok (Some c.in-Some.clash)) _ _
    (FindsClash a.content c.args.brought.now) c.loop-record.invariant.asks asks
    (λ h same px finds. clash_among a.content b.content c.args.brought.now
    c.loop-record.record-index c.record-item.result c.record-item.result c.in-Some.clash
    c.loop-record-test.true c.record-item.is px.1 same finds)

pub loop-record-preserved : goal.loop-record-preserved
loop-record-preserved g c =
    let a = g.A.Archive.state c.args.archive.now in
    let b = g.A.Archive.state c.loop-record.archive in
    let known = c.loop-record.invariant.asks in
    let brought = c.args.brought.now in
    let i = c.loop-record.record-index in
    let r = c.record-item.result in
    let So : Option Clash → Type 0 = λ found. ((replica : ℕ) → number_of c.in_ok-held.held replica
    ≡ vec a.content replica) × AreCompatible a.content (take (i + 1) brought) in
    elim c.if-covers.branch [
      | then-covers+in_ok-clash_of+in-None w ↦
          let d = g.A.Archive.state w.clash_of.new.archive in
          let asks = rw w.in-None.is at w.in_ok-clash_of.ensures.asks in
          let both = asks-then a b d c.in_ok-held.held (Ok None) _ _ So known asks
          (λ h same px finds. (
            px.0,
            compatible_next a.content b.content brought i r r None
                c.loop-record-test.true c.record-item.is px.1 same finds refl,
          )) in
          rw w.archive-is (record {
            asks = record { answer = both.answer; stays = both.stays; leaves = both.leaves };
            asked = omega (arith, c.loop-record.invariant.asked, w.in_ok-clash_of.ensures.asked);
          })
      | else-covers w ↦ rw w.archive-is (record {
        asks = record {
          answer = λ h. let so = known.answer h in (
            so.0,
            compatible_beyond a.content brought i r r
                c.loop-record-test.true c.record-item.is so.1
                (λ le. let reached = c.covers.ensures.covers.1 (omega (arith, le, so.0 r.origin)) in
                true≢false (sym reached ∙ w.if-covers.false)),
          );
          stays = known.stays;
          leaves = known.leaves;
        };
        asked = c.loop-record.invariant.asked;
      })
    ]

pub returns-clause-asks : goal.returns-clause-asks
returns-clause-asks g c =
    let a = g.A.Archive.state c.args.archive.now in
    record {
      answer = λ h. subst (AreCompatible a.content) (take_all _ _ c.loop-record-test.false)
          (c.loop-record.invariant.asks.answer h).1;
      stays = c.loop-record.invariant.asks.stays;
      leaves = c.loop-record.invariant.asks.leaves;
    }
