use Rattle.std.proofs.Common.{arith, ◌≡◌, ◌-◌, ◌<◌, ◌≤◌, ◌∙◌, ℕ, Bool, true, false, Ok, Err, refl, sym, ap, subst}
use Rattle.std.specs.Prelude.{Result, Vec, ⊤, if◌then◌else◌}
use Rattle.std.proofs.lemmas.Result.{err_from_is_err_and}
use Rattle.stamp.specs.Numbers.{number_of}
use Rattle.records.specs.Contents.{Content}
use Rattle.records.specs.declared.record.Record.{Record}
use Rattle.archive.proofs.Calls.{asks-then}
use Rattle.exchange.specs.declared.fault.ExchangeFault.{ExchangeFault}
use Rattle.exchange.specs.Batches.{Gathers, FillsFrame, AsksFor}
use Rattle.exchange.proofs.PortionLemmas.{gathers_none, asks_for_then, asks_for_failed}
use Rattle.exchange.proofs.portions.first_missing.Goals as goal

-- the next round has fewer records to ask for
fewer : (more next : Bool) (n m : ℕ) → more ≡ true → n ≤ 1000
    → (next ≡ true → (n < m) × (m < 1000))
    → (if next then 1001 - m else 0) < (if more then 1001 - n else 0)
fewer true true n m is few grows = let g = grows refl in omega (arith, few, g.0, g.1)
fewer true false n m is few grows = omega (arith, few)
fewer false next n m is few grows = absurd cc

pub returns-in_err-more-clause-asks : goal.returns-in_err-more-clause-asks
returns-in_err-more-clause-asks g c =
    let a = g.A.Archive.state c.args.archive.now in
    let b = g.A.Archive.state c.append_portion.new.archive in
    let v = number_of c.args.theirs.now in
    let p = err_from_is_err_and c.from_residual.result c.from_residual.ensures.1 in
    let Fills : Vec Record _ → Type 0 = λ records. FillsFrame a.content v records.items in
    subst (λ (r : Result (Vec Record _) ExchangeFault). AsksFor a b r Fills)
    (sym (p.1 ∙ ap Err p.2))
    (asks_for_failed a b c.in_err-more.field-0.0 _ Fills (c.in_err-more.ensures.asks v))

pub loop-more-init : goal.loop-more-init
loop-more-init g c =
    let a = g.A.Archive.state c.args.archive.now in
    let v = number_of c.args.theirs.now in
    let asks = c.in_ok-more.ensures.asks v in
    record {
      asks = record {
        answer = λ h. asks.answer h
            (gathers_none a.content v c.new-records.result.items c.new-records.ensures.items);
        stays = asks.stays;
        leaves = asks.leaves;
      };
      asked = c.in_ok-more.ensures.asked;
      few = c.in_ok-more.ensures.few;
      size = c.in_ok-more.ensures.size;
    }

pub returns-in_err-more-2-clause-asks : goal.returns-in_err-more-2-clause-asks
returns-in_err-more-2-clause-asks g c =
    let a = g.A.Archive.state c.args.archive.now in
    let b = g.A.Archive.state c.loop-more.archive in
    let d = g.A.Archive.state c.append_portion-in-loop-more.new.archive in
    let v = number_of c.args.theirs.now in
    let p = err_from_is_err_and c.from_residual-in_err-more-2.result
    c.from_residual-in_err-more-2.ensures.1 in
    let Fills : Vec Record _ → Type 0 = λ records. FillsFrame a.content v records.items in
    let Any : Bool → Type 0 = λ more. ⊤ in
    let failed : AsksFor {A = Bool} a d (Err c.in_err-more-2.field-0.0) Any =
    asks_for_then a b d c.loop-more.more (Err c.in_err-more-2.field-0.0) _ _ Any
    c.loop-more.invariant.asks (c.in_err-more-2.ensures.asks v) (λ h same px y q. tt) in
    subst (λ (r : Result (Vec Record _) ExchangeFault). AsksFor a d r Fills)
    (sym (p.1 ∙ ap Err p.2))
    (asks_for_failed a d c.in_err-more-2.field-0.0 Any Fills failed)

pub loop-more-smaller : goal.loop-more-smaller
loop-more-smaller g c =
    fewer c.loop-more.more c.in_ok-more-2.more _ _ c.loop-more-test.true c.loop-more.invariant.few
    c.in_ok-more-2.ensures.grows

pub loop-more-preserved : goal.loop-more-preserved
loop-more-preserved g c =
    let a = g.A.Archive.state c.args.archive.now in
    let b = g.A.Archive.state c.loop-more.archive in
    let d = g.A.Archive.state c.append_portion-in-loop-more.new.archive in
    let v = number_of c.args.theirs.now in
    let old = c.loop-more.records.items in
    let new = c.append_portion-in-loop-more.new.records.items in
    let known = number_of c.append_portion-in-loop-more.new.known in
    let P : Content → Type 0 = λ R. Gathers R v (number_of c.loop-more.known) old in
    let Q : Content → Bool → Type 0 =
    λ R more. Gathers R v known new × (more ≡ false → FillsFrame R v new) in
    record {
      asks = asks-then a b d c.loop-more.more (Ok c.in_ok-more-2.more)
          (λ more. P a.content × (more ≡ false → FillsFrame a.content v old))
          (λ more. P b.content → Q b.content more) (Q a.content) c.loop-more.invariant.asks
          (c.in_ok-more-2.ensures.asks v)
          (λ h same p q. subst (λ R. Q R c.in_ok-more-2.more) same (q (subst P (sym same) p.0)));
      asked = omega (arith, c.in_ok-more-2.ensures.asked, c.loop-more.invariant.asked);
      few = c.in_ok-more-2.ensures.few;
      size = c.in_ok-more-2.ensures.size;
    }

pub returns-clause-asks : goal.returns-clause-asks
returns-clause-asks g c = record {
  answer = λ h. (c.loop-more.invariant.asks.answer h).1 c.loop-more-test.false;
  stays = c.loop-more.invariant.asks.stays;
  leaves = c.loop-more.invariant.asks.leaves;
}
