use Rattle.std.proofs.Common.{[], take, ◌+◌, subst, arith}
use Rattle.std.specs.Prelude.{⊤}
use Rattle.records.specs.Contents.{Content}
use Rattle.history_report.specs.Paging.{IsPut}
use Rattle.settings_check.specs.Stored.{IsVectorOf}
use Rattle.web_page.specs.declared.listing.Listed.{Listed}
use Rattle.web_page.specs.Front.{IsVariableRow, AreRows, page_faults}
use Rattle.settings_check.proofs.StoredLemmas.{reads-none, reads-as, reads-both}
use Rattle.web_page.proofs.RowLemmas.{put-none, put-more, put-all}
use Rattle.web_page.proofs.front.put_rows.Goals as goal

pub loop-one-init : goal.loop-one-init
loop-one-init g c = record {
  told = reads-none (g.A.Archive.state c.args.archive.now)
      (λ (R : Content). IsVectorOf c.args.within.now R → IsPut c.args.out.now.items
      c.args.out.now.items (AreRows c.args.overview.settings.now.space c.args.overview.now R
      (take 0 c.args.listed.now)))
      (λ R same. put-none (IsVariableRow c.args.overview.settings.now.space c.args.overview.now R)
      c.args.out.now.items c.args.listed.now);
  asked = omega arith;
}

pub loop-one-preserved : goal.loop-one-preserved
loop-one-preserved g c =
    let state = g.A.Archive.state in
    let space = c.args.overview.settings.now.space in
    let time = c.args.overview.now in
    let listed = c.args.listed.now in
    let i = c.loop-one.one-index in
    let old = c.args.out.now.items in
    let now = c.loop-one.out.items in
    let new = c.put_variable.new.out.items in
    record {
      told = reads-both (state c.args.archive.now) (state c.loop-one.archive)
          (state c.put_variable.new.archive) []
          (λ (R : Content). IsVectorOf c.args.within.now R
          → IsPut old now (AreRows space time R (take i listed)))
          (λ (R : Content). IsVectorOf c.args.within.now R
          → IsPut now new (IsVariableRow space time R c.one-item.result))
          (λ (R : Content). IsVectorOf c.args.within.now R
          → IsPut old new (AreRows space time R (take (i + 1) listed)))
          (λ R p q same. put-more (IsVariableRow space time R) old now new listed i c.one-item.result
          (omega arith) (p same) (subst (λ (n : Listed). IsPut now new (IsVariableRow space time R n))
          c.one-item.is (q same)))
          c.loop-one.invariant.told c.in-Ok.ensures.answers;
      asked = omega (arith, c.loop-one.invariant.asked, c.in-Ok.ensures.asked);
    }

pub returns-in-Err-clause-answers : goal.returns-in-Err-clause-answers
returns-in-Err-clause-answers g c =
    let state = g.A.Archive.state in
    reads-both (state c.args.archive.now) (state c.loop-one.archive)
    (state c.put_variable.new.archive) (page_faults c.in-Err.fault)
    (λ (R : Content). IsVectorOf c.args.within.now R → IsPut c.args.out.now.items
    c.loop-one.out.items (AreRows c.args.overview.settings.now.space c.args.overview.now R
    (take c.loop-one.one-index c.args.listed.now)))
    (λ R. ⊤) (λ R. ⊤) (λ R p q. tt) c.loop-one.invariant.told c.in-Err.ensures.answers

pub returns-clause-answers : goal.returns-clause-answers
returns-clause-answers g c =
    let state = g.A.Archive.state in
    let space = c.args.overview.settings.now.space in
    let time = c.args.overview.now in
    let listed = c.args.listed.now in
    let i = c.loop-one.one-index in
    let old = c.args.out.now.items in
    let now = c.loop-one.out.items in
    reads-as (state c.args.archive.now) (state c.loop-one.archive) []
    (λ (R : Content). IsVectorOf c.args.within.now R
    → IsPut old now (AreRows space time R (take i listed)))
    (λ (R : Content). IsVectorOf c.args.within.now R → IsPut old now (AreRows space time R listed))
    (λ R p same. put-all (IsVariableRow space time R) old now listed i (omega arith) (p same))
    c.loop-one.invariant.told
