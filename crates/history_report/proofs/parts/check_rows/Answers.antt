use Rattle.std.proofs.Common.{arith, refl, sym, ◌∙◌}
use Rattle.history_report.specs.Parts.{HasOne}
use Rattle.history_report.proofs.PrintingLemmas.{no-items}
use Rattle.history_report.proofs.ReadingLemmas.{part-fails, part-memory}
use Rattle.history_report.proofs.TextlessLemmas.{not-both, one-in, seeking-ends, seeking-found, seeking-next, seeking-none, seeking-stays}
use Rattle.history_report.proofs.parts.check_rows.Goals as goal

pub loop-init : goal.loop-init
loop-init g c = record {
  so_far = seeking-none g.T.Row.is_textless (g.A.Archive.state c.args.archive.now)
      (g.T.Row.left_of c.args.report.now.node c.args.pages);
  asked = omega arith;
}

pub returns-in-Err-clause-reads : goal.returns-in-Err-clause-reads
returns-in-Err-clause-reads g c =
    let state = g.A.Archive.state in
    let P = g.T.Row.is_textless in
    let left = g.T.Row.left_of c.args.report.now.node in
    part-fails (state c.args.archive.now) (state c.loop.archive) (state c.next_page.new.archive)
    c.in-Err.fault (λ R. ⊥) (λ R. HasOne P (left c.args.pages R))
    (λ (done : Unit {0}) R. HasOne P (left c.args.pages R) → ⊥)
    (seeking-stays P (state c.args.archive.now) (state c.loop.archive) (left c.args.pages)
    (left c.loop.pages) c.loop.invariant.so_far) c.in-Err.ensures.pages

pub returns-then-is_empty-clause-reads : goal.returns-then-is_empty-clause-reads
returns-then-is_empty-clause-reads g c =
    let state = g.A.Archive.state in
    let left = g.T.Row.left_of c.args.report.now.node in
    seeking-ends g.T.Row.is_textless (state c.args.archive.now) (state c.loop.archive)
    (left c.args.pages) (left c.loop.pages) c.loop.invariant.so_far (state c.next_page.new.archive)
    c.in-Ok.page.items (left c.next_page.new.pages) c.in-Ok.ensures.pages
    (sym c.as_slice-rows.ensures.value
    ∙ no-items c.as_slice-rows.result.now (sym c.if-is_empty.ensures))

pub returns-then-one_lacks_text-clause-reads : goal.returns-then-one_lacks_text-clause-reads
returns-then-one_lacks_text-clause-reads g c =
    let state = g.A.Archive.state in
    let P = g.T.Row.is_textless in
    let left = g.T.Row.left_of c.args.report.now.node in
    seeking-found P (state c.args.archive.now) (state c.loop.archive)
    (left c.args.pages) (left c.loop.pages) c.loop.invariant.so_far (state c.next_page.new.archive)
    c.in-Ok.page.items (left c.next_page.new.pages) c.in-Ok.ensures.pages
    (λ (done : Unit {0}) R. HasOne P (left c.args.pages R) → ⊥)
    (one-in P c.as_slice-rows.result.now c.in-Ok.page.items c.as_slice-rows.ensures.value
    (c.one_lacks_text.ensures.0 c.if-one_lacks_text.true))

pub loop-preserved : goal.loop-preserved
loop-preserved g c =
    let state = g.A.Archive.state in
    let P = g.T.Row.is_textless in
    let left = g.T.Row.left_of c.args.report.now.node in
    record {
      so_far = seeking-next P (state c.args.archive.now) (state c.loop.archive)
          (left c.args.pages) (left c.loop.pages) c.loop.invariant.so_far
          (state c.next_page.new.archive) c.in-Ok.page.items (left c.next_page.new.pages)
          c.in-Ok.ensures.pages
          (λ one. not-both c.one_lacks_text.result c.if-one_lacks_text.false
          (c.one_lacks_text.ensures.1 (one-in P c.in-Ok.page.items c.as_slice-rows.result.now
          (sym c.as_slice-rows.ensures.value) one)));
      asked = omega (arith, c.loop.invariant.asked, c.in-Ok.ensures.asked);
    }

pub returns-clause-reads : goal.returns-clause-reads
returns-clause-reads g c =
    let state = g.A.Archive.state in
    let P = g.T.Row.is_textless in
    let left = g.T.Row.left_of c.args.report.now.node in
    part-memory (state c.args.archive.now) (state c.loop.archive) _ (λ R. ⊥)
    (λ R. HasOne P (left c.args.pages R))
    (λ (done : Unit {0}) R. HasOne P (left c.args.pages R) → ⊥)
    (seeking-stays P (state c.args.archive.now) (state c.loop.archive) (left c.args.pages)
    (left c.loop.pages) c.loop.invariant.so_far) refl
