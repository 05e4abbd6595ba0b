use Rattle.std.proofs.Common.{arith, ◌∙◌}
use Rattle.history_report.specs.Paging.{values_left}
use Rattle.history_report.proofs.WalkLemmas.{walk-fails, walk-stops, stays-page}
use Rattle.history_report.proofs.drawing.walk.Goals as goal

pub returns-in-Err-clause-walks : goal.returns-in-Err-clause-walks
returns-in-Err-clause-walks g c =
    let state = g.A.Archive.state in
    walk-fails (state c.args.archive.now) (state c.loop.archive) (state c.next_values.new.archive)
    c.in-Err.fault c.loop.invariant.stays c.in-Err.ensures.pages

pub returns-then-is_empty-clause-walks : goal.returns-then-is_empty-clause-walks
returns-then-is_empty-clause-walks g c =
    let state = g.A.Archive.state in
    let node = c.args.report.now.node in
    stays-page (state c.args.archive.now) (state c.loop.archive) (state c.next_values.new.archive)
    c.in-Ok.page.items (values_left node c.next_values.new.pages) (values_left node c.loop.pages)
    c.loop.invariant.stays c.in-Ok.ensures.pages

pub loop-preserved : goal.loop-preserved
loop-preserved g c =
    let state = g.A.Archive.state in
    let node = c.args.report.now.node in
    record {
      stays = stays-page (state c.args.archive.now) (state c.loop.archive)
          (state c.next_values.new.archive) c.in-Ok.page.items
          (values_left node c.next_values.new.pages) (values_left node c.loop.pages)
          c.loop.invariant.stays c.in-Ok.ensures.pages;
      within = c.in-Ok.ensures.same ∙ c.loop.invariant.within;
      asked = omega (arith, c.loop.invariant.asked, c.in-Ok.ensures.asked);
    }

pub returns-clause-walks : goal.returns-clause-walks
returns-clause-walks g c =
    let state = g.A.Archive.state in
    walk-stops (state c.args.archive.now) (state c.loop.archive) c.loop.invariant.stays
