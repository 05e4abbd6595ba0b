use Rattle.std.proofs.Common.{ℤ, ◌++◌, List, Vec, Global, arith, map, sym, ◌∙◌, ap}
use Rattle.records.specs.declared.shown.Held.{Held}
use Rattle.history_report.specs.Paging.{values_left}
use Rattle.history_report.specs.Parts.{AreFirstTimes}
use Rattle.history_report.proofs.PrintingLemmas.{no-items}
use Rattle.history_report.proofs.ReadingLemmas.{part-fails, part-memory, timing-none, timing-stays, timing-next, timing-all, timing-enough, more-times}
use Rattle.history_report.proofs.WalkLemmas.{stays-page}
use Rattle.history_report.proofs.parts.value_times.Goals as goal

pub loop-init : goal.loop-init
loop-init g c = record {
  so_far = timing-none (λ (h : Held). h.time) (g.A.Archive.state c.args.archive.now)
      (values_left c.args.report.now.node c.args.pages) c.new-times.result.items c.new-times.ensures.items;
  enough = omega arith;
  asked = omega arith;
}

pub returns-in-Err-clause-reads : goal.returns-in-Err-clause-reads
returns-in-Err-clause-reads g c =
    let state = g.A.Archive.state in
    let node = c.args.report.now.node in
    part-fails (state c.args.archive.now) (state c.loop.archive) (state c.next_values.new.archive)
    c.in-Err.fault (λ R. ⊥) (λ R. ⊥)
    (λ (times : Vec ℤ Global) R. AreFirstTimes
    (map (λ (h : Held). h.time) (values_left node c.args.pages R)) times.items)
    (timing-stays (λ (h : Held). h.time) (state c.args.archive.now) (state c.loop.archive)
    (values_left node c.args.pages) (values_left node c.loop.pages) c.loop.times.items
    c.loop.invariant.so_far) c.in-Err.ensures.pages

pub returns-then-is_empty-clause-reads : goal.returns-then-is_empty-clause-reads
returns-then-is_empty-clause-reads g c =
    let state = g.A.Archive.state in
    let node = c.args.report.now.node in
    timing-all (λ (h : Held). h.time) (state c.args.archive.now) (state c.loop.archive)
    (state c.next_values.new.archive) (values_left node c.args.pages)
    (values_left node c.loop.pages) (values_left node c.next_values.new.pages) c.loop.times.items
    c.in-Ok.page.items c.loop.invariant.so_far c.in-Ok.ensures.pages
    (sym c.as_slice-rows.ensures.value
    ∙ no-items c.as_slice-rows.result.now (sym c.if-is_empty.ensures))

pub returns-in-Err-push_times-clause-reads : goal.returns-in-Err-push_times-clause-reads
returns-in-Err-push_times-clause-reads g c =
    let state = g.A.Archive.state in
    let node = c.args.report.now.node in
    part-memory (state c.args.archive.now) (state c.next_values.new.archive)
    c.in-Err-push_times.fault (λ R. ⊥) (λ R. ⊥)
    (λ (times : Vec ℤ Global) R. AreFirstTimes
    (map (λ (h : Held). h.time) (values_left node c.args.pages R)) times.items)
    (stays-page (state c.args.archive.now) (state c.loop.archive)
    (state c.next_values.new.archive) c.in-Ok.page.items
    (values_left node c.next_values.new.pages) (values_left node c.loop.pages)
    (timing-stays (λ (h : Held). h.time) (state c.args.archive.now) (state c.loop.archive)
    (values_left node c.args.pages) (values_left node c.loop.pages) c.loop.times.items
    c.loop.invariant.so_far) c.in-Ok.ensures.pages) c.in-Err-push_times.ensures

pub loop-preserved : goal.loop-preserved
loop-preserved g c =
    let state = g.A.Archive.state in
    let node = c.args.report.now.node in
    record {
      so_far = timing-next (λ (h : Held). h.time) (state c.args.archive.now)
          (state c.loop.archive) (state c.next_values.new.archive) (values_left node c.args.pages)
          (values_left node c.loop.pages) (values_left node c.next_values.new.pages)
          c.loop.times.items c.in-Ok.page.items c.loop.invariant.so_far c.in-Ok.ensures.pages
          c.push_times.new.times.items
          (c.in-Ok-push_times.ensures ∙ ap (λ (l : List Held). c.loop.times.items
          ++ map (λ (h : Held). h.time) l) c.as_slice-rows.ensures.value);
      enough = more-times (λ (h : Held). h.time) c.loop.counter c.loop.times.items
          c.push_times.new.times.items c.as_slice-rows.result.now c.loop.invariant.enough
          c.in-Ok-push_times.ensures (sym c.if-is_empty.ensures);
      asked = omega (arith, c.loop.invariant.asked, c.in-Ok.ensures.asked);
    }

pub returns-then-len-ge-SEEN-clause-reads : goal.returns-then-len-ge-SEEN-clause-reads
returns-then-len-ge-SEEN-clause-reads g c =
    let state = g.A.Archive.state in
    let node = c.args.report.now.node in
    timing-enough (λ (h : Held). h.time) (state c.args.archive.now)
    (state c.next_values.new.archive) (values_left node c.args.pages)
    (values_left node c.next_values.new.pages) c.push_times.new.times.items
    (omega (arith, c.len.ensures, c.if-len-ge-SEEN.true))
    (timing-next (λ (h : Held). h.time) (state c.args.archive.now) (state c.loop.archive)
    (state c.next_values.new.archive) (values_left node c.args.pages) (values_left node c.loop.pages)
    (values_left node c.next_values.new.pages) c.loop.times.items c.in-Ok.page.items
    c.loop.invariant.so_far c.in-Ok.ensures.pages c.push_times.new.times.items
    (c.in-Ok-push_times.ensures ∙ ap (λ (l : List Held). c.loop.times.items
    ++ map (λ (h : Held). h.time) l) c.as_slice-rows.ensures.value))

pub returns-clause-reads : goal.returns-clause-reads
returns-clause-reads g c =
    let state = g.A.Archive.state in
    let node = c.args.report.now.node in
    timing-enough (λ (h : Held). h.time) (state c.args.archive.now) (state c.loop.archive)
    (values_left node c.args.pages) (values_left node c.loop.pages) c.loop.times.items
    (omega (arith, c.loop.invariant.enough)) c.loop.invariant.so_far
