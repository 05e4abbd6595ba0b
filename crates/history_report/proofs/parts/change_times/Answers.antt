use Rattle.std.proofs.Common.{ℤ, ◌++◌, List, Vec, Global, arith, map, sym, ◌∙◌, ap}
use Rattle.records.specs.declared.shown.Entry.{Entry}
use Rattle.history_report.specs.Paging.{changes_left}
use Rattle.history_report.specs.Parts.{AreFirstTimes}
use Rattle.history_report.proofs.PrintingLemmas.{no-items}
use Rattle.history_report.proofs.ReadingLemmas.{part-fails, part-memory, timing-none, timing-stays, timing-next, timing-all, timing-enough, more-times}
use Rattle.history_report.proofs.WalkLemmas.{stays-page}
use Rattle.history_report.proofs.parts.change_times.Goals as goal

pub loop-init : goal.loop-init
loop-init g c = record {
  so_far = timing-none (λ (e : Entry). e.time) (g.A.Archive.state c.args.archive.now)
      (changes_left c.args.report.now.node c.args.pages) c.new-times.result.items c.new-times.ensures.items;
  enough = omega arith;
  asked = omega arith;
}

pub returns-in-Err-clause-reads : goal.returns-in-Err-clause-reads
returns-in-Err-clause-reads g c =
    let state = g.A.Archive.state in
    let node = c.args.report.now.node in
    part-fails (state c.args.archive.now) (state c.loop.archive) (state c.next_changes.new.archive)
    c.in-Err.fault (λ R. ⊥) (λ R. ⊥)
    (λ (times : Vec ℤ Global) R. AreFirstTimes
    (map (λ (e : Entry). e.time) (changes_left node c.args.pages R)) times.items)
    (timing-stays (λ (e : Entry). e.time) (state c.args.archive.now) (state c.loop.archive)
    (changes_left node c.args.pages) (changes_left node c.loop.pages) c.loop.times.items
    c.loop.invariant.so_far) c.in-Err.ensures.pages

pub returns-then-is_empty-clause-reads : goal.returns-then-is_empty-clause-reads
returns-then-is_empty-clause-reads g c =
    let state = g.A.Archive.state in
    let node = c.args.report.now.node in
    timing-all (λ (e : Entry). e.time) (state c.args.archive.now) (state c.loop.archive)
    (state c.next_changes.new.archive) (changes_left node c.args.pages)
    (changes_left node c.loop.pages) (changes_left node c.next_changes.new.pages) c.loop.times.items
    c.in-Ok.page.items c.loop.invariant.so_far c.in-Ok.ensures.pages
    (sym c.as_slice-rows.ensures.value
    ∙ no-items c.as_slice-rows.result.now (sym c.if-is_empty.ensures))

pub returns-in-Err-push_times-clause-reads : goal.returns-in-Err-push_times-clause-reads
returns-in-Err-push_times-clause-reads g c =
    let state = g.A.Archive.state in
    let node = c.args.report.now.node in
    part-memory (state c.args.archive.now) (state c.next_changes.new.archive)
    c.in-Err-push_times.fault (λ R. ⊥) (λ R. ⊥)
    (λ (times : Vec ℤ Global) R. AreFirstTimes
    (map (λ (e : Entry). e.time) (changes_left node c.args.pages R)) times.items)
    (stays-page (state c.args.archive.now) (state c.loop.archive)
    (state c.next_changes.new.archive) c.in-Ok.page.items
    (changes_left node c.next_changes.new.pages) (changes_left node c.loop.pages)
    (timing-stays (λ (e : Entry). e.time) (state c.args.archive.now) (state c.loop.archive)
    (changes_left node c.args.pages) (changes_left node c.loop.pages) c.loop.times.items
    c.loop.invariant.so_far) c.in-Ok.ensures.pages) c.in-Err-push_times.ensures

pub loop-preserved : goal.loop-preserved
loop-preserved g c =
    let state = g.A.Archive.state in
    let node = c.args.report.now.node in
    record {
      so_far = timing-next (λ (e : Entry). e.time) (state c.args.archive.now)
          (state c.loop.archive) (state c.next_changes.new.archive) (changes_left node c.args.pages)
          (changes_left node c.loop.pages) (changes_left node c.next_changes.new.pages)
          c.loop.times.items c.in-Ok.page.items c.loop.invariant.so_far c.in-Ok.ensures.pages
          c.push_times.new.times.items
          (c.in-Ok-push_times.ensures ∙ ap (λ (l : List Entry). c.loop.times.items
          ++ map (λ (e : Entry). e.time) l) c.as_slice-rows.ensures.value);
      enough = more-times (λ (e : Entry). e.time) c.loop.counter c.loop.times.items
          c.push_times.new.times.items c.as_slice-rows.result.now c.loop.invariant.enough
          c.in-Ok-push_times.ensures (sym c.if-is_empty.ensures);
      asked = omega (arith, c.loop.invariant.asked, c.in-Ok.ensures.asked);
    }

pub returns-then-len-ge-SEEN-clause-reads : goal.returns-then-len-ge-SEEN-clause-reads
returns-then-len-ge-SEEN-clause-reads g c =
    let state = g.A.Archive.state in
    let node = c.args.report.now.node in
    timing-enough (λ (e : Entry). e.time) (state c.args.archive.now)
    (state c.next_changes.new.archive) (changes_left node c.args.pages)
    (changes_left node c.next_changes.new.pages) c.push_times.new.times.items
    (omega (arith, c.len.ensures, c.if-len-ge-SEEN.true))
    (timing-next (λ (e : Entry). e.time) (state c.args.archive.now) (state c.loop.archive)
    (state c.next_changes.new.archive) (changes_left node c.args.pages) (changes_left node c.loop.pages)
    (changes_left node c.next_changes.new.pages) c.loop.times.items c.in-Ok.page.items
    c.loop.invariant.so_far c.in-Ok.ensures.pages c.push_times.new.times.items
    (c.in-Ok-push_times.ensures ∙ ap (λ (l : List Entry). c.loop.times.items
    ++ map (λ (e : Entry). e.time) l) c.as_slice-rows.ensures.value))

pub returns-clause-reads : goal.returns-clause-reads
returns-clause-reads g c =
    let state = g.A.Archive.state in
    let node = c.args.report.now.node in
    timing-enough (λ (e : Entry). e.time) (state c.args.archive.now) (state c.loop.archive)
    (changes_left node c.args.pages) (changes_left node c.loop.pages) c.loop.times.items
    (omega (arith, c.loop.invariant.enough)) c.loop.invariant.so_far
