use Rattle.std.proofs.Common.{arith, List, sym, ◌∙◌, subst}
use Rattle.std.specs.Prelude.{Err, Ok}
use Rattle.records.specs.declared.shown.Entry.{Entry}
use Rattle.history_csv.specs.Rows.{ShowsTextless}
use Rattle.history_report.specs.Reports.{IsChangeLine}
use Rattle.history_report.specs.Paging.{changes_left, SendsLines}
use Rattle.history_report.proofs.PrintingLemmas.{failed, ended, stopped, goes-on, endless, no-items}
use Rattle.history_report.proofs.printing.print_changes.Goals as goal

pub returns-in-Err-clause-prints : goal.returns-in-Err-clause-prints
returns-in-Err-clause-prints g c =
    let state = g.A.Archive.state in
    let report = c.args.report.now in
    let now = g.W.Write.contents c.loop.output.inner in
    failed (IsChangeLine report) (λ (e : Entry). ShowsTextless e.value)
    (state c.args.archive.now) (state c.loop.archive) (state c.next_changes.new.archive)
    (changes_left report.node c.args.pages) (changes_left report.node c.loop.pages)
    (g.W.Write.contents c.args.output.now.inner) now now c.loop.invariant.so_far c.in-Err.fault
    c.in-Err.ensures.pages

pub returns-then-is_empty-clause-prints : goal.returns-then-is_empty-clause-prints
returns-then-is_empty-clause-prints g c =
    let state = g.A.Archive.state in
    let report = c.args.report.now in
    let now = g.W.Write.contents c.loop.output.inner in
    ended (IsChangeLine report) (λ (e : Entry). ShowsTextless e.value)
    (state c.args.archive.now) (state c.loop.archive) (state c.next_changes.new.archive)
    (changes_left report.node c.args.pages) (changes_left report.node c.loop.pages)
    (g.W.Write.contents c.args.output.now.inner) now now c.loop.invariant.so_far
    c.in-Ok.page.items (changes_left report.node c.next_changes.new.pages) c.in-Ok.ensures.pages
    (sym c.as_slice-rows.ensures.value
    ∙ no-items c.as_slice-rows.result.now (sym c.if-is_empty.ensures))

pub returns-in-Err-send_rows-clause-prints : goal.returns-in-Err-send_rows-clause-prints
returns-in-Err-send_rows-clause-prints g c =
    let state = g.A.Archive.state in
    let report = c.args.report.now in
    let now = g.W.Write.contents c.loop.output.inner in
    let after = g.W.Write.contents c.send_rows.new.output.inner in
    stopped (IsChangeLine report) (λ (e : Entry). ShowsTextless e.value)
    (state c.args.archive.now) (state c.loop.archive) (state c.next_changes.new.archive)
    (changes_left report.node c.args.pages) (changes_left report.node c.loop.pages)
    (g.W.Write.contents c.args.output.now.inner) now after c.loop.invariant.so_far
    c.in-Ok.page.items (changes_left report.node c.next_changes.new.pages) c.in-Ok.ensures.pages
    c.in-Err-send_rows.fault
    (subst (λ (l : List Entry). SendsLines (IsChangeLine report)
    (λ (e : Entry). ShowsTextless e.value) l now after (Err c.in-Err-send_rows.fault))
    c.as_slice-rows.ensures.value c.in-Err-send_rows.ensures.sends)

pub loop-preserved : goal.loop-preserved
loop-preserved g c =
    let state = g.A.Archive.state in
    let report = c.args.report.now in
    let now = g.W.Write.contents c.loop.output.inner in
    let after = g.W.Write.contents c.send_rows.new.output.inner in
    record {
      so_far = goes-on (IsChangeLine report) (λ (e : Entry). ShowsTextless e.value)
          (state c.args.archive.now) (state c.loop.archive) (state c.next_changes.new.archive)
          (changes_left report.node c.args.pages) (changes_left report.node c.loop.pages)
          (g.W.Write.contents c.args.output.now.inner) now after c.loop.invariant.so_far
          c.in-Ok.page.items (changes_left report.node c.next_changes.new.pages) c.in-Ok.ensures.pages
          (subst (λ (l : List Entry). SendsLines (IsChangeLine report)
          (λ (e : Entry). ShowsTextless e.value) l now after (Ok tt))
          c.as_slice-rows.ensures.value c.in-Ok-send_rows.ensures.sends);
      faults = c.in-Ok-send_rows.ensures.kept (λ e. absurd cc) ∙ c.loop.invariant.faults;
      asked = omega (arith, c.loop.invariant.asked, c.in-Ok.ensures.asked);
    }

pub returns-clause-prints : goal.returns-clause-prints
returns-clause-prints g c =
    let state = g.A.Archive.state in
    let report = c.args.report.now in
    let now = g.W.Write.contents c.loop.output.inner in
    endless (IsChangeLine report) (λ (e : Entry). ShowsTextless e.value)
    (state c.args.archive.now) (state c.loop.archive) (state c.loop.archive)
    (changes_left report.node c.args.pages) (changes_left report.node c.loop.pages)
    (g.W.Write.contents c.args.output.now.inner) now now c.loop.invariant.so_far
