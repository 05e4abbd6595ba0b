use Rattle.std.proofs.Common.{arith, List, sym, ◌∙◌, subst}
use Rattle.std.specs.Prelude.{Err, Ok}
use Rattle.records.specs.declared.shown.Held.{Held}
use Rattle.history_csv.specs.Rows.{IsTextless}
use Rattle.history_report.specs.Reports.{IsValueLine}
use Rattle.history_report.specs.Paging.{values_left, SendsLines}
use Rattle.history_report.proofs.PrintingLemmas.{failed, ended, stopped, goes-on, endless, no-items}
use Rattle.history_report.proofs.printing.print_values.Goals as goal

pub returns-in-Err-clause-prints : goal.returns-in-Err-clause-prints
returns-in-Err-clause-prints g c =
    let state = g.A.Archive.state in
    let report = c.args.report.now in
    let now = g.W.Write.contents c.loop.output.inner in
    failed (IsValueLine report) (λ (h : Held). IsTextless h.value.value)
    (state c.args.archive.now) (state c.loop.archive) (state c.next_values.new.archive)
    (values_left report.node c.args.pages) (values_left report.node c.loop.pages)
    (g.W.Write.contents c.args.output.now.inner) now now c.loop.invariant.so_far c.in-Err.fault
    c.in-Err.ensures.pages

pub returns-then-is_empty-clause-prints : goal.returns-then-is_empty-clause-prints
returns-then-is_empty-clause-prints g c =
    let state = g.A.Archive.state in
    let report = c.args.report.now in
    let now = g.W.Write.contents c.loop.output.inner in
    ended (IsValueLine report) (λ (h : Held). IsTextless h.value.value)
    (state c.args.archive.now) (state c.loop.archive) (state c.next_values.new.archive)
    (values_left report.node c.args.pages) (values_left report.node c.loop.pages)
    (g.W.Write.contents c.args.output.now.inner) now now c.loop.invariant.so_far
    c.in-Ok.page.items (values_left report.node c.next_values.new.pages) c.in-Ok.ensures.pages
    (sym c.as_slice-rows.ensures.value
    ∙ no-items c.as_slice-rows.result.now (sym c.if-is_empty.ensures))

pub returns-in-Err-send_rows-clause-prints : goal.returns-in-Err-send_rows-clause-prints
returns-in-Err-send_rows-clause-prints g c =
    let state = g.A.Archive.state in
    let report = c.args.report.now in
    let now = g.W.Write.contents c.loop.output.inner in
    let after = g.W.Write.contents c.send_rows.new.output.inner in
    stopped (IsValueLine report) (λ (h : Held). IsTextless h.value.value)
    (state c.args.archive.now) (state c.loop.archive) (state c.next_values.new.archive)
    (values_left report.node c.args.pages) (values_left report.node c.loop.pages)
    (g.W.Write.contents c.args.output.now.inner) now after c.loop.invariant.so_far
    c.in-Ok.page.items (values_left report.node c.next_values.new.pages) c.in-Ok.ensures.pages
    c.in-Err-send_rows.fault
    (subst (λ (l : List Held). SendsLines (IsValueLine report)
    (λ (h : Held). IsTextless h.value.value) l now after (Err c.in-Err-send_rows.fault))
    c.as_slice-rows.ensures.value c.in-Err-send_rows.ensures.sends)

pub loop-preserved : goal.loop-preserved
loop-preserved g c =
    let state = g.A.Archive.state in
    let report = c.args.report.now in
    let now = g.W.Write.contents c.loop.output.inner in
    let after = g.W.Write.contents c.send_rows.new.output.inner in
    record {
      so_far = goes-on (IsValueLine report) (λ (h : Held). IsTextless h.value.value)
          (state c.args.archive.now) (state c.loop.archive) (state c.next_values.new.archive)
          (values_left report.node c.args.pages) (values_left report.node c.loop.pages)
          (g.W.Write.contents c.args.output.now.inner) now after c.loop.invariant.so_far
          c.in-Ok.page.items (values_left report.node c.next_values.new.pages) c.in-Ok.ensures.pages
          (subst (λ (l : List Held). SendsLines (IsValueLine report)
          (λ (h : Held). IsTextless h.value.value) l now after (Ok tt))
          c.as_slice-rows.ensures.value c.in-Ok-send_rows.ensures.sends);
      faults = c.in-Ok-send_rows.ensures.kept (λ e. absurd cc) ∙ c.loop.invariant.faults;
      asked = omega (arith, c.loop.invariant.asked, c.in-Ok.ensures.asked);
    }

pub returns-clause-prints : goal.returns-clause-prints
returns-clause-prints g c =
    let state = g.A.Archive.state in
    let report = c.args.report.now in
    let now = g.W.Write.contents c.loop.output.inner in
    endless (IsValueLine report) (λ (h : Held). IsTextless h.value.value)
    (state c.args.archive.now) (state c.loop.archive) (state c.loop.archive)
    (values_left report.node c.args.pages) (values_left report.node c.loop.pages)
    (g.W.Write.contents c.args.output.now.inner) now now c.loop.invariant.so_far
