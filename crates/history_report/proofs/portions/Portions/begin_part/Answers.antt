use Rattle.std.proofs.Common.{◌≡◌, ℤ, Option, Err, Ok, true, ap, subst, sym}
use Rattle.history_report.specs.declared.fault.ReportFault.{ReportFault}
use Rattle.history_report.specs.declared.report.Report.{Report}
use Rattle.history_report.specs.Reports.{ReadsFor, changes_asked}
use Rattle.history_report.specs.Parts.{part_up_to, AreCrowded, HasTextless, IsFirstPart, PartHasTextless}
use Rattle.history_report.specs.Portions.{BeginsPart, Remainder}
use Rattle.history_report.proofs.ReadingLemmas.{IsChecked, part-begun, part-checked, part-ends, part-stopped, part-then, part-unbegun}
use Rattle.history_report.proofs.portions.Portions.begin_part.Goals as goal

pub returns-in-Err-clause-begins : goal.returns-in-Err-clause-begins
returns-in-Err-clause-begins g c =
    let state = g.A.Archive.state in
    let report = c.args.report in
    let old = c.args.out.now.items in
    part-ends (state c.args.archive.now) (state c.end_of.new.archive) c.in-Err.fault
    (λ R. (report.changes ≡ true) × AreCrowded (changes_asked R report))
    (λ R. PartHasTextless R report)
    (λ (end : Option ℤ) R. IsFirstPart R report (part_up_to report end))
    (λ (left : Remainder) R. BeginsPart report left R old old) c.in-Err.ensures.reads

pub returns-in-Err-check_report-clause-begins : goal.returns-in-Err-check_report-clause-begins
returns-in-Err-check_report-clause-begins g c =
    let state = g.A.Archive.state in
    let report = c.args.report in
    let end = c.in-Ok.end in
    let old = c.args.out.now.items in
    let part = c.part_up_to-part.result in
    let fault = c.in-Err-check_report.fault in
    let t = state c.end_of.new.archive in
    let u = state c.check_report.new.archive in
    part-then (state c.args.archive.now) t u (Err fault)
    (λ R. IsFirstPart R report (part_up_to report end))
    (λ R. (report.changes ≡ true) × AreCrowded (changes_asked R report))
    (λ R. HasTextless R part) (λ R. PartHasTextless R report)
    (λ (left : Remainder) R. BeginsPart report left R old old)
    (λ (left : Remainder) R. BeginsPart report left R old old) (λ left R first begins. begins)
    (λ R first lacks. (
      part_up_to report end,
      first,
      subst (λ (p : Report). HasTextless R p) c.part_up_to-part.ensures lacks,
    )) c.in-Ok.ensures.reads
    (part-stopped t u fault (λ R. ⊥) (λ R. HasTextless R part)
    (λ (done : Unit {0}) R. HasTextless R part → ⊥)
    (λ (left : Remainder) R. BeginsPart report left R old old) c.in-Err-check_report.ensures.reads)

pub returns-in-Ok-begin-clause-begins : goal.returns-in-Ok-begin-clause-begins
returns-in-Ok-begin-clause-begins g c =
    let state = g.A.Archive.state in
    let report = c.args.report in
    let part = c.part_up_to-part.result in
    let s = state c.args.archive.now in
    let t = state c.end_of.new.archive in
    let u = state c.check_report.new.archive in
    part-begun report part c.in-Ok-begin.portions c.args.out.now.items c.begin.new.out.items s u
    (state c.begin.new.archive)
    (part-checked report part s t u
    (subst (λ (p : Report). ReadsFor s t (Ok tt) (λ R. IsFirstPart R report p))
    (sym c.part_up_to-part.ensures) c.in-Ok.ensures.reads) c.in-Ok-check_report.ensures.reads)
    c.in-Ok-begin.ensures.begins c.in-Ok-begin.ensures.header

pub returns-in-Err-begin-clause-begins : goal.returns-in-Err-begin-clause-begins
returns-in-Err-begin-clause-begins g c =
    let state = g.A.Archive.state in
    let report = c.args.report in
    let part = c.part_up_to-part.result in
    let new = c.begin.new.out.items in
    let s = state c.args.archive.now in
    let t = state c.end_of.new.archive in
    let u = state c.check_report.new.archive in
    part-unbegun part s u c.in-Err-begin.fault
    (λ R. (report.changes ≡ true) × AreCrowded (changes_asked R report))
    (λ R. PartHasTextless R report)
    (IsChecked report part)
    (λ (left : Remainder) R. BeginsPart report left R c.args.out.now.items new)
    (λ e. c.in-Err-begin.ensures.own (ap (λ (w : ReportFault). Err w) e))
    (part-checked report part s t u
    (subst (λ (p : Report). ReadsFor s t (Ok tt) (λ R. IsFirstPart R report p))
    (sym c.part_up_to-part.ensures) c.in-Ok.ensures.reads) c.in-Ok-check_report.ensures.reads)
    (state c.begin.new.archive) c.in-Err-begin.ensures.begins
