use Rattle.std.proofs.Common.{◌≡◌, ℤ, Option, map, true}
use Rattle.records.specs.declared.shown.Held.{Held}
use Rattle.records.specs.declared.shown.Entry.{Entry}
use Rattle.history_report.specs.Reports.{values_asked, changes_asked}
use Rattle.history_report.specs.Parts.{part_up_to, AreCrowded, IsFirstPart, IsPartEnd}
use Rattle.history_report.proofs.PartLemmas.{values-first, changes-first}
use Rattle.history_report.proofs.ReadingLemmas.{part-as}
use Rattle.history_report.proofs.parts.end_of.Goals as goal

pub returns-then-report-clause-reads : goal.returns-then-report-clause-reads
returns-then-report-clause-reads g c =
    let state = g.A.Archive.state in
    let report = c.args.report.now in
    part-as (state c.args.archive.now) (state c.end_of_changes.new.archive)
    c.end_of_changes.result (λ R. AreCrowded (changes_asked R report))
    (λ R. (report.changes ≡ true) × AreCrowded (changes_asked R report)) (λ R. ⊥)
    (λ (end : Option ℤ) R. IsPartEnd (map (λ (e : Entry). e.time) (changes_asked R report)) end)
    (λ (end : Option ℤ) R. IsFirstPart R report (part_up_to report end))
    (λ R crowded. (c.if-report.true, crowded))
    (λ end R is. changes-first R report end c.if-report.true is) c.end_of_changes.ensures.reads

pub returns-else-report-clause-reads : goal.returns-else-report-clause-reads
returns-else-report-clause-reads g c =
    let state = g.A.Archive.state in
    let report = c.args.report.now in
    part-as (state c.args.archive.now) (state c.end_of_values.new.archive)
    c.end_of_values.result (λ R. ⊥)
    (λ R. (report.changes ≡ true) × AreCrowded (changes_asked R report)) (λ R. ⊥)
    (λ (end : Option ℤ) R. IsPartEnd (map (λ (h : Held). h.time) (values_asked R report)) end)
    (λ (end : Option ℤ) R. IsFirstPart R report (part_up_to report end))
    (λ R none. absurd none)
    (λ end R is. values-first R report end c.if-report.false is) c.end_of_values.ensures.reads
