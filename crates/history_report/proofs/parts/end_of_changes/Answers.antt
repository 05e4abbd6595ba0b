use Rattle.std.proofs.Common.{◌≡◌, ℕ, ℤ, List, None, Ok, Option, Vec, Global, map, slice_get, refl, ap, ◌∙◌}
use Rattle.stamp.specs.Numbers.{number_of}
use Rattle.records.specs.Contents.{Content, vec}
use Rattle.records.specs.declared.shown.Entry.{Entry}
use Rattle.history_report.specs.declared.pages.Pages.{Pages}
use Rattle.history_report.specs.Reports.{changes_asked}
use Rattle.history_report.specs.Paging.{changes_left}
use Rattle.history_report.specs.Parts.{AreCrowded, AreFirstTimes, IsPartEnd, end_between}
use Rattle.history_report.proofs.PageLemmas.{answered, unanswered}
use Rattle.history_report.proofs.PartLemmas.{EndsChanges, changes-end}
use Rattle.history_report.proofs.PortionLemmas.{shown-stays}
use Rattle.history_report.proofs.ReadingLemmas.{part-behind, part-fails, reads-as, seen-changes, ends-changes}
use Rattle.history_report.proofs.WalkLemmas.{stays-none}
use Rattle.history_report.proofs.parts.end_of_changes.Goals as goal

pub returns-in-Err-clause-reads : goal.returns-in-Err-clause-reads
returns-in-Err-clause-reads g c =
    let state = g.A.Archive.state in
    let t = state c.args.archive.now in
    part-fails t t (state c.vector.new.self) c.in-Err.fault
    (λ R. AreCrowded (changes_asked R c.args.report.now)) (λ R. ⊥)
    (λ (end : Option ℤ) R. IsPartEnd
    (map (λ (e : Entry). e.time) (changes_asked R c.args.report.now)) end)
    (stays-none t)
    (unanswered t (state c.vector.new.self) c.in-Err.fault
    (λ (v : List ℕ). (o : ℕ) → number_of v o ≡ vec t.content o) c.in-Err.ensures.asks)

pub returns-in-Err-change_times-clause-reads : goal.returns-in-Err-change_times-clause-reads
returns-in-Err-change_times-clause-reads g c =
    let state = g.A.Archive.state in
    let t = state c.args.archive.now in
    let u = state c.vector.new.self in
    let w = state c.change_times.new.archive in
    let report = c.args.report.now in
    let pages : Pages =
    record { within = c.in-Ok.within; span = c.span_of.result; after = None } in
    part-behind t u w c.in-Err-change_times.fault (λ R. AreCrowded (changes_asked R report)) (λ R. ⊥)
    (λ (times : Vec ℤ Global) R. AreFirstTimes
    (map (λ (e : Entry). e.time) (changes_left report.node pages R)) times.items)
    (λ (end : Option ℤ) R. IsPartEnd (map (λ (e : Entry). e.time) (changes_asked R report)) end)
    (shown-stays t u c.in-Ok.within
    (answered t u (λ (C : Content) (v : List ℕ). (o : ℕ) → number_of v o ≡ vec C o) c.in-Ok.within
    c.in-Ok.ensures.asks))
    c.in-Err-change_times.ensures.reads

pub returns-clause-reads : goal.returns-clause-reads
returns-clause-reads g c =
    let state = g.A.Archive.state in
    let t = state c.args.archive.now in
    let u = state c.vector.new.self in
    let w = state c.change_times.new.archive in
    let report = c.args.report.now in
    let pages : Pages =
    record { within = c.in-Ok.within; span = c.span_of.result; after = None } in
    let times = c.in-Ok-change_times.times.items in
    let result = c.end_between.result in
    let ends : result ≡ end_between (slice_get times 0) (slice_get times 500) =
    c.end_between.ensures
    ∙ (ap (λ (o : Option ℤ). end_between o c.time_at-2.result) (c.time_at.ensures
    ∙ ap (λ (l : List ℤ). slice_get l 0) c.as_slice-times.ensures.value)
    ∙ ap (λ (o : Option ℤ). end_between (slice_get times 0) o) (c.time_at-2.ensures
    ∙ ap (λ (l : List ℤ). slice_get l 500) c.as_slice-times.ensures.value)) in
    ends-changes report t w result (slice_get times 0) (slice_get times 500) ends
    (reads-as t w (Ok tt)
    (λ R. AreFirstTimes (map (λ (e : Entry). e.time) (changes_asked R report)) times)
    (λ R. EndsChanges (changes_asked R report) result)
    (λ R is. changes-end R report times result is ends)
    (seen-changes report pages times t u w
    (answered t u (λ (C : Content) (v : List ℕ). (o : ℕ) → number_of v o ≡ vec C o) c.in-Ok.within
    c.in-Ok.ensures.asks)
    (λ time is. c.span_of.ensures time is) refl c.in-Ok-change_times.ensures.reads))
