use Rattle.std.proofs.Common.{◌≡◌, ℕ, ℤ, List, None, Ok, Option, Vec, Global, map, slice_get, ap, ◌∙◌}
use Rattle.stamp.specs.Numbers.{number_of}
use Rattle.records.specs.Contents.{Content, vec}
use Rattle.records.specs.declared.shown.Held.{Held}
use Rattle.history_report.specs.declared.pages.Pages.{Pages}
use Rattle.history_report.specs.Reports.{values_asked}
use Rattle.history_report.specs.Paging.{values_left}
use Rattle.history_report.specs.Parts.{AreFirstTimes, IsPartEnd}
use Rattle.history_report.proofs.PageLemmas.{answered, unanswered}
use Rattle.history_report.proofs.PartLemmas.{values-end}
use Rattle.history_report.proofs.PortionLemmas.{shown-stays}
use Rattle.history_report.proofs.ReadingLemmas.{part-behind, part-fails, reads-as, seen-values}
use Rattle.history_report.proofs.WalkLemmas.{stays-none}
use Rattle.history_report.proofs.parts.end_of_values.Goals as goal

pub returns-in-Err-clause-reads : goal.returns-in-Err-clause-reads
returns-in-Err-clause-reads g c =
    let state = g.A.Archive.state in
    let t = state c.args.archive.now in
    part-fails t t (state c.vector.new.self) c.in-Err.fault (λ R. ⊥) (λ R. ⊥)
    (λ (end : Option ℤ) R. IsPartEnd
    (map (λ (h : Held). h.time) (values_asked R c.args.report.now)) end)
    (stays-none t)
    (unanswered t (state c.vector.new.self) c.in-Err.fault
    (λ (v : List ℕ). (o : ℕ) → number_of v o ≡ vec t.content o) c.in-Err.ensures.asks)

pub returns-in-Err-value_times-clause-reads : goal.returns-in-Err-value_times-clause-reads
returns-in-Err-value_times-clause-reads g c =
    let state = g.A.Archive.state in
    let t = state c.args.archive.now in
    let u = state c.vector.new.self in
    let w = state c.value_times.new.archive in
    let report = c.args.report.now in
    let pages : Pages =
    record { within = c.in-Ok.within; span = c.span_of.result; after = None } in
    part-behind t u w c.in-Err-value_times.fault (λ R. ⊥) (λ R. ⊥)
    (λ (times : Vec ℤ Global) R. AreFirstTimes
    (map (λ (h : Held). h.time) (values_left report.node pages R)) times.items)
    (λ (end : Option ℤ) R. IsPartEnd (map (λ (h : Held). h.time) (values_asked R report)) end)
    (shown-stays t u c.in-Ok.within
    (answered t u (λ (C : Content) (v : List ℕ). (o : ℕ) → number_of v o ≡ vec C o) c.in-Ok.within
    c.in-Ok.ensures.asks))
    c.in-Err-value_times.ensures.reads

pub returns-in-Ok-value_times-clause-reads : goal.returns-in-Ok-value_times-clause-reads
returns-in-Ok-value_times-clause-reads g c =
    let state = g.A.Archive.state in
    let t = state c.args.archive.now in
    let u = state c.vector.new.self in
    let w = state c.value_times.new.archive in
    let report = c.args.report.now in
    let pages : Pages =
    record { within = c.in-Ok.within; span = c.span_of.result; after = None } in
    let times = c.in-Ok-value_times.times.items in
    let end = c.time_at.result in
    reads-as t w (Ok tt)
    (λ R. AreFirstTimes (map (λ (h : Held). h.time) (values_asked R report)) times)
    (λ R. IsPartEnd (map (λ (h : Held). h.time) (values_asked R report)) end)
    (λ R is. values-end R report times end is (c.time_at.ensures
    ∙ ap (λ (l : List ℤ). slice_get l 500) c.as_slice.ensures.value))
    (seen-values report pages times t u w
    (answered t u (λ (C : Content) (v : List ℕ). (o : ℕ) → number_of v o ≡ vec C o) c.in-Ok.within
    c.in-Ok.ensures.asks)
    (λ time is. c.span_of.ensures time is) c.in-Ok-value_times.ensures.reads)
