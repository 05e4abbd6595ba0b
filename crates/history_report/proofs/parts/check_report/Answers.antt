use Rattle.std.proofs.Common.{◌≡◌, ℕ, List, None, refl}
use Rattle.stamp.specs.Numbers.{number_of}
use Rattle.records.specs.Contents.{Content, vec}
use Rattle.history_report.specs.Parts.{HasTextless}
use Rattle.history_report.proofs.PageLemmas.{answered, unanswered}
use Rattle.history_report.proofs.ReadingLemmas.{part-fails}
use Rattle.history_report.proofs.TextlessLemmas.{checked-changes, checked-values}
use Rattle.history_report.proofs.WalkLemmas.{stays-none}
use Rattle.history_report.proofs.parts.check_report.Goals as goal

pub returns-in-Err-clause-reads : goal.returns-in-Err-clause-reads
returns-in-Err-clause-reads g c =
    let state = g.A.Archive.state in
    let t = state c.args.archive.now in
    part-fails t t (state c.vector.new.self) c.in-Err.fault (λ R. ⊥)
    (λ R. HasTextless R c.args.report.now)
    (λ (done : Unit {0}) R. HasTextless R c.args.report.now → ⊥) (stays-none t)
    (unanswered t (state c.vector.new.self) c.in-Err.fault
    (λ (v : List ℕ). (o : ℕ) → number_of v o ≡ vec t.content o) c.in-Err.ensures.asks)

pub returns-then-report-clause-reads : goal.returns-then-report-clause-reads
returns-then-report-clause-reads g c =
    let state = g.A.Archive.state in
    let t = state c.args.archive.now in
    let u = state c.vector.new.self in
    checked-changes c.args.report.now
    (record { within = c.in-Ok.within; span = c.span_of.result; after = None }) t u
    (state c.check_rows.new.archive)
    (answered t u (λ (C : Content) (v : List ℕ). (o : ℕ) → number_of v o ≡ vec C o) c.in-Ok.within
    c.in-Ok.ensures.asks) (λ time is. c.span_of.ensures time is) c.check_rows.result
    c.if-report.true refl c.check_rows.ensures.reads

pub returns-else-report-clause-reads : goal.returns-else-report-clause-reads
returns-else-report-clause-reads g c =
    let state = g.A.Archive.state in
    let t = state c.args.archive.now in
    let u = state c.vector.new.self in
    checked-values c.args.report.now
    (record { within = c.in-Ok.within; span = c.span_of.result; after = None }) t u
    (state c.check_rows-else-report.new.archive)
    (answered t u (λ (C : Content) (v : List ℕ). (o : ℕ) → number_of v o ≡ vec C o) c.in-Ok.within
    c.in-Ok.ensures.asks) (λ time is. c.span_of.ensures time is) c.check_rows-else-report.result
    c.if-report.false c.check_rows-else-report.ensures.reads
