use Rattle.std.proofs.Common.{◌≡◌, ℕ, List, None, refl, sym, subst}
use Rattle.stamp.specs.Numbers.{number_of}
use Rattle.records.specs.Contents.{Content, vec}
use Rattle.history_report.proofs.DrawingLemmas.{drawing-of}
use Rattle.history_report.proofs.PageLemmas.{answered, unanswered}
use Rattle.history_report.proofs.PortionLemmas.{begun-whole, shown-stays}
use Rattle.history_report.proofs.PrintingLemmas.{AreShown}
use Rattle.history_report.proofs.WalkLemmas.{Stops, shown-on, stays-none, stops-then, walk-fails, walk-stops}
use Rattle.history_report.proofs.portions.Portions.begin.Goals as goal

pub returns-in-Err-clause-begins : goal.returns-in-Err-clause-begins
returns-in-Err-clause-begins g c =
    let state = g.A.Archive.state in
    let t = state c.args.archive.now in
    let u = state c.vector.new.self in
    walk-fails t t u c.in-Err.fault (stays-none t)
    (unanswered t u c.in-Err.fault (λ (v : List ℕ). (o : ℕ) → number_of v o ≡ vec t.content o)
    c.in-Err.ensures.asks)

pub returns-in-Err-put_drawing-clause-begins : goal.returns-in-Err-put_drawing-clause-begins
returns-in-Err-put_drawing-clause-begins g c =
    let state = g.A.Archive.state in
    let t = state c.args.archive.now in
    let u = state c.vector.new.self in
    stops-then t u (state c.put_drawing.new.archive) c.in-Err-put_drawing.fault
    (shown-stays t u c.in-Ok.within
    (answered t u (λ (C : Content) (v : List ℕ). (o : ℕ) → number_of v o ≡ vec C o) c.in-Ok.within
    c.in-Ok.ensures.asks)) c.in-Err-put_drawing.ensures.walks

pub returns-in-Ok-append_header-clause-begins : goal.returns-in-Ok-append_header-clause-begins
returns-in-Ok-append_header-clause-begins g c =
    let state = g.A.Archive.state in
    let t = state c.args.archive.now in
    let u = state c.vector.new.self in
    let v = state c.put_drawing.new.archive in
    let within = c.put_drawing.new.pages.within in
    begun-whole c.args.report
    (record { within = within; span = c.span_of-pages.result; after = None }) t v
    (subst (λ (w : List ℕ). AreShown t v w) (sym c.put_drawing.ensures.same)
    (shown-on t u v c.in-Ok.within
    (answered t u (λ (C : Content) (v : List ℕ). (o : ℕ) → number_of v o ≡ vec C o) c.in-Ok.within
    c.in-Ok.ensures.asks) c.in-Ok-put_drawing.ensures.walks)) refl
    (λ time is. c.span_of-pages.ensures time is)

pub returns-in-Err-append_header-clause-begins : goal.returns-in-Err-append_header-clause-begins
returns-in-Err-append_header-clause-begins g c =
    let state = g.A.Archive.state in
    let t = state c.args.archive.now in
    let u = state c.vector.new.self in
    let v = state c.put_drawing.new.archive in
    subst (Stops t v) (sym c.in-Err-append_header.ensures.why)
    (walk-stops t v (shown-stays t v c.in-Ok.within
    (shown-on t u v c.in-Ok.within
    (answered t u (λ (C : Content) (v : List ℕ). (o : ℕ) → number_of v o ≡ vec C o) c.in-Ok.within
    c.in-Ok.ensures.asks) c.in-Ok-put_drawing.ensures.walks)))

pub append_header-requires : goal.append_header-requires
append_header-requires g c =
    drawing-of c.args.report c.new-drawing.result.items c.put_drawing.new.out.items
    c.as_slice.result.now c.new-drawing.ensures.items c.in-Ok-put_drawing.ensures.drawn
    c.as_slice.ensures.value
