use Rattle.std.proofs.Common.{◌≡◌, ℕ, List, None, refl}
use Rattle.stamp.specs.Numbers.{number_of}
use Rattle.records.specs.Contents.{Content, vec}
use Rattle.history_report.proofs.DrawingLemmas.{drawing-of}
use Rattle.history_report.proofs.PageLemmas.{answered, unanswered}
use Rattle.history_report.proofs.PrintingLemmas.{not-asked, unheaded, rows-break, rows-end}
use Rattle.history_report.proofs.WalkLemmas.{shown-on, undrawn}
use Rattle.history_report.proofs.printing.print_report.Goals as goal

pub returns-in-Err-clause-prints : goal.returns-in-Err-clause-prints
returns-in-Err-clause-prints g c =
    let state = g.A.Archive.state in
    let t = state c.args.archive.now in
    not-asked c.args.report.now t (state c.vector.new.self)
    (g.W.Write.contents c.args.output.now.inner) c.in-Err.fault
    (unanswered t (state c.vector.new.self) c.in-Err.fault
    (λ (v : List ℕ). (o : ℕ) → number_of v o ≡ vec t.content o) c.in-Err.ensures.asks)

pub returns-in-Err-put_drawing-clause-prints : goal.returns-in-Err-put_drawing-clause-prints
returns-in-Err-put_drawing-clause-prints g c =
    let state = g.A.Archive.state in
    let t = state c.args.archive.now in
    let u = state c.vector.new.self in
    undrawn c.args.report.now t u (state c.put_drawing.new.archive) c.in-Ok.within
    (g.W.Write.contents c.args.output.now.inner) c.in-Err-put_drawing.fault
    (answered t u (λ (C : Content) (v : List ℕ). (o : ℕ) → number_of v o ≡ vec C o) c.in-Ok.within
    c.in-Ok.ensures.asks) c.in-Err-put_drawing.ensures.walks

pub returns-in-Err-send_header-clause-prints : goal.returns-in-Err-send_header-clause-prints
returns-in-Err-send_header-clause-prints g c =
    let state = g.A.Archive.state in
    let t = state c.args.archive.now in
    let u = state c.vector.new.self in
    let v = state c.put_drawing.new.archive in
    unheaded c.args.report.now t v v c.in-Ok.within
    (shown-on t u v c.in-Ok.within
    (answered t u (λ (C : Content) (v : List ℕ). (o : ℕ) → number_of v o ≡ vec C o) c.in-Ok.within
    c.in-Ok.ensures.asks) c.in-Ok-put_drawing.ensures.walks)
    (g.W.Write.contents c.args.output.now.inner) (g.W.Write.contents c.send_header.new.output.inner)
    c.in-Err-send_header.fault c.in-Err-send_header.ensures.sends

pub returns-clause-prints : goal.returns-clause-prints
returns-clause-prints g c =
    let state = g.A.Archive.state in
    let t = state c.args.archive.now in
    let u = state c.vector.new.self in
    let v = state c.put_drawing.new.archive in
    let head = c.in-Ok-send_header.ensures.sends in
    rows-break c.args.report.now t v (state c.print_rows.new.archive) c.in-Ok.within
    (shown-on t u v c.in-Ok.within
    (answered t u (λ (C : Content) (v : List ℕ). (o : ℕ) → number_of v o ≡ vec C o) c.in-Ok.within
    c.in-Ok.ensures.asks) c.in-Ok-put_drawing.ensures.walks)
    (g.W.Write.contents c.args.output.now.inner) (g.W.Write.contents c.send_header.new.output.inner)
    (record {
      within = c.put_drawing.new.pages.within;
      span = c.span_of-pages.result;
      after = None;
    }) c.put_drawing.ensures.same refl (λ time is. c.span_of-pages.ensures time is) head.0 head.1 head.2
    (g.W.Write.contents c.print_rows.new.output.inner) c.in-Err-print_rows.fault
    c.in-Err-print_rows.ensures.prints

pub returns-in-Ok-print_rows-clause-prints : goal.returns-in-Ok-print_rows-clause-prints
returns-in-Ok-print_rows-clause-prints g c =
    let state = g.A.Archive.state in
    let t = state c.args.archive.now in
    let u = state c.vector.new.self in
    let v = state c.put_drawing.new.archive in
    let head = c.in-Ok-send_header.ensures.sends in
    rows-end c.args.report.now t v (state c.print_rows.new.archive) c.in-Ok.within
    (shown-on t u v c.in-Ok.within
    (answered t u (λ (C : Content) (v : List ℕ). (o : ℕ) → number_of v o ≡ vec C o) c.in-Ok.within
    c.in-Ok.ensures.asks) c.in-Ok-put_drawing.ensures.walks)
    (g.W.Write.contents c.args.output.now.inner) (g.W.Write.contents c.send_header.new.output.inner)
    (record {
      within = c.put_drawing.new.pages.within;
      span = c.span_of-pages.result;
      after = None;
    }) c.put_drawing.ensures.same refl (λ time is. c.span_of-pages.ensures time is) head.0 head.1 head.2
    (g.W.Write.contents c.print_rows.new.output.inner)
    (g.W.Write.contents c.send_footer.new.output.inner) c.send_footer.result
    c.send_footer.ensures.sends c.in-Ok-print_rows.ensures.prints

pub send_header-requires : goal.send_header-requires
send_header-requires g c =
    drawing-of c.args.report.now c.new-drawing.result.items c.put_drawing.new.out.items
    c.as_slice.result.now c.new-drawing.ensures.items c.in-Ok-put_drawing.ensures.drawn
    c.as_slice.ensures.value
