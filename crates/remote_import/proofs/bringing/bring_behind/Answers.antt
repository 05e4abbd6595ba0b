use Rattle.std.proofs.Common.{◌∙◌, ◌∷◌, refl, ap}
use Rattle.std.proofs.lemmas.Result.{err_from_is_err_and}
use Rattle.history_csv.specs.Rows.{value_names}
use Rattle.history_import.specs.Telling.{with_one}
use Rattle.remote_import.specs.Bringing.{state_of}
use Rattle.remote_import.proofs.Ends.{none-so-far, one-so-far, row-stops, text-ended, summary-stops, next-stops, too-many}
use Rattle.remote_import.proofs.bringing.bring_behind.Goals as goal

pub loop-number-init : goal.loop-number-init
loop-number-init g c = record {
  faults = refl;
  imports = λ known stands. none-so-far g.F.Read.remaining known c.args.settings.now
      c.args.asked.now c.args.reader.now
      (state_of g.R.Read.remaining g.W.Write.contents c.args.session.now)
      (g.O.Write.contents c.args.output.now.inner) c.no_rows-counts.result stands
      c.no_rows-counts.ensures;
}

pub loop-number-preserved : goal.loop-number-preserved
loop-number-preserved g c =
    let R = g.R.Read.remaining in
    let W = g.W.Write.contents in
    let O = g.O.Write.contents in
    let now = c.loop-number in record {
      faults = c.in_ok-tell_row.ensures.kept (λ e. absurd cc) ∙ now.invariant.faults;
      imports = λ known stands.
          let s = now.invariant.imports known stands in
          let d = rw c.in-Some.is at
          (c.in_ok-end.ensures.brings known (value_names ∷ s.rows) s.stands) in
          one-so-far g.F.Read.remaining known c.args.settings.now c.args.asked.now now.reader
          c.bring_next.new.reader (state_of R W c.args.session.now) (state_of R W now.session)
          (state_of R W c.bring_next.new.session) (O c.args.output.now.inner)
          (O now.output.inner) (O c.tell_row.new.output.inner) now.counts now.number s
          c.in-Some.end c.with_one-counts.result _ d c.in_ok-tell_row.ensures.tells
          (c.with_one-counts.ensures ∙ ap (with_one now.counts) c.fate_of.ensures) refl;
    }

pub returns-in_err-end-clause-imports : goal.returns-in_err-end-clause-imports
returns-in_err-end-clause-imports g c = λ known stands.
    let R = g.R.Read.remaining in
    let W = g.W.Write.contents in
    let O = g.O.Write.contents in
    let now = c.loop-number in
    let s = now.invariant.imports known stands in
    let p = err_from_is_err_and c.from_residual.result c.from_residual.ensures.1 in
    rw (p.1, p.2) (next-stops g.F.Read.remaining known c.args.settings.now c.args.asked.now
    now.reader c.bring_next.new.reader (state_of R W c.args.session.now)
    (state_of R W now.session) (state_of R W c.bring_next.new.session)
    (O c.args.output.now.inner) (O now.output.inner) (O now.output.inner) now.counts now.number s
    c.in_err-end.field-0.0 (c.in_err-end.ensures.brings known (value_names ∷ s.rows) s.stands))

pub returns-in_err-tell_summary-clause-imports : goal.returns-in_err-tell_summary-clause-imports
returns-in_err-tell_summary-clause-imports g c = λ known stands.
    let R = g.R.Read.remaining in
    let W = g.W.Write.contents in
    let O = g.O.Write.contents in
    let now = c.loop-number in
    let s = now.invariant.imports known stands in
    let d = rw c.in_default.is at
    (c.in_ok-end.ensures.brings known (value_names ∷ s.rows) s.stands) in
    let p = err_from_is_err_and c.from_residual-in_err-tell_summary.result
    c.from_residual-in_err-tell_summary.ensures.1 in
    rw (p.1, p.2) (summary-stops g.F.Read.remaining known c.args.settings.now c.args.asked.now
    now.reader c.bring_next.new.reader (state_of R W c.args.session.now)
    (state_of R W now.session) (state_of R W c.bring_next.new.session)
    (O c.args.output.now.inner) (O now.output.inner) (O c.tell_summary.new.output.inner)
    now.counts now.number s c.in_err-tell_summary.field-0.0 d
    c.in_err-tell_summary.ensures.tells)

pub returns-in_default-clause-imports : goal.returns-in_default-clause-imports
returns-in_default-clause-imports g c = λ known stands.
    let R = g.R.Read.remaining in
    let W = g.W.Write.contents in
    let O = g.O.Write.contents in
    let now = c.loop-number in
    let s = now.invariant.imports known stands in
    let d = rw c.in_default.is at
    (c.in_ok-end.ensures.brings known (value_names ∷ s.rows) s.stands) in
    text-ended g.F.Read.remaining known c.args.settings.now c.args.asked.now now.reader
    c.bring_next.new.reader (state_of R W c.args.session.now) (state_of R W now.session)
    (state_of R W c.bring_next.new.session) (O c.args.output.now.inner) (O now.output.inner)
    (O c.tell_summary.new.output.inner) now.counts now.number s d
    c.in_ok-tell_summary.ensures.tells

pub returns-in_err-tell_row-clause-imports : goal.returns-in_err-tell_row-clause-imports
returns-in_err-tell_row-clause-imports g c = λ known stands.
    let R = g.R.Read.remaining in
    let W = g.W.Write.contents in
    let O = g.O.Write.contents in
    let now = c.loop-number in
    let s = now.invariant.imports known stands in
    let d = rw c.in-Some.is at
    (c.in_ok-end.ensures.brings known (value_names ∷ s.rows) s.stands) in
    let p = err_from_is_err_and c.from_residual-in_err-tell_row.result
    c.from_residual-in_err-tell_row.ensures.1 in
    rw (p.1, p.2) (row-stops g.F.Read.remaining known c.args.settings.now c.args.asked.now
    now.reader c.bring_next.new.reader (state_of R W c.args.session.now)
    (state_of R W now.session) (state_of R W c.bring_next.new.session)
    (O c.args.output.now.inner) (O now.output.inner) (O c.tell_row.new.output.inner) now.counts
    now.number s c.in-Some.end c.in_err-tell_row.field-0.0 d c.in_err-tell_row.ensures.tells)

pub returns-clause-imports : goal.returns-clause-imports
returns-clause-imports g c = λ known stands.
    let R = g.R.Read.remaining in
    let W = g.W.Write.contents in
    let now = c.loop-number in
    too-many g.F.Read.remaining known c.args.settings.now c.args.asked.now now.reader
    (state_of R W c.args.session.now) (state_of R W now.session)
    (g.O.Write.contents c.args.output.now.inner) (g.O.Write.contents now.output.inner) now.counts
    now.number (now.invariant.imports known stands)
