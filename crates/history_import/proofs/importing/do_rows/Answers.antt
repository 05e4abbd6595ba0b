use Rattle.std.proofs.Common.{◌≡◌, ◌∙◌, ℕ, ◌∷◌, Option, List, refl, ap}
use Rattle.history_csv.specs.Rows.{value_names}
use Rattle.history_import.specs.Telling.{with_one}
use Rattle.history_import.proofs.ImportingLemmas.{none-so-far, one-so-far, row-stops, text-ended, summary-stops, read-stops, too-many}
use Rattle.history_import.proofs.importing.do_rows.Goals as goal

pub loop-number-init : goal.loop-number-init
loop-number-init g c = record {
  settings = refl;
  faults = refl;
  imports = λ known stands. none-so-far g.R.Read.remaining known c.args.server.now.settings
      c.args.asked.now c.args.reader.now (g.A.Archive.state c.args.server.now.replica.archive)
      (g.W.Write.contents c.args.output.now.inner) c.no_rows-counts.result stands
      c.no_rows-counts.ensures;
}

pub loop-number-preserved : goal.loop-number-preserved
loop-number-preserved g c =
    let state = g.A.Archive.state in
    let contents = g.W.Write.contents in
    let now = c.loop-number in record {
      settings = c.do_next.ensures.settings ∙ now.invariant.settings;
      faults = c.in-Ok-tell_row.ensures.kept (λ e. absurd cc) ∙ now.invariant.faults;
      imports = λ known stands.
          let s = now.invariant.imports known stands in
          let d = rw c.in-Ok-Some.field-0-is at
          (c.in-Ok-Some.ensures.does known (value_names ∷ s.rows) s.stands) in
          one-so-far g.R.Read.remaining known c.args.server.now.settings c.args.asked.now
          now.reader c.do_next.new.reader (state c.args.server.now.replica.archive)
          (state now.server.replica.archive) (state c.do_next.new.server.replica.archive)
          (contents c.args.output.now.inner) (contents now.output.inner)
          (contents c.tell_row.new.output.inner) now.counts now.number s now.server.settings
          now.invariant.settings c.in-Ok-Some.end c.with_one-counts.result _ d
          c.in-Ok-tell_row.ensures.tells
          (c.with_one-counts.ensures ∙ ap (with_one now.counts) c.fate_of.ensures) refl;
    }

pub returns-in-Ok-clause-imports : goal.returns-in-Ok-clause-imports
returns-in-Ok-clause-imports g c = λ known stands.
    let state = g.A.Archive.state in
    let contents = g.W.Write.contents in
    let now = c.loop-number in
    let s = now.invariant.imports known stands in
    let d = rw c.in-Ok-None.field-0-is at
    (c.in-Ok-None.ensures.does known (value_names ∷ s.rows) s.stands) in
    text-ended g.R.Read.remaining known c.args.server.now.settings c.args.asked.now
    now.reader c.do_next.new.reader (state c.args.server.now.replica.archive)
    (state now.server.replica.archive) (state c.do_next.new.server.replica.archive)
    (contents c.args.output.now.inner) (contents now.output.inner)
    (contents c.tell_summary.new.output.inner) now.counts now.number s now.server.settings now.invariant.settings
    d c.in-Ok.ensures.tells

pub returns-in-Err-tell_summary-clause-imports : goal.returns-in-Err-tell_summary-clause-imports
returns-in-Err-tell_summary-clause-imports g c = λ known stands.
    let state = g.A.Archive.state in
    let contents = g.W.Write.contents in
    let now = c.loop-number in
    let s = now.invariant.imports known stands in
    let d = rw c.in-Ok-None.field-0-is at
    (c.in-Ok-None.ensures.does known (value_names ∷ s.rows) s.stands) in
    summary-stops g.R.Read.remaining known c.args.server.now.settings c.args.asked.now
    now.reader c.do_next.new.reader (state c.args.server.now.replica.archive)
    (state now.server.replica.archive) (state c.do_next.new.server.replica.archive)
    (contents c.args.output.now.inner) (contents now.output.inner)
    (contents c.tell_summary.new.output.inner) now.counts now.number s now.server.settings now.invariant.settings
    c.in-Err-tell_summary.fault d c.in-Err-tell_summary.ensures.tells

pub returns-in-Err-clause-imports : goal.returns-in-Err-clause-imports
returns-in-Err-clause-imports g c = λ known stands.
    let state = g.A.Archive.state in
    let contents = g.W.Write.contents in
    let now = c.loop-number in
    let s = now.invariant.imports known stands in
    read-stops g.R.Read.remaining known c.args.server.now.settings c.args.asked.now
    now.reader c.do_next.new.reader (state c.args.server.now.replica.archive)
    (state now.server.replica.archive) (state c.do_next.new.server.replica.archive)
    (contents c.args.output.now.inner) (contents now.output.inner)
    (contents now.output.inner) now.counts now.number s now.server.settings now.invariant.settings
    c.in-Err.fault (c.in-Err.ensures.does known (value_names ∷ s.rows) s.stands)

pub returns-in-Err-tell_row-clause-imports : goal.returns-in-Err-tell_row-clause-imports
returns-in-Err-tell_row-clause-imports g c = λ known stands.
    let state = g.A.Archive.state in
    let contents = g.W.Write.contents in
    let now = c.loop-number in
    let s = now.invariant.imports known stands in
    let d = rw c.in-Ok-Some.field-0-is at
    (c.in-Ok-Some.ensures.does known (value_names ∷ s.rows) s.stands) in
    row-stops g.R.Read.remaining known c.args.server.now.settings c.args.asked.now
    now.reader c.do_next.new.reader (state c.args.server.now.replica.archive)
    (state now.server.replica.archive) (state c.do_next.new.server.replica.archive)
    (contents c.args.output.now.inner) (contents now.output.inner)
    (contents c.tell_row.new.output.inner) now.counts now.number s now.server.settings now.invariant.settings
    c.in-Ok-Some.end c.in-Err-tell_row.fault d c.in-Err-tell_row.ensures.tells

pub returns-clause-imports : goal.returns-clause-imports
returns-clause-imports g c = λ known stands.
    let now = c.loop-number in
    too-many g.R.Read.remaining known c.args.server.now.settings c.args.asked.now now.reader
    (g.A.Archive.state c.args.server.now.replica.archive)
    (g.A.Archive.state now.server.replica.archive) (g.W.Write.contents c.args.output.now.inner)
    (g.W.Write.contents now.output.inner) now.counts now.number
    (now.invariant.imports known stands)
