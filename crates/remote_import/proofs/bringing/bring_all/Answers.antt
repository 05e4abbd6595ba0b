use Rattle.std.proofs.Common.{ℕ, List, Option}
use Rattle.std.proofs.lemmas.Result.{err_from_is_err_and}
use Rattle.history_import.specs.declared.input.Lent.{Lent}
use Rattle.remote_import.specs.Bringing.{state_of}
use Rattle.remote_import.proofs.Ends.{header-stops}
use Rattle.remote_import.proofs.bringing.bring_all.Goals as goal

pub returns-in_err-read_header-clause-imports : goal.returns-in_err-read_header-clause-imports
returns-in_err-read_header-clause-imports g c =
    let rem : Lent g.row.F.Denot → Option (List ℕ) = λ lent. g.F.Read.remaining lent.input.now.inner
    in
    let known = g.F.Read.remaining c.args.input.now.inner in
    let p = err_from_is_err_and c.from_residual.result c.from_residual.ensures.1 in
    rw (p.1, p.2) (header-stops rem known c.args.settings.now c.args.asked.now
    c.read_header.new.reader
    (state_of g.R.Read.remaining g.W.Write.contents c.args.session.now)
    (g.O.Write.contents c.args.output.now.inner) c.in_err-read_header.field-0.0
    (c.in_err-read_header.ensures.reads known c.rows_in-reader.ensures))

pub returns-clause-imports : goal.returns-clause-imports
returns-clause-imports g c =
    let known = g.F.Read.remaining c.args.input.now.inner in
    c.bring_behind.ensures.imports known
    (c.in_ok-read_header.ensures.reads known c.rows_in-reader.ensures)
