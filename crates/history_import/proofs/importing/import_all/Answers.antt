use Rattle.std.proofs.Common.{◌≡◌, ℕ, List, Option}
use Rattle.history_import.specs.declared.input.Lent.{Lent}
use Rattle.history_import.proofs.ImportingLemmas.{header-stops}
use Rattle.history_import.proofs.importing.import_all.Goals as goal

pub returns-in-Err-clause-imports : goal.returns-in-Err-clause-imports
returns-in-Err-clause-imports g c =
    let rem : Lent g.row.R.Denot → Option (List ℕ) = λ lent. g.R.Read.remaining lent.input.now.inner
    in
    let known = g.R.Read.remaining c.args.input.now.inner in
    header-stops rem known c.args.server.now.settings c.args.asked.now c.read_header.new.reader
    (g.A.Archive.state c.args.server.now.replica.archive)
    (g.W.Write.contents c.args.output.now.inner) c.in-Err.fault
    (c.in-Err.ensures.reads known c.rows_in-reader.ensures)

pub returns-clause-imports : goal.returns-clause-imports
returns-clause-imports g c =
    let known = g.R.Read.remaining c.args.input.now.inner in
    c.do_rows.ensures.imports known (c.in-Ok.ensures.reads known c.rows_in-reader.ensures)
