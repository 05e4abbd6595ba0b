use Rattle.std.proofs.Common.{Err, subst}
use Rattle.history_import.specs.declared.fault.ImportFault.{ImportFault}
use Rattle.history_import.specs.Imports.{Imports}
use Rattle.history_import.proofs.ImportingLemmas.{read-judged}
use Rattle.history_import.proofs.importing.import_rows.Goals as goal

pub returns-in-Err-Read-clause-imports : goal.returns-in-Err-Read-clause-imports
returns-in-Err-Read-clause-imports g c =
    let known = g.R.Read.remaining c.args.input.now.inner in
    let set = c.args.server.now.settings in
    let asked = c.args.asked.now in
    let old = g.A.Archive.state c.args.server.now.replica.archive in
    let new = g.A.Archive.state c.import_all.new.server.replica.archive in
    let before = g.W.Write.contents c.args.output.now.inner in
    let after = g.W.Write.contents c.import_all.new.output.inner in
    let P : ImportFault → Type 0 = λ why. Imports set asked old new known before after (Err why) in
    read-judged known set asked old new before after c.fault_behind.result
    c.fault_behind.ensures.fault (subst P c.in-Err-Read.field-0-is c.in-Err-Read.ensures.imports)
