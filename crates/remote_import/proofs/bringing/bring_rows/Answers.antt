use Rattle.std.proofs.Common.{Err, subst}
use Rattle.history_import.specs.declared.fault.ImportFault.{ImportFault}
use Rattle.remote_import.specs.declared.fault.RemoteFault.{RemoteFault}
use Rattle.remote_import.specs.declared.fault.RemoteFault.TheVariants.{Rows}
use Rattle.remote_import.specs.Bringing.{state_of}
use Rattle.remote_import.specs.Imports.{BringsText}
use Rattle.remote_import.proofs.Ends.{read-judged}
use Rattle.remote_import.proofs.bringing.bring_rows.Goals as goal

pub returns-in-Err-Rows-Read-clause-imports : goal.returns-in-Err-Rows-Read-clause-imports
returns-in-Err-Rows-Read-clause-imports g c =
    let known = g.F.Read.remaining c.args.input.now.inner in
    let settings = c.args.settings.now in
    let asked = c.args.asked.now in
    let old = state_of g.R.Read.remaining g.W.Write.contents c.args.session.now in
    let new = state_of g.R.Read.remaining g.W.Write.contents c.bring_all.new.session in
    let before = g.O.Write.contents c.args.output.now.inner in
    let after = g.O.Write.contents c.bring_all.new.output.inner in
    let met = c.in-Err-Rows-Read in
    let P : RemoteFault → Type 0 = λ fault.
    BringsText settings asked known old new before after (Err fault) in
    let Q : ImportFault → Type 0 = λ why. P (Rows why) in
    read-judged known settings asked old new before after c.fault_behind.result
    c.fault_behind.ensures.fault
    (subst Q met.field-0-0-is (subst P met.field-0-is met.ensures.imports))
