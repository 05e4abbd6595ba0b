use Rattle.std.proofs.Common.{◌≡◌, rules, subst, FitsSigned, w64}
use Rattle.std.proofs.lemmas.Int.{to_z-of_z}
use Rattle.history_import.specs.Imports.{Imports}
use Rattle.history_import.specs.declared.asked.Import.{Import}
use Rattle.ua_server.specs.Importing.{import_of}
use Rattle.ua_server.proofs.imports.import_over.Goals as goal

pub returns-clause-imports : goal.returns-clause-imports
returns-clause-imports g c =
    let state = g.A.Archive.state in
    let first = c.args.server.now in
    let last = c.import_rows.new.server in
    let unread = g.R.Read.remaining c.args.input.now.inner in
    let before = g.W.Write.contents c.args.output.now.inner in
    let after = g.W.Write.contents c.import_rows.new.output.inner in
    let now = c.now.result in
    let fits : FitsSigned w64 now = search rules in
    let is : c.import_of-asked.result ≡ import_of c.args.words now =
    cc (c.import_of-asked.ensures, to_z-of_z w64 now fits) in
    let Q : Import → Type 0 = λ asked.
    Imports first.settings asked (state first.replica.archive) (state last.replica.archive) unread
    before after c.import_rows.result in (
      now,
      c.now.ensures,
      c.import_rows.result,
      subst Q is c.import_rows.ensures.imports,
      c.import_told.ensures.told,
    )
