use Rattle.std.proofs.Common.{◌≡◌, ◌∙◌, rules, refl, sym, ap, inl, inr, subst, Option, List, ℕ, FitsSigned, w64}
use Rattle.std.proofs.lemmas.Int.{to_z-of_z}
use Rattle.std.specs.Borrow.{Bor}
use Rattle.counted_io.specs.Tally.{Tally}
use Rattle.history_import.specs.declared.asked.Import.{Import}
use Rattle.ua_client.specs.Talking.{Flow}
use Rattle.remote_import.specs.Imports.{ImportsOver}
use Rattle.ua_server.specs.Importing.{import_of}
use Rattle.ua_server.specs.Host.{known_machine}
use Rattle.ua_server.specs.Program.{ImportsTo, scene_of}
use Rattle.ua_server.proofs.imports.import_by.Goals as goal

pub returns-in_default-clause-imports : goal.returns-in_default-clause-imports
returns-in_default-clause-imports g c =
    let known =
    known_machine g.H.Host.means g.H.Archive.Archive.state g.H.Source.Source.effects
    g.H.Source.Reader.NonBlockingRead.input g.H.Source.Writer.NonBlockingWrite.output
    g.H.Reader.Read.remaining g.H.Writer.Write.contents g.H.Rows.Read.remaining in
    let P : Option (Bor (List ℕ)) → Type 0 = λ server.
    ImportsTo known server g.C.Clock.gave c.args.world.now.server.settings c.args.words
    c.args.world.now.server.replica.archive c.import_over.new.server.replica.archive
    (scene_of (g.R.Read.remaining c.args.input.now.inner)
    (g.W.Write.contents c.args.output.now.inner) c.args.host.now c.args.world.now.clock
    c.args.world.now.log.errors)
    (scene_of (g.R.Read.remaining c.import_over.new.input.inner)
    (g.W.Write.contents c.import_over.new.output.inner) c.args.host.now c.import_over.new.clock
    c.args.world.now.log.errors)
    c.import_over.result in
    subst P (sym c.in_default.is) (refl, c.import_over.ensures.imports)

pub returns-clause-imports : goal.returns-clause-imports
returns-clause-imports g c =
    let known =
    known_machine g.H.Host.means g.H.Archive.Archive.state g.H.Source.Source.effects
    g.H.Source.Reader.NonBlockingRead.input g.H.Source.Writer.NonBlockingWrite.output
    g.H.Reader.Read.remaining g.H.Writer.Write.contents g.H.Rows.Read.remaining in
    let R = g.H.Reader.Read.remaining in
    let W = g.H.Writer.Write.contents in
    let done = c.import_at-done in
    let settings = c.args.world.now.server.settings in
    let unread = g.R.Read.remaining c.args.input.now.inner in
    let before = g.W.Write.contents c.args.output.now.inner in
    let after = g.W.Write.contents done.new.output.inner in
    let now = c.now.result in
    let fits : FitsSigned w64 now = search rules in
    let is : c.import_of-asked.result ≡ import_of c.args.words now =
    cc (c.import_of-asked.ensures, to_z-of_z w64 now fits) in
    let last : Flow =
    record { unread = R done.result.line.reader.inner; sent = W done.result.line.writer.inner } in
    let first : Flow = record { unread = R c.new.result.inner; sent = W c.new-2.result.inner } in
    let flows : first
    ≡ record { unread = R c.in-Some-call.reader; sent = W c.in-Some-call.writer } =
    ap (λ (t : Tally g.row.H-Reader.Denot).
    let f : Flow = record { unread = R t.inner; sent = W c.new-2.result.inner } in f) c.new.ensures
    ∙ ap (λ (t : Tally g.row.H-Writer.Denot).
    let f : Flow = record { unread = R c.in-Some-call.reader; sent = W t.inner } in f)
    c.new-2.ensures in
    let A : Import → Type 0 = λ asked.
    ImportsOver settings asked unread first last before after done.result.ended in
    let B : Flow → Type 0 = λ flow.
    ImportsOver settings (import_of c.args.words now) unread flow last before after
    done.result.ended in
    let imports = subst B flows (subst A is done.ensures.imports) in
    let P : Option (Bor (List ℕ)) → Type 0 = λ server.
    ImportsTo known server g.C.Clock.gave c.args.world.now.server.settings c.args.words
    c.args.world.now.server.replica.archive c.args.world.now.server.replica.archive
    (scene_of (g.R.Read.remaining c.args.input.now.inner)
    (g.W.Write.contents c.args.output.now.inner) c.args.host.now c.args.world.now.clock
    c.args.world.now.log.errors)
    (scene_of (g.R.Read.remaining c.import_at-done.new.input.inner)
    (g.W.Write.contents c.import_at-done.new.output.inner) c.part.new.self c.now.new.self
    c.args.world.now.log.errors) c.remote_told.result in
    subst P (sym c.in-Some.is) (
      refl,
      refl,
      inr (
        c.in-Ok.address,
        search rules,
        record {
          reader = c.in-Some-call.reader;
          writer = c.in-Some-call.writer;
          between = c.call.new.self;
          calls = rw (← c.in-Some-call.is) c.call.ensures;
          reading = c.now.result;
          gives = c.now.ensures;
          read = c.import_at-done.result.line.reader;
          wrote = c.import_at-done.result.line.writer;
          parts = c.part.ensures;
          ended = c.import_at-done.result.ended;
          imports = imports;
          told = c.remote_told.ensures.told;
        },
      ),
    )
