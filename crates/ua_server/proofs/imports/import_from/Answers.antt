use Rattle.std.proofs.Common.{refl, sym, inl, inr, subst, Option, List, ℕ, Err}
use Rattle.std.specs.Borrow.{Bor}
use Rattle.counted_io.specs.Tally.{Tally}
use Rattle.ua_server.specs.declared.program.ProgramFault.TheVariants.{NoRows}
use Rattle.ua_server.specs.Host.{known_machine}
use Rattle.ua_server.specs.Program.{ImportsFrom, ImportsTo, scene_of}
use Rattle.ua_server.proofs.imports.import_from.Goals as goal

pub returns-in_default-clause-imports : goal.returns-in_default-clause-imports
returns-in_default-clause-imports g c =
    let known =
    known_machine g.H.Host.means g.H.Archive.Archive.state g.H.Source.Source.effects
    g.H.Source.Reader.NonBlockingRead.input g.H.Source.Writer.NonBlockingWrite.output
    g.H.Reader.Read.remaining g.H.Writer.Write.contents g.H.Rows.Read.remaining in
    let P : Option (Bor (List ℕ)) → Type 0 = λ file.
    ImportsFrom known file g.C.Clock.gave c.args.world.now.server.settings c.args.words
    c.args.world.now.server.replica.archive c.import_by.new.world.server.replica.archive
    (scene_of (g.R.Read.remaining c.args.input.now.inner)
    (g.W.Write.contents c.args.output.now.inner) c.args.host.now c.args.world.now.clock
    c.args.world.now.log.errors)
    (scene_of (g.R.Read.remaining c.import_by.new.input.inner)
    (g.W.Write.contents c.import_by.new.output.inner) c.import_by.new.host
    c.import_by.new.world.clock c.import_by.new.world.log.errors)
    c.import_by.result in
    subst P (sym c.in_default.is) c.import_by.ensures.imports

pub returns-in_default-open_rows-clause-imports : goal.returns-in_default-open_rows-clause-imports
returns-in_default-open_rows-clause-imports g c =
    let known =
    known_machine g.H.Host.means g.H.Archive.Archive.state g.H.Source.Source.effects
    g.H.Source.Reader.NonBlockingRead.input g.H.Source.Writer.NonBlockingWrite.output
    g.H.Reader.Read.remaining g.H.Writer.Write.contents g.H.Rows.Read.remaining in
    let P : Option (Bor (List ℕ)) → Type 0 = λ file.
    ImportsFrom known file g.C.Clock.gave c.args.world.now.server.settings c.args.words
    c.args.world.now.server.replica.archive c.args.world.now.server.replica.archive
    (scene_of (g.R.Read.remaining c.args.input.now.inner)
    (g.W.Write.contents c.args.output.now.inner) c.args.host.now c.args.world.now.clock
    c.args.world.now.log.errors)
    (scene_of (g.R.Read.remaining c.args.input.now.inner)
    (g.W.Write.contents c.args.output.now.inner) c.open_rows.new.self c.args.world.now.clock
    c.args.world.now.log.errors) (Err NoRows) in
    subst P (sym c.in-Some.is)
    (inl (rw (← c.in_default-open_rows.is) c.open_rows.ensures, refl, refl, refl))

pub returns-clause-imports : goal.returns-clause-imports
returns-clause-imports g c =
    let known =
    known_machine g.H.Host.means g.H.Archive.Archive.state g.H.Source.Source.effects
    g.H.Source.Reader.NonBlockingRead.input g.H.Source.Writer.NonBlockingWrite.output
    g.H.Reader.Read.remaining g.H.Writer.Write.contents g.H.Rows.Read.remaining in
    let rows = g.H.Rows.Read.remaining in
    let T : Tally g.row.H-Rows.Denot → Type 0 = λ tally.
    ImportsTo known c.args.words.server g.C.Clock.gave c.args.world.now.server.settings
    c.args.words c.args.world.now.server.replica.archive
    c.import_by-2.new.world.server.replica.archive
    (scene_of (rows tally.inner) (g.W.Write.contents c.args.output.now.inner)
    c.open_rows.new.self c.args.world.now.clock c.args.world.now.log.errors)
    (scene_of (rows c.import_by-2.new.input.inner)
    (g.W.Write.contents c.import_by-2.new.output.inner)
    c.import_by-2.new.host c.import_by-2.new.world.clock c.import_by-2.new.world.log.errors)
    c.import_by-2.result in
    let P : Option (Bor (List ℕ)) → Type 0 = λ file.
    ImportsFrom known file g.C.Clock.gave c.args.world.now.server.settings c.args.words
    c.args.world.now.server.replica.archive c.import_by-2.new.world.server.replica.archive
    (scene_of (g.R.Read.remaining c.args.input.now.inner)
    (g.W.Write.contents c.args.output.now.inner) c.args.host.now c.args.world.now.clock
    c.args.world.now.log.errors)
    (scene_of (g.R.Read.remaining c.args.input.now.inner)
    (g.W.Write.contents c.import_by-2.new.output.inner) c.import_by-2.new.host
    c.import_by-2.new.world.clock c.import_by-2.new.world.log.errors)
    c.import_by-2.result in
    subst P (sym c.in-Some.is) (inr (record {
      rows = c.in-Some-open_rows.rows;
      opened = c.open_rows.new.self;
      opens = rw (← c.in-Some-open_rows.is) c.open_rows.ensures;
      rest = c.import_by-2.new.input.inner;
      imports = subst T c.new.ensures c.import_by-2.ensures.imports;
      input = refl;
    }))
