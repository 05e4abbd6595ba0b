use Rattle.std.proofs.Common.{refl, sym, subst}
use Rattle.command_line.specs.declared.line.Line.{Line as CommandLine}
use Rattle.ua_server.specs.Host.{known_machine}
use Rattle.ua_server.specs.Program.{DoesCommand, scene_of}
use Rattle.ua_server.proofs.program.do_command.Goals as goal

pub returns-in-Answer-clause-does : goal.returns-in-Answer-clause-does
returns-in-Answer-clause-does g c =
    let known =
    known_machine g.H.Host.means g.H.Archive.Archive.state g.H.Source.Source.effects
    g.H.Source.Reader.NonBlockingRead.input g.H.Source.Writer.NonBlockingWrite.output
    g.H.Reader.Read.remaining g.H.Writer.Write.contents g.H.Rows.Read.remaining in
    let P : CommandLine → Type 0 = λ line.
    DoesCommand known g.C.Clock.gave g.E.Write.contents line c.args.world.now.server.settings
    c.args.world.now.server.replica.archive c.answer_over.new.server.replica.archive
    (scene_of (g.R.Read.remaining c.args.input.now.inner)
    (g.W.Write.contents c.args.output.now.inner) c.args.host.now c.args.world.now.clock
    c.args.world.now.log.errors)
    (scene_of (g.R.Read.remaining c.answer_over.new.input.inner)
    (g.W.Write.contents c.answer_over.new.output.inner) c.args.host.now c.answer_over.new.clock
    c.args.world.now.log.errors)
    c.answer_over.result in
    subst P (sym c.in-Answer.is) (refl, c.answer_over.ensures.does)

pub returns-in-Serve-clause-does : goal.returns-in-Serve-clause-does
returns-in-Serve-clause-does g c =
    let known =
    known_machine g.H.Host.means g.H.Archive.Archive.state g.H.Source.Source.effects
    g.H.Source.Reader.NonBlockingRead.input g.H.Source.Writer.NonBlockingWrite.output
    g.H.Reader.Read.remaining g.H.Writer.Write.contents g.H.Rows.Read.remaining in
    let P : CommandLine → Type 0 = λ line.
    DoesCommand known g.C.Clock.gave g.E.Write.contents line c.args.world.now.server.settings
    c.args.world.now.server.replica.archive c.serve_at.new.world.server.replica.archive
    (scene_of (g.R.Read.remaining c.args.input.now.inner)
    (g.W.Write.contents c.args.output.now.inner) c.args.host.now c.args.world.now.clock
    c.args.world.now.log.errors)
    (scene_of (g.R.Read.remaining c.args.input.now.inner)
    (g.W.Write.contents c.args.output.now.inner) c.serve_at.new.host c.serve_at.new.world.clock
    c.serve_at.new.world.log.errors)
    c.serve_at.result in
    subst P (sym c.in-Serve.is) (refl, c.serve_at.ensures.listens)

pub returns-in-Dump-clause-does : goal.returns-in-Dump-clause-does
returns-in-Dump-clause-does g c =
    let known =
    known_machine g.H.Host.means g.H.Archive.Archive.state g.H.Source.Source.effects
    g.H.Source.Reader.NonBlockingRead.input g.H.Source.Writer.NonBlockingWrite.output
    g.H.Reader.Read.remaining g.H.Writer.Write.contents g.H.Rows.Read.remaining in
    let P : CommandLine → Type 0 = λ line.
    DoesCommand known g.C.Clock.gave g.E.Write.contents line c.args.world.now.server.settings
    c.args.world.now.server.replica.archive c.dump_over.new.server.replica.archive
    (scene_of (g.R.Read.remaining c.args.input.now.inner)
    (g.W.Write.contents c.args.output.now.inner) c.args.host.now c.args.world.now.clock
    c.args.world.now.log.errors)
    (scene_of (g.R.Read.remaining c.args.input.now.inner)
    (g.W.Write.contents c.dump_over.new.output.inner) c.args.host.now c.args.world.now.clock
    c.args.world.now.log.errors)
    c.dump_over.result in
    subst P (sym c.in-Dump.is) (refl, c.dump_over.ensures.dumps)

pub returns-in-Sync-clause-does : goal.returns-in-Sync-clause-does
returns-in-Sync-clause-does g c =
    let known =
    known_machine g.H.Host.means g.H.Archive.Archive.state g.H.Source.Source.effects
    g.H.Source.Reader.NonBlockingRead.input g.H.Source.Writer.NonBlockingWrite.output
    g.H.Reader.Read.remaining g.H.Writer.Write.contents g.H.Rows.Read.remaining in
    let P : CommandLine → Type 0 = λ line.
    DoesCommand known g.C.Clock.gave g.E.Write.contents line c.args.world.now.server.settings
    c.args.world.now.server.replica.archive c.sync_over.new.server.replica.archive
    (scene_of (g.R.Read.remaining c.args.input.now.inner)
    (g.W.Write.contents c.args.output.now.inner) c.args.host.now c.args.world.now.clock
    c.args.world.now.log.errors)
    (scene_of (g.R.Read.remaining c.args.input.now.inner)
    (g.W.Write.contents c.sync_over.new.output.inner) c.sync_over.new.host c.args.world.now.clock
    c.args.world.now.log.errors)
    c.sync_over.result in
    subst P (sym c.in-Sync.is) (refl, c.sync_over.ensures.calls)

pub returns-in-History-clause-does : goal.returns-in-History-clause-does
returns-in-History-clause-does g c =
    let known =
    known_machine g.H.Host.means g.H.Archive.Archive.state g.H.Source.Source.effects
    g.H.Source.Reader.NonBlockingRead.input g.H.Source.Writer.NonBlockingWrite.output
    g.H.Reader.Read.remaining g.H.Writer.Write.contents g.H.Rows.Read.remaining in
    let P : CommandLine → Type 0 = λ line.
    DoesCommand known g.C.Clock.gave g.E.Write.contents line c.args.world.now.server.settings
    c.args.world.now.server.replica.archive c.history_over.new.server.replica.archive
    (scene_of (g.R.Read.remaining c.args.input.now.inner)
    (g.W.Write.contents c.args.output.now.inner) c.args.host.now c.args.world.now.clock
    c.args.world.now.log.errors)
    (scene_of (g.R.Read.remaining c.args.input.now.inner)
    (g.W.Write.contents c.history_over.new.output.inner) c.args.host.now c.args.world.now.clock
    c.args.world.now.log.errors)
    c.history_over.result in
    subst P (sym c.in-History.is) (refl, c.history_over.ensures.prints)

pub returns-in-Import-clause-does : goal.returns-in-Import-clause-does
returns-in-Import-clause-does g c =
    let known =
    known_machine g.H.Host.means g.H.Archive.Archive.state g.H.Source.Source.effects
    g.H.Source.Reader.NonBlockingRead.input g.H.Source.Writer.NonBlockingWrite.output
    g.H.Reader.Read.remaining g.H.Writer.Write.contents g.H.Rows.Read.remaining in
    let P : CommandLine → Type 0 = λ line.
    DoesCommand known g.C.Clock.gave g.E.Write.contents line c.args.world.now.server.settings
    c.args.world.now.server.replica.archive c.import_from.new.world.server.replica.archive
    (scene_of (g.R.Read.remaining c.args.input.now.inner)
    (g.W.Write.contents c.args.output.now.inner) c.args.host.now c.args.world.now.clock
    c.args.world.now.log.errors)
    (scene_of (g.R.Read.remaining c.import_from.new.input.inner)
    (g.W.Write.contents c.import_from.new.output.inner) c.import_from.new.host
    c.import_from.new.world.clock c.import_from.new.world.log.errors)
    c.import_from.result in
    subst P (sym c.in-Import.is) c.import_from.ensures.imports

pub returns-in-Check-clause-does : goal.returns-in-Check-clause-does
returns-in-Check-clause-does g c =
    let known =
    known_machine g.H.Host.means g.H.Archive.Archive.state g.H.Source.Source.effects
    g.H.Source.Reader.NonBlockingRead.input g.H.Source.Writer.NonBlockingWrite.output
    g.H.Reader.Read.remaining g.H.Writer.Write.contents g.H.Rows.Read.remaining in
    let P : CommandLine → Type 0 = λ line.
    DoesCommand known g.C.Clock.gave g.E.Write.contents line c.args.world.now.server.settings
    c.args.world.now.server.replica.archive c.check_over.new.server.replica.archive
    (scene_of (g.R.Read.remaining c.args.input.now.inner)
    (g.W.Write.contents c.args.output.now.inner) c.args.host.now c.args.world.now.clock
    c.args.world.now.log.errors)
    (scene_of (g.R.Read.remaining c.args.input.now.inner)
    (g.W.Write.contents c.check_over.new.output.inner) c.args.host.now c.args.world.now.clock
    c.args.world.now.log.errors)
    c.check_over.result in
    subst P (sym c.in-Check.is) (refl, c.check_over.ensures.tells)
