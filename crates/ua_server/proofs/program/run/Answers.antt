use Rattle.std.proofs.Common.{Err, ap, map, refl, subst}
use Rattle.clap.specs.Words.{subcommand_of}
use Rattle.clap.specs.Faults.{fault_of as fault_kinds}
use Rattle.command_line.specs.Line.{Asks, uahist}
use Rattle.ua_server.specs.Host.{known_machine}
use Rattle.ua_server.specs.Program.{findings_in, scene_of}
use Rattle.ua_server.proofs.Printing.{line-done, text-shown}
use Rattle.ua_server.proofs.program.run.Goals as goal

pub returns-in-Ok-Work-clause-runs : goal.returns-in-Ok-Work-clause-runs
returns-in-Ok-Work-clause-runs g c =
    let words = map g.S.AsStr.text c.args.words.now in
    let asks =
    subst (Asks (fault_kinds uahist words) (subcommand_of uahist words)) c.in-Ok-Work.field-0-is
    c.in-Ok-Work.ensures.ok in
    let known =
    known_machine g.H.Host.means g.H.Archive.Archive.state g.H.Source.Source.effects
    g.H.Source.Reader.NonBlockingRead.input g.H.Source.Writer.NonBlockingWrite.output
    g.H.Reader.Read.remaining g.H.Writer.Write.contents g.H.Rows.Read.remaining in
    line-done (findings_in words) known g.C.Clock.gave g.E.Write.contents c.in-Ok-Work.line
    (scene_of (g.R.Read.remaining c.args.input.now.inner)
    (g.W.Write.contents c.args.output.now.inner) c.args.host.now c.args.clock
    c.args.errors)
    (scene_of (g.R.Read.remaining c.do_line.new.input.inner)
    (g.W.Write.contents c.do_line.new.output.inner) c.do_line.new.host c.do_line.result.clock
    c.do_line.result.errors)
    c.do_line.result.ending asks.0 asks.1 c.do_line.ensures.does

pub returns-in-Err-clause-runs : goal.returns-in-Err-clause-runs
returns-in-Err-clause-runs g c =
    (λ e. (c.in-Err.ensures.words (ap Err e), c.in-Err.ensures.help (ap Err e)), refl)

pub returns-in-Ok-Text-clause-runs : goal.returns-in-Ok-Text-clause-runs
returns-in-Ok-Text-clause-runs g c =
    let words = map g.S.AsStr.text c.args.words.now in
    let asks =
    subst (Asks (fault_kinds uahist words) (subcommand_of uahist words)) c.in-Ok-Text.field-0-is
    c.in-Ok-Text.ensures.ok in
    let known =
    known_machine g.H.Host.means g.H.Archive.Archive.state g.H.Source.Source.effects
    g.H.Source.Reader.NonBlockingRead.input g.H.Source.Writer.NonBlockingWrite.output
    g.H.Reader.Read.remaining g.H.Writer.Write.contents g.H.Rows.Read.remaining in
    text-shown (findings_in words) known g.C.Clock.gave g.E.Write.contents
    (scene_of (g.R.Read.remaining c.args.input.now.inner)
    (g.W.Write.contents c.args.output.now.inner) c.args.host.now c.args.clock
    c.args.errors)
    (scene_of (g.R.Read.remaining c.args.input.now.inner)
    (g.W.Write.contents c.print_text.new.output.inner) c.args.host.now c.args.clock
    c.args.errors)
    c.print_text.result asks (refl, c.print_text.ensures.prints)
