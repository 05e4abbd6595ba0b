use Rattle.std.proofs.Common.{◌∙◌, false, Err, inl, inr, refl, ap, sym, subst, subst₂}
use Rattle.std.specs.Prelude.{Option, Result, IfErr}
use Rattle.std.proofs.lemmas.Result.{err_from_is_err_and}
use Rattle.multiplex.specs.declared.limits.Limits.{Limits}
use Rattle.multiplex.specs.Serving.{AreAllFree}
use Rattle.multiplex.specs.Turns.{state}
use Rattle.counted_io.specs.declared.fault.ServeFault.TheVariants.{OutOfMemory}
use Rattle.ua_server.specs.declared.program.ProgramFault.{ProgramFault}
use Rattle.ua_server.specs.declared.program.ProgramFault.TheVariants.{Connection}
use Rattle.ua_server.specs.Host.{known_machine}
use Rattle.ua_server.specs.Listening.{IsFrom, networks_at}
use Rattle.ua_server.specs.Network.{IsServingFault, serving_of}
use Rattle.ua_server.specs.Program.{Listens}
use Rattle.ua_server.specs.Serving.{ServesThrough}
use Rattle.ua_server.specs.declared.reopening.Successor.{Successor}
use Rattle.ua_server.proofs.Begun.{from-fresh, counts-by}
use Rattle.ua_server.proofs.Refused.{unheard, unheard-serving}
use Rattle.ua_server.proofs.connections.serve_at.Goals as goal

pub returns-clause-listens : goal.returns-clause-listens
returns-clause-listens g c =
    let known =
    known_machine g.H.Host.means g.H.Archive.Archive.state g.H.Source.Source.effects
    g.H.Source.Reader.NonBlockingRead.input g.H.Source.Writer.NonBlockingWrite.output
    g.H.Reader.Read.remaining g.H.Writer.Write.contents g.H.Rows.Read.remaining in
    let (listening, is, listens, from) = c.in_ok-source.ensures.ok in
    let (last, through) = c.serve_through.ensures.through 0 in
    let world = record c.args.world.now {
      from = c.in_ok-source.from;
      logins = c.in-Ok-logins_of.logins;
      calls = c.in-Ok-calls_of.calls;
      connections = 0;
      restoring = false;
      log = c.log_start.new.self;
      server = record c.args.world.now.server {
        replica = record c.args.world.now.server.replica {
          archive = c.count_records-records.new.archive;
        };
      };
    } in
    let begun = state c.in_ok-source.source c.as_mut_slice.result.now world 0 in
    let ended = state c.serve_through.new.source c.serve_through.new.slots c.serve_through.new.world last in
    inl (
      listening,
      is,
      c.in_ok-source.source,
      c.listen_at.new.host,
      listens,
      record {
        between = c.count_records-records.new.archive;
        records = c.count_records-records.result;
        counts = counts-by g.H.Archive.Archive.state c.args.world.now.server.replica.archive
            c.count_records-records.new.archive c.count_records-records.result
            c.args.world.now.log _ c.requires c.count_records-records.ensures;
        first = begun;
        last = ended;
        begins = record { archive = refl; clock = refl };
        ends = record { archive = refl; clock = refl };
        said = refl;
        settings_are = refl;
        from = refl;
        starts = from-fresh g.E.Write.contents g.C.Clock.gave c.args.world.now.server.settings
            c.count_records-records.result _ c.args.world.now.log c.log_start.new.self c.requires c.log_start.ensures;
        logins = c.in-Ok-logins_of.ensures;
        calls = c.in-Ok-calls_of.ensures;
        connections = refl;
        restoring = refl;
        peers_from = subst (IsFrom (networks_at c.args.world.now.server.settings)) (sym from)
            is.from;
        free = subst AreAllFree (sym c.as_mut_slice.ensures.value) c.in-Ok-free_slots.ensures.0;
        served = subst₂ (λ (l : Limits) (f : Option Successor).
            ServesThrough known g.C.Clock.gave g.E.Write.contents l f
            (record { host = c.listen_at.new.host; loop = begun })
            (record { host = c.serve_through.new.host; loop = ended }) c.serve_through.result)
            c.in-Ok.ensures.0 c.in-Ok.ensures.1 through;
      },
    )

pub returns-in_err-source-clause-listens : goal.returns-in_err-source-clause-listens
returns-in_err-source-clause-listens g c =
    let known =
    known_machine g.H.Host.means g.H.Archive.Archive.state g.H.Source.Source.effects
    g.H.Source.Reader.NonBlockingRead.input g.H.Source.Writer.NonBlockingWrite.output
    g.H.Reader.Read.remaining g.H.Writer.Write.contents g.H.Rows.Read.remaining in
    let world = c.args.world.now in
    let old = serving_of c.args.host.now world in
    let new = serving_of c.listen_at.new.host world in
    let settings = world.server.settings in
    let p = err_from_is_err_and c.from_residual.result c.from_residual.ensures.1 in
    let P : Result (Unit {0}) ProgramFault → Type 0 =
    Listens known g.C.Clock.gave g.E.Write.contents settings c.args.connections old new in
    subst P (sym (p.1 ∙ ap Err p.2))
    (unheard known g.C.Clock.gave g.E.Write.contents settings c.args.connections old new
    c.in_err-source.field-0.0 c.in_err-source.ensures.refused refl)

pub returns-in_err-source-clause-fault : goal.returns-in_err-source-clause-fault
returns-in_err-source-clause-fault g c =
    let known =
    known_machine g.H.Host.means g.H.Archive.Archive.state g.H.Source.Source.effects
    g.H.Source.Reader.NonBlockingRead.input g.H.Source.Writer.NonBlockingWrite.output
    g.H.Reader.Read.remaining g.H.Writer.Write.contents g.H.Rows.Read.remaining in
    let p = err_from_is_err_and c.from_residual.result c.from_residual.ensures.1 in
    let P : Result (Unit {0}) ProgramFault → Type 0 = λ r. IfErr r IsServingFault in
    subst P (sym (p.1 ∙ ap Err p.2))
    (unheard-serving known c.args.world.now.server.settings c.in_err-source.field-0.0
    c.args.host.now c.listen_at.new.host c.in_err-source.ensures.refused)

pub returns-in_default-clause-listens : goal.returns-in_default-clause-listens
returns-in_default-clause-listens g c = inr (Connection OutOfMemory, refl, refl)

pub returns-in_default-free_slots-clause-listens : goal.returns-in_default-free_slots-clause-listens
returns-in_default-free_slots-clause-listens g c = inr (Connection OutOfMemory, refl, refl)

pub returns-in_default-logins_of-clause-listens : goal.returns-in_default-logins_of-clause-listens
returns-in_default-logins_of-clause-listens g c = inr (Connection OutOfMemory, refl, refl)

pub returns-in_default-calls_of-clause-listens : goal.returns-in_default-calls_of-clause-listens
returns-in_default-calls_of-clause-listens g c = inr (Connection OutOfMemory, refl, refl)
