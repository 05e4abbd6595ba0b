use Rattle.std.proofs.Common.{◌≡◌, List, ◌++◌, map, take, drop, length, Ok, refl, subst, sym, ◌∙◌, arith}
use Rattle.std.proofs.lemmas.List.{take-append-le, take_all}
use Rattle.archive.specs.Listed.{Listed, store_of}
use Rattle.exchange.specs.Running.{RunsWorld, event_of}
use Rattle.exchange.specs.Worlds.{IsConsistent, run}
use Rattle.headline.specs.Machines.{AreInUse, Simulates}
use Rattle.headline.specs.Executions.{Execution}
use Rattle.headline.proofs.Witnesses.{all_mapped, ran}
use Rattle.headline.proofs.witness.two_machines.Goals as goal

pub returns : goal.returns
returns c =
    let events = map event_of c.args.events.now in
    let new = c.run_world.new.replicas in
    let long : length new ≡ c.in-Ok.machines.len =
    c.run_world.auto.replicas ∙ c.deref_mut.ensures.len in
    let same : take c.in-Ok.machines.len (new ++ drop (length new) c.in-Ok.machines.items) ≡ new =
    take-append-le c.in-Ok.machines.len new (drop (length new) c.in-Ok.machines.items)
    (omega (arith, long))
    ∙ take_all c.in-Ok.machines.len new (omega (arith, long)) in
    let used : AreInUse store_of new =
    subst (AreInUse store_of) (c.as_slice.ensures.value ∙ same) c.are_in_use.ensures in
    let W : List Listed → Type 0 = λ old. RunsWorld store_of old new events (Ok tt) in
    let runs : W c.in-Ok.machines.items =
    subst W c.deref_mut.ensures.value c.in_ok-run_world.ensures in
    let lawful = all_mapped c.args.events.now (c.if-not-are_lawful.ensures.lawful refl) in
    let told = ran store_of c.in-Ok.machines.items new events c.in-Ok.ensures runs used lawful in
    let P : List Listed → Type 0 =
    λ machines. (p : Execution) × (p.events ≡ events) × Simulates store_of p machines
    × IsConsistent (run p.events p.start) in
    subst P (sym same) told
