-- Archives that begin with nothing and run through events are machines of a past of these events.
use Rattle.std.proofs.Common.{◌≡◌, ℕ, List, [], ◌∷◌, map, length, Ok, refl, sym, ap, ◌∙◌, subst, inl}
use Rattle.exchange.specs.declared.world.Event.{Event as Given}
use Rattle.std.specs.List.{AllByRecursion}
use Rattle.archive.specs.Store.{Store}
use Rattle.archive.proofs.Acting.{left-alone}
use Rattle.exchange.specs.Running.{AreSites, AreHonest, IsSiteOf, RunsWorld, event_of, world_of}
use Rattle.exchange.specs.Worlds.{ReplicaState, World, Event, IsConsistent, run}
use Rattle.headline.specs.Answers.{IsInUse}
use Rattle.headline.specs.Machines.{AreInUse, AreNew, Simulates}
use Rattle.headline.specs.Executions.{IsLawfulEvent, Execution, IsExecution}
use Rattle.headline.proofs.Machines.{beginning, ends_at, first_site}
use Rattle.headline.proofs.Times.{sound_at}

-- of what events are seen as
pub all_mapped : (events : List Given)
    → AllByRecursion (λ event. IsLawfulEvent (event_of event)) events
    → AllByRecursion IsLawfulEvent (map event_of events)
all_mapped [] all = tt
all_mapped (event ∷ events) all = (all.0, all_mapped events all.1)

module _ {A : Type 0} (state : A → Store) where
  abbrev here_site : A → ReplicaState
  here_site a = record { id = (state a).id; number = (state a).own; content = (state a).content }

  -- archives in use are left with what they hold
  here_sites : (machines : List A) → AreInUse state machines
      → AreSites state machines (map here_site machines)
  here_sites [] used = tt
  here_sites (a ∷ machines) used = (
    record { id = refl; number = refl; content = inl (used.0.unbroken, refl) },
    here_sites machines used.1,
  )

  all_honest : (machines : List A) → AreInUse state machines → AreHonest state machines
  all_honest [] used = tt
  all_honest (a ∷ machines) used = (used.0.honest, all_honest machines used.1)

  same_site : (a : A) (s : ReplicaState) → IsInUse (state a) → (state a).content ≡ []
      → IsSiteOf (state a) s → s ≡ first_site state a
  same_site a s used empty is =
      let content = left-alone (state a) s.content used.durable used.honest used.unbroken is.content
      ∙ empty in
      ap (λ (i : List ℕ). record s { id = i }) (sym is.id)
      ∙ (ap (λ (n : ℕ). let t : ReplicaState =
      record { id = (state a).id; number = n; content = s.content } in t) (sym is.number)
      ∙ ap (λ R. let t : ReplicaState = record {
        id = (state a).id;
        number =
            (state a).own;
        content = R;
      } in t) content)

  -- those that hold nothing are left with nothing
  first_alone : (machines : List A) (sites : List ReplicaState) → AreInUse state machines
      → AllByRecursion (λ a. (state a).content ≡ []) machines → AreSites state machines sites
      → sites ≡ map (first_site state) machines
  first_alone [] [] used empty are = refl
  first_alone [] (s ∷ sites) used empty are = absurd are
  first_alone (a ∷ machines) [] used empty are = absurd are
  first_alone (a ∷ machines) (s ∷ sites) used empty are =
      ap (λ (t : ReplicaState). t ∷ sites) (same_site a s used.0 empty.0 are.0)
      ∙ ap (λ (l : List ReplicaState). first_site state a ∷ l)
      (first_alone machines sites used.1 empty.1 are.1)

  abbrev past_of : List A → List Event → Execution
  past_of machines events = record {
    start = world_of (map (first_site state) machines) [];
    events =
        events;
  }

  pub ran : (old new : List A) (events : List Event) → AreNew state old
      → RunsWorld state old new events (Ok tt) → AreInUse state new
      → AllByRecursion IsLawfulEvent events
      → (p : Execution) × (p.events ≡ events) × Simulates state p new
      × IsConsistent (run p.events p.start)
  ran old new events fresh runs used lawful =
      let p = past_of old events in
      let past : IsExecution p = record { begins = beginning state old fresh; lawful = lawful } in
      let (sites, were, came) = runs.ran (all_honest new used) (map here_site new)
      (here_sites new used) in
      let start : world_of sites [] ≡ p.start =
      ap (λ (l : List ReplicaState). world_of l [])
      (first_alone old sites fresh.used fresh.empty were) in
      let held : map here_site new ≡ (run events p.start).replicas =
      came ∙ ap (λ (w : World). (run events w).replicas) start in (
        p,
        refl,
        record {
          past = past;
          used = used;
          hold =
              subst (AreSites state new) held (here_sites new used);
        },
        subst IsConsistent (ends_at p) (sound_at p past (length events)),
      )
