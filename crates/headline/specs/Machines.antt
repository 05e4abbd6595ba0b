-- Machines: archives in use, what may be done to them over a network, and the pasts whose replicas
-- hold what they do.
use Rattle.std.specs.Prelude.{◌≡◌, ℕ, List, [], ◌++◌, length, slice_get, slice_set, Option, Some}
use Rattle.std.specs.List.{AllByRecursion}
use Rattle.stamp.specs.Limits.{IsReplica}
use Rattle.ua_settings.specs.Settings.{SettingsValues}
use Rattle.archive.specs.Store.{Store, IsLeft}
use Rattle.exchange.specs.Worlds.{Event, run}
use Rattle.exchange.specs.Running.{AreSites}
use Rattle.ua_connection.specs.Environments.{Environment}
use Rattle.ua_connection.specs.Client.{Ending}
use Rattle.ua_connection.specs.Serving.{ServesBehind}
use Rattle.ua_peers.specs.Events.{AreEnds}
use Rattle.headline.specs.Answers.{IsInUse}
use Rattle.headline.specs.Executions.{Execution, IsExecution}

-- what it goes on as: as it is, or its store was opened anew, since it broke, or the machine was
-- stopped; it is the same replica, and holds what it is left with
pub record RestartsAs (left later : Store) : Type 0 where
  pub id : later.id ≡ left.id
  pub own : later.own ≡ left.own
  pub content : IsLeft left later.content
  pub used : IsInUse later

-- another execution that goes on after this one
abbrev pub Extends : Execution → Execution → Type 0
Extends p q = (more : List Event) × (q ≡ record p { events = p.events ++ more })

module _ {A : Type 0} (state : A → Store) where
  -- the machine at a place
  abbrev pub IsMachine : List A → ℕ → A → Type 0
  IsMachine machines place a = slice_get machines place ≡ Some a

  -- all machines are in use: their stores are honest and not broken, and a crash leaves what they
  -- hold
  abbrev pub AreInUse : List A → Type 0
  AreInUse machines = AllByRecursion (λ a. IsInUse (state a)) machines

  -- of one archive, each with a number of its own from 1 to 64, and nothing held
  pub record AreNew (machines : List A) : Type 0 where
    pub used : AreInUse machines
    pub empty : AllByRecursion (λ a. (state a).content ≡ []) machines
    pub replicas : AllByRecursion
        (λ a. IsReplica (state a).own × (length (state a).id ≡ 16)) machines
    pub one : (i j : ℕ) (a b : A) → IsMachine machines i a → IsMachine machines j b
        → (state a).id ≡ (state b).id
    pub apart : (i j : ℕ) (a b : A) → IsMachine machines i a → IsMachine machines j b
        → (state a).own ≡ (state b).own → i ≡ j

  -- they are in use, and hold what the replicas of an execution do at its end
  pub record Simulates (p : Execution) (machines : List A) : Type 0 where
    pub past : IsExecution p
    pub used : AreInUse machines
    pub hold : AreSites state machines (run p.events p.start).replicas

  -- so it is after the execution, and what happened since
  abbrev pub ExtendsTo : Execution → List A → Type 0
  ExtendsTo p machines = (q : Execution) × Extends p q × Simulates q machines

  -- ---- what is done to them

  -- one served a client, whatever that sent and however its connection ended, also by a break of
  -- the store in its midst
  pub record Serves (old new : List A) : Type 0 where
    pub place : ℕ
    pub before : A
    pub behind : A
    pub later : A
    pub there : IsMachine old place before
    pub now : new ≡ slice_set old place later
    pub settings : SettingsValues
    pub first : List ℕ
    pub unread : Option (List ℕ)
    pub left : Option (List ℕ)
    pub written : Option (List ℕ)
    pub after : Option (List ℕ)
    pub given : Environment
    pub ending : Ending
    pub serves : ServesBehind settings (state before)
        (state behind) first unread left written after given ending
    pub honest : (state behind).honest
    pub goes : RestartsAs (state behind) (state later)

  -- one called another over a network, however the call ended at either, also by a break of a store
  -- in its midst
  pub record MachinesSync (old new : List A) : Type 0 where
    pub caller : ℕ
    pub peer : ℕ
    pub apart : caller ≡ peer → ⊥
    pub before : A
    pub behind : A
    pub later : A
    pub peer_before : A
    pub peer_behind : A
    pub peer_later : A
    pub there : IsMachine old caller before
    pub peer_there : IsMachine old peer peer_before
    pub now : new ≡ slice_set (slice_set old caller later) peer peer_later
    pub ends : AreEnds (state before) (state behind) (state peer_before) (state peer_behind)
    pub honest : (state behind).honest × (state peer_behind).honest
    pub goes : RestartsAs (state behind) (state later)
    pub peer_goes : RestartsAs (state peer_behind) (state peer_later)

  -- one was stopped between its connections, and its store was opened anew
  pub record Restarts (old new : List A) : Type 0 where
    pub place : ℕ
    pub before : A
    pub later : A
    pub there : IsMachine old place before
    pub now : new ≡ slice_set old place later
    pub goes : RestartsAs (state before) (state later)
