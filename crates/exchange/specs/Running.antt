-- Worlds whose replicas are archives.
use Rattle.std.specs.Prelude.{◌≡◌, ⊤, ℕ, ◌-◌, ◌^◌, ◌<◌, ◌≤◌, ◌⊎◌, Bool, true, false, List, [], ◌∷◌, ◌++◌, take, slice_get, Some, Result, Ok, Err, IsErr, IfOk, unwrap_or}
use Rattle.std.specs.List.{AllByRecursion}
use Rattle.std.specs.Option.{option_map_or}
use Rattle.stamp.specs.Numbers.{number_of}
use Rattle.ua_binary.specs.declared.codes.Status.{Status}
use Rattle.ua_binary.specs.declared.codes.TheConstants.Status.{BAD_OUT_OF_MEMORY, BAD_RESOURCE_UNAVAILABLE}
use Rattle.ua_services.specs.declared.updates.HistoryUpdateResult.{HistoryUpdateResult}
use Rattle.ua_variant.specs.DataValue.{IsShortData}
use Rattle.records.specs.Moments.{moment}
use Rattle.records.specs.Records.{is_delete, missing}
use Rattle.records.specs.Contents.{Content, merged}
use Rattle.records.specs.declared.record.Record.{Record}
use Rattle.archive.specs.declared.fault.StoreFault.{StoreFault}
use Rattle.archive.specs.declared.fault.LearnFault.{LearnFault}
use Rattle.archive.specs.declared.fault.LearnFault.TheVariants as refused
use Rattle.archive.specs.Store.{Store, CountsFaults, IsLeft}
use Rattle.hist_update.specs.Outcome.{Operation, Write, DeleteAt, IsRequest}
use Rattle.exchange.specs.declared.world.Operation.{Operation as Asked}
use Rattle.exchange.specs.declared.world.Operation.TheVariants as asked
use Rattle.exchange.specs.declared.world.Event.{Event as Given}
use Rattle.exchange.specs.declared.world.Event.TheVariants as given
use Rattle.exchange.specs.declared.world.Halted.{Halted}
use Rattle.exchange.specs.declared.replica.Batch.{Batch}
use Rattle.exchange.specs.Worlds.{ReplicaState, World, Event, Operates, Sends, Delivers, Restarts, operated, sent, after_event, run}

-- ---- events, as the definitions have them

abbrev pub operation_of : Asked → Operation
operation_of (asked.Write how type v) = Write how type v
operation_of (asked.Delete time) = DeleteAt (moment time.0 0)

abbrev pub event_of : Given → Event
event_of (given.Operation replica request operation) =
    Operates replica request (operation_of operation)
event_of (given.Send replica vector limit) = Sends replica (number_of vector) limit
event_of (given.Deliver replica batch count) = Delivers replica batch count
event_of (given.Restart replica) = Restarts replica

-- the conditions of an update
abbrev pub IsAsked : Asked → Type 0
IsAsked (asked.Write how type v) = (is_delete how ≡ false) × IsShortData v
IsAsked (asked.Delete time) = ⊤

abbrev pub IsEvent : Given → Type 0
IsEvent (given.Operation replica request operation) = IsRequest request × IsAsked operation
IsEvent event = ⊤

-- ---- archives as replicas

-- its id, its number and what it is left with are the replica's
pub record IsSiteOf (a : Store) (s : ReplicaState) : Type 0 where
  pub id : a.id ≡ s.id
  pub number : a.own ≡ s.number
  pub content : IsLeft a s.content

-- replicas between which these batches were sent
abbrev pub world_of : List ReplicaState → List (List Record) → World
world_of sites pool = record { replicas = sites; pool = pool }

abbrev pub place_of : Event → ℕ
place_of (Operates i request op) = i
place_of (Sends i v limit) = i
place_of (Delivers i batch count) = i
place_of (Restarts i) = i

-- an event that reads the store of its replica, whatever that holds
abbrev pub reads_store : Event → Bool
reads_store event = elim event [ Sends i v limit ↦ true | Restarts i ↦ true | _ ↦ false ]

-- it ended with no more events than these
abbrev pub EndsWithin : ℕ → Result (Unit {0}) ℕ → Type 0
EndsWithin n result = elim result [ Ok u ↦ ⊥ | Err count ↦ count ≤ n ]

-- what a fault leaves of a world in which an event was to happen: what it was; of what was
-- delivered, some first records more, at most as many as were to come; of an operation behind which
-- its store is broken, perhaps its record
abbrev pub Halts : (IsBroken : ℕ → Type 0) → World → Event → List ReplicaState → Type 0
Halts IsBroken w (Delivers i batch count) sites =
    (k : ℕ) × (k ≤ count) × (sites ≡ (after_event w (Delivers i batch k)).replicas)
Halts IsBroken w (Operates i request op) sites =
    (sites ≡ w.replicas) ⊎ (IsBroken i × (sites ≡ (after_event w (Operates i request op)).replicas))
Halts IsBroken w event sites = sites ≡ w.replicas

module _ {A : Type 0} (state : A → Store) where
  -- each archive holds what the replica at its place holds, and there are as many
  abbrev pub AreSites : List A → List ReplicaState → Type 0
  AreSites [] [] = ⊤
  AreSites [] (s ∷ sites) = ⊥
  AreSites (a ∷ archives) [] = ⊥
  AreSites (a ∷ archives) (s ∷ sites) = IsSiteOf (state a) s × AreSites archives sites

  -- each store returned what was written to it
  abbrev pub AreHonest : List A → Type 0
  AreHonest archives = AllByRecursion (λ a. (state a).honest) archives

  -- the store at this place is broken
  abbrev pub IsBroken : List A → ℕ → Type 0
  IsBroken archives i = (a : A) × (slice_get archives i ≡ Some a) × ((state a).broken ≡ true)

  -- the events happened; or so many did, and in the next one a fault came
  abbrev pub Ends : List A → World → List Event → Result (Unit {0}) ℕ → List ReplicaState → Type 0
  Ends new w events (Ok u) sites = sites ≡ (run events w).replicas
  Ends new w events (Err count) sites =
      (event : Event) × (slice_get events count ≡ Some event)
      × Halts (IsBroken new) (run (take count events) w) event sites

  -- whatever the archives are left with, they were left with something before of which the events
  -- made that; an archive in use is left with what it holds
  pub record RunsWorld (old new : List A) (events : List Event)
      (result : Result (Unit {0}) ℕ) : Type 0 where
    pub ran : AreHonest new → (left : List ReplicaState) → AreSites new left
        → (sites : List ReplicaState) × AreSites old sites
        × Ends new (world_of sites []) events result left
    -- no event reads a store that was broken: the events ended there, or before
    pub ended : (n : ℕ) (event : Event) → slice_get events n ≡ Some event → reads_store event ≡ true
        → IsBroken old (place_of event) → EndsWithin n result

  -- ---- one event

  -- it happened, or a fault came
  abbrev pub Comes : List A → Event → Result (Unit {0}) Halted → World → World → Type 0
  Comes new event (Ok u) w v = v ≡ after_event w event
  Comes new event (Err end) w v = Halts (IsBroken new) w event v.replicas

  pub record Happens (old new : List A) (pool later : List (List Record)) (event : Event)
      (result : Result (Unit {0}) Halted) : Type 0 where
    pub honest : AreHonest new → AreHonest old
    pub stays : (i : ℕ) → IsBroken old i → IsBroken new i
    pub ended : IsBroken old (place_of event) → reads_store event ≡ true → IsErr result
    pub came : AreHonest new → (left : List ReplicaState) → AreSites new left
        → (sites : List ReplicaState) × AreSites old sites
        × Comes new event result (world_of sites pool) (world_of left later)

-- ---- at one archive

-- a content is changed so, or a fault came in the way and left this
abbrev pub Turned : (Content → Content) → (Content → Content → Type 0) → Result (Unit {0}) Halted
    → Content → Content → Type 0
Turned change Leaves (Ok u) R S = S ≡ change R
Turned change Leaves (Err end) R S = Leaves R S

-- whatever it is left with came so of something that it was left with before
pub record Turns (old new : Store) (change : Content → Content)
    (Leaves : Content → Content → Type 0) (result : Result (Unit {0}) Halted) : Type 0 where
  pub faults : List StoreFault
  pub passes : CountsFaults old new faults
  pub came : new.honest → (S : Content) → IsLeft new S
      → (R : Content) × IsLeft old R × Turned change Leaves result R S

abbrev pub IsSame : Content → Content → Type 0
IsSame R S = S ≡ R

-- as it was, or, where the store is broken then, changed so
abbrev pub IsSameOr : (broken : Bool) → (Content → Content) → Content → Content → Type 0
IsSameOr broken change R S = (S ≡ R) ⊎ ((broken ≡ true) × (S ≡ change R))

-- some of these records, from the first on, were learned more
abbrev pub HasLearnedFirst : List Record → Content → Content → Type 0
HasLearnedFirst rs R S = (k : ℕ) × (S ≡ merged (take k rs) R)

-- how a delivery ends by a record that isn't learned: a fault of the store ends the world, and a
-- refusal doesn't
abbrev pub EndsBy : LearnFault → Result (Unit {0}) Halted → Type 0
EndsBy (refused.Store fault) (Ok u) = ⊥
EndsBy (refused.Store fault) (Err end) = ⊤
EndsBy cause result = result ≡ Ok tt

-- one batch more is there, or memory was wanting
abbrev pub Puts : List Batch → List Batch → Batch → Result (Unit {0}) Halted → Type 0
Puts old new batch (Ok u) = new ≡ old ++ batch ∷ []
Puts old new batch (Err end) = new ≡ old

-- a batch of what a vector lacks was sent
pub record Gives (old new : Store) (pool later : List (List Record)) (v : ℕ → ℕ) (limit : ℕ)
    (result : Result (Unit {0}) Halted) : Type 0 where
  pub faults : List StoreFault
  pub passes : CountsFaults old new faults
  pub ended : old.broken ≡ true → IsErr result
  pub stays : new.honest → (R : Content) → IsLeft new R → IsLeft old R
  pub batch : new.honest → (R : Content) → IsLeft new R
      → IfOk result (λ _. later ≡ pool ++ missing R v limit ∷ [])

-- the first records of the batch at this place are learned, if it is there
abbrev pub came_in : List (List Record) → (place count : ℕ) → Content → Content
came_in pool place count R =
    option_map_or (λ batch. merged (take count batch) R) (slice_get pool place) R

-- or some first ones, so many at most
abbrev pub HasSome : List (List Record) → (place count : ℕ) → Content → Content → Type 0
HasSome pool place count R S = (k : ℕ) × (k ≤ count) × (S ≡ came_in pool place k R)

-- ---- one event, at the replica that it comes to

-- what it holds then
abbrev pub turned : ReplicaState → List (List Record) → Event → Content
turned s pool (Operates i request op) = operated request op s
turned s pool (Sends i v limit) = s.content
turned s pool (Delivers i batch count) = came_in pool batch count s.content
turned s pool (Restarts i) = s.content

-- what is on its way then
abbrev pub pooled : ReplicaState → List (List Record) → Event → List (List Record)
pooled s pool (Sends i v limit) = sent v limit pool s
pooled s pool event = pool

-- what it may hold where a fault came
abbrev pub IsHalf : (broken : Bool) → ReplicaState → List (List Record) → Event → Content → Type 0
IsHalf broken s pool (Delivers i batch count) S = HasSome pool batch count s.content S
IsHalf broken s pool (Operates i request op) S =
    (S ≡ s.content) ⊎ ((broken ≡ true) × (S ≡ turned s pool (Operates i request op)))
IsHalf broken s pool event S = S ≡ s.content

-- what the replica is then
abbrev pub Became : (broken : Bool) → ReplicaState → (pool later : List (List Record)) → Event
    → Result (Unit {0}) Halted → ReplicaState → Type 0
Became broken s pool later event (Ok u) t =
    (t ≡ record s { content = turned s pool event }) × (later ≡ pooled s pool event)
Became broken s pool later event (Err end) t =
    (S : Content) × IsHalf broken s pool event S × (t ≡ record s { content = S })

pub record TurnsBy (old new : Store) (pool later : List (List Record)) (event : Event)
    (result : Result (Unit {0}) Halted) : Type 0 where
  pub faults : List StoreFault
  pub passes : CountsFaults old new faults
  pub ended : old.broken ≡ true → reads_store event ≡ true → IsErr result
  pub came : new.honest → (t : ReplicaState) → IsSiteOf new t
      → (s : ReplicaState) × IsSiteOf old s × Became new.broken s pool later event result t

-- the code of an update of one operation; its status, where it was refused as a whole
abbrev pub update_status : HistoryUpdateResult → Status
update_status told = unwrap_or (slice_get told.operation_results 0) told.status

-- an update was answered by this code, with so many faults counted before it and after it: nothing
-- came in its way
pub record IsClear (code : Status) (before later : ℕ) : Type 0 where
  pub memory : code ≡ BAD_OUT_OF_MEMORY → ⊥
  pub store : code ≡ BAD_RESOURCE_UNAVAILABLE → (before < 2 ^ 64 - 1) × (later ≡ before)
