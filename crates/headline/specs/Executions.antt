-- Worlds from their beginning on, replicas at some time of them, and the updates that they
-- answered.
use Rattle.std.specs.Prelude.{◌≡◌, ◌↔◌, ⊤, ℕ, ◌≤◌, List, [], take, length, slice_get, Some}
use Rattle.std.specs.List.{AllByRecursion}
use Rattle.stamp.specs.Limits.{IsReplica}
use Rattle.ua_binary.specs.declared.codes.Status.{Status}
use Rattle.records.specs.Contents.{vec, HasName}
use Rattle.records.specs.declared.record.Record.{Record}
use Rattle.hist_update.specs.declared.request.Request.{Request}
use Rattle.hist_update.specs.Outcome.{Operation, Added, IsRequest, outcome, code_in}
use Rattle.hist_update.specs.Laws.{IsSpelledRequest, IsOperation}
use Rattle.exchange.specs.Worlds.{ReplicaState, World, Event, Operates, IsReplicaAt, run}

-- replicas of one archive, each with a number of its own from 1 to 64, that hold nothing, with
-- nothing on its way
pub record IsBeginning (w : World) : Type 0 where
  pub replicas : (i : ℕ) (s : ReplicaState) → IsReplicaAt w i s
      → IsReplica s.number × (length s.id ≡ 16) × (s.content ≡ [])
  pub together : (i j : ℕ) (s t : ReplicaState) → IsReplicaAt w i s → IsReplicaAt w j t
      → (s.id ≡ t.id) × (s.number ≡ t.number → i ≡ j)
  pub pool : w.pool ≡ []

-- what the types of a request and of an operation see to, and the conditions of an update
abbrev pub IsLawfulEvent : Event → Type 0
IsLawfulEvent event =
    elim event [
      | Operates replica request operation ↦ IsRequest request × IsSpelledRequest request
          × IsOperation operation
      | _ ↦ ⊤
    ]

-- a world as it began, and what happened since: updates, and deliveries of what was sent, in any
-- order, any number of times
abbrev pub Execution : Type 0
Execution = record { start : World; events : List Event }

-- it begins with replicas that hold nothing, and each event is lawful
pub record IsExecution (p : Execution) : Type 0 where
  pub begins : IsBeginning p.start
  pub lawful : AllByRecursion IsLawfulEvent p.events

-- the world after so many of the events
abbrev pub world_at : Execution → ℕ → World
world_at p time = run (take time p.events) p.start

-- the replica at this place is so, at this time
abbrev pub IsStateAt : Execution → (time place : ℕ) → ReplicaState → Type 0
IsStateAt p time place s = IsReplicaAt (world_at p time) place s

-- some replica is so, at some time
abbrev pub IsReachable : Execution → ReplicaState → Type 0
IsReachable p s = (time place : ℕ) × IsStateAt p time place s

-- ---- what was learned

-- the two learned records of the same names: origins and numbers; that the records are the same is
-- what the laws conclude
abbrev pub HaveLearnedSameNames : ReplicaState → ReplicaState → Type 0
HaveLearnedSameNames s t =
    (origin number : ℕ) → HasName s.content origin number ↔ HasName t.content origin number

-- their vectors are equal
abbrev pub HasSameVector : ReplicaState → ReplicaState → Type 0
HasSameVector s t = (origin : ℕ) → vec s.content origin ≡ vec t.content origin

-- the one's vector is at least the other's
abbrev pub Covers : ReplicaState → ReplicaState → Type 0
Covers t s = (origin : ℕ) → vec s.content origin ≤ vec t.content origin

-- ---- updates

-- an update was done at a replica that was so, and answered by this code
abbrev pub WasAnswered : Execution → ReplicaState → Request → Operation → Status → Type 0
WasAnswered p s request op code =
    (time place : ℕ) × (slice_get p.events time ≡ Some (Operates place request op))
    × IsStateAt p time place s × (code_in (outcome s.content s.number request op) ≡ code)

-- and this is its record
abbrev pub WasRecorded : Execution → ReplicaState → Request → Operation → Record → Type 0
WasRecorded p s request op r =
    (code : Status) × WasAnswered p s request op code
    × (outcome s.content s.number request op ≡ Added code r)
