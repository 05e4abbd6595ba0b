-- What connections bring, as events of a world of replicas.
use Rattle.std.specs.Prelude.{◌≡◌, ◌⊎◌, ⊤, ℕ, List, [], ◌∷◌, ◌++◌, slice_get, Some, Result}
use Rattle.std.specs.List.{AllByRecursion}
use Rattle.records.specs.declared.record.Record.{Record}
use Rattle.exchange.specs.Messages.{Party}
use Rattle.exchange.specs.Dialogs.{asking_frame, DialogState, received, records_read, party_of}
use Rattle.exchange.specs.Worlds.{ReplicaState, World, Event, Sends, Delivers, IsReplicaAt}
use Rattle.records.specs.Contents.{Content}
use Rattle.archive.specs.Store.{Store}
use Rattle.counted_io.specs.declared.fault.ServeFault.{ServeFault}
use Rattle.ua_peers.specs.declared.peers.PeerEnded.{PeerEnded}
use Rattle.ua_peers.specs.Wires.{IsStartOf}
use Rattle.ua_peers.specs.Calling.{calling}
use Rattle.ua_peers.specs.Peers.{Taken, Side, side_after, responding, Speaks}

-- no records, or a batch that was sent
abbrev pub IsSent : List (List Record) → List Record → Type 0
IsSent pool rs = (rs ≡ []) ⊎ ((batch : ℕ) × (slice_get pool batch ≡ Some rs))

-- the records of each frame were sent as one batch
abbrev pub WereSent : List (List Record) → Party → Side → List Taken → Type 0
WereSent pool p side [] = ⊤
WereSent pool p side (t ∷ later) =
    IsSent pool (records_read (received p side.standing t.frame.kind t.frame.body))
    × WereSent pool p (side_after p side t) later

-- some first records of batches come to one replica
abbrev pub AreDeliveries : ℕ → List Event → Type 0
AreDeliveries i = AllByRecursion (λ event. (batch count : ℕ) × (event ≡ Delivers i batch count))

-- ---- two replicas

-- one replica sends, or some first records of a batch come to it
abbrev pub IsExchange : ℕ → Event → Type 0
IsExchange i event =
    ((vector : ℕ → ℕ) × (limit : ℕ) × (event ≡ Sends i vector limit))
    ⊎ ((batch count : ℕ) × (event ≡ Delivers i batch count))

-- sends and deliveries at either of two
abbrev pub AreExchanges : ℕ → ℕ → List Event → Type 0
AreExchanges i j = AllByRecursion (λ event. IsExchange i event ⊎ IsExchange j event)

-- they hold A and B in place of what they held, and the others stay
pub record AreUpdated (w v : World) (i j : ℕ) (s t : ReplicaState) (A B : Content) : Type 0 where
  pub here : IsReplicaAt v i (record s { content = A })
  pub there : IsReplicaAt v j (record t { content = B })
  pub others : (k : ℕ) → (k ≡ i → ⊥) → (k ≡ j → ⊥) → slice_get v.replicas k ≡ slice_get w.replicas k

-- both ends of one call, over stores that held and hold this: what came at each is a first part of
-- what went out at the other
pub record AreEnds (s s' t t' : Store) : Type 0 where
  pub came : List ℕ
  pub out : List ℕ
  pub ending : Result PeerEnded ServeFault
  pub last : DialogState
  pub calls : Speaks calling s s' came out ending last
  pub came_there : List ℕ
  pub out_there : List ℕ
  pub ending_there : Result PeerEnded ServeFault
  pub last_there : DialogState
  pub responds : Speaks responding t t' came_there out_there ending_there last_there
  pub back : IsStartOf came out_there
  pub forth : IsStartOf came_there (asking_frame (party_of s) s.content ++ out)
