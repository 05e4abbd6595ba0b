-- Plants: machines that serve many clients and peers at once. What happens is one turn after the
-- other, each at one machine, and turns of its other connections come in between.
use Rattle.std.specs.Prelude.{◌≡◌, ◌⊎◌, ⊤, ℕ, Bool, List, [], ◌∷◌, ◌++◌, map, slice_get, slice_set, Option, option_to_list, Result}
use Rattle.std.specs.List.{AllByRecursion, flat_map}
use Rattle.records.specs.Lists.{Has}
use Rattle.records.specs.Contents.{Content}
use Rattle.records.specs.Spelling.{IsLawfulRecord}
use Rattle.records.specs.declared.record.Record.{Record}
use Rattle.ua_settings.specs.Settings.{SettingsValues}
use Rattle.archive.specs.declared.fault.StoreFault.{StoreFault}
use Rattle.archive.specs.Store.{Store, CountsFaults, KeepsContent}
use Rattle.counted_io.specs.declared.fault.ServeFault.{ServeFault}
use Rattle.exchange.specs.declared.fault.ExchangeFault.{ExchangeFault}
use Rattle.exchange.specs.Admissions.{first_frame}
use Rattle.exchange.specs.Ahead.{first_records, LearnsAhead}
use Rattle.exchange.specs.Messages.{Party}
use Rattle.exchange.specs.declared.message.State.{State}
use Rattle.exchange.specs.Dialogs.{DialogState, TellsFault, party_of, records_read}
use Rattle.exchange.specs.Frames.{message_at}
use Rattle.exchange.specs.Streams.{FrameContent, AreFrames}
use Rattle.exchange.specs.Worlds.{ReplicaState, World, IsReplicaAt, run}
use Rattle.ua_connection.specs.Client.{Ending}
use Rattle.ua_connection.specs.Environments.{Environment}
use Rattle.ua_connection.specs.Turns.{ConnectionState, Advances}
use Rattle.ua_peers.specs.Events.{IsSent}
use Rattle.ua_peers.specs.Peers.{Talks}
use Rattle.ua_peers.specs.Wires.{IsStartOf}
use Rattle.ua_peers.specs.declared.peers.PeerEnded.{PeerEnded}
use Rattle.conversation.specs.Admitting.{TellsAhead}
use Rattle.conversation.specs.Starting.{GreetsPeer}
use Rattle.headline.specs.Executions.{Execution}
use Rattle.headline.specs.Machines.{RestartsAs, Extends, IsMachine, AreNew, Simulates, Restarts}

-- ---- frames on their way

-- the bytes begin with whole frames, one after the other, and this is one of them
abbrev pub IsFrameOf : FrameContent → List ℕ → Type 0
IsFrameOf frame bytes =
    (frames : List FrameContent) × (rest : List ℕ) × AreFrames bytes frames rest × Has frames frame

-- the records that an end of a dialog reads in a frame: none in one that is no message to it
abbrev pub records_at : Party → FrameContent → List Record
records_at p frame = records_read (message_at p frame.kind frame.body)

-- each frame of these bytes brings no records, or those of a batch that was sent, to whomever it
-- comes
abbrev pub BringsSent : List (List Record) → List ℕ → Type 0
BringsSent pool bytes =
    (frame : FrameContent) → IsFrameOf frame bytes → (p : Party)
    → IsSent pool (records_at p frame)

-- If these frames bring records to this end of a dialog, they were written. All else is anybody's:
-- what frames without records say, and which frames come, in what order, and how often.
abbrev pub AreUnforged : (written : List (List ℕ)) → Party → List FrameContent → Type 0
AreUnforged written p frames =
    AllByRecursion (λ frame. (records_at p frame ≡ [])
    ⊎ ((bytes : List ℕ) × Has written bytes × IsFrameOf frame bytes)) frames

-- the bytes are whole frames, one after the other
abbrev pub AreWholeFrames : List ℕ → Type 0
AreWholeFrames bytes = (frames : List FrameContent) × AreFrames bytes frames []

-- Of what turns wrote on a connection this came at its other end: a first part. Each turn wrote
-- whole frames; the last one perhaps a part of what it said, where the connection failed.
pub record CameOver (written : List (List ℕ)) (came : List ℕ) : Type 0 where
  pub turns : List (List ℕ)
  pub last : List ℕ
  pub whole : AllByRecursion (λ made. Has written made × AreWholeFrames made) turns
  pub there : Has written last
  pub part : IsStartOf came (flat_map (λ made. made) turns ++ last)

-- ---- what one turn leaves

-- one replica holds R in place of what it held, and the others stay
pub record IsReplaced (w v : World) (i : ℕ) (s : ReplicaState) (R : Content) : Type 0 where
  pub here : IsReplicaAt v i (record s { content = R })
  pub others : (j : ℕ) → (j ≡ i → ⊥) → slice_get v.replicas j ≡ slice_get w.replicas j

-- the records on their way are lawful
abbrev pub AreLawfulBatches : List (List Record) → Type 0
AreLawfulBatches pool =
    (batch : List Record) → Has pool batch → (r : Record) → Has batch r → IsLawfulRecord r

-- a client's message was answered, whatever it said; a peer was told nothing
pub record AnswersMessage (old new : Store) (made : List ℕ) : Type 0 where
  pub settings : SettingsValues
  pub link : ConnectionState
  pub used : Environment
  pub answer : List ℕ
  pub ending : Option Ending
  pub next : ConnectionState
  pub advances : Advances settings old new link used answer ending next
  pub silent : made ≡ []

-- frames of a dialog with a peer were taken, and so much of what was said to them was written
pub record AnswersFrames (written : List (List ℕ)) (old new : Store) (made : List ℕ) : Type 0 where
  pub start : DialogState
  pub came : List ℕ
  pub said : List ℕ
  pub rest : List ℕ
  pub ending : Option (Result PeerEnded ServeFault)
  pub last : DialogState
  pub talks : Talks start old new came said rest ending last
  pub unforged : AreUnforged written (party_of old) (map (λ t. t.frame) talks.taken)
  pub part : IsStartOf made said

-- a call to a peer began, one that looks for numbers that were given twice or not, and so much of
-- the frame that asks was written
abbrev pub BeginsCall : (old new : Store) → (made : List ℕ) → Type 0
BeginsCall old new made =
    (checks : Bool) × (frame : List ℕ) × (result : Result (Unit {0}) ExchangeFault)
    × GreetsPeer checks old new frame result × IsStartOf made frame

-- some first records of a frame of a dialog with a peer were learned ahead of the frame's turn, and
-- so much of what tells why the next one wasn't, if it wasn't, was written
pub record LearnsRecords (written : List (List ℕ)) (old new : Store)
    (made : List ℕ) : Type 0 where
  pub start : DialogState
  pub last : DialogState
  pub came : List ℕ
  pub result : Result (Option ℕ) ExchangeFault
  pub said : List ℕ
  pub ends : Option (Result PeerEnded ServeFault)
  pub learns : LearnsAhead old new start last (first_records (party_of old) start came) result
  pub unforged : AreUnforged written (party_of old) (option_to_list (first_frame came))
  pub told : TellsAhead result said ends
  pub part : IsStartOf made said

-- a peer's records weren't taken: what is held stays, and so much of the frame that tells the peer
-- why was written; the store may have met faults
pub record RefusesRecords (old new : Store) (made : List ℕ) : Type 0 where
  pub fault : ExchangeFault
  pub told : Result State ExchangeFault
  pub said : List ℕ
  pub faults : List StoreFault
  pub stays : KeepsContent old new
  pub passes : CountsFaults old new faults
  pub tells : TellsFault fault told [] said
  pub part : IsStartOf made said

-- ---- plants

-- machines, and what any of them wrote to peers so far, turn by turn
pub record Plant (A : Type 0) : Type 0 where
  pub machines : List A
  pub written : List (List ℕ)

-- the plant after a turn of the machine at this place, by which this was written to a peer
abbrev pub plant_after : {A : Type 0} → Plant A → (place : ℕ) → A → (made : List ℕ) → Plant A
plant_after old place later made = record {
  machines = slice_set old.machines place later;
  written = old.written ++ (made ∷ []);
}

module _ {A : Type 0} (state : A → Store) where
  -- its machines are new, and nothing was written
  pub record IsNewPlant (plant : Plant A) : Type 0 where
    pub machines : AreNew state plant.machines
    pub written : plant.written ≡ []

  -- its machines hold what the replicas of an execution do at its end, and what they wrote brings
  -- what these sent
  pub record PlantSimulates (p : Execution) (plant : Plant A) : Type 0 where
    pub machines : Simulates state p plant.machines
    pub written : (bytes : List ℕ) → Has plant.written bytes
        → BringsSent (run p.events p.start).pool bytes

  -- so it is after the execution, and what happened since
  abbrev pub PlantExtendsTo : Execution → Plant A → Type 0
  PlantExtendsTo p plant = (q : Execution) × Extends p q × PlantSimulates q plant

  -- ---- steps

  -- a machine did this, and this was written to a peer; it goes on as it is, or, where its store
  -- broke or it was stopped there, as an opening finds it
  pub record Acts (Does : Store → Store → List ℕ → Type 0) (before later : A)
      (made : List ℕ) : Type 0 where
    pub behind : A
    pub does : Does (state before) (state behind) made
    pub honest : (state behind).honest
    pub goes : RestartsAs (state behind) (state later)

  -- one machine did this, and the others stay
  pub record TakesTurn (Does : Store → Store → List ℕ → Type 0) (old new : Plant A) : Type 0 where
    pub place : ℕ
    pub before : A
    pub later : A
    pub made : List ℕ
    pub there : IsMachine state old.machines place before
    pub acts : Acts Does before later made
    pub now : new ≡ plant_after old place later made

  -- a machine answered a client's message
  abbrev pub IsClientTurn : Plant A → Plant A → Type 0
  IsClientTurn = TakesTurn AnswersMessage

  -- a machine took frames of a dialog with a peer, who may be anybody; records that they brought
  -- were in frames that machines of the plant wrote
  abbrev pub IsPeerTurn : Plant A → Plant A → Type 0
  IsPeerTurn old = TakesTurn (AnswersFrames old.written) old

  -- a machine began a call to a peer
  abbrev pub IsCallTurn : Plant A → Plant A → Type 0
  IsCallTurn = TakesTurn BeginsCall

  -- a machine learned some first records of a frame of a peer, who may be anybody, ahead of the
  -- frame's turn; if it brings any, a machine of the plant wrote it
  abbrev pub IsLearningTurn : Plant A → Plant A → Type 0
  IsLearningTurn old = TakesTurn (LearnsRecords old.written) old

  -- a machine took no records of a peer
  abbrev pub IsRefusalTurn : Plant A → Plant A → Type 0
  IsRefusalTurn = TakesTurn RefusesRecords

  -- a machine was stopped between its turns, and its store was opened anew
  abbrev pub IsRestart : Plant A → Plant A → Type 0
  IsRestart old new =
      Restarts state old.machines new.machines × (new.written ≡ old.written)

  -- any of these
  abbrev pub IsPlantStep : Plant A → Plant A → Type 0
  IsPlantStep old new =
      (IsClientTurn old new
      ⊎ (IsPeerTurn old new ⊎ (IsLearningTurn old new ⊎ IsRefusalTurn old new)))
      ⊎ (IsCallTurn old new ⊎ IsRestart old new)

  -- each of these plants came of the one before it by a step
  abbrev pub ArePlantSteps : Plant A → List (Plant A) → Type 0
  ArePlantSteps plant [] = ⊤
  ArePlantSteps plant (next ∷ later) = IsPlantStep plant next × ArePlantSteps next later

  -- each of these plants simulates an execution that goes on after that of the one before it
  abbrev pub AreSimulated : Execution → List (Plant A) → Type 0
  AreSimulated p [] = ⊤
  AreSimulated p (plant ∷ later) =
      (q : Execution) × Extends p q × PlantSimulates q plant × AreSimulated q later
