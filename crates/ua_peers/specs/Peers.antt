-- A dialog with a peer over a connection: which frames came, what an end made of them, and what
-- went out.
use Rattle.std.specs.Prelude.{◌≡◌, ◌⊎◌, ⊤, ℕ, ◌+◌, ◌≤◌, ◌==◌, Bool, true, false, not, List, [], ◌∷◌, ◌++◌, map, take, length, Option, None, Some, unwrap_or, Result, Ok, Err, option_to_list}
use Rattle.std.specs.List.{AllByRecursion, flat_map}
use Rattle.std.specs.Io.KnownBytes.{Appends, Consumes, IsAtEnd}
use Rattle.records.specs.Contents.{Content, merged}
use Rattle.archive.specs.Store.{Store, CountsFaults}
use Rattle.exchange.specs.declared.fault.ExchangeFault.{ExchangeFault}
use Rattle.exchange.specs.declared.fault.ExchangeFault.TheVariants as exchange
use Rattle.exchange.specs.declared.message.State.{State}
use Rattle.exchange.specs.declared.message.State.TheVariants.{Done, Failed}
use Rattle.exchange.specs.Messages.{Party, Message}
use Rattle.exchange.specs.Frames.{end_frame, frame_header}
use Rattle.exchange.specs.Streams.{FrameContent, AreFrames}
use Rattle.exchange.specs.Dialogs.{Turn, Way, IsWay, DialogState, fault_on, is_over, received, records_read, learned_at, frame_answered, standing_after, party_of, IsHeld, Writes, TellsFault}
use Rattle.counted_io.specs.declared.fault.ServeFault.{ServeFault}
use Rattle.counted_io.specs.declared.fault.ServeFault.TheVariants.{Read, Write, OutOfMemory}
use Rattle.ua_peers.specs.declared.peers.PeerEnded.{PeerEnded}
use Rattle.ua_peers.specs.declared.peers.PeerEnded.TheVariants as parted

-- ---- frames

-- a frame that an end took, what came in its way, what was told of it, and the bytes that were
-- written for it
pub record Taken : Type 0 where
  pub frame : FrameContent
  pub way : Way
  pub result : Result State ExchangeFault
  pub said : List ℕ

-- an end of a dialog, and what its archive holds
pub record Side : Type 0 where
  pub standing : DialogState
  pub content : Content

-- an end of a dialog that stands so and holds this
abbrev pub side_of : DialogState → Content → Side
side_of standing R = record { standing = standing; content = R }

-- what the side makes of the frame
abbrev pub turn_of : Party → Side → Taken → Turn
turn_of p side t = frame_answered p side.standing side.content t.way t.frame.kind t.frame.body

-- the side behind the frame
abbrev pub side_after : Party → Side → Taken → Side
side_after p side t =
    record {
      standing = standing_after side.standing side.content t.frame.kind (turn_of p side t);
      content = (turn_of p side t).content;
    }

-- an end of a dialog once it has taken all of these
abbrev pub after_all : Party → Side → List Taken → Side
after_all p side [] = side
after_all p side (t ∷ later) = after_all p (side_after p side t) later

-- what came in the way of each of them is what can come there, and what was told and written for it
-- is what the side makes of it, as the ones before it left it
abbrev pub AreAnswered : Party → Side → List Taken → Type 0
AreAnswered p side [] = ⊤
AreAnswered p side (t ∷ later) =
    (IsWay (records_read (received p side.standing t.frame.kind t.frame.body)) t.way
    × Writes (turn_of p side t) t.result [] t.said) × AreAnswered p (side_after p side t) later

-- the message that a frame is to the side, if it is one
abbrev pub message_to : Party → Side → Taken → Result Message ExchangeFault
message_to p side t = received p side.standing t.frame.kind t.frame.body

-- how many of its records the side learns
abbrev pub learned_by : Party → Side → Taken → ℕ
learned_by p side t = learned_at p side.standing.state side.content t.way (message_to p side t)

-- what the last frame may leave: what the side held before it, with those of the frame's records
-- that were learned, or also the next one of them; before any frame what the side held
abbrev pub IsLeftBy : Party → Side → List Taken → Content → Type 0
IsLeftBy p side [] left = left ≡ side.content
IsLeftBy p side (t ∷ []) left =
    (k : ℕ) × (learned_by p side t ≤ k) × (k ≤ learned_by p side t + 1)
    × (left ≡ merged (take k (records_read (message_to p side t))) side.content)
IsLeftBy p side (t ∷ u ∷ later) left = IsLeftBy p (side_after p side t) (u ∷ later) left

-- ---- ends

-- no frame of these ended the dialog
abbrev pub AreOpen : List Taken → Type 0
AreOpen taken =
    AllByRecursion
    (λ t. (elim t.result [ Ok state ↦ not (is_over state) | Err fault ↦ false ]) ≡ true) taken

-- a fault is told to the peer, or memory for that was wanting, and nothing was written
abbrev pub failed_as : (silent : Bool) → ExchangeFault → Result PeerEnded ServeFault
failed_as test fault = elim test [ true ↦ Err OutOfMemory | false ↦ Ok (parted.Failed fault) ]

-- how the dialog ended, if this result ends it; code is the number that the peer ended it by
abbrev pub ended_as : Option ℕ → (silent : Bool) → Result State ExchangeFault
    → Option (Result PeerEnded ServeFault)
ended_as code silent result =
    elim result [
      | Ok Done ↦ Some (Ok parted.Done)
      | Ok Failed ↦ Some (Ok (parted.Refused (unwrap_or code 0)))
      | Ok state ↦ None
      | Err fault ↦ Some (failed_as silent fault)
    ]

-- nothing was written
abbrev pub is_silent : List ℕ → Bool
is_silent said = length said == 0

-- the last frame that was taken ended the dialog so
abbrev pub EndsByFrame : List Taken → Option ℕ → Result PeerEnded ServeFault → Type 0
EndsByFrame taken code ending = record {
  before : List Taken;
  last : Taken;
  all : taken ≡ before ++ (last ∷ []);
  goes : AreOpen before;
  ends : ended_as code (is_silent last.said) last.result ≡ Some ending;
}

-- what came behind the frames is no frame
abbrev pub EndsByNoFrame : List Taken → (rest beside : List ℕ) → Result PeerEnded ServeFault
    → Type 0
EndsByNoFrame taken rest beside ending = record {
  goes : AreOpen taken;
  malformed : frame_header rest ≡ Err exchange.Frame;
  fault : ExchangeFault;
  told : TellsFault exchange.Frame (Err fault) [] beside;
  ends : failed_as (is_silent beside) fault ≡ ending;
}

-- memory for what came was wanting, and the peer was told so (4)
abbrev pub EndsStarved : List Taken → (beside : List ℕ) → Result PeerEnded ServeFault → Type 0
EndsStarved taken beside ending = record {
  goes : AreOpen taken;
  told : beside ≡ end_frame 4;
  ends : ending ≡ Ok (parted.Failed exchange.OutOfMemory);
}

-- the dialog is open, or it ended so; beside is what was written behind the answers to the frames
abbrev pub IsEnd : List Taken → Option ℕ → (rest beside : List ℕ)
    → Option (Result PeerEnded ServeFault) → Type 0
IsEnd taken code rest beside None = AreOpen taken × (beside ≡ [])
IsEnd taken code rest beside (Some ending) =
    (EndsByFrame taken code ending × (beside ≡ []))
    ⊎ (EndsByNoFrame taken rest beside ending ⊎ EndsStarved taken beside ending)

-- ---- dialogs

-- the bytes that came are frames and this rest; this was written for them, the dialog is open or
-- ended so, and the end stands so then
pub record Talks (start : DialogState) (old new : Store) (came out rest : List ℕ)
    (ending : Option (Result PeerEnded ServeFault)) (last : DialogState) : Type 0 where
  pub taken : List Taken
  pub beside : List ℕ
  pub frames : AreFrames came (map (λ t. t.frame) taken) rest
  pub wrote : out ≡ flat_map (λ t. t.said) taken ++ beside
  pub ends : IsEnd taken last.code rest beside ending
  pub passes : CountsFaults old new (flat_map (λ t. option_to_list (fault_on t.way)) taken)
  -- over a store that is honest; over a broken one it is so whatever it held, since no answer tells
  -- what nobody knows
  pub answered : new.honest → (R : Content) → IsHeld old R
      → AreAnswered (party_of old) (side_of start R) taken
  pub stands : new.honest → (R : Content) → IsHeld old R
      → last ≡ (after_all (party_of old) (side_of start R) taken).standing
  pub content : new.honest → (R : Content) → IsHeld old R
      → IsHeld new (after_all (party_of old) (side_of start R) taken).content
  -- while it goes on the store stays in use
  pub used : new.honest → old.broken ≡ false → ending ≡ None → new.broken ≡ false
  -- a crash leaves what the last frame may leave; where nothing was added, what it could leave
  -- before
  pub crash : new.honest → (R : Content) → IsHeld old R → (left : Content) → new.may_hold left
      → (old.may_hold left
      × (old.broken ≡ false → (after_all (party_of old) (side_of start R) taken).content ≡ R))
      ⊎ ((old.broken ≡ false) × IsLeftBy (party_of old) (side_of start R) taken left)

-- the same, by one frame at most; and by one, while the dialog is open, unless none is whole
pub record TalksOnce (start : DialogState) (old new : Store) (came out rest : List ℕ)
    (ending : Option (Result PeerEnded ServeFault)) (last : DialogState) : Type 0 where
  pub talks : Talks start old new came out rest ending last
  pub one : length talks.taken ≤ 1
  pub some : talks.taken ≡ [] → ending ≡ None → frame_header came ≡ Ok None

-- the dialog is open, and no whole frame is left
abbrev pub Waits : DialogState → Store → Store → List ℕ → List ℕ → DialogState → Type 0
Waits start old new came out last =
    (rest : List ℕ) × (frame_header rest ≡ Ok None) × Talks start old new came out rest None last

-- What went out for the bytes that came, by how the connection ended. At the end of the input, and
-- where a read failed: each whole frame was answered, and the dialog is open. Where a write failed:
-- a first part of what was to be written. Else: all that was written in a dialog that ended so.
abbrev pub Speaks : DialogState → Store → Store → List ℕ → List ℕ → Result PeerEnded ServeFault
    → DialogState → Type 0
Speaks start old new came out (Ok parted.EndOfInput) last = Waits start old new came out last
Speaks start old new came out (Err Read) last = Waits start old new came out last
Speaks start old new came out (Err Write) last =
    (unsent rest : List ℕ) × (ending : Option (Result PeerEnded ServeFault))
    × Talks start old new came (out ++ unsent) rest ending last
Speaks start old new came out ending last =
    (rest : List ℕ) × Talks start old new came out rest (Some ending) last

-- a dialog over a connection went from state start to last and ended so; first are bytes that were
-- read before
pub record MeetsTo (start : DialogState) (old new : Store) (first : List ℕ)
    (unread left : Option (List ℕ)) (before after : Option (List ℕ))
    (ending : Result PeerEnded ServeFault) (last : DialogState) : Type 0 where
  pub came : List ℕ
  pub out : List ℕ
  pub read : Consumes unread left came
  pub over : ending ≡ Ok parted.EndOfInput → IsAtEnd left
  pub written : Appends before after out
  pub speaks : Speaks start old new (first ++ came) out ending last

-- a dialog over a connection ended so, wherever its end stands then
abbrev pub MeetsBehind : DialogState → (old new : Store) → List ℕ
    → (unread left before after : Option (List ℕ)) → Result PeerEnded ServeFault → Type 0
MeetsBehind start old new first unread left before after ending =
    (last : DialogState) × MeetsTo start old new first unread left before after ending last

-- the same, with nothing read before
abbrev pub Meets : DialogState → (old new : Store) → (unread left before after : Option (List ℕ))
    → Result PeerEnded ServeFault → Type 0
Meets start old new unread left before after ending =
    MeetsBehind start old new [] unread left before after ending

-- the state of the end that answers, before its first frame
abbrev pub responding : DialogState
responding =
    record {
      state = Rattle.exchange.specs.declared.message.State.TheVariants.Serving;
      taken = 0;
      code = None;
      started = true;
      learned = 0;
      sent = 0;
    }
