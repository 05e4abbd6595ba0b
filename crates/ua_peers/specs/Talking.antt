-- What the steps of a dialog over a connection come to.
use Rattle.std.specs.Prelude.{◌≡◌, ⊤, ℕ, ◌+◌, ◌*◌, ◌≤◌, ◌<◌, true, false, List, ◌++◌, length, Bool, Option, None, Some, Result, Ok, Err}
use Rattle.std.specs.Io.KnownBytes.{Appends, Consumes}
use Rattle.archive.specs.Store.{Store}
use Rattle.exchange.specs.declared.fault.ExchangeFault.{ExchangeFault}
use Rattle.exchange.specs.declared.fault.ExchangeFault.TheVariants as exchange
use Rattle.exchange.specs.declared.message.State.{State}
use Rattle.exchange.specs.Frames.{end_frame, frame_header, ReceivedFrames}
use Rattle.exchange.specs.Dialogs.{DialogState}
use Rattle.counted_io.specs.declared.fault.ServeFault.{ServeFault}
use Rattle.counted_io.specs.declared.fault.ServeFault.TheVariants.{Read, Write}
use Rattle.ua_peers.specs.declared.peers.PeerEnded.{PeerEnded}
use Rattle.ua_peers.specs.declared.peers.PeerEnded.TheVariants as parted
use Rattle.counted_io.specs.Bytes.{AppendsPart}
use Rattle.ua_peers.specs.Peers.{ended_as, Talks}

-- the end that the first frame is, if one was there
abbrev pub ending_of : Option ℕ → (silent : Bool) → Option (Result State ExchangeFault)
    → Option (Result PeerEnded ServeFault)
ending_of code silent None = None
ending_of code silent (Some result) = ended_as code silent result

-- what ends a stretch: no frame is left, or the dialog ended
abbrev pub stop_by : Option (Result PeerEnded ServeFault)
    → Option (Result (Option PeerEnded) ServeFault)
stop_by None = None
stop_by (Some (Ok p)) = Some (Ok (Some p))
stop_by (Some (Err fault)) = Some (Err fault)

abbrev pub stop_of : Option ℕ → (silent : Bool) → Option (Result State ExchangeFault)
    → Option (Result (Option PeerEnded) ServeFault)
stop_of code silent None = Some (Ok None)
stop_of code silent (Some result) = stop_by (ended_as code silent result)

-- the end that a stretch came to, if it did
abbrev pub ending_in : Result (Option PeerEnded) ServeFault → Option (Result PeerEnded ServeFault)
ending_in (Ok None) = None
ending_in (Ok (Some p)) = Some (Ok p)
ending_in (Err fault) = Some (Err fault)

-- ---- what is left

-- an end that takes frames, 1,000,000 at most
pub record IsReady (standing : DialogState) : Type 0 where
  pub started : standing.started ≡ true
  pub few : standing.taken ≤ 1000000

-- a frame was taken
pub record TakesOne (frames left : ReceivedFrames) (before after : DialogState) : Type 0 where
  pub sound : left.failed ≡ false
  pub less : length left.waiting < length frames.waiting
  pub most : length frames.waiting ≤ length left.waiting + 2097152
  pub counted : after.taken ≡ before.taken + 1
  pub few : before.taken < 1000000

-- what is left behind the first frame, if one was there
abbrev pub LeavesOne : ReceivedFrames → ReceivedFrames → DialogState → DialogState
    → Option (Result State ExchangeFault) → Type 0
LeavesOne frames left before after None =
    (frame_header frames.waiting ≡ Ok None) × (left ≡ frames) × (after ≡ before)
LeavesOne frames left before after (Some (Ok state)) = TakesOne frames left before after
LeavesOne frames left before after (Some (Err fault)) = ⊤

-- what was taken and what waits came to no less than before
abbrev pub IsNoLess : ReceivedFrames → ReceivedFrames → DialogState → DialogState → Type 0
IsNoLess frames left before after =
    2097152 * before.taken + length frames.waiting ≤ 2097152 * after.taken + length left.waiting

-- nothing whole waits
pub record IsDrained (frames left : ReceivedFrames) (before after : DialogState) : Type 0 where
  pub sound : left.failed ≡ false
  pub short : frame_header left.waiting ≡ Ok None
  pub no_less : IsNoLess frames left before after
  pub ready : IsReady after

-- what a stretch leaves
abbrev pub LeavesAll : ReceivedFrames → ReceivedFrames → DialogState → DialogState
    → Result (Option PeerEnded) ServeFault → Type 0
LeavesAll frames left before after (Ok None) = IsDrained frames left before after
LeavesAll frames left before after (Ok (Some parted.EndOfInput)) = ⊥
LeavesAll frames left before after (Ok (Some p)) = ⊤
LeavesAll frames left before after (Err Read) = ⊥
LeavesAll frames left before after (Err fault) = ⊤

-- ---- what was written

-- known contents grew by what was written for the frames; where the writer failed, by a first part
-- of that
abbrev pub AnswersAll : DialogState → Store → Store → List ℕ → List ℕ → List ℕ
    → Result (Option PeerEnded) ServeFault → DialogState → Type 0
AnswersAll start old new came out rest (Err Write) last =
    (unsent : List ℕ) × (ending : Option (Result PeerEnded ServeFault))
    × Talks start old new came (out ++ unsent) rest ending last
AnswersAll start old new came out rest result last =
    Talks start old new came out rest (ending_in result) last

abbrev pub SentAllReplies : DialogState → Store → Store → Option (List ℕ) → Option (List ℕ) → List ℕ
    → List ℕ → Result (Option PeerEnded) ServeFault → DialogState → Type 0
SentAllReplies start old new before after came rest result last =
    (out : List ℕ) × Appends before after out × AnswersAll start old new came out rest result last

-- what was written so far
abbrev pub DrainedSoFar : DialogState → Store → Store → Option (List ℕ) → Option (List ℕ) → List ℕ
    → List ℕ → DialogState → Type 0
DrainedSoFar start old new before after came rest last =
    (out : List ℕ) × Appends before after out × Talks start old new came out rest None last

-- an end of the dialog for want of memory was written, or a first part of it where the writer
-- failed
abbrev pub TellsWant : Option (List ℕ) → Option (List ℕ) → Result PeerEnded ServeFault → Type 0
TellsWant before after (Ok p) =
    (p ≡ parted.Failed exchange.OutOfMemory) × Appends before after (end_frame 4)
TellsWant before after (Err Write) = AppendsPart before after (end_frame 4)
TellsWant before after (Err fault) = ⊥

-- this was read so far and this written, and the end stands so
pub record MeetsSoFar (start : DialogState) (old new : Store) (first : List ℕ)
    (unread left before after : Option (List ℕ)) (rest : List ℕ) (last : DialogState) : Type 0 where
  pub came : List ℕ
  pub out : List ℕ
  pub read : Consumes unread left came
  pub written : Appends before after out
  pub talks : Talks start old new (first ++ came) out rest None last
