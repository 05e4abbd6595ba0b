-- What the bytes of a dialog are, whole frames one after the other and a rest that is no whole
-- frame; and whole runs of the calls on a stream.
use Rattle.std.specs.Prelude.{◌≡◌, ◌++◌, ◌+◌, ℕ, Bool, true, false, List, [], ◌∷◌, length, take, drop, Option, None, Some, Result, Ok, Err}
use Rattle.exchange.specs.declared.fault.ExchangeFault.{ExchangeFault}
use Rattle.exchange.specs.declared.fault.ExchangeFault.TheVariants.{Frame}
use Rattle.exchange.specs.declared.message.FrameKind.{FrameKind}
use Rattle.exchange.specs.declared.message.Header.{Header}
use Rattle.exchange.specs.Frames.{frame_header, ReceivedFrames, next_of, after_next, IsWholeFrame}

-- ---- the bytes

-- what a frame carries
pub record FrameContent : Type 0 where
  pub kind : FrameKind
  pub body : List ℕ

-- these bytes are one whole frame
pub record IsFrame (piece : FrameContent) (bytes : List ℕ) : Type 0 where
  pub whole : frame_header bytes ≡ Ok (Some (record { kind = piece.kind; size = length bytes }))
  pub body : drop 8 bytes ≡ piece.body

-- the bytes are these frames, one after the other, and then the rest
abbrev pub AreFrames : List ℕ → List FrameContent → List ℕ → Type 0
AreFrames bytes [] rest = bytes ≡ rest
AreFrames bytes (piece ∷ pieces) rest =
    (chunk : List ℕ) × (more : List ℕ) × (bytes ≡ chunk ++ more) × IsFrame piece chunk
    × AreFrames more pieces rest

-- what is cut where no whole frame stands first: none, or the fault
abbrev pub verdict : (failed : Bool) → Result (Option Header) ExchangeFault
verdict false = Ok None
verdict true = Err Frame

-- the bytes are these frames, and a rest that is less than one, or at which the fault stands
pub record AreFramesThenRest (bytes : List ℕ) (pieces : List FrameContent) (rest : List ℕ)
    (failed : Bool) : Type 0 where
  pub frames : AreFrames bytes pieces rest
  pub ends : frame_header rest ≡ verdict failed

-- ---- the calls

-- what a call did; a feed that ran out of memory did nothing, and is none
pub data FramesCall : Type 0 where
  -- feed took these bytes
  Fed : List ℕ → FramesCall
  -- next_frame gave this frame
  Gave : FrameContent → FramesCall
  -- next_frame gave none
  Waited : FramesCall
  -- next_frame gave the fault
  Refused : FramesCall

abbrev pub header_of : FrameContent → Header
header_of piece = record { kind = piece.kind; size = 8 + length piece.body }

-- what the calls promise
abbrev pub DoesFramesCall : ReceivedFrames → FramesCall → ReceivedFrames → Type 0
DoesFramesCall old (Fed bytes) new = new ≡ record old { waiting = old.waiting ++ bytes }
DoesFramesCall old (Gave piece) new =
    ((next_of old ≡ Ok (Some (header_of piece))) × IsWholeFrame old.waiting (header_of piece)
    × (piece.body ≡ drop 8 (take (8 + length piece.body) old.waiting)))
    × (new ≡ after_next old (next_of old))
DoesFramesCall old Waited new = (next_of old ≡ Ok None) × (new ≡ after_next old (next_of old))
DoesFramesCall old Refused new = (next_of old ≡ Err Frame) × (new ≡ after_next old (next_of old))

-- one call after the other
abbrev pub RunsFrames : ReceivedFrames → List FramesCall → ReceivedFrames → Type 0
RunsFrames old [] new = new ≡ old
RunsFrames old (event ∷ events) new =
    (between : ReceivedFrames) × DoesFramesCall old event between × RunsFrames between events new

-- all the bytes that were fed
abbrev pub fed_of : List FramesCall → List ℕ
fed_of [] = []
fed_of (Fed bytes ∷ events) = bytes ++ fed_of events
fed_of (Gave piece ∷ events) = fed_of events
fed_of (Waited ∷ events) = fed_of events
fed_of (Refused ∷ events) = fed_of events

-- the frames that were given out
abbrev pub given_of : List FramesCall → List FrameContent
given_of [] = []
given_of (Fed bytes ∷ events) = given_of events
given_of (Gave piece ∷ events) = piece ∷ given_of events
given_of (Waited ∷ events) = given_of events
given_of (Refused ∷ events) = given_of events

-- what next_frame gives where no whole frame stands first
abbrev pub ended : (failed : Bool) → FramesCall
ended false = Waited
ended true = Refused
