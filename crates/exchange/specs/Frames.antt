-- Frames between replicas: three letters and an F, the size with these eight bytes, and the body.
use Rattle.std.specs.Prelude.{◌≡◌, ⊤, ℕ, ◌+◌, ◌^◌, ◌≤◌, ◌<◌, nat_lt, nat_le, ◌==◌, not, ◌||◌, ◌&&◌, Bool, true, false, List, [], ◌∷◌, ◌++◌, length, take, drop, find, codes, nat_eq, Option, None, Some, Result, Ok, Err, if◌then◌else◌}
use Rattle.std.specs.List.{starts_with, flat_map, AllByRecursion}
use Rattle.std.specs.Int.{w32, from_le_bytes}
use Rattle.std.specs.Str.{bytes_eq}
use Rattle.stamp.specs.Limits.{IsReplica}
use Rattle.stamp.specs.Numbers.{IsVector}
use Rattle.stamp.specs.Vector.{vector}
use Rattle.ua_binary.specs.Format.{Format, byte, block, ◌▸◌, headed, standing_for, passing, fitting, raised, inside, items, whole, ◌>>=◌}
use Rattle.ua_binary.specs.Binary.{unsigned}
use Rattle.records.specs.declared.record.Record.{Record}
use Rattle.records.specs.Spelling.{record_form, IsRecord, IsLawfulRecord}
use Rattle.exchange.specs.declared.fault.ExchangeFault.{ExchangeFault}
use Rattle.exchange.specs.declared.fault.ExchangeFault.TheVariants.{Frame, WrongArchive, SelfPeer, PeerFormat}
use Rattle.exchange.specs.declared.message.FrameKind.{FrameKind}
use Rattle.exchange.specs.declared.message.FrameKind.TheVariants.{Vector, Records, End}
use Rattle.exchange.specs.declared.message.Frame.{Frame as Lent}
use Rattle.exchange.specs.declared.message.Header.{Header}
use Rattle.exchange.specs.declared.message.Party.{Party}
use Rattle.exchange.specs.declared.message.Title.{Title}
use Rattle.exchange.specs.declared.message.Message.{Message}
use Rattle.exchange.specs.declared.message.Message.TheVariants.{Asks, Carries, Ends}
use Rattle.exchange.specs.Batches.{most, longest_frame, frame_length}

-- ---- bodies

-- whatever is wrong with an encoding, it is one fault
abbrev pub with_frame_fault : {E A : Type 0} → Format E A → Format ExchangeFault A
with_frame_fault f = raised (λ _. Frame) f

-- the number of a replica, 1 to 64
abbrev pub sender : Format ExchangeFault ℕ
sender = passing (λ n. nat_le 1 n && nat_le n 64) Frame (with_frame_fault byte)

-- the title has a spelling
pub record IsTitle (t : Title) : Type 0 where
  pub id : length t.id ≡ 16
  pub sender : IsReplica t.sender
  pub vector : IsVector t.vector

-- the format's number, the archive's id, the sender and its vector
unfoldable pub title : Format ExchangeFault Title
title =
    fitting IsTitle
    (standing_for
    (λ (format, (id, (sender, vector))). record { id = id; sender = sender; vector = vector })
    (λ t. (2, (t.id, (t.sender, t.vector))))
    (passing (λ n. n == 2) Frame (passing (λ n. not (n == 1)) PeerFormat (with_frame_fault byte))
    ▸ with_frame_fault (block 16) ▸ sender ▸ with_frame_fault vector))

-- how many records follow
abbrev pub count : Format ExchangeFault ℕ
count = passing (λ n. nat_le n most) Frame (with_frame_fault (unsigned w32))

-- some bytes behind their number
abbrev pub length_prefixed : Format ExchangeFault (List ℕ)
length_prefixed = headed length (with_frame_fault (unsigned w32)) (λ n. with_frame_fault (block n))

-- one record behind its length, as a frame has several
unfoldable pub length_prefixed_record : Format ExchangeFault Record
length_prefixed_record = fitting IsRecord (inside Frame length_prefixed
    (with_frame_fault record_form))

-- the number that ends a dialog
abbrev pub code : Format ExchangeFault ℕ
code = with_frame_fault (unsigned w32)

-- ---- what a body says

-- a peer is of the same archive, and another replica
abbrev pub checked_sender : Party → Title → Result (Unit {0}) ExchangeFault
checked_sender p t =
    if not (bytes_eq t.id p.id) then Err WrongArchive else if t.sender == p.own then Err SelfPeer
    else Ok tt

-- all of the bytes; the fields are judged first, then the archive and the sender, and then the
-- records
abbrev pub message_at : Party → FrameKind → List ℕ → Result Message ExchangeFault
message_at p Vector body = whole Frame title body >>= λ t. checked_sender p t >>= λ _. Ok (Asks t)
message_at p Records body =
    (title ▸ count).read body >>= λ ((t, n), rest). checked_sender p t
    >>= λ _. whole Frame (items n length_prefixed_record) rest >>= λ rs. Ok (Carries t rs)
message_at p End body = whole Frame code body >>= λ n. Ok (Ends n)

-- ---- frames

-- the four letters that a frame of this kind begins with
abbrev pub frame_letters : FrameKind → List ℕ
frame_letters v = elim v [ Vector ↦ codes "RXVF" | Records ↦ codes "RXDF" | End ↦ codes "RXEF" ]

-- the kind of the frame that carries a message
abbrev pub kind_of : Message → FrameKind
kind_of v = elim v [ Asks t ↦ Vector | Carries t rs ↦ Records | Ends n ↦ End ]

-- the body of the frame of a message
abbrev pub frame_body_of : Message → List ℕ
frame_body_of v =
    elim v [
      | Asks t ↦ title.canon t
      | Carries t rs ↦ (title ▸ count).canon (t, length rs)
          ++ flat_map length_prefixed_record.canon rs
      | Ends n ↦ code.canon n
    ]

-- the frame that says it
abbrev pub frame_of : Message → List ℕ
frame_of m =
    frame_letters (kind_of m)
    ++ ((unsigned w32).canon (8 + length (frame_body_of m)) ++ frame_body_of m)

-- the frame that ends a dialog by this number
abbrev pub end_frame : ℕ → List ℕ
end_frame n = frame_of (Ends n)

-- the bytes begin with this word
abbrev pub begins : List ℕ → List ℕ → Bool
begins bytes word = starts_with nat_eq bytes word

-- what the four letters say
abbrev pub kind_at : List ℕ → Option FrameKind
kind_at bytes = find (λ kind. begins bytes (frame_letters kind)) (Vector ∷ Records ∷ End ∷ [])

-- the size that the header says, itself included
abbrev pub frame_size_at : List ℕ → ℕ
frame_size_at bytes = from_le_bytes w32 (take 4 (drop 4 bytes))

-- with n bytes there; a frame has 12 bytes at least
abbrev pub titled : ℕ → List ℕ → Option FrameKind → Result (Option Header) ExchangeFault
titled n head None = Err Frame
titled n head (Some kind) =
    if nat_lt (frame_size_at head) 12 || nat_lt longest_frame (frame_size_at head) then Err Frame
    else if nat_lt n (frame_size_at head) then Ok None
    else Ok (Some (record { kind = kind; size = frame_size_at head }))

-- the header of the first frame, none where that isn't whole, or the fault that stands there
unfoldable pub frame_header : List ℕ → Result (Option Header) ExchangeFault
frame_header bytes =
    if nat_lt (length bytes) 8 then Ok None
    else titled (length bytes) (take 8 bytes) (kind_at (take 8 bytes))

-- ---- what is held of a stream of frames

-- the bytes that came and were not given out, and whether a fault ended it
pub record ReceivedFrames : Type 0 where
  pub waiting : List ℕ
  pub failed : Bool

abbrev pub no_frames : ReceivedFrames
no_frames = record { waiting = []; failed = false }

abbrev pub next_of : ReceivedFrames → Result (Option Header) ExchangeFault
next_of held = if held.failed then Err Frame else frame_header held.waiting

-- what is held once the next frame is given out
abbrev pub after_next : ReceivedFrames → Result (Option Header) ExchangeFault → ReceivedFrames
after_next held (Ok None) = held
after_next held (Ok (Some header)) = record held { waiting = drop header.size held.waiting }
after_next held (Err fault) = record held { failed = true }

-- a frame that was cut is whole
abbrev pub IsWholeFrame : List ℕ → Header → Type 0
IsWholeFrame bytes header =
    (12 ≤ header.size) × (header.size ≤ length bytes) × (header.size ≤ longest_frame)

-- what is given out: the frame that stands first, none where it isn't whole, or the fault
abbrev pub Gives : ReceivedFrames → Result (Option Lent) ExchangeFault → Type 0
Gives held (Ok None) = next_of held ≡ Ok None
Gives held (Ok (Some frame)) =
    let header : Header = record { kind = frame.kind; size = 8 + length frame.body.now } in
    (next_of held ≡ Ok (Some header)) × IsWholeFrame held.waiting header
    × (frame.body.now ≡ drop 8 (take header.size held.waiting))
Gives held (Err fault) = next_of held ≡ Err fault

-- ---- what may be written

abbrev pub IsCode : ℕ → Type 0
IsCode n = n < 2 ^ 32

-- a message that has a frame
abbrev pub HasFrame : Message → Type 0
HasFrame (Asks t) = IsTitle t
HasFrame (Carries t rs) =
    IsTitle t × AllByRecursion IsRecord rs × (length rs ≤ most)
    × (frame_length t.vector rs ≤ longest_frame)
HasFrame (Ends n) = n < 2 ^ 32

-- a message whose records may be learned
abbrev pub IsLearnable : Message → Type 0
IsLearnable (Asks t) = ⊤
IsLearnable (Carries t rs) = AllByRecursion IsLawfulRecord rs
IsLearnable (Ends n) = ⊤
