-- A comparison with a peer that is called: what is asked, what comes for it, and what is found.
use Rattle.std.specs.Prelude.{◌≡◌, ⊤, ℕ, ◌-◌, ◌==◌, nat_lt, min, max, if◌then◌else◌, List, [], ◌∷◌, ◌++◌, Option, None, Result, Ok, Err, IfErr}
use Rattle.std.specs.Io.KnownBytes.{Appends, Consumes}
use Rattle.std.specs.List.{AllByRecursion, flat_map}
use Rattle.stamp.specs.Limits.{IsReplica, greatest}
use Rattle.stamp.specs.Numbers.{number_of}
use Rattle.records.specs.Contents.{Content, vec, AreCompatible}
use Rattle.records.specs.declared.record.Record.{Record}
use Rattle.archive.specs.declared.fault.StoreFault.{StoreFault}
use Rattle.archive.specs.Store.{Store, Asks}
use Rattle.counted_io.specs.Bytes.{AppendsPart}
use Rattle.exchange.specs.Dialogs.{party_of}
use Rattle.exchange.specs.Frames.{frame_of, message_at}
use Rattle.exchange.specs.Messages.{Party, Message}
use Rattle.exchange.specs.Streams.{FrameContent, AreFrames}
use Rattle.exchange.specs.declared.fault.ExchangeFault.TheVariants as exchange
use Rattle.exchange.specs.declared.message.Message.TheVariants.{Asks as Question, Carries}
use Rattle.exchange.specs.declared.message.Title.{Title}
use Rattle.ua_peers.specs.declared.calling.SyncFault.{SyncFault}
use Rattle.ua_peers.specs.declared.calling.SyncFault.TheVariants as sync
use Rattle.peer_check.specs.Clashes.{FindsClash}
use Rattle.peer_check.specs.declared.comparing.Clash.{Clash}
use Rattle.peer_check.specs.declared.comparing.Extent.{Extent}
use Rattle.peer_check.specs.declared.comparing.Extent.TheVariants.{Last, All}

-- ---- what is asked

-- the frame by which a party asks for the records behind these numbers
abbrev pub asking : Party → (numbers : List ℕ) → List ℕ
asking p numbers = frame_of (Question (record { id = p.id; sender = p.own; vector = numbers }))

-- nothing was written but questions, the last one perhaps in part
abbrev pub AsksOnly : Party → (before after : Option (List ℕ)) → Type 0
AsksOnly p before after =
    (asked : List (List ℕ)) × AppendsPart before after (flat_map (asking p) asked)

-- behind this number stand the records of a replica that two compare: the last one that both hold,
-- or all of them; the greatest where they share none
abbrev pub before_shared : Extent → (ours theirs : ℕ) → ℕ
before_shared extent ours theirs =
    if min ours theirs == 0 then greatest
    else elim extent [ Last ↦ min ours theirs - 1 | All ↦ 0 ]

-- behind these numbers stand the records that a content compares with who holds those of theirs
abbrev pub IsBeforeShared : Extent → Content → (theirs numbers : List ℕ) → Type 0
IsBeforeShared extent R theirs numbers =
    (replica : ℕ) → IsReplica replica
    → number_of numbers replica ≡ before_shared extent (vec R replica) (number_of theirs replica)

-- behind this number more of a replica is asked for once its record of that one came: behind that,
-- where all are compared and more of its records are held; else for nothing
abbrev pub number_behind : Extent → (held number : ℕ) → ℕ
number_behind extent held number = elim extent [
  | Last ↦ greatest
  | All ↦ if nat_lt number held then number else greatest
]

-- the number of a replica behind which who holds these asks next, once these records came for a
-- question behind those numbers
abbrev pub numbers_behind : Extent → (held numbers : ℕ → ℕ) → (brought : List Record) → ℕ → ℕ
numbers_behind extent held numbers [] replica = numbers replica
numbers_behind extent held numbers (r ∷ rs) replica =
    let others = numbers_behind extent held numbers rs replica in
    if r.origin == replica
    then max others (number_behind extent (held replica) r.number)
    else others

-- ---- what comes

-- the first frame of these bytes says this to a party, and the rest is left
abbrev pub SaysFirst : Party → (bytes left : List ℕ) → Message → Type 0
SaysFirst p bytes left told =
    (piece : FrameContent) × AreFrames bytes (piece ∷ []) left
    × (message_at p piece.kind piece.body ≡ Ok told)

-- bytes came, and what waited and these begin by a frame that says this to a party
abbrev pub Hears : Party → (waiting left : List ℕ) → (unread rest : Option (List ℕ)) → Message
    → Type 0
Hears p waiting left unread rest told =
    (came : List ℕ) × Consumes unread rest came × SaysFirst p (waiting ++ came) left told

-- they begin by a frame that carries these records, of a peer that holds these numbers
abbrev pub HearsFrom : Party → (theirs waiting left : List ℕ) → (unread rest : Option (List ℕ))
    → List Record → Type 0
HearsFrom p theirs waiting left unread rest brought =
    (title : Title) × (title.vector ≡ theirs)
    × Hears p waiting left unread rest (Carries title brought)

-- ---- questions and answers

-- a connection: what came of it and wasn't looked at yet, what is left to be read of it, and what
-- was written to it
pub record Wire : Type 0 where
  pub waiting : List ℕ
  pub unread : Option (List ℕ)
  pub written : Option (List ℕ)

-- the same of its parts
abbrev pub wire : (waiting : List ℕ) → (unread written : Option (List ℕ)) → Wire
wire waiting unread written =
    record { waiting = waiting; unread = unread; written = written }

-- a question was asked, and this is what came for it
pub record Answers (p : Party) (numbers theirs : List ℕ) (old new : Wire) (brought : List Record)
    : Type 0 where
  pub asks : Appends old.written new.written (asking p numbers)
  pub hears : HearsFrom p theirs old.waiting new.waiting old.unread new.unread brought

-- a peer told the numbers that it holds, for a question that asks for nothing
abbrev pub TellsNumbers : Party → (theirs : List ℕ) → (old new : Wire) → Type 0
TellsNumbers p theirs old new =
    (numbers : List ℕ) × (brought : List Record)
    × ((replica : ℕ) → IsReplica replica → number_of numbers replica ≡ greatest)
    × Answers p numbers theirs old new brought

-- once these records came for a question behind those numbers of who holds ours, the next one asks
-- behind next
abbrev pub AsksBehind : Extent → (ours numbers : List ℕ) → (brought : List Record) → (next : List ℕ)
    → Type 0
AsksBehind extent ours numbers brought next =
    (replica : ℕ) → number_of next replica
    ≡ numbers_behind extent (number_of ours) (number_of numbers) brought replica

-- who holds ours asked for records, behind first and then each time behind what came, as some did;
-- these came, and the next question asks behind next
abbrev pub AnswersAll : Extent → Party → (ours : List ℕ) → List (List Record)
    → (first next : List ℕ) → (old new : Wire) → Type 0
AnswersAll extent p ours [] first next old new = (next ≡ first) × (new ≡ old)
AnswersAll extent p ours (brought ∷ earlier) first next old new =
    (numbers : List ℕ) × (theirs : List ℕ) × (between : Wire)
    × AnswersAll extent p ours earlier first numbers old between
    × Answers p numbers theirs between new brought × (brought ≡ [] → ⊥)
    × AsksBehind extent ours numbers brought next

-- ---- what is found

-- what came in a comparison: the numbers that are held here and those that the peer told for a
-- question that lacks nothing; those behind which it was first asked for records, those that came
-- for each question but the last, the latest ones in front, and those for the last one
pub record Comparison : Type 0 where
  pub ours : List ℕ
  pub theirs : List ℕ
  pub first : List ℕ
  pub earlier : List (List Record)
  pub brought : List Record

-- it came over a connection
abbrev pub IsHad : Extent → Party → Comparison → (old new : Wire) → Type 0
IsHad extent p c old new =
    (told : Wire) × (between : Wire) × (numbers : List ℕ) × (theirs : List ℕ)
    × TellsNumbers p c.theirs old told
    × AnswersAll extent p c.ours c.earlier c.first numbers told between
    × Answers p numbers theirs between new c.brought

-- ours are the numbers of what is held, the peer was asked for the records that are compared, and
-- this was found among those that came for the last question; before nothing
pub record FindsAmong (extent : Extent) (R : Content) (c : Comparison) (found : Option Clash)
    : Type 0 where
  pub ours : (replica : ℕ) → number_of c.ours replica ≡ vec R replica
  pub first : IsBeforeShared extent R c.theirs c.first
  pub earlier : AllByRecursion (AreCompatible R) c.earlier
  pub found_in : FindsClash R c.brought found

-- a comparison was had with a peer, and this was found; it went on until nothing came for a
-- question, or something was found. What is held is known where the store is honest
pub record ComparesWith (extent : Extent) (old new : Store)
    (unread rest before after : Option (List ℕ)) (found : Option Clash) : Type 0 where
  pub comparison : Comparison
  pub left : List ℕ
  pub had : IsHad extent (party_of old) comparison (wire [] unread before) (wire left rest after)
  pub finds : new.honest → FindsAmong extent old.content comparison found
  pub ends : found ≡ None → comparison.brought ≡ []

-- the archive was asked and nothing else; a fault of the store is told
abbrev pub AsksAlone : {A : Type 0} → Store → Store → Result A SyncFault → Type 0
AsksAlone old new result =
    (asked : Result (Unit {0}) StoreFault) × Asks old new asked (λ _. ⊤)
    × IfErr asked (λ fault. result ≡ Err (sync.Exchange (exchange.Store fault)))
