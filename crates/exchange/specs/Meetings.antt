-- Dialogs of two replicas over memory.
use Rattle.std.specs.Prelude.{◌≡◌, ◌⊎◌, ⊤, ℕ, ◌+◌, ◌*◌, ◌≤◌, true, false, List, [], take, length, Result, Ok, Err, IsErr, IfOk, IfErr, IfSome, ◌++◌, ◌∷◌, Option, None, Some, option_to_list}
use Rattle.records.specs.Lists.{Has}
use Rattle.stamp.specs.Numbers.{number_of}
use Rattle.records.specs.Contents.{Content, AreCompatible, IsWithin, join, merged, vec}
use Rattle.records.specs.declared.record.Record.{Record}
use Rattle.archive.specs.declared.fault.StoreFault.{StoreFault}
use Rattle.archive.specs.declared.fault.LearnFault.TheVariants as refused
use Rattle.archive.specs.Store.{Store, IsQuiescent, IsLawfulContent, CountsFaults, KeepsContent, IsLeft}
use Rattle.exchange.specs.declared.message.Title.{Title}
use Rattle.exchange.specs.declared.message.Message.{Message}
use Rattle.exchange.specs.declared.message.Message.TheVariants.{Asks, Carries, Ends}
use Rattle.exchange.specs.declared.message.Party.{Party}
use Rattle.exchange.specs.declared.message.State.{State}
use Rattle.exchange.specs.declared.message.State.TheVariants.{Pulling, Pushing, Serving, Done}
use Rattle.exchange.specs.Frames.{kind_of, frame_body_of, frame_of, checked_sender, HasFrame}
use Rattle.exchange.specs.Dialogs.{title_by, Turn, turned, Clear, fault_on, DialogState, frame_answered, records_in, standing_after, party_of, Takes}
use Rattle.exchange.specs.Fault.{store_fault_of}
use Rattle.exchange.specs.declared.fault.ExchangeFault.{ExchangeFault}
use Rattle.exchange.specs.declared.fault.ExchangeFault.TheVariants as exchange

-- replicas of one archive, with numbers of their own, whose stores are in use and hold no two
-- records of one name
pub record CanMeet (a b : Store) : Type 0 where
  pub id : a.id ≡ b.id
  pub apart : a.own ≡ b.own → ⊥
  pub one : IsQuiescent a × (a.broken ≡ false)
  pub other : IsQuiescent b × (b.broken ≡ false)
  pub compatible : AreCompatible a.content b.content

-- its own records, and some of the other's
pub record IsBetween (own other left : Content) : Type 0 where
  pub lawful : IsLawfulContent left
  pub above : IsWithin own left
  pub only : (r : Record) → Has left r → Has own r ⊎ Has other r

-- both hold the join of what they held, after three frames at least, and at most two for each
-- record that was added and three more
pub record AreJoined (R S R' S' : Content) (frames : ℕ) : Type 0 where
  pub one : R' ≡ join R S
  pub other : S' ≡ join R S
  pub added : ℕ
  pub more : length R' + length S' ≡ length R + length S + added
  pub few : (3 ≤ frames) × (frames ≤ 2 * added + 3)

-- what may come in a frame's way: memory, or a store
abbrev pub IsOfOutside : ExchangeFault → Type 0
IsOfOutside exchange.OutOfMemory = ⊤
IsOfOutside (exchange.Store fault) = ⊤
IsOfOutside (exchange.Learn learned (refused.Store fault)) = ⊤
IsOfOutside other = ⊥

-- or an end took its 1,000,000 frames
abbrev pub IsOfMeeting : ExchangeFault → Type 0
IsOfMeeting exchange.TooLong = ⊤
IsOfMeeting other = IsOfOutside other

-- each holds its own records and some of the other's; behind a break an opening finds such a
-- content
pub record AreBetween (a b a' b' : Store) : Type 0 where
  pub one : (left : Content) → a'.may_hold left → IsBetween a.content b.content left
  pub other : (left : Content) → b'.may_hold left → IsBetween b.content a.content left

-- a fault of the store that is told is one of these
abbrev pub IsStoreFaultAmong : ExchangeFault → List StoreFault → Type 0
IsStoreFaultAmong fault faults = IfSome (store_fault_of fault) (Has faults)

-- ---- the frames of a whole dialog

-- an end between two frames: who it is, how it stands and what it holds
pub record End : Type 0 where
  pub party : Party
  pub standing : DialogState
  pub content : Content

-- what it makes of the frame that says m, where nothing comes in the way
abbrev pub made : End → Message → Turn
made end m = frame_answered end.party end.standing end.content Clear (kind_of m) (frame_body_of m)

-- how it stands behind that frame, and what it holds then
abbrev pub past : End → Message → End
past end m = record {
  party = end.party;
  standing = standing_after end.standing end.content (kind_of m) (made end m);
  content = (made end m).content;
}

-- two ends, the one that is to take a frame and the other one, and what is on its way
pub record Meeting : Type 0 where
  pub taker : End
  pub giver : End
  pub way : Option Message

-- the frame was taken, and what answers it is on its way to the other end
abbrev pub handed : Meeting → Message → Meeting
handed now m = record {
  taker = now.giver;
  giver = past now.taker m;
  way = (made now.taker m).reply;
}

-- these frames were handed over, each of them what was on its way then; nothing came in their way
abbrev pub AreHanded : Meeting → List Message → Meeting → Type 0
AreHanded now [] last = last ≡ now
AreHanded now (m ∷ later) last =
    (now.way ≡ Some m) × ((state : State) × ((made now.taker m).result ≡ Ok state))
    × AreHanded (handed now m) later last

-- an end in this state that took no frame yet
abbrev pub fresh_end : State → Store → End
fresh_end state s = record {
  party = party_of s;
  standing = record {
    state = state;
    taken = 0;
    code = None;
    started = true;
    learned = 0;
    sent = 0;
  };
  content = s.content;
}

-- the initiator's first frame is on its way to the responder
abbrev pub begun : (initiator responder : Store) → Meeting
begun a b = record {
  taker = fresh_end Serving b;
  giver = fresh_end Pulling a;
  way = Some (Asks (title_by (party_of a) a.content));
}

-- so many frames were handed over, from the first one up to one that is answered by none; the
-- responder is done, and both hold what the frames made of what they held
abbrev pub AreWhole : (a b a' b' : Store) → ℕ → Type 0
AreWhole a b a' b' count =
    (frames : List Message) × (last : Meeting) × AreHanded (begun a b) frames last
    × (count ≡ length frames) × (last.way ≡ None) × (last.giver.standing.state ≡ Done)
    × (a'.content ≡ last.taker.content) × (b'.content ≡ last.giver.content)

-- an end took 1,000,000 frames, and another one came to it
abbrev pub AreTooMany : (a b : Store) → Type 0
AreTooMany a b =
    (frames : List Message) × (last : Meeting) × AreHanded (begun a b) frames last
    × ((next : Message) × (last.way ≡ Some next)) × (last.taker.standing.taken ≡ 1000000)

-- it is left with this content, perhaps with some first ones of these records
abbrev pub LeavesFirst : Store → Content → List Record → Type 0
LeavesFirst s R rs = (left : Content) → IsLeft s left → (k : ℕ) × (left ≡ merged (take k rs) R)

-- an end failed: it is left with what it held, perhaps with some first ones of these records, which
-- were to come, and the other end with what that held
abbrev pub AreLeft : (failed other : Store) → (taker giver : End) → List Record → Type 0
AreLeft failed other taker giver rs =
    LeavesFirst failed taker.content rs × LeavesFirst other giver.content []

-- frames were handed over, and the end that was to take the next one failed
abbrev pub AreCut : (a b a' b' : Store) → Type 0
AreCut a b a' b' =
    (frames : List Message) × (last : Meeting) × (next : Message)
    × AreHanded (begun a b) frames last × (last.way ≡ Some next)
    × (((last.taker.party ≡ party_of a) × AreLeft a' b' last.taker last.giver (records_in next))
    ⊎ ((last.taker.party ≡ party_of b) × AreLeft b' a' last.taker last.giver (records_in next)))

pub record Converses (a b a' b' : Store) (result : Result ℕ ExchangeFault) : Type 0 where
  pub joined : a'.honest → b'.honest → CanMeet a b
      → IfOk result (AreJoined a.content b.content a'.content b'.content)
  -- it answers how many frames were handed over, by turns, each of them the answer to the last one
  pub dialog : a'.honest → b'.honest → CanMeet a b → IfOk result (AreWhole a b a' b')
  pub between : a'.honest → b'.honest → CanMeet a b
      → IfErr result (λ fault. IsOfMeeting fault × AreBetween a b a' b')
  pub cut : a'.honest → b'.honest → CanMeet a b → IfErr result (λ fault. AreCut a b a' b')
  -- replicas of two archives, or of one number, come to no end, and stay as they were
  pub refused : a'.honest → b'.honest → ((a.id ≡ b.id) × (a.own ≡ b.own → ⊥) → ⊥)
      → IsErr result × KeepsContent a a' × KeepsContent b b'
  -- so many frames go by only where as many records were added
  pub long : a'.honest → b'.honest → CanMeet a b → result ≡ Err exchange.TooLong → a'.broken ≡ false
      → b'.broken ≡ false
      → 999999 + (length a.content + length b.content) ≤ length a'.content + length b'.content
  pub full : a'.honest → b'.honest → CanMeet a b → result ≡ Err exchange.TooLong → AreTooMany a b
  pub faults : List StoreFault
  pub passes : CountsFaults a a' faults
  pub others : List StoreFault
  pub passes_other : CountsFaults b b' others
  -- a fault of the store that is told is one that a call of either archive gave
  pub told : a'.honest → b'.honest → CanMeet a b
      → IfErr result (λ fault. IsStoreFaultAmong fault (faults ++ others))

-- ---- one frame

-- one end was handed the other's frame, and took it; or memory for that was wanting, and nothing
-- was done
pub record Hands (old new : Store) (before after : DialogState) (bytes out written : List ℕ)
    (result : Result State ExchangeFault) : Type 0 where
  pub faults : List StoreFault
  pub passes : CountsFaults old new faults
  pub takes : (m : Message) → HasFrame m → bytes ≡ frame_of m
      → (KeepsContent old new × CountsFaults old new [] × (result ≡ Err exchange.OutOfMemory))
      ⊎
      ((taken : Takes old new before after (kind_of m) (frame_body_of m) out written result)
      × (faults ≡ option_to_list (fault_on taken.way)))
  pub started : after.started ≡ before.started

-- the peer may be met
abbrev pub checked_title : Party → Message → Type 0
checked_title p (Asks t) = checked_sender p t ≡ Ok tt
checked_title p (Carries t rs) = checked_sender p t ≡ Ok tt
checked_title p (Ends n) = ⊤

-- the sender's vector is at least that of the content
abbrev pub Covers : Title → Content → Type 0
Covers t R = (origin : ℕ) → vec R origin ≤ number_of t.vector origin

-- ---- the turns of one end

-- what an end held, and what it was told then
pub record Heard : Type 0 where
  pub content : Content
  pub message : Message

-- one turn after the other, from one state to another, where nothing comes in the way
abbrev pub Follows : Party → State → List Heard → State → Type 0
Follows p state [] final = final ≡ state
Follows p state (heard ∷ later) final =
    (between : State) × ((turned p state heard.content heard.message).result ≡ Ok between)
    × Follows p between later final

-- an initiator's turns up to the one by which it was done
pub record EndsDone (p : Party) (turns : List Heard) : Type 0 where
  pub before : List Heard
  pub final : Heard
  pub parts : turns ≡ before ++ (final ∷ [])
  pub state : State
  -- the vector that the peer sent last is at least its own: with records that are none, or in
  -- answer to records
  pub title : Title
  pub sent : ((state ≡ Pulling) × (final.message ≡ Carries title []))
      ⊎ ((state ≡ Pushing) × (final.message ≡ Asks title))
  pub covers : Covers title final.content
  -- it told the peer the end
  pub told : (turned p state final.content final.message).reply ≡ Some (Ends 0)

-- records that are none answered its vector
abbrev pub HasPulled : List Heard → Type 0
HasPulled turns =
    (heard : Heard) × Has turns heard × (title : Title) × (heard.message ≡ Carries title [])
