-- Connections in their slots: what waits to be written there, when one is at rest, and when it may
-- be closed.
use Rattle.std.specs.Prelude.{◌≡◌, ◌≢◌, ◌⊎◌, ℕ, ◌+◌, ◌-◌, ◌^◌, ◌==◌, ◌<◌, ◌≤◌, min, if◌then◌else◌, is_some, Bool, true, false, nat_lt, List, [], length, sum_by, slice_get, Option, None, Some}
use Rattle.std.specs.Option.{option_map_or}
use Rattle.multiplex.specs.declared.handler.SlotEnd.{SlotEnd}
use Rattle.multiplex.specs.declared.handler.SlotEnd.TheVariants.{Finished, EndOfInput}
use Rattle.multiplex.specs.declared.source.Call.{Call}
use Rattle.multiplex.specs.declared.stay.Party.{Party}
use Rattle.multiplex.specs.declared.stay.Party.TheVariants.{Called}
use Rattle.multiplex.specs.declared.stay.Stay.{Stay}
use Rattle.multiplex.specs.Behavior.{Behavior}

-- a connection, the bytes that wait to be written, its end, once it has one, and whether something
-- may be there to read, or may be written
pub record Slot (H R W E : Type 0) : Type 0 where
  pub handler : H
  pub reader : R
  pub writer : W
  pub waiting : List ℕ
  pub ending : Option (SlotEnd E)
  -- when a byte last came or went
  pub active : ℕ
  -- when it began, or last brought a whole message
  pub heard : ℕ
  pub readable : Bool
  pub writable : Bool
  -- till when what is to be written waits, where it does
  pub held : Option ℕ
  pub stay : Stay

-- what is known of a connection that begins
abbrev pub begun : Party → (now : ℕ) → Stay
begun party now = record { party = party; began = now; answered = 0 }

-- once more what it brought was answered; the count stops at the greatest u64
abbrev pub answered_once_more : Stay → Stay
answered_once_more stay = record stay { answered = min (stay.answered + 1) (2 ^ 64 - 1) }

-- a connection that begins, with what is to be written first
abbrev pub first_slot : {H R W E : Type 0} → Stay → H → R → W → List ℕ → Slot H R W E
first_slot stay handler reader writer made = record {
  handler = handler;
  reader = reader;
  writer = writer;
  waiting = made;
  ending = None;
  active = stay.began;
  heard = stay.began;
  readable = true;
  writable = true;
  held = None;
  stay = stay;
}

-- a call that begins, with what is to be written first
abbrev pub calling_slot : {H R W E : Type 0} → H → Call R W → List ℕ → (now : ℕ) → Slot H R W E
calling_slot handler call made now =
    first_slot (begun (Called call.callee) now) handler call.reader call.writer made

-- so long, in milliseconds, a connection that isn't established keeps its slot without bringing a
-- whole message
abbrev pub unheard_limit : ℕ
unheard_limit = 10000

-- it isn't established, and brought no whole message for so long
abbrev pub IsUnheard : {H R W V E : Type 0} → Behavior H V E → (now : ℕ) → Slot H R W E → Type 0
IsUnheard handler now slot =
    (handler.is_established slot.handler ≡ false) × (slot.heard + unheard_limit ≤ now)

-- each of the first slots is taken
abbrev pub AreTaken : {X : Type 0} → (first : ℕ) → List (Option X) → Type 0
AreTaken first slots = (k : ℕ) → k < first → slice_get slots k ≢ Some None

-- of the first slots each is taken, and the connection in this one is unheard for longest
pub record IsLongestUnheard {H R W V E : Type 0} (handler : Behavior H V E) (now first : ℕ)
    (slots : List (Option (Slot H R W E))) (k : ℕ) (slot : Slot H R W E) : Type 0 where
  pub within : k < first
  pub taken : AreTaken first slots
  pub unheard : IsUnheard handler now slot
  pub longest : (j : ℕ) (other : Slot H R W E) → j < first → slice_get slots j ≡ Some (Some other)
      → IsUnheard handler now other → slot.heard ≤ other.heard

-- it goes on, and nothing waits to be written: what it brings may be answered, or more be read
abbrev pub IsResponsive : {H R W E : Type 0} → Slot H R W E → Type 0
IsResponsive slot = (slot.ending ≡ None) × (slot.waiting ≡ [])

-- it is over and may be closed: one that finished, or has no more input, once all is written; one
-- that failed, was silent for too long or makes room for another at once, whatever waits
abbrev pub MayClose : {H R W E : Type 0} → Slot H R W E → Type 0
MayClose slot = elim slot.ending [
  | None ↦ ⊥
  | Some ending ↦ elim ending [
    | Finished end ↦ slot.waiting ≡ []
    | EndOfInput ↦ slot.waiting ≡ []
    | _ ↦ Unit {0}
  ]
]

-- an answer that waits so many milliseconds before it is written is held till then; one that
-- waits for none isn't held
abbrev pub held_until : (now delay : ℕ) → Option ℕ
held_until now delay =
    if delay == 0 then None else Some (min (now + delay) (2 ^ 64 - 1))

-- nothing waits to be written, or it can't be now, or is held, or never can
abbrev pub IsWriteAtRest : {H R W E : Type 0} → Slot H R W E → Type 0
IsWriteAtRest slot =
    (slot.waiting ≡ [])
    ⊎ ((slot.writable ≡ false) ⊎ ((is_some slot.held ≡ true) ⊎ MayClose slot))

-- all that was there was read, and nothing whole stands first in it; or something waits to be
-- written there; or there is no room for answers
abbrev pub IsReadAtRest : {H R W V E : Type 0} → Behavior H V E → Bool → Slot H R W E → Type 0
IsReadAtRest handler room slot =
    (handler.needs_more slot.handler × (slot.readable ≡ false))
    ⊎ ((0 < length slot.waiting) ⊎ (room ≡ false))

-- nothing can be read or answered there now
abbrev pub IsReadQuiet : {H R W V E : Type 0} → Behavior H V E → Bool → Slot H R W E → Type 0
IsReadQuiet handler room slot = slot.ending ≡ None → IsReadAtRest handler room slot

-- nothing can be read, answered or written there now
abbrev pub IsQuiet : {H R W V E : Type 0} → Behavior H V E → Bool → Slot H R W E → Type 0
IsQuiet handler room slot = IsReadQuiet handler room slot × IsWriteAtRest slot

-- nothing can be done at it now, nor may it be closed
abbrev pub IsAtRest : {H R W V E : Type 0} → Behavior H V E → Bool → Slot H R W E → Type 0
IsAtRest handler room slot = IsQuiet handler room slot × (MayClose slot → ⊥)

-- how many bytes wait to be written in a slot, which may be free
abbrev pub waiting_in : {H R W E : Type 0} → Option (Slot H R W E) → ℕ
waiting_in slot = option_map_or (λ s. length s.waiting) slot 0

-- how many bytes wait to be written in all slots
abbrev pub all_waiting : {H R W E : Type 0} → List (Option (Slot H R W E)) → ℕ
all_waiting slots = sum_by waiting_in slots

-- what waits in each slot is fewer than 2 ^ 64 bytes
abbrev pub AreCountable : {H R W E : Type 0} → List (Option (Slot H R W E)) → Type 0
AreCountable {H} {R} {W} {E} slots =
    (k : ℕ) (slot : Option (Slot H R W E)) → slice_get slots k ≡ Some slot
    → waiting_in slot < 2 ^ 64

-- there is room for answers: fewer bytes wait than this
abbrev pub has_room : {H R W E : Type 0} → (most : ℕ) → List (Option (Slot H R W E)) → Bool
has_room most slots = nat_lt (all_waiting slots) most

-- nothing can be read, answered or written now at the connection of a slot, if one is there
abbrev pub IsQuietAt : {H R W V E : Type 0} → Behavior H V E → (room : Bool)
    → List (Option (Slot H R W E)) → ℕ → Type 0
IsQuietAt {H} {R} {W} {V} {E} handler room slots k =
    (slot : Slot H R W E) → slice_get slots k ≡ Some (Some slot) → IsQuiet handler room slot

-- nothing can be done now at the connection of a slot, if one is there
abbrev pub IsAtRestAt : {H R W V E : Type 0} → Behavior H V E → (room : Bool)
    → List (Option (Slot H R W E)) → ℕ → Type 0
IsAtRestAt {H} {R} {W} {V} {E} handler room slots k =
    (slot : Slot H R W E) → slice_get slots k ≡ Some (Some slot) → IsAtRest handler room slot
