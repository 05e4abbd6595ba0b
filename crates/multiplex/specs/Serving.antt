-- What a server does until it ends.
use Rattle.std.specs.Prelude.{◌≡◌, ◌⊎◌, ℕ, ◌+◌, ◌≤◌, ◌<◌, Bool, true, false, List, [], ◌∷◌, length, count_by, All, Option, None, Some, IfSome}
use Rattle.multiplex.specs.declared.source.Call.{Call}
use Rattle.multiplex.specs.declared.limits.Limits.{Limits}
use Rattle.multiplex.specs.Effects.{Effects}
use Rattle.multiplex.specs.Input.{Input}
use Rattle.multiplex.specs.Output.{Output}
use Rattle.multiplex.specs.Behavior.{Behavior}
use Rattle.multiplex.specs.Slots.{Slot, calling_slot}
use Rattle.multiplex.specs.Turns.{Loop, state, LoopTurn, Accepts, AcceptFails, AcceptsNobody, HasNoSlot, is_wait, count_waits, count_accepted, AreTurns, TakesTurns}
use Rattle.multiplex.specs.Rounds.{AreInRounds, happened_since, AreComing}

-- each slot is free
abbrev pub AreAllFree : {X : Type 0} → List (Option X) → Type 0
AreAllFree slots = All (λ slot. slot ≡ None) slots

-- it was asked who comes, or no slot was free for one that comes
abbrev pub has_asked : {E : Type 0} → LoopTurn E → Bool
has_asked turn = elim turn [
  | Accepts slot origin ↦ true
  | AcceptFails ↦ true
  | AcceptsNobody ↦ true
  | HasNoSlot ↦ true
  | _ ↦ false
]

-- before each wait it was asked since the wait before, unless all had come that were to
abbrev pub AsksWhoComes : {E : Type 0} → (most : Option ℕ) → (accepted : ℕ) → (asked : Bool)
    → List (LoopTurn E) → Type 0
AsksWhoComes most accepted asked [] = Unit {0}
AsksWhoComes most accepted asked (turn ∷ turns) =
    (is_wait turn ≡ true → (asked ≡ true) ⊎ (most ≡ Some accepted))
    × AsksWhoComes most (accepted + count_accepted (turn ∷ []))
    (happened_since has_asked asked turn) turns

module _ {S H R W V E : Type 0} (source : Effects S R W) (input : Input R) (output : Output W)
    (handler : Behavior H V E) (limits : Limits) where
  -- a server took its turns, in rounds, and accepted so many connections; where it is done they are
  -- all that it was to accept, and each slot is free; or its world is over; and else it was waited
  -- as often as it was to be
  pub record HasServed (old new : Loop S H R W V E) (accepted : ℕ) (done over : Bool)
      : Type 0 where
    pub turns : List (LoopTurn E)
    pub execution : AreTurns source input output handler limits old turns new
    pub rounds : AreInRounds (length old.slots) turns
    pub asks : AsksWhoComes limits.connections 0 true turns
    pub accepts : count_accepted turns ≡ accepted
    pub most : IfSome limits.connections (λ most. accepted ≤ most)
    pub ended : done ≡ true → (limits.connections ≡ Some accepted) × AreAllFree new.slots
    pub stops : over ≡ true → handler.is_over new.world ≡ true
    pub spent : done ≡ false → over ≡ false → count_waits turns ≡ limits.rounds

  -- it was asked who comes, unless all had come before
  abbrev pub HasAsked : (before accepted : ℕ) → Loop S H R W V E → Loop S H R W V E → Type 0
  HasAsked before accepted old new =
      (turns : List (LoopTurn E)) × AreTurns source input output handler limits old turns new
      × AreComing accepted turns
      × ((limits.connections ≡ Some before) ⊎ (0 < count_by has_asked turns))

  -- a call began, and this is its slot; or none was due, or it couldn't begin
  abbrev pub HasCalled : ℕ → S → V → Option (Slot H R W E) → S → V → Type 0
  HasCalled now old v (Some slot) new w =
      (call : Call R W) × (first : H) × (made : List ℕ) × source.called old (Some call) new
      × handler.calls call.callee v made (Some first) w
      × (slot ≡ calling_slot first call made now)
  HasCalled now old v None new w =
      (slots : List (Option (Slot H R W E)))
      → TakesTurns source input output handler limits (AreComing 0) (state old slots v now)
      (state new slots w now)
