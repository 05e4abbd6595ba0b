-- One connection among the others.
use Rattle.std.specs.Prelude.{◌≡◌, ◌≢◌, ℕ, ◌==◌, if◌then◌else◌, List, [], ◌∷◌, ◌++◌, Some, slice_get}
use Rattle.std.specs.List.{AllByRecursion, flat_map}
use Rattle.std.specs.Io.KnownBytes.{Appends, Consumes}
use Rattle.multiplex.specs.declared.limits.Limits.{Limits}
use Rattle.multiplex.specs.Effects.{Effects}
use Rattle.multiplex.specs.Input.{Input}
use Rattle.multiplex.specs.Output.{Output}
use Rattle.multiplex.specs.Behavior.{Behavior}
use Rattle.multiplex.specs.Slots.{Slot}
use Rattle.multiplex.specs.Steps.{Step, Receives, Answers, Writes, IsStep}
use Rattle.multiplex.specs.Turns.{Loop, LoopTurn, Steps, Closes, AreTurns}

-- the steps of the connection in one slot, in some turns
abbrev pub steps_at : {E : Type 0} → ℕ → List (LoopTurn E) → List (Step E)
steps_at k turns = flat_map (λ turn. elim turn [
  | Steps j step ↦ if j == k then step ∷ [] else []
  | _ ↦ []
]) turns

-- the connection in this slot isn't closed in these turns
abbrev pub StaysOpen : {E : Type 0} → ℕ → List (LoopTurn E) → Type 0
StaysOpen k turns = AllByRecursion (λ t. elim t [ Closes j ending ↦ j ≢ k | _ ↦ Unit {0} ]) turns

-- the bytes that came in some steps
abbrev pub bytes_received : {E : Type 0} → List (Step E) → List ℕ
bytes_received steps = flat_map (λ s. elim s [ Receives bytes made end ↦ bytes | _ ↦ [] ]) steps

-- the bytes that were made in some steps, to be written
abbrev pub bytes_made : {E : Type 0} → List (Step E) → List ℕ
bytes_made steps = flat_map (λ step. elim step [
  | Receives bytes made end ↦ made
  | Answers made end ↦ made
  | _ ↦ []
]) steps

-- the bytes that were written in some steps
abbrev pub bytes_written : {E : Type 0} → List (Step E) → List ℕ
bytes_written steps = flat_map (λ s. elim s [ Writes bytes ↦ bytes | _ ↦ [] ]) steps

module _ {H R W V E : Type 0} (input : Input R) (output : Output W) (handler : Behavior H V E) where
  -- a connection's own steps, one after the other; between them the world moves, and nothing else
  abbrev pub AreOwnSteps : V → Slot H R W E → List (Step E) → V → Slot H R W E → Type 0
  AreOwnSteps v old [] w new = handler.moves v w × (new ≡ old)
  AreOwnSteps v old (step ∷ steps) w new =
      (before : V) × (behind : V) × (now : ℕ) × (middle : Slot H R W E) × handler.moves v before
      × IsStep input output handler now before old step behind middle
      × AreOwnSteps behind middle steps w new

  -- what was written, and waits, is what waited before and what was made of the bytes that came
  pub record HasOwnBytes (old new : Slot H R W E) (steps : List (Step E)) : Type 0 where
    pub received :
        Consumes (input.unread old.reader) (input.unread new.reader) (bytes_received steps)
    pub written :
        Appends (output.written old.writer) (output.written new.writer) (bytes_written steps)
    pub waits : old.waiting ++ bytes_made steps ≡ bytes_written steps ++ new.waiting

  -- at the connection of a slot these steps came about as if it were alone, over a world that moves
  pub record IsAlone {S : Type 0} (old new : Loop S H R W V E) (k : ℕ) (slot : Slot H R W E)
      (steps : List (Step E)) : Type 0 where
    pub last : Slot H R W E
    pub there : slice_get new.slots k ≡ Some (Some last)
    pub own : AreOwnSteps old.world slot steps new.world last
    pub bytes : HasOwnBytes slot last steps

-- in any execution each connection, as long as it isn't closed, is served as if it were alone, over
-- a world that moves
abbrev pub EachIsAlone : {S H R W V E : Type 0} → Effects S R W → Input R → Output W
    → Behavior H V E → Type 0
EachIsAlone {S} {H} {R} {W} {V} {E} source input output handler =
    (limits : Limits) (old new : Loop S H R W V E) (k : ℕ) (slot : Slot H R W E)
    (turns : List (LoopTurn E)) → AreTurns source input output handler limits old turns new
    → slice_get old.slots k ≡ Some (Some slot) → StaysOpen k turns
    → IsAlone input output handler old new k slot (steps_at k turns)
