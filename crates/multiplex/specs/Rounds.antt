-- A round: what is done between one wait and the next. Each connection has its turn.
use Rattle.std.specs.Prelude.{◌≡◌, ℕ, ◌==◌, ◌<◌, Bool, true, false, if◌then◌else◌, List, [], ◌∷◌, ◌++◌, map, count_by}
use Rattle.std.specs.List.{AllByRecursion}
use Rattle.multiplex.specs.declared.handler.SlotEnd.{SlotEnd}
use Rattle.multiplex.specs.Steps.{Step, is_progress, AreAtMost, IsVisit}
use Rattle.multiplex.specs.Turns.{LoopTurn, Waits, Accepts, Calls, Steps, Closes, Rests, is_wait, count_waits, count_accepted}
use Rattle.multiplex.specs.Alone.{steps_at}

-- a connection came, and got a slot
abbrev pub is_arrival : {E : Type 0} → LoopTurn E → Bool
is_arrival turn = elim turn [ Accepts k origin ↦ true | Calls k made ↦ true | _ ↦ false ]

-- something was done: at a connection, or one was closed
abbrev pub makes_progress : {E : Type 0} → LoopTurn E → Bool
makes_progress turn = elim turn [
  | Steps k step ↦ is_progress step
  | Closes k ending ↦ true
  | _ ↦ false
]

-- this slot had its turn: something was done at its connection, or it was closed, or nothing could
-- be done there
abbrev pub is_turn_of : {E : Type 0} → ℕ → LoopTurn E → Bool
is_turn_of k turn = elim turn [
  | Steps j step ↦ if j == k then is_progress step else false
  | Closes j ending ↦ j == k
  | Rests j ↦ j == k
  | _ ↦ false
]

-- the turns up to the next wait, or to the end
abbrev pub until_wait : {E : Type 0} → List (LoopTurn E) → List (LoopTurn E)
until_wait [] = []
until_wait (turn ∷ turns) = if is_wait turn then [] else (turn ∷ until_wait turns)

-- first it is seen who comes, and then each slot has its turn, that of who came too; no connection
-- is asked for more than one answer, nor read or written more than once
pub record IsRound {E : Type 0} (slots : ℕ) (turns : List (LoopTurn E)) : Type 0 where
  pub coming : List (LoopTurn E)
  pub serving : List (LoopTurn E)
  pub parts : turns ≡ coming ++ serving
  pub none_comes : count_by is_arrival serving ≡ 0
  pub each : (k : ℕ) → k < slots → 0 < count_by (is_turn_of k) serving
  pub once : (k : ℕ) → AreAtMost 1 1 1 (steps_at k turns)

-- behind each wait comes a round, which goes on up to the next wait, or to the end
abbrev pub AreRounds : {E : Type 0} → (slots : ℕ) → List (LoopTurn E) → Type 0
AreRounds slots [] = Unit {0}
AreRounds slots (turn ∷ turns) =
    (is_wait turn ≡ true → IsRound slots (until_wait turns)) × AreRounds slots turns

-- this happened since the last wait, once a turn is over
abbrev pub happened_since : {E : Type 0} → (what : LoopTurn E → Bool) → (before : Bool)
    → LoopTurn E → Bool
happened_since what before turn =
    if is_wait turn then false else (if what turn then true else before)

-- it was waited while something was to be done at once
abbrev pub is_busy_wait : {E : Type 0} → LoopTurn E → Bool
is_busy_wait turn = elim turn [ Waits busy now ↦ busy | _ ↦ false ]

-- before each busy wait something was done since the wait before
abbrev pub IsBusyBehindProgress : {E : Type 0} → (before : Bool) → List (LoopTurn E) → Type 0
IsBusyBehindProgress before [] = Unit {0}
IsBusyBehindProgress before (turn ∷ turns) =
    (is_busy_wait turn ≡ true → before ≡ true)
    × IsBusyBehindProgress (happened_since makes_progress before turn) turns

-- nothing is done before the first wait, which may be busy; behind each comes a round, and before
-- each other busy one something was done
pub record AreInRounds {E : Type 0} (slots : ℕ) (turns : List (LoopTurn E)) : Type 0 where
  pub begins : until_wait turns ≡ []
  pub rounds : AreRounds slots turns
  pub busy : IsBusyBehindProgress true turns

-- each turn is of a slot of which this holds
abbrev pub AreOfSlots : {E : Type 0} → (ℕ → Type 0) → List (LoopTurn E) → Type 0
AreOfSlots so turns =
    AllByRecursion (λ turn. elim turn [
      | Steps k step ↦ so k
      | Closes k ending ↦ so k
      | Rests k ↦ so k
      | _ ↦ ⊥
    ]) turns

-- a visit of the connection of a slot
abbrev pub AreStepsAt : {E : Type 0} → (k : ℕ) → (busy : Bool) → List (LoopTurn E) → Type 0
AreStepsAt {E} k busy turns =
    (steps : List (Step E)) × (turns ≡ map (λ step. Steps k step) steps) × IsVisit 1 1 1 busy steps

-- the connection of a slot was closed, or nothing was
abbrev pub AreClosing : {E : Type 0} → (k : ℕ) → (closed : Bool) → List (LoopTurn E) → Type 0
AreClosing {E} k true turns = (ending : SlotEnd E) × (turns ≡ Closes k ending ∷ [])
AreClosing k false turns = turns ≡ []

-- the turn of one slot; where it is busy something was done
pub record AreTurnOf {E : Type 0} (k : ℕ) (busy : Bool) (turns : List (LoopTurn E)) : Type 0 where
  pub own : AreOfSlots (λ j. j ≡ k) turns
  pub its : 0 < count_by (is_turn_of k) turns
  pub once : AreAtMost 1 1 1 (steps_at k turns)
  pub some : busy ≡ true → 0 < count_by makes_progress turns

-- a turn of each of the first slots; where it is busy something was done
pub record AreTurnsOf {E : Type 0} (slots : ℕ) (busy : Bool)
    (turns : List (LoopTurn E)) : Type 0 where
  pub own : AreOfSlots (λ k. k < slots) turns
  pub each : (k : ℕ) → k < slots → 0 < count_by (is_turn_of k) turns
  pub once : (k : ℕ) → AreAtMost 1 1 1 (steps_at k turns)
  pub some : busy ≡ true → 0 < count_by makes_progress turns

-- it is seen who comes: without a wait so many connections were accepted, and none was served
pub record AreComing {E : Type 0} (accepted : ℕ) (turns : List (LoopTurn E)) : Type 0 where
  pub waits : count_waits turns ≡ 0
  pub accepts : count_accepted turns ≡ accepted
  pub none : (k : ℕ) → AreAtMost 0 0 0 (steps_at k turns)
