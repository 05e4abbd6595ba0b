-- The event loop: what one turn of it is, and an execution of turns.
use Rattle.std.specs.Prelude.{◌≡◌, ℕ, ◌≤◌, ◌<◌, Bool, true, false, List, [], ◌∷◌, count_by, slice_get, slice_set, Option, None, Some}
use Rattle.multiplex.specs.declared.handler.SlotEnd.{SlotEnd}
use Rattle.multiplex.specs.declared.source.Arrival.TheVariants.{Nobody, Failed, Connection}
use Rattle.multiplex.specs.declared.source.Call.{Call}
use Rattle.multiplex.specs.declared.stay.Origin.{Origin}
use Rattle.multiplex.specs.declared.stay.Party.TheVariants.{Accepted}
use Rattle.multiplex.specs.declared.limits.Limits.{Limits}
use Rattle.multiplex.specs.Effects.{Effects}
use Rattle.multiplex.specs.Input.{Input}
use Rattle.multiplex.specs.Output.{Output}
use Rattle.multiplex.specs.Behavior.{Behavior}
use Rattle.multiplex.specs.Slots.{Slot, begun, first_slot, calling_slot, has_room, AreTaken, IsAtRestAt, IsLongestUnheard, MayClose}
use Rattle.multiplex.specs.Steps.{Step, IsAllowed, IsStep}

-- what connections come from, their slots, of which some are free, the world, and the time
pub record Loop (S H R W V E : Type 0) : Type 0 where
  pub source : S
  pub slots : List (Option (Slot H R W E))
  pub world : V
  pub now : ℕ

-- the loop in this state
abbrev pub state : {S H R W V E : Type 0} → S → List (Option (Slot H R W E)) → V → ℕ
    → Loop S H R W V E
state source slots world now =
    record { source = source; slots = slots; world = world; now = now }

-- what may happen in one turn
pub data LoopTurn (E : Type 0) : Type 0 where
  -- it was waited, and this is the time then
  Waits : (busy : Bool) → (now : ℕ) → LoopTurn E
  -- a connection came from there, and got this slot
  Accepts : (slot : ℕ) → Origin → LoopTurn E
  -- a connection came and failed; nobody came; no slot is free for one that comes
  AcceptFails AcceptsNobody HasNoSlot : LoopTurn E
  -- a call began, and got this slot
  Calls : (slot : ℕ) → (made : List ℕ) → LoopTurn E
  -- a call was due, and couldn't begin; none was due
  CallFails CallsNobody : LoopTurn E
  -- this happened at the connection of a slot
  Steps : (slot : ℕ) → Step E → LoopTurn E
  -- the connection of a slot was closed, which ended so
  Closes : (slot : ℕ) → SlotEnd E → LoopTurn E
  -- at the connection of a slot, if one is there, nothing could be done
  Rests : (slot : ℕ) → LoopTurn E

-- it was waited
abbrev pub is_wait : {E : Type 0} → LoopTurn E → Bool
is_wait turn = elim turn [ Waits busy now ↦ true | _ ↦ false ]

-- a connection was accepted, also one that failed
abbrev pub is_accepted : {E : Type 0} → LoopTurn E → Bool
is_accepted turn = elim turn [ Accepts slot origin ↦ true | AcceptFails ↦ true | _ ↦ false ]

-- how many times it was waited
abbrev pub count_waits : {E : Type 0} → List (LoopTurn E) → ℕ
count_waits turns = count_by is_wait turns

-- how many connections were accepted
abbrev pub count_accepted : {E : Type 0} → List (LoopTurn E) → ℕ
count_accepted turns = count_by is_accepted turns

module _ {S H R W V E : Type 0} (source : Effects S R W) (input : Input R) (output : Output W)
    (handler : Behavior H V E) (limits : Limits) where
  -- it was waited, since somebody is still to be served, and the world was told the time; where
  -- nothing was to be done at once, each connection was at rest
  pub record IsWait (old : Loop S H R W V E) (busy : Bool) (now : ℕ)
      (new : Loop S H R W V E) : Type 0 where
    pub goes_on : handler.is_over old.world ≡ false
    pub rest : busy ≡ false → (k : ℕ)
        → IsAtRestAt handler (has_room limits.waiting_bytes old.slots) old.slots k
    pub waited : source.waited old.source busy now new.source
    pub longest_turn : ℕ
    pub passes : handler.passes old.world now longest_turn new.world
    pub others : new ≡ record old { source = new.source; world = new.world; now = now }

  -- a connection came, and got a free slot of those for accepted ones
  pub record IsAccept (old : Loop S H R W V E) (k : ℕ) (origin : Origin)
      (new : Loop S H R W V E) : Type 0 where
    pub reader : R
    pub writer : W
    pub first : H
    pub within : k < limits.accept_slots
    pub free : slice_get old.slots k ≡ Some None
    pub accepted : source.accepted old.source (Connection origin reader writer) new.source
    pub begins : handler.begins origin old.world first new.world
    pub others : new ≡ record old {
      source = new.source;
      world = new.world;
      slots = slice_set old.slots k
          (Some (first_slot (begun (Accepted origin) old.now) first reader writer []));
    }

  -- a connection came and failed, and the world was told
  pub record IsFailedAccept (old new : Loop S H R W V E) : Type 0 where
    pub accepted : source.accepted old.source Failed new.source
    pub fails : handler.fails_accept old.world old.now new.world
    pub others : new ≡ record old { source = new.source; world = new.world }

  -- a call began, and got a free slot behind those for accepted ones
  pub record IsCall (old : Loop S H R W V E) (k : ℕ) (made : List ℕ)
      (new : Loop S H R W V E) : Type 0 where
    pub call : Call R W
    pub first : H
    pub behind : limits.accept_slots ≤ k
    pub free : slice_get old.slots k ≡ Some None
    pub called : source.called old.source (Some call) new.source
    pub calls : handler.calls call.callee old.world made (Some first) new.world
    pub others : new ≡ record old {
      source = new.source;
      world = new.world;
      slots = slice_set old.slots k
          (Some (calling_slot first call made old.now));
    }

  -- a call was due, and couldn't begin: its connection was given back
  pub record IsFailedCall (old new : Loop S H R W V E) : Type 0 where
    pub call : Call R W
    pub between : S
    pub made : List ℕ
    pub called : source.called old.source (Some call) between
    pub calls : handler.calls call.callee old.world made None new.world
    pub closed : source.closed between call.reader call.writer new.source
    pub others : new ≡ record old { source = new.source; world = new.world }

  -- this happened at the connection of a slot; it is answered only where there is room, and makes
  -- place only where all slots for accepted ones are taken and it is unheard for longest
  pub record IsStepAt (old : Loop S H R W V E) (k : ℕ) (step : Step E)
      (new : Loop S H R W V E) : Type 0 where
    pub before : Slot H R W E
    pub behind : Slot H R W E
    pub there : slice_get old.slots k ≡ Some (Some before)
    pub allowed : IsAllowed (has_room limits.waiting_bytes old.slots)
        (IsLongestUnheard handler old.now limits.accept_slots old.slots k before) step
    pub step_is : IsStep input output handler old.now old.world before step new.world behind
    pub others : new ≡ record old { slots = slice_set old.slots k (Some behind); world = new.world }

  -- the connection of a slot was given back, which is free then; the world was told how it ended
  pub record IsClose (old : Loop S H R W V E) (k : ℕ) (ending : SlotEnd E)
      (new : Loop S H R W V E) : Type 0 where
    pub slot : Slot H R W E
    pub there : slice_get old.slots k ≡ Some (Some slot)
    pub may : MayClose slot
    pub ended : slot.ending ≡ Some ending
    pub closes : handler.closes slot.stay old.world slot.handler ending new.world
    pub closed : source.closed old.source slot.reader slot.writer new.source
    pub others : new ≡ record old {
      source = new.source;
      world = new.world;
      slots = slice_set old.slots k None;
    }

  -- a call changed the source so, and nothing else
  abbrev pub ChangesSource : (S → Type 0) → Loop S H R W V E → Loop S H R W V E → Type 0
  ChangesSource so old new = so new.source × (new ≡ record old { source = new.source })

  -- what happened in one turn
  abbrev pub IsLoopTurn : Loop S H R W V E → LoopTurn E → Loop S H R W V E → Type 0
  IsLoopTurn old (Waits busy now) new = IsWait old busy now new
  IsLoopTurn old (Accepts k origin) new = IsAccept old k origin new
  IsLoopTurn old AcceptFails new = IsFailedAccept old new
  IsLoopTurn old AcceptsNobody new = ChangesSource (source.accepted old.source Nobody) old new
  IsLoopTurn old HasNoSlot new = AreTaken limits.accept_slots old.slots × (new ≡ old)
  IsLoopTurn old (Calls k made) new = IsCall old k made new
  IsLoopTurn old CallFails new = IsFailedCall old new
  IsLoopTurn old CallsNobody new = ChangesSource (source.called old.source None) old new
  IsLoopTurn old (Steps k step) new = IsStepAt old k step new
  IsLoopTurn old (Closes k ending) new = IsClose old k ending new
  IsLoopTurn old (Rests k) new =
      IsAtRestAt handler (has_room limits.waiting_bytes old.slots) old.slots k × (new ≡ old)

  -- an execution: one turn after the other
  abbrev pub AreTurns : Loop S H R W V E → List (LoopTurn E) → Loop S H R W V E → Type 0
  AreTurns old [] new = new ≡ old
  AreTurns old (turn ∷ turns) new =
      (middle : Loop S H R W V E) × IsLoopTurn old turn middle × AreTurns middle turns new

  -- some turns, or none, of which this holds
  abbrev pub TakesTurns : (so : List (LoopTurn E) → Type 0) → Loop S H R W V E
      → Loop S H R W V E → Type 0
  TakesTurns so old new = (turns : List (LoopTurn E)) × AreTurns old turns new × so turns
