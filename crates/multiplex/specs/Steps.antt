-- What happens at one connection, step by step.
use Rattle.std.specs.Prelude.{◌≡◌, ℕ, ◌+◌, ◌≤◌, ◌<◌, Bool, true, false, List, [], ◌∷◌, ◌++◌, length, count_by, Option, None, Some}
use Rattle.std.specs.Option.{option_map}
use Rattle.std.specs.Io.KnownBytes.{Appends, Consumes, IsAtEnd, Keeps}
use Rattle.multiplex.specs.declared.handler.SlotEnd.{SlotEnd}
use Rattle.multiplex.specs.declared.handler.SlotEnd.TheVariants.{Finished, EndOfInput, ReadFailed, WriteFailed, IdleTimeout, Displaced}
use Rattle.multiplex.specs.Input.{Input}
use Rattle.multiplex.specs.Output.{Output}
use Rattle.multiplex.specs.Behavior.{Behavior}
use Rattle.multiplex.specs.Slots.{Slot, answered_once_more, held_until, IsResponsive, IsUnheard}

-- what may happen at a connection
pub data Step (E : Type 0) : Type 0 where
  -- bytes came, and these are to be written for them at once
  Receives : (bytes made : List ℕ) → (end : Option E) → Step E
  -- what stood first was answered
  Answers : (made : List ℕ) → (end : Option E) → Step E
  -- nothing whole stood first
  Lacks : Step E
  -- bytes were written
  Writes : (bytes : List ℕ) → Step E
  -- it ended without a message
  Stops : SlotEnd E → Step E
  -- nothing more was there to read; nothing more could be written; either may be otherwise now
  FindsEmpty FindsFull Wakes : Step E
  -- what waits may be written, which was held till now
  Releases : Step E

-- it was asked for an answer, which it had or lacked
abbrev pub is_asked : {E : Type 0} → Step E → Bool
is_asked step = elim step [ Answers made end ↦ true | Lacks ↦ true | _ ↦ false ]

-- bytes came
abbrev pub is_read : {E : Type 0} → Step E → Bool
is_read step = elim step [ Receives bytes made end ↦ true | _ ↦ false ]

-- bytes were written
abbrev pub is_written : {E : Type 0} → Step E → Bool
is_written step = elim step [ Writes bytes ↦ true | _ ↦ false ]

-- something was done: bytes came, something was answered, or bytes were written
abbrev pub is_progress : {E : Type 0} → Step E → Bool
is_progress step = elim step [
  | Receives bytes made end ↦ true
  | Answers made end ↦ true
  | Writes bytes ↦ true
  | _ ↦ false
]

-- it was asked for so many answers at most, and read and written so many times at most
pub record AreAtMost {E : Type 0} (asked read written : ℕ) (steps : List (Step E)) : Type 0 where
  pub asks : count_by is_asked steps ≤ asked
  pub reads : count_by is_read steps ≤ read
  pub writes : count_by is_written steps ≤ written

-- a visit, or a part of one: so often at most it was asked, read and written; where it is busy
-- something was done
pub record IsVisit {E : Type 0} (asked read written : ℕ) (busy : Bool)
    (steps : List (Step E)) : Type 0 where
  pub most : AreAtMost asked read written steps
  pub some : busy ≡ true → 0 < count_by is_progress steps

-- so long, in milliseconds, may no byte come or go
abbrev pub idle_limit : ℕ
idle_limit = 120000

-- answers need room, and a connection makes place only where it has to
abbrev pub IsAllowed : {E : Type 0} → (room : Bool) → (has_to : Type 0) → Step E → Type 0
IsAllowed room has_to step = elim step [
  | Answers made end ↦ room ≡ true
  | Stops ending ↦ elim ending [ Displaced ↦ has_to | _ ↦ Unit {0} ]
  | _ ↦ Unit {0}
]

module _ {H R W V E : Type 0} (input : Input R) (output : Output W) (handler : Behavior H V E) where
  -- these bytes came, one at least, where nothing waited and nothing whole stood first; what they
  -- make waits
  pub record IsReceipt (now : ℕ) (old : Slot H R W E) (bytes made : List ℕ) (end : Option E)
      (new : Slot H R W E) : Type 0 where
    pub some : 0 < length bytes
    pub responsive : IsResponsive old
    pub lacks : handler.needs_more old.handler
    pub consumes : Consumes (input.unread old.reader) (input.unread new.reader) bytes
    pub receives : handler.receives old.handler bytes made end new.handler
    pub others : new ≡ record old {
      handler = new.handler;
      reader = new.reader;
      waiting = made;
      ending = option_map Finished end;
      active = now;
    }

  -- what stood first was answered, where nothing waited to be written. The answer waits to be
  -- written, at least as long as the handler delays it, and the connection counts as heard now
  pub record IsAnswering (now : ℕ) (v : V) (old : Slot H R W E) (made : List ℕ) (end : Option E)
      (w : V) (new : Slot H R W E) : Type 0 where
    pub responsive : IsResponsive old
    pub answers : handler.answers old.stay v old.handler made end w new.handler
    pub others : new ≡ record old {
      handler = new.handler;
      waiting = made;
      ending = option_map Finished end;
      heard = now;
      held = held_until now (handler.delay old.stay w new.handler);
      stay = answered_once_more old.stay;
    }

  -- nothing whole stood first
  pub record IsLack (v : V) (old : Slot H R W E) (w : V) (new : Slot H R W E) : Type 0 where
    pub answers : handler.answers old.stay v old.handler [] None w new.handler
    pub lacks : handler.needs_more new.handler
    pub others : new ≡ record old { handler = new.handler }

  -- these bytes were written, one at least, which waited first and aren't held
  pub record IsWrite (now : ℕ) (old : Slot H R W E) (bytes : List ℕ)
      (new : Slot H R W E) : Type 0 where
    pub some : 0 < length bytes
    pub free : old.held ≡ None
    pub first : old.waiting ≡ bytes ++ new.waiting
    pub appends : Appends (output.written old.writer) (output.written new.writer) bytes
    pub others : new ≡ record old { writer = new.writer; waiting = new.waiting; active = now }

  -- why it may end without a message; at the end of its input only where nothing is left to answer
  abbrev pub MayStop : ℕ → Slot H R W E → SlotEnd E → Slot H R W E → Type 0
  MayStop now old ending new = elim ending [
    | Finished end ↦ ⊥
    | EndOfInput ↦ IsAtEnd (input.unread new.reader) × handler.needs_more old.handler
    | ReadFailed ↦ input.has_failed new.reader
    | WriteFailed ↦ output.has_failed new.writer
    | IdleTimeout ↦ old.active + idle_limit ≤ now
    | Displaced ↦ IsUnheard handler now old
  ]

  -- it ended without a message
  pub record IsStop (now : ℕ) (old : Slot H R W E) (ending : SlotEnd E)
      (new : Slot H R W E) : Type 0 where
    pub unread : Keeps (input.unread old.reader) (input.unread new.reader)
    pub written : Keeps (output.written old.writer) (output.written new.writer)
    pub may : MayStop now old ending new
    pub others : new ≡ record old { reader = new.reader; writer = new.writer; ending = Some ending }

  -- nothing more was there to read
  pub record HasFoundEmpty (old new : Slot H R W E) : Type 0 where
    pub unread : Keeps (input.unread old.reader) (input.unread new.reader)
    pub empty : input.is_empty new.reader
    pub others : new ≡ record old { reader = new.reader; readable = false }

  -- nothing more could be written
  pub record HasFoundFull (old new : Slot H R W E) : Type 0 where
    pub written : Keeps (output.written old.writer) (output.written new.writer)
    pub full : output.is_full new.writer
    pub others : new ≡ record old { writer = new.writer; writable = false }

  -- what waits isn't held any more, since the time has come
  pub record IsRelease (now : ℕ) (old new : Slot H R W E) : Type 0 where
    pub until : ℕ
    pub was : old.held ≡ Some until
    pub past : until ≤ now
    pub others : new ≡ record old { held = None }

  -- what happened at a connection, at this time, between two states of the world
  abbrev pub IsStep : ℕ → V → Slot H R W E → Step E → V → Slot H R W E → Type 0
  IsStep now v old (Receives bytes made end) w new = (w ≡ v) × IsReceipt now old bytes made end new
  IsStep now v old (Answers made end) w new = IsAnswering now v old made end w new
  IsStep now v old Lacks w new = IsLack v old w new
  IsStep now v old (Writes bytes) w new = (w ≡ v) × IsWrite now old bytes new
  IsStep now v old (Stops ending) w new = (w ≡ v) × IsStop now old ending new
  IsStep now v old FindsEmpty w new = (w ≡ v) × HasFoundEmpty old new
  IsStep now v old FindsFull w new = (w ≡ v) × HasFoundFull old new
  IsStep now v old Releases w new = (w ≡ v) × IsRelease now old new
  IsStep now v old Wakes w new = (w ≡ v) × (new ≡ record old { readable = true; writable = true })

  -- one step after the other, all at this time; none is answered where there is no room, and none
  -- makes place
  abbrev pub AreSteps : (room : Bool) → ℕ → V → Slot H R W E → List (Step E) → V → Slot H R W E
      → Type 0
  AreSteps room now v old [] w new = (w ≡ v) × (new ≡ old)
  AreSteps room now v old (step ∷ steps) w new =
      (u : V) × (middle : Slot H R W E) × IsAllowed room ⊥ step × IsStep now v old step u middle
      × AreSteps room now u middle steps w new

  -- some steps, or none, of which this holds
  abbrev pub TakesSteps : (so : List (Step E) → Type 0) → (room : Bool) → ℕ → V → Slot H R W E → V
      → Slot H R W E → Type 0
  TakesSteps so room now v old w new =
      (steps : List (Step E)) × AreSteps room now v old steps w new × so steps
