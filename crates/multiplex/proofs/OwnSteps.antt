-- A connection's own steps are those of a connection alone: the law `each_connection_is_alone`.
use Rattle.std.proofs.Common.{◌≡◌, ℕ, List, [], ◌∷◌, ◌++◌, refl, sym, ap, ◌∙◌, subst, inl, inr, append_assoc, append-nil}
use Rattle.std.specs.Prelude.{Option, None, Some, slice_get, slice_set, if◌then◌else◌}
use Rattle.std.specs.Io.KnownBytes.{Appends, Consumes, Keeps}
use Rattle.std.proofs.KnownBytes.{Consumes-nil, Consumes-trans, Appends-nil, Appends-trans, Keeps-refl}
use Rattle.std.proofs.lemmas.Bool.Decides.{eqb_tells}
use Rattle.std.proofs.lemmas.Option.{none-some, same_Some}
use Rattle.multiplex.specs.declared.limits.Limits.{Limits}
use Rattle.multiplex.specs.Effects.{Effects}
use Rattle.multiplex.specs.Input.{Input}
use Rattle.multiplex.specs.Output.{Output}
use Rattle.multiplex.specs.Behavior.{Behavior, MovesAddUp}
use Rattle.multiplex.specs.declared.stay.Party.TheVariants.{Accepted}
use Rattle.multiplex.specs.Slots.{Slot, begun, first_slot, calling_slot}
use Rattle.multiplex.specs.Steps.{Step, Receives, Answers, Lacks, Writes, Stops, FindsEmpty, FindsFull, Wakes, Releases, IsStep}
use Rattle.multiplex.specs.Turns.{Loop, LoopTurn, Waits, Accepts, AcceptFails, AcceptsNobody, HasNoSlot, Calls, CallFails, CallsNobody, Steps, Closes, Rests, AreTurns}
use Rattle.multiplex.specs.Alone.{steps_at, StaysOpen, bytes_received, bytes_made, bytes_written, AreOwnSteps, HasOwnBytes}
use Rattle.multiplex.proofs.Places.{get-set_same, get-set_other}

-- bytes that are kept are none consumed, and none appended
consumes-kept : (a b : Option (List ℕ)) → Keeps a b → Consumes a b []
consumes-kept None b kept = tt
consumes-kept (Some xs) None kept = kept
consumes-kept (Some xs) (Some ys) kept = sym kept

appends-kept : (a b : Option (List ℕ)) → Keeps a b → Appends a b []
appends-kept None b kept = tt
appends-kept (Some xs) None kept = kept
appends-kept (Some xs) (Some ys) kept = kept ∙ sym (append-nil xs)

module _ {S H R W V E : Type 0} (source : Effects S R W) (input : Input R) (output : Output W)
    (handler : Behavior H V E) (limits : Limits) (laws : MovesAddUp handler) where
  abbrev Own : V → Slot H R W E → List (Step E) → V → Slot H R W E → Type 0
  Own v old steps w new = AreOwnSteps input output handler v old steps w new

  -- the world moves before a connection's own steps
  moved_before : (u v w : V) (old new : Slot H R W E) (steps : List (Step E)) → handler.moves u v
      → Own v old steps w new → Own u old steps w new
  moved_before u v w old new [] moves (later, same) = (laws.more u v w moves later, same)
  moved_before u v w old new (step ∷ steps) moves (before, behind, now, middle, later, is, rest) =
      (before, behind, now, middle, laws.more u v before moves later, is, rest)

  stays : (v w : V) → w ≡ v → handler.moves v w
  stays v w same = subst (λ x. handler.moves v x) (sym same) (laws.none v)

  -- a step at a connection moves the world
  step_moves : (now : ℕ) (v w : V) (old new : Slot H R W E) (step : Step E)
      → IsStep input output handler now v old step w new → handler.moves v w
  step_moves now v w old new (Receives bytes made end) is = stays v w is.0
  step_moves now v w old new (Answers made end) is =
      laws.answers old.stay v w old.handler new.handler made end is.answers
  step_moves now v w old new Lacks is =
      laws.answers old.stay v w old.handler new.handler [] None is.answers
  step_moves now v w old new (Writes bytes) is = stays v w is.0
  step_moves now v w old new (Stops ending) is = stays v w is.0
  step_moves now v w old new FindsEmpty is = stays v w is.0
  step_moves now v w old new FindsFull is = stays v w is.0
  step_moves now v w old new Wakes is = stays v w is.0
  step_moves now v w old new Releases is = stays v w is.0

  abbrev Alone : (old new : Loop S H R W V E) → ℕ → Slot H R W E → List (Step E) → Type 0
  Alone old new k slot steps =
      (last : Slot H R W E) × (slice_get new.slots k ≡ Some (Some last))
      × Own old.world slot steps new.world last

  -- another slot got a connection, or was freed
  elsewhere : (old middle new : Loop S H R W V E) (j k : ℕ) (slot : Slot H R W E)
      (there : Option (Slot H R W E)) (steps : List (Step E))
      → (k ≡ j → ⊥) → middle.slots ≡ slice_set old.slots j there
      → slice_get old.slots k ≡ Some (Some slot)
      → slice_get middle.slots k ≡ Some (Some slot)
  elsewhere old middle new j k slot there steps other set got =
      ap (λ l. slice_get l k) set ∙ (get-set_other old.slots j k there other ∙ got)

  -- a free slot isn't that of a connection
  not_free : (slots : List (Option (Slot H R W E))) (j k : ℕ) (slot : Slot H R W E)
      → slice_get slots j ≡ Some None
      → slice_get slots k ≡ Some (Some slot) → k ≡ j → ⊥
  not_free slots j k slot free got same =
      none-some slot (same_Some None (Some slot) (sym free ∙ (ap (λ i. slice_get slots i) (sym same)
      ∙ got)))

  -- the world moved in between, and nothing else happened to this connection
  passed : (old middle new : Loop S H R W V E) (k : ℕ) (slot : Slot H R W E) (steps : List (Step E))
      → handler.moves old.world middle.world → Alone middle new k slot steps
      → Alone old new k slot steps
  passed old middle new k slot steps moves (last, there, own) =
      (last, there, moved_before old.world middle.world new.world slot last steps moves own)

  pub own_steps : (old new : Loop S H R W V E) (k : ℕ) (slot : Slot H R W E)
      (turns : List (LoopTurn E))
      → AreTurns source input output handler limits old turns new
      → slice_get old.slots k ≡ Some (Some slot)
      → StaysOpen k turns → Alone old new k slot (steps_at k turns)
  own_steps old new k slot [] same got stays-open = (
    slot,
    ap (λ (a : Loop S H R W V E). slice_get a.slots k) same ∙ got,
    (stays old.world new.world (ap (λ (a : Loop S H R W V E). a.world) same), refl),
  )
  own_steps old new k slot (Waits busy now ∷ turns) (middle, is, rest) got stays-open =
      let still = ap (λ (a : Loop S H R W V E). slice_get a.slots k) is.others ∙ got in
      passed old middle new k slot (steps_at k turns)
      (laws.passes old.world middle.world now is.longest_turn is.passes)
      (own_steps middle new k slot turns rest still stays-open.1)
  own_steps old new k slot (Accepts j origin ∷ turns) (middle, is, rest) got stays-open =
      let still = elsewhere old middle new j k slot (Some (first_slot (begun (Accepted origin)
      old.now) is.first is.reader is.writer [])) (steps_at k turns)
      (not_free old.slots j k slot is.free got) (ap (λ (a : Loop S H R W V E). a.slots) is.others)
      got in
      passed old middle new k slot (steps_at k turns)
      (laws.begins origin old.world middle.world is.first is.begins)
      (own_steps middle new k slot turns rest still stays-open.1)
  own_steps old new k slot (AcceptFails ∷ turns) (middle, is, rest) got stays-open =
      let still = ap (λ (a : Loop S H R W V E). slice_get a.slots k) is.others ∙ got in
      passed old middle new k slot (steps_at k turns)
      (laws.fails_accept old.world middle.world old.now is.fails)
      (own_steps middle new k slot turns rest still stays-open.1)
  own_steps old new k slot (AcceptsNobody ∷ turns) (middle, is, rest) got stays-open =
      let still = ap (λ (a : Loop S H R W V E). slice_get a.slots k) is.1 ∙ got in
      let same = ap (λ (a : Loop S H R W V E). a.world) is.1 in
      passed old middle new k slot (steps_at k turns) (stays old.world middle.world same)
      (own_steps middle new k slot turns rest still stays-open.1)
  own_steps old new k slot (HasNoSlot ∷ turns) (middle, is, rest) got stays-open =
      let still = ap (λ (a : Loop S H R W V E). slice_get a.slots k) is.1 ∙ got in
      let same = ap (λ (a : Loop S H R W V E). a.world) is.1 in
      passed old middle new k slot (steps_at k turns) (stays old.world middle.world same)
      (own_steps middle new k slot turns rest still stays-open.1)
  own_steps old new k slot (Calls j made ∷ turns) (middle, is, rest) got stays-open =
      let still = elsewhere old middle new j k slot (Some (calling_slot is.first is.call
      made old.now)) (steps_at k turns)
      (not_free old.slots j k slot is.free got) (ap (λ (a : Loop S H R W V E). a.slots) is.others)
      got in
      passed old middle new k slot (steps_at k turns) (laws.calls is.call.callee
      old.world middle.world made (Some is.first) is.calls)
      (own_steps middle new k slot turns rest still stays-open.1)
  own_steps old new k slot (CallFails ∷ turns) (middle, is, rest) got stays-open =
      let still = ap (λ (a : Loop S H R W V E). slice_get a.slots k) is.others ∙ got in
      passed old middle new k slot (steps_at k turns) (laws.calls is.call.callee
      old.world middle.world is.made None is.calls)
      (own_steps middle new k slot turns rest still stays-open.1)
  own_steps old new k slot (CallsNobody ∷ turns) (middle, is, rest) got stays-open =
      let still = ap (λ (a : Loop S H R W V E). slice_get a.slots k) is.1 ∙ got in
      let same = ap (λ (a : Loop S H R W V E). a.world) is.1 in
      passed old middle new k slot (steps_at k turns) (stays old.world middle.world same)
      (own_steps middle new k slot turns rest still stays-open.1)
  own_steps old new k slot (Closes j ending ∷ turns) (middle, is, rest) got stays-open =
      let still = elsewhere old middle new j k slot None (steps_at k turns)
      (λ e. stays-open.0 (sym e))
      (ap (λ (a : Loop S H R W V E). a.slots) is.others) got in
      passed old middle new k slot (steps_at k turns)
      (laws.closes is.slot.stay old.world middle.world is.slot.handler ending is.closes)
      (own_steps middle new k slot turns rest still stays-open.1)
  own_steps old new k slot (Rests j ∷ turns) (middle, is, rest) got stays-open =
      let still = ap (λ (a : Loop S H R W V E). slice_get a.slots k) is.1 ∙ got in
      let same = ap (λ (a : Loop S H R W V E). a.world) is.1 in
      passed old middle new k slot (steps_at k turns) (stays old.world middle.world same)
      (own_steps middle new k slot turns rest still stays-open.1)
  own_steps old new k slot (Steps j step ∷ turns) (middle, is, rest) got stays-open =
      elim (eqb_tells j k) [
        | inl here ↦
            let was : is.before ≡ slot = same_Some is.before slot
            (same_Some (Some is.before) (Some slot)
            (sym is.there ∙ (ap (λ i. slice_get old.slots i) here.1 ∙ got))) in
            let still : slice_get middle.slots k ≡ Some (Some is.behind) =
            ap (λ (a : Loop S H R W V E). slice_get a.slots k) is.others
            ∙ (ap (λ i. slice_get (slice_set old.slots i (Some is.behind)) k) here.1
            ∙ get-set_same old.slots k (Some is.behind) (Some slot) got) in
            let later = own_steps middle new k is.behind turns rest still stays-open.1 in
            let did : IsStep input output handler old.now old.world slot step middle.world is.behind
            =
            subst (λ (s : Slot H R W E). IsStep input output handler old.now old.world s step
            middle.world is.behind) was is.step_is in
            subst (λ b. Alone old new k slot ((if b then step ∷ [] else []) ++ steps_at k turns))
            (sym here.0) (
              later.0,
              later.1,
              (
                old.world,
                middle.world,
                old.now,
                is.behind,
                laws.none old.world,
                did,
                later.2,
              ),
            )
        | inr apart ↦
            let still = elsewhere old middle new j k slot (Some is.behind) (steps_at k turns)
            (λ e. apart.1 (sym e))
            (ap (λ (a : Loop S H R W V E). a.slots) is.others) got in
            let moves = step_moves old.now old.world middle.world is.before is.behind step
            is.step_is in
            subst (λ b. Alone old new k slot ((if b then step ∷ [] else []) ++ steps_at k turns))
            (sym apart.0)
            (passed old middle new k slot (steps_at k turns) moves
            (own_steps middle new k slot turns rest still stays-open.1))
      ]

  abbrev Bytes : Slot H R W E → Slot H R W E → List (Step E) → Type 0
  Bytes old new steps = HasOwnBytes input output handler old new steps

  -- a step that neither takes nor makes bytes, and then some
  quietly : (old middle new : Slot H R W E) (steps : List (Step E))
      → Keeps (input.unread old.reader) (input.unread middle.reader)
      → Keeps (output.written old.writer) (output.written middle.writer)
      → middle.waiting ≡ old.waiting
      → Bytes middle new steps
      → Consumes (input.unread old.reader) (input.unread new.reader) (bytes_received steps)
      × Appends (output.written old.writer) (output.written new.writer) (bytes_written steps)
      × (old.waiting ++ bytes_made steps ≡ bytes_written steps ++ new.waiting)
  quietly old middle new steps unread written same later = (
    Consumes-trans (input.unread old.reader) (input.unread middle.reader) (input.unread new.reader)
        [] (bytes_received steps)
        (consumes-kept (input.unread old.reader) (input.unread middle.reader) unread)
        later.received,
    Appends-trans (output.written old.writer) (output.written middle.writer)
        (output.written new.writer) [] (bytes_written steps)
        (appends-kept (output.written old.writer) (output.written middle.writer) written)
        later.written,
    ap (λ l. l ++ bytes_made steps) (sym same) ∙ later.waits,
  )

  as_bytes : (old new : Slot H R W E) (steps more : List (Step E))
      → bytes_received more ≡ bytes_received steps
      → bytes_written more ≡ bytes_written steps → bytes_made more ≡ bytes_made steps
      → Consumes (input.unread old.reader) (input.unread new.reader) (bytes_received steps)
      × Appends (output.written old.writer) (output.written new.writer) (bytes_written steps)
      × (old.waiting ++ bytes_made steps ≡ bytes_written steps ++ new.waiting)
      → Bytes old new more
  as_bytes old new steps more received written made parts = record {
    received = subst (λ l. Consumes (input.unread old.reader) (input.unread new.reader) l)
        (sym received) parts.0;
    written = subst (λ l. Appends (output.written old.writer) (output.written new.writer) l)
        (sym written) parts.1;
    waits = ap (λ l. old.waiting ++ l) made ∙ (parts.2 ∙ ap (λ l. l ++ new.waiting) (sym written));
  }

  same_reader : (old middle : Slot H R W E) → middle.reader ≡ old.reader
      → Keeps (input.unread old.reader) (input.unread middle.reader)
  same_reader old middle same = subst (λ r. Keeps (input.unread old.reader) (input.unread r))
      (sym same) (Keeps-refl (input.unread old.reader))

  same_writer : (old middle : Slot H R W E) → middle.writer ≡ old.writer
      → Keeps (output.written old.writer) (output.written middle.writer)
  same_writer old middle same = subst (λ w. Keeps (output.written old.writer) (output.written w))
      (sym same) (Keeps-refl (output.written old.writer))

  -- one step, and the bytes of what comes later
  step_bytes : (now : ℕ) (v w : V) (old middle new : Slot H R W E) (step : Step E)
      (steps : List (Step E))
      → IsStep input output handler now v old step w middle → Bytes middle new steps
      → Bytes old new (step ∷ steps)
  step_bytes now v w old middle new (Receives bytes made end) steps (same, is) later =
      let writer = ap (λ (s : Slot H R W E). s.writer) is.others in
      let waiting : middle.waiting ≡ made = ap (λ (s : Slot H R W E). s.waiting) is.others in
      record {
        received = Consumes-trans (input.unread old.reader) (input.unread middle.reader)
            (input.unread new.reader) bytes (bytes_received steps)
            is.consumes later.received;
        written = Appends-trans (output.written old.writer) (output.written middle.writer)
            (output.written new.writer) [] (bytes_written steps)
            (appends-kept (output.written old.writer) (output.written middle.writer)
            (same_writer old middle writer)) later.written;
        waits = ap (λ l. l ++ (made ++ bytes_made steps)) is.responsive.1
            ∙ (ap (λ l. l ++ bytes_made steps) (sym waiting) ∙ later.waits);
      }
  step_bytes now v w old middle new (Answers made end) steps is later =
      let reader = ap (λ (s : Slot H R W E). s.reader) is.others in
      let writer = ap (λ (s : Slot H R W E). s.writer) is.others in
      let waiting : middle.waiting ≡ made = ap (λ (s : Slot H R W E). s.waiting) is.others in
      record {
        received = Consumes-trans (input.unread old.reader) (input.unread middle.reader)
            (input.unread new.reader) [] (bytes_received steps)
            (consumes-kept (input.unread old.reader) (input.unread middle.reader)
            (same_reader old middle reader)) later.received;
        written = Appends-trans (output.written old.writer) (output.written middle.writer)
            (output.written new.writer) [] (bytes_written steps)
            (appends-kept (output.written old.writer) (output.written middle.writer)
            (same_writer old middle writer)) later.written;
        waits = ap (λ l. l ++ (made ++ bytes_made steps)) is.responsive.1
            ∙ (ap (λ l. l ++ bytes_made steps) (sym waiting) ∙ later.waits);
      }
  step_bytes now v w old middle new Lacks steps is later =
      as_bytes old new steps (Lacks ∷ steps) refl refl refl
      (quietly old middle new steps (same_reader old middle (ap (λ (s : Slot H R W E). s.reader)
      is.others))
      (same_writer old middle (ap (λ (s : Slot H R W E). s.writer) is.others))
      (ap (λ (s : Slot H R W E). s.waiting) is.others) later)
  step_bytes now v w old middle new (Writes bytes) steps (same, is) later =
      let reader = ap (λ (s : Slot H R W E). s.reader) is.others in
      record {
        received = Consumes-trans (input.unread old.reader) (input.unread middle.reader)
            (input.unread new.reader) [] (bytes_received steps)
            (consumes-kept (input.unread old.reader) (input.unread middle.reader)
            (same_reader old middle reader)) later.received;
        written = Appends-trans (output.written old.writer) (output.written middle.writer)
            (output.written new.writer) bytes (bytes_written steps)
            is.appends later.written;
        waits = ap (λ l. l ++ bytes_made steps) is.first
            ∙ (append_assoc bytes middle.waiting (bytes_made steps)
            ∙ (ap (λ l. bytes ++ l) later.waits ∙ sym (append_assoc bytes (bytes_written steps)
            new.waiting)));
      }
  step_bytes now v w old middle new (Stops ending) steps (same, is) later =
      as_bytes old new steps (Stops ending ∷ steps) refl refl refl
      (quietly old middle new steps is.unread is.written (ap (λ (s : Slot H R W E). s.waiting)
      is.others) later)
  step_bytes now v w old middle new FindsEmpty steps (same, is) later =
      as_bytes old new steps (FindsEmpty ∷ steps) refl refl refl
      (quietly old middle new steps is.unread (same_writer old middle
      (ap (λ (s : Slot H R W E). s.writer) is.others))
      (ap (λ (s : Slot H R W E). s.waiting) is.others) later)
  step_bytes now v w old middle new FindsFull steps (same, is) later =
      as_bytes old new steps (FindsFull ∷ steps) refl refl refl
      (quietly old middle new steps (same_reader old middle (ap (λ (s : Slot H R W E). s.reader)
      is.others)) is.written
      (ap (λ (s : Slot H R W E). s.waiting) is.others) later)
  step_bytes now v w old middle new Releases steps (same, is) later =
      as_bytes old new steps (Releases ∷ steps) refl refl refl
      (quietly old middle new steps (same_reader old middle (ap (λ (s : Slot H R W E). s.reader)
      is.others))
      (same_writer old middle (ap (λ (s : Slot H R W E). s.writer) is.others))
      (ap (λ (s : Slot H R W E). s.waiting) is.others) later)
  step_bytes now v w old middle new Wakes steps (same, is) later =
      as_bytes old new steps (Wakes ∷ steps) refl refl refl
      (quietly old middle new steps (same_reader old middle (ap (λ (s : Slot H R W E). s.reader)
      is))
      (same_writer old middle (ap (λ (s : Slot H R W E). s.writer) is))
      (ap (λ (s : Slot H R W E). s.waiting) is) later)

  pub own_bytes : (v w : V) (old new : Slot H R W E) (steps : List (Step E)) → Own v old steps w new
      → Bytes old new steps
  own_bytes v w old new [] (moves, same) =
      subst (λ (s : Slot H R W E). Bytes old s []) (sym same) (record {
        received = Consumes-nil (input.unread old.reader);
        written = Appends-nil (output.written old.writer);
        waits = append-nil old.waiting;
      })
  own_bytes v w old new (step ∷ steps) (before, behind, now, middle, moves, is, rest) =
      step_bytes now before behind old middle new step steps is
      (own_bytes behind w middle new steps rest)
