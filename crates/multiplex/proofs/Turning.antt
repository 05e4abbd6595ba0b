-- Executions of turns, which the contracts of `turns` and `serving` need.
use Rattle.std.proofs.Common.{◌≡◌, ◌⊎◌, ℕ, ◌+◌, ◌<◌, ◌≤◌, Bool, true, false, List, [], ◌∷◌, ◌++◌, refl, sym, ◌∙◌, subst, ap, arith, inl, inr, cond}
use Rattle.std.specs.Prelude.{Option, None, Some, slice_get, slice_set, count_by, map}
use Rattle.std.proofs.lemmas.Bool.{true≢false}
use Rattle.std.proofs.KnownBytes.{Keeps-refl}
use Rattle.std.proofs.lemmas.Option.{same_Some}
use Rattle.std.proofs.lemmas.List.Sums.{sum_by-cons}
use Rattle.multiplex.specs.declared.handler.SlotEnd.{SlotEnd}
use Rattle.multiplex.specs.declared.handler.SlotEnd.TheVariants.{Finished, EndOfInput, ReadFailed, WriteFailed, IdleTimeout, Displaced}
use Rattle.multiplex.specs.declared.source.Arrival.{Arrival}
use Rattle.multiplex.specs.declared.source.Arrival.TheVariants.{Nobody, Failed, Connection}
use Rattle.multiplex.specs.declared.source.Call.{Call}
use Rattle.multiplex.specs.declared.stay.Origin.{Origin}
use Rattle.multiplex.specs.declared.stay.Party.TheVariants.{Accepted}
use Rattle.multiplex.specs.declared.limits.Limits.{Limits}
use Rattle.multiplex.specs.Effects.{Effects}
use Rattle.multiplex.specs.Input.{Input}
use Rattle.multiplex.specs.Output.{Output}
use Rattle.multiplex.specs.Behavior.{Behavior}
use Rattle.multiplex.specs.Slots.{Slot, begun, first_slot, calling_slot, has_room, IsAtRestAt, IsLongestUnheard, MayClose}
use Rattle.multiplex.specs.Steps.{Step, Receives, Answers, Lacks, Writes, Stops, FindsEmpty, FindsFull, Wakes, Releases, IsVisit, IsAllowed, IsStep, AreSteps, TakesSteps}
use Rattle.multiplex.specs.Turns.{Loop, state, LoopTurn, Accepts, AcceptFails, AcceptsNobody, HasNoSlot, Calls, CallFails, CallsNobody, Steps, Closes, Rests, IsLoopTurn, AreTurns, TakesTurns}
use Rattle.multiplex.specs.Rounds.{AreStepsAt, AreClosing, AreTurnOf, AreComing}
use Rattle.multiplex.specs.Serving.{has_asked, HasAsked, HasCalled}
use Rattle.multiplex.proofs.Places.{set_same, get-set_same, set-set, less-empty}
use Rattle.multiplex.proofs.Rounding.{few_none, busy_turn, idle_turn, coming_none, coming-join, displacing}

module _ {S H R W V E : Type 0} (source : Effects S R W) (input : Input R) (output : Output W)
    (handler : Behavior H V E) (limits : Limits) where
  abbrev Goes : (List (LoopTurn E) → Type 0) → Loop S H R W V E → Loop S H R W V E → Type 0
  Goes so old new = TakesTurns source input output handler limits so old new

  pub join : (a b c : Loop S H R W V E) (turns more : List (LoopTurn E))
      → AreTurns source input output handler limits a turns b
      → AreTurns source input output handler limits b more c → AreTurns source input output handler
      limits a (turns ++ more) c
  join a b c [] more same later =
      subst (λ (x : Loop S H R W V E). AreTurns source input output handler limits x more c) same
      later
  join a b c (turn ∷ turns) more (x, one, rest) later = (x, one, join x b c turns more rest later)

  pub one : (so : List (LoopTurn E) → Type 0) (turn : LoopTurn E) (old new : Loop S H R W V E)
      → IsLoopTurn source input output handler limits old turn new → so (turn ∷ [])
      → Goes so old new
  one so turn old new is told = (turn ∷ [], (new, is, refl), told)

  -- some turns, and then some more
  pub more : (so also both : List (LoopTurn E) → Type 0) (a b c : Loop S H R W V E)
      → ((turns others : List (LoopTurn E)) → so turns → also others → both (turns ++ others))
      → Goes so a b → Goes also b c → Goes both a c
  more so also both a b c joined (turns, first, told) (others, later, told') =
      (turns ++ others, join a b c turns others first later, joined turns others told told')

  -- nothing happened in a slot
  pub unchanged : (source' : S) (slots : List (Option (Slot H R W E))) (v : V) (now k : ℕ)
      (slot : Option (Slot H R W E))
      → slice_get slots k ≡ Some slot → Goes (AreStepsAt k false) (state source' slots v now)
      (state source' (slice_set slots k slot) v now)
  unchanged source' slots v now k slot got =
      subst (λ l. Goes (AreStepsAt k false) (state source' slots v now) (state source' l v now))
      (sym (set_same slots k slot got))
      ([], refl, ([], refl, record { most = few_none 1; some = λ e. absurd (true≢false (sym e)) }))

  -- a step is allowed where it is allowed in the same slots with less to be written
  still_allowed : (slots : List (Option (Slot H R W E))) (k now : ℕ) (v w : V)
      (first old new : Slot H R W E)
      (step : Step E) (has_to : Type 0)
      → slice_get slots k ≡ Some (Some first) → IsAllowed (has_room limits.waiting_bytes slots) ⊥
      step
      → IsStep input output handler now v old step w new
      → IsAllowed (has_room limits.waiting_bytes (slice_set slots k (Some old))) has_to step
  still_allowed slots k now v w first old new (Receives bytes made end) has_to got allowed is = tt
  still_allowed slots k now v w first old new (Answers made end) has_to got allowed is =
      less-empty slots limits.waiting_bytes k first old got is.responsive.1 allowed
  still_allowed slots k now v w first old new Lacks has_to got allowed is = tt
  still_allowed slots k now v w first old new (Writes bytes) has_to got allowed is = tt
  still_allowed slots k now v w first old new (Stops (Finished end)) has_to got allowed is = tt
  still_allowed slots k now v w first old new (Stops EndOfInput) has_to got allowed is = tt
  still_allowed slots k now v w first old new (Stops ReadFailed) has_to got allowed is = tt
  still_allowed slots k now v w first old new (Stops WriteFailed) has_to got allowed is = tt
  still_allowed slots k now v w first old new (Stops IdleTimeout) has_to got allowed is = tt
  still_allowed slots k now v w first old new (Stops Displaced) has_to got allowed is = absurd
      allowed
  still_allowed slots k now v w first old new FindsEmpty has_to got allowed is = tt
  still_allowed slots k now v w first old new FindsFull has_to got allowed is = tt
  still_allowed slots k now v w first old new Wakes has_to got allowed is = tt
  still_allowed slots k now v w first old new Releases has_to got allowed is = tt

  -- some steps at the connection of a slot, from another state of it than the slots that judge the
  -- room
  steps_from : (source' : S) (slots : List (Option (Slot H R W E))) (v w : V) (now k : ℕ)
      (first old new : Slot H R W E)
      (steps : List (Step E)) → slice_get slots k ≡ Some (Some first)
      → AreSteps input output handler (has_room limits.waiting_bytes slots) now v old steps w new
      → AreTurns source input output handler limits
      (state source' (slice_set slots k (Some old)) v now) (map (λ (s : Step E). Steps k s) steps)
      (state source' (slice_set slots k (Some new)) w now)
  steps_from source' slots v w now k first old new [] got is =
      subst (λ u. state source' (slice_set slots k (Some new)) u now
      ≡ state source' (slice_set slots k (Some old)) v now) (sym is.0)
      (subst (λ (s : Slot H R W E). state source' (slice_set slots k (Some s)) v now
      ≡ state source' (slice_set slots k (Some old)) v now) (sym is.1) refl)
  steps_from source' slots v w now k first old new (step ∷ steps) got (u, middle, allowed, is, rest)
      =
      let before : List (Option (Slot H R W E)) = slice_set slots k (Some old) in
      let there : slice_get before k ≡ Some (Some old) = get-set_same slots k (Some old)
      (Some first) got in
      let written : slice_set before k (Some middle) ≡ slice_set slots k (Some middle) =
      set-set slots k (Some old) (Some middle) in (
        state source' (slice_set slots k (Some middle)) u now,
        record {
          before = old;
          behind = middle;
          there = there;
          allowed = still_allowed slots k now v u first old middle step _ got allowed is;
          step_is = is;
          others = ap (λ l. state source' l u now) (sym written);
        },
        steps_from source' slots u w now k first middle new steps got rest,
      )

  -- a visit of the connection of a slot
  pub visited : (source' : S) (slots : List (Option (Slot H R W E))) (v w : V) (now k : ℕ)
      (room busy : Bool) (old new : Slot H R W E)
      → slice_get slots k ≡ Some (Some old) → room ≡ has_room limits.waiting_bytes slots
      → TakesSteps input output handler (IsVisit 1 1 1 busy) room now v old w new
      → Goes (AreStepsAt k busy) (state source' slots v now)
      (state source' (slice_set slots k (Some new)) w now)
  visited source' slots v w now k room busy old new got judged (steps, are, visit) = (
    map (λ (s : Step E). Steps k s) steps,
    subst (λ l. AreTurns source input output handler limits (state source' l v now)
        (map (λ (s : Step E). Steps k s) steps) (state source' (slice_set slots k
        (Some new)) w now))
        (set_same slots k (Some old) got)
        (steps_from source' slots v w now k old old new steps got
        (subst (λ b. AreSteps input output handler b now v old steps w new) judged are)),
    (steps, refl, visit),
  )

  -- the connection of a slot was closed
  pub closed : (old new : S) (slots : List (Option (Slot H R W E))) (v w : V) (now k : ℕ)
      (slot : Slot H R W E) (ending : SlotEnd E)
      (left : Option (Slot H R W E)) (ends : R × W) → slice_get slots k ≡ Some (Some slot)
      → ((s : Slot H R W E) × (slice_get slots k ≡ Some (Some s)) × MayClose s
      × (s.ending ≡ Some ending))
      → handler.closes slot.stay v slot.handler ending w
      → ends ≡ (slot.reader, slot.writer)
      → source.closed old ends.0 ends.1 new → left ≡ None
      → Goes (AreClosing k true) (state old slots v now)
      (state new (slice_set slots k left) w now)
  closed old new slots v w now k slot ending left ends got (s, found, may, ended) tells is gave
      empty =
      let same : s ≡ slot = same_Some s slot (same_Some (Some s) (Some slot) (sym found ∙ got)) in
      subst (λ l. Goes (AreClosing k true) (state old slots v now)
      (state new (slice_set slots k l) w now)) (sym empty)
      (one (AreClosing k true) (Closes k ending) (state old slots v now) (state new
      (slice_set slots k None) w now)
      (record {
        slot = slot;
        there = got;
        may = subst (λ (x : Slot H R W E). MayClose x) same may;
        ended = subst (λ (x : Slot H R W E). x.ending ≡ Some ending) same ended;
        closes = tells;
        closed = subst (λ (p : R × W). source.closed old p.0 p.1 new) is gave;
        others = refl;
      }) (ending, refl))

  -- the turn of a slot: it was visited, and closed where it may be; where nothing was done it rests
  pub turned : (k : ℕ) (busy closed all : Bool) (a b c : Loop S H R W V E)
      → (all ≡ true → (busy ≡ true) ⊎ (closed ≡ true))
      → (all ≡ false → IsAtRestAt handler (has_room limits.waiting_bytes c.slots) c.slots k)
      → Goes (AreStepsAt k busy) a b → Goes (AreClosing k closed) b c → Goes (AreTurnOf k all) a c
  turned k busy closed true a b c either rest (turns, first, visit) (others, later, closing) = (
    turns ++ others,
    join a b c turns others first later,
    busy_turn k busy closed true turns others refl either visit closing,
  )
  turned k busy closed false a b c either rest (turns, first, visit) (others, later, closing) = (
    (turns ++ others) ++ (Rests k ∷ []),
    join a c c (turns ++ others) (Rests k ∷ []) (join a b c turns others first later)
        (c, (rest refl, refl), refl),
    idle_turn k busy closed false turns others refl visit closing,
  )

  abbrev Asked : ℕ → ℕ → Loop S H R W V E → Loop S H R W V E → Type 0
  Asked before accepted old new = HasAsked source input output handler limits before accepted old
      new

  -- a connection came to a listener
  pub accepted : (old new : S) (slots : List (Option (Slot H R W E))) (v w : V)
      (now k : ℕ) (origin : Origin) (before : ℕ) (came : Arrival R W)
      (reader : R) (writer : W) (first : H) (out : List ℕ) (slot : Slot H R W E)
      → slice_get slots k ≡ Some None → k < limits.accept_slots
      → came ≡ Connection origin reader writer
      → source.accepted old came new → handler.begins origin v first w → out ≡ []
      → slot ≡ first_slot (begun (Accepted origin) now) first reader writer out
      → Asked before 1 (state old slots v now) (state new (slice_set slots k (Some slot)) w now)
  accepted old new slots v w now k origin before came reader writer first out slot free within is
      accepts begins empty made =
      let start : Slot H R W E = first_slot (begun (Accepted origin) now) first reader writer [] in
      let starts : slot ≡ start = made
      ∙ ap (first_slot (begun (Accepted origin) now) first reader writer) empty in
      subst (λ (s : Slot H R W E). Asked before 1 (state old slots v now)
      (state new (slice_set slots k (Some s)) w now)) (sym starts) (
        Accepts k origin ∷ [],
        (
          state new (slice_set slots k (Some start)) w now,
          record {
            reader = reader;
            writer = writer;
            first = first;
            within = within;
            free = free;
            accepted = subst (λ (a : Arrival R W). source.accepted old a new) is accepts;
            begins = begins;
            others = refl;
          },
          refl,
        ),
        record { waits = refl; accepts = refl; none = λ j. few_none 0 },
        inr (omega arith),
      )

  -- one came and failed
  pub accept_failed : (old new : S) (slots : List (Option (Slot H R W E))) (v w : V)
      (now before : ℕ) (came : Arrival R W)
      → came ≡ Failed → source.accepted old came new → handler.fails_accept v now w
      → Asked before 1 (state old slots v now) (state new slots w now)
  accept_failed old new slots v w now before came is accepts fails = (
    AcceptFails ∷ [],
    (
      state new slots w now,
      record {
        accepted = subst (λ (a : Arrival R W). source.accepted old a new) is accepts;
        fails = fails;
        others = refl;
      },
      refl,
    ),
    record { waits = refl; accepts = refl; none = λ j. few_none 0 },
    inr (omega arith),
  )

  -- nobody came
  pub nobody_came : (old new : S) (slots : List (Option (Slot H R W E))) (v : V) (now before : ℕ)
      (came : Arrival R W)
      → came ≡ Nobody → source.accepted old came new → Asked before 0 (state old slots v now)
      (state new slots v now)
  nobody_came old new slots v now before came is accepts = (
    AcceptsNobody ∷ [],
    (
      state new slots v now,
      (
        subst (λ (a : Arrival R W). source.accepted old a new) is accepts,
        refl,
      ),
      refl,
    ),
    record { waits = refl; accepts = refl; none = λ j. few_none 0 },
    inr (omega arith),
  )

  -- all had come
  pub all_came : (before : ℕ) (here : Loop S H R W V E) → limits.connections ≡ Some before
      → Asked before 0 here here
  all_came before here all = ([], refl, coming_none, inl all)

  -- no slot is free, and one may have been displaced
  pub no_slot : (before : ℕ) (old new : Loop S H R W V E)
      → ((k : ℕ) → k < limits.accept_slots → slice_get old.slots k ≡ Some None → ⊥)
      → Goes (AreComing 0) old new → Asked before 0 old new
  no_slot before old new taken (turns, are, coming) =
      let asks : count_by has_asked (HasNoSlot ∷ turns) ≡ 1 + count_by has_asked turns = sum_by-cons
      (λ t. cond (has_asked t) 1 0) HasNoSlot turns in (
        HasNoSlot ∷ turns,
        (old, (taken, refl), are),
        coming-join 0 0 (HasNoSlot ∷ []) turns
            (record { waits = refl; accepts = refl; none = λ j. few_none 0 }) coming,
        inr (omega (arith, asks)),
      )

  -- no call was due
  pub none_due : (old new : S) (slots : List (Option (Slot H R W E))) (v : V) (now : ℕ)
      → source.called old None new
      → Goes (AreComing 0) (state old slots v now) (state new slots v now)
  none_due old new slots v now called = one (AreComing 0) CallsNobody (state old slots v now)
      (state new slots v now) (called, refl)
      (record { waits = refl; accepts = refl; none = λ j. few_none 0 })

  -- a call was due, and couldn't begin
  pub call_failed : (old between new : S) (slots : List (Option (Slot H R W E))) (v w : V) (now : ℕ)
      (call : Call R W) (made : List ℕ) → source.called old (Some call) between
      → handler.calls call.callee v made None w
      → source.closed between call.reader call.writer new
      → Goes (AreComing 0) (state old slots v now)
      (state new slots w now)
  call_failed old between new slots v w now call made called calls closes =
      one (AreComing 0) CallFails (state old slots v now) (state new slots w now) (record {
        call = call;
        between = between;
        made = made;
        called = called;
        calls = calls;
        closed = closes;
        others = refl;
      }) (record { waits = refl; accepts = refl; none = λ j. few_none 0 })

  -- a call began in a free slot
  pub call_began : (old new : S) (slots : List (Option (Slot H R W E))) (v w : V) (now k : ℕ)
      (begun : Option (Slot H R W E)) (slot : Slot H R W E) → slice_get slots k ≡ Some None
      → limits.accept_slots ≤ k
      → begun ≡ Some slot → HasCalled source input output handler limits now old v begun new w
      → Goes (AreComing 0) (state old slots v now)
      (state new (slice_set slots k (Some slot)) w now)
  call_began old new slots v w now k begun slot free behind is did =
      let (call, first, made, called, calls, made_so) =
      subst (λ b. HasCalled source input output handler limits now old v b new w) is did in
      subst (λ (s : Slot H R W E). Goes (AreComing 0) (state old slots v now)
      (state new (slice_set slots k (Some s)) w now)) (sym made_so)
      (one (AreComing 0) (Calls k made) (state old slots v now)
      (state new
      (slice_set slots k (Some (calling_slot first call made now))) w now)
      (record {
        call = call;
        first = first;
        behind = behind;
        free = free;
        called = called;
        calls = calls;
        others = refl;
      }) (record { waits = refl; accepts = refl; none = λ j. few_none 0 }))

  -- a connection makes place for the next one
  pub displaced : (source' : S) (slots : List (Option (Slot H R W E))) (v : V) (now k : ℕ)
      (old slot new : Slot H R W E)
      → slice_get slots k ≡ Some (Some old) → slice_get slots k ≡ Some (Some slot)
      → IsLongestUnheard handler now limits.accept_slots slots k slot
      → new ≡ record old { ending = Some Displaced }
      → Goes (AreComing 0) (state source' slots v now)
      (state source' (slice_set slots k (Some new)) v now)
  displaced source' slots v now k old slot new got found longest ended =
      let same : slot ≡ old = same_Some slot old (same_Some (Some slot) (Some old)
      (sym found ∙ got)) in
      let last : IsLongestUnheard handler now limits.accept_slots slots k old =
      subst (λ (s : Slot H R W E). IsLongestUnheard handler now limits.accept_slots slots k s) same
      longest in
      let end : Slot H R W E = record old { ending = Some Displaced } in
      subst (λ (s : Slot H R W E). Goes (AreComing 0) (state source' slots v now)
      (state source' (slice_set slots k (Some s)) v now))
      (sym ended)
      (one (AreComing 0) (Steps k (Stops Displaced)) (state source' slots v now)
      (state source' (slice_set slots k (Some end)) v now)
      (record {
        before = old;
        behind = end;
        there = got;
        allowed = last;
        step_is = (
          refl,
          record {
            unread = Keeps-refl (input.unread old.reader);
            written = Keeps-refl (output.written old.writer);
            may = last.unheard;
            others = refl;
          },
        );
        others = refl;
      }) (displacing k))
