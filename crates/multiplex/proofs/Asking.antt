-- Before each wait it was asked who comes, before each busy one something was done, and behind each
-- comes a round: the contract of `serve`.
use Rattle.std.proofs.Common.{◌≡◌, ◌⊎◌, ℕ, ◌+◌, ◌<◌, ◌≤◌, Bool, true, false, List, [], ◌∷◌, ◌++◌, refl, sym, ◌∙◌, subst, ap, arith, inl, inr, cond}
use Rattle.std.specs.Prelude.{Option, None, Some, IfSome, count_by, length, if◌then◌else◌}
use Rattle.std.proofs.lemmas.Bool.{true≢false}
use Rattle.std.proofs.lemmas.Option.{none-some, same_Some}
use Rattle.std.proofs.lemmas.List.Sums.{sum_by-append, sum_by-cons}
use Rattle.multiplex.specs.declared.limits.Limits.{Limits}
use Rattle.multiplex.specs.Effects.{Effects}
use Rattle.multiplex.specs.Input.{Input}
use Rattle.multiplex.specs.Output.{Output}
use Rattle.multiplex.specs.Behavior.{Behavior}
use Rattle.multiplex.specs.Turns.{Loop, LoopTurn, Waits, Accepts, AcceptFails, AcceptsNobody, HasNoSlot, Calls, CallFails, CallsNobody, Steps, Closes, Rests, is_wait, count_waits, count_accepted, IsWait, AreTurns, TakesTurns}
use Rattle.multiplex.specs.Rounds.{makes_progress, is_busy_wait, AreInRounds, happened_since, IsBusyBehindProgress, AreTurnsOf, AreComing}
use Rattle.multiplex.specs.Serving.{has_asked, AsksWhoComes, HasAsked}
use Rattle.multiplex.proofs.Rounding.{no_waits, no_accepted, until_first, round_of, rounds_more}
use Rattle.multiplex.proofs.Turning.{join}

-- what was asked stays asked without a wait
still_asked : (w a : Bool) → w ≡ false → (if w then false else (if a then true else true)) ≡ true
still_asked true a none = absurd (true≢false none)
still_asked false true none = refl
still_asked false false none = refl

-- no first one is counted where none is
no_first : (b : Bool) (n : ℕ) → cond b 1 0 + n ≡ 0 → b ≡ false
no_first true n e = absurd (omega (arith, e))
no_first false n e = refl

module _ {E : Type 0} where
  -- whether this happened since the last wait, once some turns are over
  abbrev pub happened_after : (what : LoopTurn E → Bool) → Bool → List (LoopTurn E) → Bool
  happened_after what before [] = before
  happened_after what before (turn ∷ turns) =
      happened_after what (happened_since what before turn) turns

  -- how many were accepted, once some turns are over
  abbrev accepted_after : ℕ → List (LoopTurn E) → ℕ
  accepted_after accepted [] = accepted
  accepted_after accepted (turn ∷ turns) = accepted_after (accepted + count_accepted (turn ∷ []))
      turns

  accepted-count : (accepted : ℕ) (turns : List (LoopTurn E))
      → accepted_after accepted turns ≡ accepted + count_accepted turns
  accepted-count accepted [] = omega arith
  accepted-count accepted (turn ∷ turns) =
      let rest = accepted-count (accepted + count_accepted (turn ∷ [])) turns in
      let all : count_accepted (turn ∷ turns) ≡ count_accepted (turn ∷ []) + count_accepted turns =
      sum_by-append _ (turn ∷ []) turns in
      omega (arith, rest, all)

  happened-join : (what : LoopTurn E → Bool) (before : Bool) (turns more : List (LoopTurn E))
      → happened_after what before (turns ++ more)
      ≡ happened_after what (happened_after what before turns) more
  happened-join what before [] more = refl
  happened-join what before (turn ∷ turns) more =
      happened-join what (happened_since what before turn) turns more

  asks-join : (most : Option ℕ) (accepted : ℕ) (asked : Bool) (turns more : List (LoopTurn E))
      → AsksWhoComes most accepted asked turns
      → AsksWhoComes most (accepted_after accepted turns)
      (happened_after has_asked asked turns) more
      → AsksWhoComes most accepted asked (turns ++ more)
  asks-join most accepted asked [] more first later = later
  asks-join most accepted asked (turn ∷ turns) more (first, rest) later = (
    first,
    asks-join most (accepted + count_accepted (turn ∷ []))
        (happened_since has_asked asked turn) turns
        more rest later,
  )

  busy-join : (done : Bool) (turns more : List (LoopTurn E)) → IsBusyBehindProgress done turns
      → IsBusyBehindProgress (happened_after makes_progress done turns) more
      → IsBusyBehindProgress done (turns ++ more)
  busy-join done [] more first later = later
  busy-join done (turn ∷ turns) more (first, rest) later =
      (first, busy-join (happened_since makes_progress done turn) turns more rest later)

  -- a busy wait is a wait
  busy_waits : (turn : LoopTurn E) → is_wait turn ≡ false → is_busy_wait turn ≡ true → ⊥
  busy_waits (Waits busy now) none is = true≢false none
  busy_waits (Accepts k listener) none is = true≢false (sym is)
  busy_waits AcceptFails none is = true≢false (sym is)
  busy_waits AcceptsNobody none is = true≢false (sym is)
  busy_waits HasNoSlot none is = true≢false (sym is)
  busy_waits (Calls k made) none is = true≢false (sym is)
  busy_waits CallFails none is = true≢false (sym is)
  busy_waits CallsNobody none is = true≢false (sym is)
  busy_waits (Steps k step) none is = true≢false (sym is)
  busy_waits (Closes k ending) none is = true≢false (sym is)
  busy_waits (Rests k) none is = true≢false (sym is)

  -- no wait is among turns without a wait
  first_none : (turn : LoopTurn E) (turns : List (LoopTurn E)) → count_waits (turn ∷ turns) ≡ 0
      → is_wait turn ≡ false
  first_none turn turns none = no_first (is_wait turn) (count_waits turns)
      (sym (sum_by-cons (λ t. cond (is_wait t) 1 0) turn turns) ∙ none)

  rest_none : (turn : LoopTurn E) (turns : List (LoopTurn E)) → count_waits (turn ∷ turns) ≡ 0
      → count_waits turns ≡ 0
  rest_none turn turns none =
      let all = sum_by-cons (λ t. cond (is_wait t) 1 0) turn turns in omega (arith, all, none)

  asks-none : (most : Option ℕ) (accepted : ℕ) (asked : Bool) (turns : List (LoopTurn E))
      → count_waits turns ≡ 0
      → AsksWhoComes most accepted asked turns
  asks-none most accepted asked [] none = tt
  asks-none most accepted asked (turn ∷ turns) none = (
    λ waits. absurd (true≢false (sym waits ∙ first_none turn turns none)),
    asks-none most (accepted + count_accepted (turn ∷ []))
        (happened_since has_asked asked turn) turns
        (rest_none turn turns none),
  )

  busy-none : (done : Bool) (turns : List (LoopTurn E)) → count_waits turns ≡ 0
      → IsBusyBehindProgress done turns
  busy-none done [] none = tt
  busy-none done (turn ∷ turns) none = (
    λ busy. absurd (busy_waits turn (first_none turn turns none) busy),
    busy-none (happened_since makes_progress done turn) turns (rest_none turn turns none),
  )

  happened-kept : (what : LoopTurn E → Bool) (turns : List (LoopTurn E)) → count_waits turns ≡ 0
      → happened_after what true turns ≡ true
  happened-kept what [] none = refl
  happened-kept what (turn ∷ turns) none =
      subst (λ b. happened_after what b turns ≡ true) (sym (still_asked (is_wait turn) (what turn)
      (first_none turn turns none)))
      (happened-kept what turns (rest_none turn turns none))

  happened-by : (what : LoopTurn E → Bool) (turns : List (LoopTurn E)) (before w a : Bool)
      → count_waits turns ≡ 0 → w ≡ false
      → (0 < count_by what turns → happened_after what before turns ≡ true)
      → 0 < cond a 1 0 + count_by what turns
      → happened_after what (if w then false else (if a then true else before)) turns ≡ true
  happened-by what turns before true a none e again some = absurd (true≢false e)
  happened-by what turns before false true none e again some = happened-kept what turns none
  happened-by what turns before false false none e again some = again (omega (arith, some))

  -- what happened once in turns without a wait happened since the last one
  happened-once : (what : LoopTurn E → Bool) (before : Bool) (turns : List (LoopTurn E))
      → count_waits turns ≡ 0 → 0 < count_by what turns → happened_after what before turns ≡ true
  happened-once what before [] none some = absurd (omega (arith, some))
  happened-once what before (turn ∷ turns) none some =
      happened-by what turns before (is_wait turn) (what turn) (rest_none turn turns none)
      (first_none turn turns none)
      (happened-once what before turns (rest_none turn turns none))
      (subst (λ n. 0 < n) (sum_by-cons (λ t. cond (what t) 1 0) turn turns) some)

module _ {S H R W V E : Type 0} (source : Effects S R W) (input : Input R) (output : Output W)
    (handler : Behavior H V E) (limits : Limits) where
  -- a server so far: so many waits, so many accepted, and whether it is busy
  pub record SoFar (waits accepted : ℕ) (busy : Bool) (old new : Loop S H R W V E) : Type 0 where
    pub turns : List (LoopTurn E)
    pub execution : AreTurns source input output handler limits old turns new
    pub waited : count_waits turns ≡ waits
    pub accepts : count_accepted turns ≡ accepted
    pub rounds : AreInRounds (length old.slots) turns
    pub done : busy ≡ true → happened_after makes_progress true turns ≡ true
    pub asks : AsksWhoComes limits.connections 0 true turns
    pub ready : (happened_after has_asked true turns ≡ true) ⊎
        (limits.connections ≡ Some accepted)

  pub begun : (here : Loop S H R W V E) → SoFar 0 0 true here here
  begun here = record {
    turns = [];
    execution = refl;
    waited = refl;
    accepts = refl;
    rounds = record { begins = refl; rounds = tt; busy = tt };
    done = λ e. refl;
    asks = tt;
    ready = inl refl;
  }

  -- where all had come nobody more came
  still_all : (most : Option ℕ) (before more : ℕ) → most ≡ Some before
      → IfSome most (λ n. before ≤ n → before + more ≤ n)
      → most ≡ Some (before + more)
  still_all None before more all step = absurd (none-some before all)
  still_all (Some n) before more all step =
      let same : n ≡ before = same_Some n before all in
      let fits = step (omega (arith, same)) in
      ap (λ k. Some k) (omega (arith, fits, same))

  -- one round more: it was waited, it was asked who comes, a call may have begun, and each had its
  -- turn
  pub round_more : (waits before more : ℕ) (busy busy' : Bool) (now : ℕ)
      (start old waited asked called new : Loop S H R W V E)
      → SoFar waits before busy start old → IsWait source input output handler limits old busy now
      waited
      → HasAsked source input output handler limits before more waited asked
      → TakesTurns source input output handler limits (AreComing 0) asked called
      → TakesTurns source input output handler limits (AreTurnsOf (length start.slots) busy') called
      new
      → IfSome limits.connections (λ n. before ≤ n → before + more ≤ n)
      → SoFar (waits + 1) (before + more) busy' start new
  round_more waits before more busy busy' now start old waited asked called new far wait asks calls
      turns step =
      let slots : ℕ = length start.slots in
      let tail : List (LoopTurn E) = asks.0 ++ (calls.0 ++ turns.0) in
      let count_tail : count_waits tail ≡ 0 =
      let one : count_waits tail ≡ count_waits asks.0 + count_waits (calls.0 ++ turns.0) =
      sum_by-append _ asks.0 (calls.0 ++ turns.0) in
      let two : count_waits (calls.0 ++ turns.0) ≡ count_waits calls.0 + count_waits turns.0 =
      sum_by-append _ calls.0 turns.0 in
      let last = no_waits (λ k. k < slots) turns.0 turns.2.own in
      omega (arith, one, two, asks.2.waits, calls.2.waits, last) in
      let accepts_tail : count_accepted tail ≡ more =
      let one : count_accepted tail ≡ count_accepted asks.0 + count_accepted (calls.0 ++ turns.0) =
      sum_by-append _ asks.0 (calls.0 ++ turns.0) in
      let two : count_accepted (calls.0 ++ turns.0) ≡ count_accepted calls.0 + count_accepted
      turns.0 = sum_by-append _ calls.0 turns.0 in
      let last = no_accepted (λ k. k < slots) turns.0 turns.2.own in
      omega (arith, one, two, asks.2.accepts, calls.2.accepts, last) in
      let round : List (LoopTurn E) = Waits busy now ∷ tail in
      let accepted-so_far : accepted_after 0 far.turns ≡ before = omega
      (arith, accepted-count 0 far.turns, far.accepts) in
      record {
        turns = far.turns ++ round;
        execution = join source input output handler limits start old new far.turns round
            far.execution (
              waited,
              wait,
              join source input output handler limits waited asked new asks.0 (calls.0 ++ turns.0)
                  asks.1 (join source input output handler limits asked called new calls.0 turns.0
                  calls.1 turns.1),
            );
        waited =
            let one : count_waits (far.turns ++ round) ≡ count_waits far.turns + count_waits round =
            sum_by-append _ far.turns round in
            let two : count_waits round ≡ 1 + count_waits tail = sum_by-cons _ (Waits busy now) tail
            in
            omega (arith, one, two, count_tail, far.waited);
        accepts =
            let one : count_accepted (far.turns ++ round) ≡ count_accepted far.turns +
            count_accepted round = sum_by-append _ far.turns round in
            let two : count_accepted round ≡ 0 + count_accepted tail = sum_by-cons _
            (Waits busy now) tail in
            omega (arith, one, two, accepts_tail, far.accepts);
        rounds = record {
          begins = until_first far.turns tail busy now ∙ far.rounds.begins;
          rounds = rounds_more slots far.turns tail busy now far.rounds.rounds count_tail
              (round_of slots more busy' asks.0 calls.0 turns.0 asks.2 calls.2 turns.2);
          busy = busy-join true far.turns round far.rounds.busy
              (far.done, busy-none false tail count_tail);
        };
        done = λ working.
            let some : 0 < count_by makes_progress tail =
            let one : count_by makes_progress tail ≡ count_by makes_progress asks.0 + count_by
            makes_progress
            (calls.0 ++ turns.0) = sum_by-append _ asks.0 (calls.0 ++ turns.0) in
            let two : count_by makes_progress (calls.0 ++ turns.0) ≡ count_by makes_progress
            calls.0 + count_by
            makes_progress turns.0 = sum_by-append _ calls.0 turns.0 in
            omega (arith, one, two, turns.2.some working) in
            happened-join makes_progress true far.turns round
            ∙ happened-once makes_progress false tail count_tail some;
        asks = asks-join limits.connections 0 true far.turns round far.asks (
          λ waits. elim far.ready [
            | inl been ↦ inl been
            | inr all ↦ inr (all ∙ ap (λ k. Some k) (sym accepted-so_far))
          ],
          asks-none limits.connections (accepted_after 0 far.turns + count_accepted {E = E}
              (Waits busy now ∷ [])) false tail count_tail,
        );
        ready = elim asks.3 [
          | inl all ↦ inr (still_all limits.connections before more all step)
          | inr some ↦ inl (happened-join has_asked true far.turns round
              ∙ happened-once has_asked false tail count_tail
              (let one : count_by has_asked tail ≡ count_by has_asked asks.0 + count_by has_asked
              (calls.0 ++ turns.0) = sum_by-append _ asks.0 (calls.0 ++ turns.0) in
              omega (arith, one, some)))
        ];
      }
