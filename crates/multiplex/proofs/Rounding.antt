-- What the turns of a round are: the contracts of `turns` and `serve`.
use Rattle.std.proofs.Common.{◌≡◌, ◌⊎◌, ℕ, ◌+◌, ◌<◌, ◌≤◌, Bool, true, false, List, [], ◌∷◌, ◌++◌, refl, sym, ◌∙◌, subst, ap, arith, inl, inr, cond, append_assoc}
use Rattle.std.specs.Prelude.{count_by, map, if◌then◌else◌}
use Rattle.std.proofs.lemmas.Bool.{true≢false, eq-eqb}
use Rattle.std.proofs.lemmas.Bool.Decides.{eqb_tells}
use Rattle.std.proofs.lemmas.List.Concat.{flat_map-append}
use Rattle.std.proofs.lemmas.List.Sums.{sum_by-append, sum_by-cons}
use Rattle.multiplex.specs.declared.handler.SlotEnd.{SlotEnd}
use Rattle.multiplex.specs.declared.handler.SlotEnd.TheVariants.{Displaced}
use Rattle.multiplex.specs.Steps.{Step, Stops, is_progress, AreAtMost}
use Rattle.multiplex.specs.Turns.{LoopTurn, Waits, Accepts, AcceptFails, AcceptsNobody, HasNoSlot, Calls, CallFails, CallsNobody, Steps, Closes, Rests, is_wait, is_accepted, count_waits, count_accepted}
use Rattle.multiplex.specs.Alone.{steps_at}
use Rattle.multiplex.specs.Rounds.{is_arrival, makes_progress, is_turn_of, until_wait, IsRound, AreRounds, AreOfSlots, AreStepsAt, AreClosing, AreTurnOf, AreTurnsOf, AreComing}
use Rattle.multiplex.proofs.Stepping.{at_most-join}

module _ {E : Type 0} where
  counts : (p : LoopTurn E → Bool) (turns more : List (LoopTurn E))
      → count_by p (turns ++ more) ≡ count_by p turns + count_by p more
  counts p turns more = sum_by-append (λ t. cond (p t) 1 0) turns more

  pub steps-join : (k : ℕ) (turns more : List (LoopTurn E))
      → steps_at k (turns ++ more) ≡ steps_at k turns ++ steps_at k more
  steps-join k turns more = flat_map-append _ turns more

  -- so many at most in some turns, and so many in more
  pub few-join : (k x y : ℕ) (turns more : List (LoopTurn E)) → AreAtMost x x x (steps_at k turns)
      → AreAtMost y y y (steps_at k more) → AreAtMost (x + y) (x + y) (x + y)
      (steps_at k (turns ++ more))
  few-join k x y turns more first later =
      subst (λ l. AreAtMost (x + y) (x + y) (x + y) l) (sym (steps-join k turns more))
      (at_most-join x x x y y y (steps_at k turns) (steps_at k more) first later)

  pub few_none : (n : ℕ) → AreAtMost {E = E} n n n []
  few_none n = record { asks = omega arith; reads = omega arith; writes = omega arith }

  pub of-join : (so : ℕ → Type 0) (turns more : List (LoopTurn E)) → AreOfSlots so turns
      → AreOfSlots so more → AreOfSlots so (turns ++ more)
  of-join so [] more first later = later
  of-join so (turn ∷ turns) more first later = (first.0, of-join so turns more first.1 later)

  -- of slots of which this holds, and then of slots of which that holds
  of-wider : (so wide : ℕ → Type 0) (turns : List (LoopTurn E)) → ((k : ℕ) → so k → wide k)
      → AreOfSlots so turns → AreOfSlots wide turns
  of-wider so wide [] wider own = tt
  of-wider so wide (Waits busy now ∷ turns) wider own = absurd own.0
  of-wider so wide (Accepts k listener ∷ turns) wider own = absurd own.0
  of-wider so wide (AcceptFails ∷ turns) wider own = absurd own.0
  of-wider so wide (AcceptsNobody ∷ turns) wider own = absurd own.0
  of-wider so wide (HasNoSlot ∷ turns) wider own = absurd own.0
  of-wider so wide (Calls k made ∷ turns) wider own = absurd own.0
  of-wider so wide (CallFails ∷ turns) wider own = absurd own.0
  of-wider so wide (CallsNobody ∷ turns) wider own = absurd own.0
  of-wider so wide (Steps k step ∷ turns) wider own =
      (wider k own.0, of-wider so wide turns wider own.1)
  of-wider so wide (Closes k ending ∷ turns) wider own =
      (wider k own.0, of-wider so wide turns wider own.1)
  of-wider so wide (Rests k ∷ turns) wider own = (wider k own.0, of-wider so wide turns wider own.1)

  -- one that isn't counted, before others
  uncounted : (what : LoopTurn E → Bool) (turn : LoopTurn E) (turns : List (LoopTurn E))
      → what turn ≡ false → count_by what turns ≡ 0 → count_by what (turn ∷ turns) ≡ 0
  uncounted what turn turns fails none =
      let all = sum_by-cons (λ t. cond (what t) 1 0) turn turns in
      let first : cond (what turn) 1 0 ≤ 0 = none_or (what turn) fails in
      omega (arith, all, none, first)
    where
      none_or : (b : Bool) → b ≡ false → cond b 1 0 ≤ 0
      none_or true e = absurd (true≢false e)
      none_or false e = omega arith

  -- turns of slots are none of those that aren't
  none-among : (what : LoopTurn E → Bool) (so : ℕ → Type 0) (turns : List (LoopTurn E))
      → ((k : ℕ) (step : Step E) → what (Steps k step) ≡ false)
      → ((k : ℕ) (ending : SlotEnd E) → what (Closes k ending) ≡ false)
      → ((k : ℕ) → what (Rests k) ≡ false) → AreOfSlots so turns → count_by what turns ≡ 0
  none-among what so [] steps closes rests own = refl
  none-among what so (Waits busy now ∷ turns) steps closes rests own = absurd own.0
  none-among what so (Accepts k listener ∷ turns) steps closes rests own = absurd own.0
  none-among what so (AcceptFails ∷ turns) steps closes rests own = absurd own.0
  none-among what so (AcceptsNobody ∷ turns) steps closes rests own = absurd own.0
  none-among what so (HasNoSlot ∷ turns) steps closes rests own = absurd own.0
  none-among what so (Calls k made ∷ turns) steps closes rests own = absurd own.0
  none-among what so (CallFails ∷ turns) steps closes rests own = absurd own.0
  none-among what so (CallsNobody ∷ turns) steps closes rests own = absurd own.0
  none-among what so (Steps k step ∷ turns) steps closes rests own =
      uncounted what (Steps k step) turns (steps k step)
      (none-among what so turns steps closes rests own.1)
  none-among what so (Closes k ending ∷ turns) steps closes rests own =
      uncounted what (Closes k ending) turns (closes k ending)
      (none-among what so turns steps closes rests own.1)
  none-among what so (Rests k ∷ turns) steps closes rests own =
      uncounted what (Rests k) turns (rests k) (none-among what so turns steps closes rests own.1)

  pub no_waits : (so : ℕ → Type 0) (turns : List (LoopTurn E)) → AreOfSlots so turns
      → count_waits turns ≡ 0
  no_waits so turns own = none-among is_wait so turns (λ k step. refl) (λ k ending. refl)
      (λ k. refl) own

  pub no_accepted : (so : ℕ → Type 0) (turns : List (LoopTurn E)) → AreOfSlots so turns
      → count_accepted turns ≡ 0
  no_accepted so turns own = none-among is_accepted so turns (λ k step. refl) (λ k ending. refl)
      (λ k. refl) own

  no_arrivals : (so : ℕ → Type 0) (turns : List (LoopTurn E)) → AreOfSlots so turns
      → count_by is_arrival turns ≡ 0
  no_arrivals so turns own = none-among is_arrival so turns (λ k step. refl) (λ k ending. refl)
      (λ k. refl) own

  -- no step is at a slot that isn't among those of the turns
  elsewhere : (so : ℕ → Type 0) (k : ℕ) (turns : List (LoopTurn E))
      → ((j : ℕ) → so j → j ≡ k → ⊥) → AreOfSlots so turns → steps_at k turns ≡ []
  elsewhere so k [] apart own = refl
  elsewhere so k (Waits busy now ∷ turns) apart own = absurd own.0
  elsewhere so k (Accepts j listener ∷ turns) apart own = absurd own.0
  elsewhere so k (AcceptFails ∷ turns) apart own = absurd own.0
  elsewhere so k (AcceptsNobody ∷ turns) apart own = absurd own.0
  elsewhere so k (HasNoSlot ∷ turns) apart own = absurd own.0
  elsewhere so k (Calls j made ∷ turns) apart own = absurd own.0
  elsewhere so k (CallFails ∷ turns) apart own = absurd own.0
  elsewhere so k (CallsNobody ∷ turns) apart own = absurd own.0
  elsewhere so k (Steps j step ∷ turns) apart own = elim (eqb_tells j k) [
    | inl same ↦ absurd (apart j own.0 same.1)
    | inr other ↦
        subst (λ b. (if b then step ∷ [] else []) ++ steps_at k turns ≡ []) (sym other.0)
        (elsewhere so k turns apart own.1)
  ]
  elsewhere so k (Closes j ending ∷ turns) apart own = elsewhere so k turns apart own.1
  elsewhere so k (Rests j ∷ turns) apart own = elsewhere so k turns apart own.1

  -- the steps of a visit, among the turns
  own-visit : (k : ℕ) (steps : List (Step E))
      → AreOfSlots (λ j. j ≡ k) (map (λ (s : Step E). Steps k s) steps)
  own-visit k [] = tt
  own-visit k (step ∷ steps) = (refl, own-visit k steps)

  visited : (k : ℕ) (steps : List (Step E))
      → steps_at k (map (λ (s : Step E). Steps k s) steps) ≡ steps
  visited k [] = refl
  visited k (step ∷ steps) =
      subst (λ b. (if b then step ∷ [] else [])
      ++ steps_at k (map (λ (s : Step E). Steps k s) steps) ≡ step ∷ steps)
      (sym (eq-eqb k k refl)) (ap (λ l. step ∷ l) (visited k steps))

  visit-done : (k : ℕ) (steps : List (Step E))
      → count_by makes_progress (map (λ (s : Step E). Steps k s) steps) ≡ count_by is_progress steps
  visit-done k [] = refl
  visit-done k (step ∷ steps) =
      let rest = visit-done k steps in
      let turns = map (λ (s : Step E). Steps k s) steps in
      let all = sum_by-cons (λ t. cond (makes_progress t) 1 0) (Steps k step) turns in
      let same = sum_by-cons (λ s. cond (is_progress s) 1 0) step steps in
      omega (arith, rest, all, same)

  visit-turn : (k : ℕ) (steps : List (Step E))
      → count_by (is_turn_of k) (map (λ (s : Step E). Steps k s) steps)
      ≡ count_by is_progress steps
  visit-turn k [] = refl
  visit-turn k (step ∷ steps) =
      let rest = visit-turn k steps in
      let turns = map (λ (s : Step E). Steps k s) steps in
      let all = sum_by-cons (λ t. cond (is_turn_of k t) 1 0) (Steps k step) turns in
      let here : ◌≡◌ {A = ℕ} (cond (is_turn_of k (Steps k step)) 1 0) (cond (is_progress step) 1 0)
      = ap (λ b. cond (if b then is_progress step else false) 1 0) (eq-eqb k k refl) in
      let same = sum_by-cons (λ s. cond (is_progress s) 1 0) step steps in
      omega (arith, rest, all, same, here)

  -- a turn of its own kind, alone
  once-turn : (k : ℕ) (turn : LoopTurn E) → is_turn_of k turn ≡ true
      → count_by (is_turn_of k) (turn ∷ []) ≡ 1
  once-turn k turn its =
      sum_by-cons (λ t. cond (is_turn_of k t) 1 0) turn [] ∙ ap (λ b. cond b 1 0 + 0) its

  -- what was closed, or wasn't
  own-closing : (k : ℕ) (closed : Bool) (turns : List (LoopTurn E)) → AreClosing k closed turns
      → AreOfSlots (λ j. j ≡ k) turns
  own-closing k true turns (ending, is) = subst (λ l. AreOfSlots (λ j. j ≡ k) l) (sym is) (refl, tt)
  own-closing k false turns is = subst (λ l. AreOfSlots (λ j. j ≡ k) l) (sym is) tt

  no_steps-closing : (k : ℕ) (closed : Bool) (turns : List (LoopTurn E)) → AreClosing k closed turns
      → steps_at k turns ≡ []
  no_steps-closing k true turns (ending, is) = ap (λ l. steps_at k l) is
  no_steps-closing k false turns is = ap (λ l. steps_at k l) is

  closing-turn : (k : ℕ) (turns : List (LoopTurn E)) → AreClosing k true turns
      → count_by (is_turn_of k) turns ≡ 1
  closing-turn k turns (ending, is) =
      ap (λ l. count_by (is_turn_of k) l) is ∙ once-turn k (Closes k ending) (eq-eqb k k refl)

  closing-done : (k : ℕ) (turns : List (LoopTurn E)) → AreClosing k true turns
      → count_by makes_progress turns ≡ 1
  closing-done k turns (ending, is) = ap (λ l. count_by makes_progress l) is

  -- a visit and a closing, or none
  own-both : (k : ℕ) (busy closed : Bool) (turns more : List (LoopTurn E))
      → AreStepsAt k busy turns → AreClosing k closed more
      → AreOfSlots (λ j. j ≡ k) (turns ++ more)
  own-both k busy closed turns more (steps, is, visit) closing =
      of-join (λ j. j ≡ k) turns more
      (subst (λ l. AreOfSlots (λ j. j ≡ k) l) (sym is) (own-visit k steps))
      (own-closing k closed more closing)

  once-both : (k : ℕ) (busy closed : Bool) (turns more : List (LoopTurn E))
      → AreStepsAt k busy turns → AreClosing k closed more
      → AreAtMost 1 1 1 (steps_at k (turns ++ more))
  once-both k busy closed turns more (steps, is, visit) closing =
      few-join k 1 0 turns more
      (subst (λ l. AreAtMost 1 1 1 l) (sym (ap (λ l. steps_at k l) is ∙ visited k steps))
      visit.most)
      (subst (λ l. AreAtMost 0 0 0 l) (sym (no_steps-closing k closed more closing)) (few_none 0))

  -- a turn at which something was done
  pub busy_turn : (k : ℕ) (busy closed all : Bool) (turns more : List (LoopTurn E)) → all ≡ true
      → (all ≡ true → (busy ≡ true) ⊎ (closed ≡ true)) → AreStepsAt k busy turns
      → AreClosing k closed more → AreTurnOf k all (turns ++ more)
  busy_turn k busy closed all turns more done either visit closing =
      let its = counts (is_turn_of k) turns more in
      let does = counts makes_progress turns more in
      let both : (0 < count_by (is_turn_of k) (turns ++ more))
      × (0 < count_by makes_progress (turns ++ more)) = elim (either done) [
        | inl one ↦
            let here = visit.2.some one in
            let turned = ap (λ l. count_by (is_turn_of k) l) visit.1 ∙ visit-turn k visit.0 in
            let was = ap (λ l. count_by makes_progress l) visit.1 ∙ visit-done k visit.0 in
            (omega (arith, its, turned, here), omega (arith, does, was, here))
        | inr other ↦
            let gone : AreClosing k true more = subst (λ b. AreClosing k b more) other closing in
            let turned = closing-turn k more gone in
            let was = closing-done k more gone in
            (omega (arith, its, turned), omega (arith, does, was))
      ] in
      record {
        own = own-both k busy closed turns more visit closing;
        its = both.0;
        once = once-both k busy closed turns more visit closing;
        some = λ e. both.1;
      }

  -- a turn at which nothing could be done
  pub idle_turn : (k : ℕ) (busy closed all : Bool) (turns more : List (LoopTurn E)) → all ≡ false
      → AreStepsAt k busy turns → AreClosing k closed more
      → AreTurnOf k all ((turns ++ more) ++ (Rests k ∷ []))
  idle_turn k busy closed all turns more done visit closing = record {
    own = of-join (λ j. j ≡ k) (turns ++ more) (Rests k ∷ [])
        (own-both k busy closed turns more visit closing) (refl, tt);
    its =
        let all = counts (is_turn_of k) (turns ++ more) (Rests k ∷ []) in
        omega (arith, all, once-turn k (Rests k) (eq-eqb k k refl));
    once = few-join k 1 0 (turns ++ more) (Rests k ∷ [])
        (once-both k busy closed turns more visit closing) (few_none 0);
    some = λ e. absurd (true≢false (sym e ∙ done));
  }

  pub no_turns : AreTurnsOf {E = E} 0 false []
  no_turns = record {
    own = tt;
    each = λ k below. absurd (omega (arith, below));
    once = λ k. few_none 1;
    some = λ e. absurd (true≢false (sym e));
  }

  -- a turn of each of the first slots, and of the next one
  pub next_turn : (place : ℕ) (busy here all : Bool) (turns more : List (LoopTurn E))
      → (all ≡ true → (busy ≡ true) ⊎ (here ≡ true)) → AreTurnsOf place busy turns
      → AreTurnOf place here more → AreTurnsOf (place + 1) all (turns ++ more)
  next_turn place busy here all turns more either before now = record {
    own = of-join (λ j. j < place + 1) turns more
        (of-wider (λ j. j < place) (λ j. j < place + 1) turns (λ j below. omega (arith, below))
        before.own)
        (of-wider (λ j. j ≡ place) (λ j. j < place + 1) more (λ j same. omega (
          arith,
          same,
        )) now.own);
    each = λ k below.
        let all = counts (is_turn_of k) turns more in
        elim (eqb_tells k place) [
          | inl same ↦
              let its : 0 < count_by (is_turn_of k) more =
              subst (λ i. 0 < count_by (is_turn_of i) more) (sym same.1) now.its in
              omega (arith, all, its)
          | inr other ↦
              let its = before.each k (omega (arith, below, other.1)) in
              omega (arith, all, its)
        ];
    once = λ k. elim (eqb_tells k place) [
      | inl same ↦ few-join k 0 1 turns more
          (subst (λ l. AreAtMost 0 0 0 l)
          (sym (elsewhere (λ j. j < place) k turns (λ j below e. omega (arith, below, e, same.1))
          before.own)) (few_none 0))
          (subst (λ i. AreAtMost 1 1 1 (steps_at i more)) (sym same.1) now.once)
      | inr other ↦ few-join k 1 0 turns more (before.once k)
          (subst (λ l. AreAtMost 0 0 0 l)
          (sym (elsewhere (λ j. j ≡ place) k more (λ j same e. other.1 (sym e ∙ same)) now.own))
          (few_none 0))
    ];
    some = λ done.
        let all = counts makes_progress turns more in
        elim (either done) [
          | inl one ↦ omega (arith, all, before.some one)
          | inr other ↦ omega (arith, all, now.some other)
        ];
  }

  pub coming_none : AreComing {E = E} 0 []
  coming_none = record { waits = refl; accepts = refl; none = λ k. few_none 0 }

  -- a connection that makes place isn't served by that
  pub displacing : (k : ℕ) → AreComing {E = E} 0 (Steps k (Stops Displaced) ∷ [])
  displacing k = record {
    waits = refl;
    accepts = refl;
    none = λ j. elim (eqb_tells k j) [
      | inl same ↦ subst (λ b. AreAtMost {E = E} 0 0 0
          ((if b then Stops Displaced ∷ [] else []) ++ []))
          (sym same.0) (record { asks = omega arith; reads = omega arith; writes = omega arith })
      | inr other ↦ subst (λ b. AreAtMost {E = E} 0 0 0
          ((if b then Stops Displaced ∷ [] else []) ++ []))
          (sym other.0) (few_none 0)
    ];
  }

  -- what comes, and then some more
  pub coming-join : (m n : ℕ) (turns more : List (LoopTurn E)) → AreComing m turns
      → AreComing n more → AreComing (m + n) (turns ++ more)
  coming-join m n turns more first later = record {
    waits = omega (arith, first.waits, later.waits, counts is_wait turns more);
    accepts = omega (arith, first.accepts, later.accepts, counts is_accepted turns more);
    none = λ k. few-join k 0 0 turns more (first.none k) (later.none k);
  }

  -- up to the next wait are all turns, where none is a wait
  pub until_none : (turns : List (LoopTurn E)) → count_waits turns ≡ 0 → until_wait turns ≡ turns
  until_none [] none = refl
  until_none (turn ∷ turns) none = by (is_wait turn) (until_none turns)
      (sym (sum_by-cons (λ t. cond (is_wait t) 1 0) turn turns) ∙ none)
    where
      by : (b : Bool) → (count_waits turns ≡ 0 → until_wait turns ≡ turns)
          → cond b 1 0 + count_waits turns ≡ 0
          → (if b then [] else (turn ∷ until_wait turns)) ≡ turn ∷ turns
      by true rest e = absurd (omega (arith, e))
      by false rest e = ap (λ l. turn ∷ l) (rest (omega (arith, e)))

  -- what stands behind a wait isn't reached before it
  pub until_first : (turns more : List (LoopTurn E)) (busy : Bool) (now : ℕ)
      → until_wait (turns ++ (Waits busy now ∷ more)) ≡ until_wait turns
  until_first [] more busy now = refl
  until_first (turn ∷ turns) more busy now =
      ap (λ l. if is_wait turn then [] else (turn ∷ l)) (until_first turns more busy now)

  -- one round: who comes, and a turn of each slot
  pub round_of : (slots accepted : ℕ) (busy : Bool) (asks calls turns : List (LoopTurn E))
      → AreComing accepted asks → AreComing 0 calls → AreTurnsOf slots busy turns
      → IsRound slots (asks ++ (calls ++ turns))
  round_of slots accepted busy asks calls turns comes calling served = record {
    coming = asks ++ calls;
    serving = turns;
    parts = sym (append_assoc asks calls turns);
    none_comes = no_arrivals (λ k. k < slots) turns served.own;
    each = served.each;
    once = λ k. few-join k 0 1 asks (calls ++ turns) (comes.none k)
        (few-join k 0 1 calls turns (calling.none k) (served.once k));
  }

  -- no round begins among turns without a wait
  rounds_none : (slots : ℕ) (turns : List (LoopTurn E)) → count_waits turns ≡ 0
      → AreRounds slots turns
  rounds_none slots [] none = tt
  rounds_none slots (turn ∷ turns) none =
      let all = sum_by-cons (λ t. cond (is_wait t) 1 0) turn turns in (
        λ waits.
            let one : ◌≡◌ {A = ℕ} (cond (is_wait turn) 1 0) 1 = ap (λ b. cond b 1 0) waits in
            absurd (omega (arith, all, none, one)),
        rounds_none slots turns (omega (arith, all, none)),
      )

  -- rounds, and one more
  pub rounds_more : (slots : ℕ) (turns round : List (LoopTurn E)) (busy : Bool) (now : ℕ)
      → AreRounds slots turns → count_waits round ≡ 0 → IsRound slots round
      → AreRounds slots (turns ++ (Waits busy now ∷ round))
  rounds_more slots [] round busy now rounds none is = (
    λ waits. subst (λ l. IsRound slots l) (sym (until_none round none)) is,
    rounds_none slots round none,
  )
  rounds_more slots (turn ∷ turns) round busy now rounds none is = (
    λ waits. subst (λ l. IsRound slots l) (sym (until_first turns round busy now))
        (rounds.0 waits),
    rounds_more slots turns round busy now rounds.1 none is,
  )
