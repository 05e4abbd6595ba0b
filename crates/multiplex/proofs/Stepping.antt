-- The steps of one connection, which the contracts of `slot` need.
use Rattle.std.proofs.Common.{nat_eq, arith, ◌≡◌, ◌⊎◌, inl, inr, cond, ℕ, ◌+◌, ◌-◌, ◌≤◌, ◌<◌, List, [], ◌∷◌, ◌++◌, length, take, drop, refl, sym, ◌∙◌, subst, ap, Bool, true, false}
use Rattle.std.specs.Prelude.{Option, None, Some, count_by}
use Rattle.std.specs.Option.{option_map}
use Rattle.std.proofs.lemmas.List.{append_cancel_left, append-nil, drop-append-le, take-append-drop, drop-drop, length-drop, length-take-le}
use Rattle.std.proofs.Math.Seq.{take-length}
use Rattle.std.proofs.Math.ListN.{drop_of_length-le}
use Rattle.std.proofs.lemmas.Bool.{eqb-true, eq-eqb, true≢false}
use Rattle.std.proofs.lemmas.List.Sums.{sum_by-append, sum_by-cons}
use Rattle.std.specs.Io.KnownBytes.{Appends, Consumes, Keeps}
use Rattle.multiplex.specs.declared.handler.SlotEnd.{SlotEnd}
use Rattle.multiplex.specs.declared.handler.SlotEnd.TheVariants.{Finished}
use Rattle.multiplex.specs.Input.{Input}
use Rattle.multiplex.specs.Output.{Output}
use Rattle.multiplex.specs.Behavior.{Behavior}
use Rattle.multiplex.specs.declared.stay.Stay.{Stay}
use Rattle.multiplex.specs.Slots.{Slot, answered_once_more, held_until, IsResponsive}
use Rattle.multiplex.specs.Steps.{Step, Receives, Answers, Lacks, Writes, Stops, FindsEmpty, FindsFull, Wakes, Releases, is_asked, is_read, is_written, is_progress, AreAtMost, IsVisit, IsAllowed, IsStep, MayStop, AreSteps, TakesSteps}

-- what waits behind an answer, where nothing waited before
grown : (sent : ℕ) (out out' made : List ℕ) → sent ≤ length out → drop sent out ≡ []
    → out' ≡ out ++ made → drop sent out' ≡ made
grown sent out out' made within none is =
    ap (λ l. drop sent l) is ∙ (drop-append-le sent out made within ∙ ap (λ l. l ++ made) none)

-- nothing was made where nothing was appended
nothing_made : (out out' made : List ℕ) → out' ≡ out ++ made → out' ≡ out → made ≡ []
nothing_made out out' made grows same =
    append_cancel_left out made [] (sym grows ∙ (same ∙ sym (append-nil out)))

-- what stands first of what waits, and the rest
pub first_of : (sent n : ℕ) (out : List ℕ)
    → drop sent out ≡ take n (take (length out - sent) (drop sent out)) ++ drop (sent + n) out
first_of sent n out =
    let all : take (length out - sent) (drop sent out) ≡ drop sent out =
    subst (λ k. take k (drop sent out) ≡ drop sent out) (length-drop sent out)
    (take-length (drop sent out)) in
    subst (λ l. drop sent out ≡ take n l ++ drop (sent + n) out) (sym all)
    (sym (take-append-drop n (drop sent out)) ∙ ap (λ l. take n (drop sent out) ++ l)
    (drop-drop n sent out))

-- what isn't counted is few
none_or : (b : Bool) (n : ℕ) → b ≡ false → cond b 1 0 ≤ n
none_or true n e = absurd (true≢false e)
none_or false n e = omega arith

uncounted : {E : Type 0} (p : Step E → Bool) (step : Step E) (n : ℕ) → p step ≡ false
    → count_by p (step ∷ []) ≤ n
uncounted p step n fails =
    let all = sum_by-cons (λ s. cond (p s) 1 0) step [] in
    omega (arith, all, none_or (p step) n fails)

-- a step that is none of those that are counted, nor any progress
idle : {E : Type 0} (asked read written : ℕ) (step : Step E) → is_asked step ≡ false
    → is_read step ≡ false → is_written step ≡ false → IsVisit asked read written false (step ∷ [])
idle asked read written step a r w = record {
  most = record {
    asks = uncounted is_asked step asked a;
    reads = uncounted is_read step read r;
    writes = uncounted is_written step written w;
  };
  some = λ e. absurd (true≢false (sym e));
}

pub at_most-join : {E : Type 0} (x y z x' y' z' : ℕ) (steps more : List (Step E))
    → AreAtMost x y z steps → AreAtMost x' y' z' more
    → AreAtMost (x + x') (y + y') (z + z') (steps ++ more)
at_most-join x y z x' y' z' steps more first later = record {
  asks = omega (
    arith,
    first.asks,
    later.asks,
    sum_by-append (λ s. cond
        (is_asked s) 1 0) steps more,
  );
  reads = omega (
    arith,
    first.reads,
    later.reads,
    sum_by-append (λ s. cond (is_read s) 1 0) steps
        more,
  );
  writes = omega (
    arith,
    first.writes,
    later.writes,
    sum_by-append (λ s. cond (is_written s) 1 0)
        steps more,
  );
}

-- a part of a visit, and another
parts-join : {E : Type 0} (x y z x' y' z' : ℕ) (d d' b : Bool) (steps more : List (Step E))
    → (b ≡ true → (d ≡ true) ⊎ (d' ≡ true)) → IsVisit x y z d steps → IsVisit x' y' z' d' more
    → IsVisit (x + x') (y + y') (z + z') b (steps ++ more)
parts-join x y z x' y' z' d d' b steps more either first later = record {
  most = at_most-join x y z x' y' z' steps more first.most later.most;
  some = λ done.
      let all = sum_by-append (λ s. cond (is_progress s) 1 0) steps more in
      elim (either done) [
        | inl one ↦ omega (arith, all, first.some one)
        | inr other ↦ omega (arith, all, later.some other)
      ];
}

-- of some bytes, of which there are as many, a first part is one at least
pub some_taken : (n : ℕ) (bytes : List ℕ) → 0 < n → n ≤ length bytes → 0 < length (take n bytes)
some_taken n bytes some within = omega (arith, some, length-take-le n bytes within)

module _ {H R W V E : Type 0} (input : Input R) (output : Output W) (handler : Behavior H V E) where
  abbrev Takes : (List (Step E) → Type 0) → Bool → ℕ → V → Slot H R W E → V → Slot H R W E → Type 0
  Takes so room now v old w new = TakesSteps input output handler so room now v old w new

  one : (so : List (Step E) → Type 0) (room : Bool) (now : ℕ) (v w : V) (old new : Slot H R W E)
      (step : Step E) → IsAllowed room ⊥ step
      → IsStep input output handler now v old step w new → so (step ∷ [])
      → Takes so room now v old w new
  one so room now v w old new step allowed is told =
      (step ∷ [], (w, new, allowed, is, (refl, refl)), told)

  pub none : (asked read written : ℕ) (room : Bool) (now : ℕ) (v : V) (slot : Slot H R W E)
      → Takes (IsVisit asked read written false) room now v slot v slot
  none asked read written room now v slot = (
    [],
    (refl, refl),
    record {
      most = record { asks = omega arith; reads = omega arith; writes = omega arith };
      some = λ e. absurd (true≢false (sym e));
    },
  )

  join : (room : Bool) (now : ℕ) (u v w : V) (a b c : Slot H R W E) (steps more : List (Step E))
      → AreSteps input output handler room now u a steps v b → AreSteps input output handler room
      now v b more w c
      → AreSteps input output handler room now u a (steps ++ more) w c
  join room now u v w a b c [] more first later =
      subst (λ s. AreSteps input output handler room now u s more w c) first.1
      (subst (λ x. AreSteps input output handler room now x b more w c) first.0 later)
  join room now u v w a b c (step ∷ steps) more (x, s, allowed, is, rest) later =
      (x, s, allowed, is, join room now x v w s b c steps more rest later)

  -- some steps, and then some more
  pub more : (x y z x' y' z' : ℕ) (d d' e : Bool) (room : Bool) (now : ℕ) (u v w : V)
      (a b c : Slot H R W E) → (e ≡ true → (d ≡ true) ⊎ (d' ≡ true))
      → Takes (IsVisit x y z d) room now u a v b → Takes (IsVisit x' y' z' d') room now v b w c
      → Takes (IsVisit (x + x') (y + y') (z + z') e) room now u a w c
  more x y z x' y' z' d d' e room now u v w a b c either first later = (
    first.0 ++ later.0,
    join room now u v w a b c first.0 later.0 first.1 later.1,
    parts-join x y z x' y' z' d d' e first.0 later.0 either first.2 later.2,
  )

  -- what is few is few among more
  pub weaken : (x y z x' y' z' : ℕ) (d : Bool) (room : Bool) (now : ℕ) (u v : V)
      (a b : Slot H R W E) → x ≤ x' → y ≤ y' → z ≤ z' → Takes (IsVisit x y z d) room now u a v b
      → Takes (IsVisit x' y' z' d) room now u a v b
  weaken x y z x' y' z' d room now u v a b asks reads writes (steps, are, visit) = (
    steps,
    are,
    record {
      most = record {
        asks = omega (arith, visit.most.asks, asks);
        reads = omega (arith, visit.most.reads, reads);
        writes = omega (arith, visit.most.writes, writes);
      };
      some = visit.some;
    },
  )

  pub received : (room : Bool) (now : ℕ) (v : V) (old slot : Slot H R W E) (h : H) (r : R)
      (bytes made : List ℕ)
      (end : Option E) (ending : Option (SlotEnd E)) (sent : ℕ) (out out' : List ℕ)
      → 0 < length bytes → old ≡ slot → IsResponsive slot → handler.needs_more slot.handler
      → Consumes (input.unread old.reader) (input.unread r) bytes
      → handler.receives old.handler bytes made end h
      → ending ≡ option_map Finished end → old.waiting ≡ drop sent out → sent ≤ length out
      → out' ≡ out ++ made
      → Takes (IsVisit 0 1 0 true) room now v slot v (record old {
        handler = h;
        reader = r;
        waiting = drop sent out';
        ending = ending;
        active = now;
      })
  received room now v old slot h r bytes made end ending sent out out' some is responsive lacks
      consumes receives ended waits within grows =
      let ready : IsResponsive old = subst (λ s. IsResponsive s) (sym is) responsive in
      let all : drop sent out' ≡ made = grown sent out out' made within (sym waits ∙ ready.1) grows
      in
      let new : List ℕ → Option (SlotEnd E) → Slot H R W E =
      λ waiting e. record old {
        handler = h;
        reader = r;
        waiting = waiting;
        ending = e;
        active = now;
      } in
      subst (λ s. Takes (IsVisit 0 1 0 true) room now v s v (new (drop sent out') ending)) is
      (subst (λ x. Takes (IsVisit 0 1 0 true) room now v old v (new x ending)) (sym all)
      (subst (λ e. Takes (IsVisit 0 1 0 true) room now v old v (new made e)) (sym ended)
      (one (IsVisit 0 1 0 true) room now v v old (new made (option_map Finished end))
      (Receives bytes made end) tt (
        refl,
        record {
          some = some;
          responsive = ready;
          lacks = subst (λ (s : Slot H R W E). handler.needs_more s.handler) (sym is) lacks;
          consumes = consumes;
          receives = receives;
          others = refl;
        },
      ) (record {
        most = record { asks = omega arith; reads = omega arith; writes = omega arith };
        some = λ e. omega arith;
      }))))

  pub answered : (now : ℕ) (v w : V) (old slot : Slot H R W E) (h : H) (made : List ℕ)
      (end : Option E) (ending : Option (SlotEnd E)) (held : Option ℕ) (stay : Stay) (sent : ℕ)
      (out out' : List ℕ)
      → old ≡ slot → IsResponsive slot → handler.answers old.stay v old.handler made end w h
      → held ≡ held_until now (handler.delay old.stay w h) → stay ≡ answered_once_more old.stay
      → (old.ending ≡ None → ending ≡ option_map Finished end)
      → old.waiting ≡ drop sent out → sent ≤ length out → out' ≡ out ++ made
      → Takes (IsVisit 1 0 0 true) true now v slot w (record old {
        handler = h;
        waiting = drop sent out';
        ending =
            ending;
        heard = now;
        held = held;
        stay = stay;
      })
  answered now v w old slot h made end ending held stay sent out out' is responsive answers holds
      counts ended waits within grows =
      let ready : IsResponsive old = subst (λ s. IsResponsive s) (sym is) responsive in
      let all : drop sent out' ≡ made = grown sent out out' made within (sym waits ∙ ready.1) grows
      in
      let new : List ℕ → Option (SlotEnd E) → Option ℕ → Stay → Slot H R W E = λ waiting e t y.
      record old {
        handler = h;
        waiting = waiting;
        ending = e;
        heard = now;
        held = t;
        stay = y;
      } in
      let until : Option ℕ = held_until now (handler.delay old.stay w h) in
      let count : Stay = answered_once_more old.stay in
      let Went : Slot H R W E → Type 0 = λ slot'. Takes (IsVisit 1 0 0 true) true now v old w slot'
      in
      subst (λ s. Takes (IsVisit 1 0 0 true) true now v s w
      (new (drop sent out') ending held stay)) is
      (subst (λ y. Went (new (drop sent out') ending held y)) (sym counts)
      (subst (λ t. Went (new (drop sent out') ending t count)) (sym holds)
      (subst (λ x. Went (new x ending until count)) (sym all)
      (subst (λ e. Went (new made e until count)) (sym (ended ready.0))
      (one (IsVisit 1 0 0 true) true now v w old (new made (option_map Finished end) until count)
      (Answers made end) refl (record { responsive = ready; answers = answers; others = refl })
      (record {
        most = record { asks = omega arith; reads = omega arith; writes = omega arith };
        some = λ e. omega arith;
      }))))))

  pub lacked : (room : Bool) (now : ℕ) (v w : V) (old slot : Slot H R W E) (h : H) (made : List ℕ)
      (sent : ℕ)
      (out out' : List ℕ) → old ≡ slot → handler.answers old.stay v old.handler made None w h
      → handler.needs_more h
      → old.waiting ≡ drop sent out → out' ≡ out ++ made → out' ≡ out
      → Takes (IsVisit 1 0 0 false) room now v slot w
      (record old { handler = h; waiting = drop sent out' })
  lacked room now v w old slot h made sent out out' is answers lacks waits grows same =
      let as_before : drop sent out' ≡ old.waiting = ap (λ l. drop sent l) same ∙ sym waits in
      let quiet : handler.answers old.stay v old.handler [] None w h =
      subst (λ m. handler.answers old.stay v old.handler m None w h)
      (nothing_made out out' made grows same)
      answers in
      let new : List ℕ → Slot H R W E = λ waiting. record old { handler = h; waiting = waiting } in
      subst (λ s. Takes (IsVisit 1 0 0 false) room now v s w (new (drop sent out'))) is
      (subst (λ x. Takes (IsVisit 1 0 0 false) room now v old w (new x)) (sym as_before)
      (one (IsVisit 1 0 0 false) room now v w old (new old.waiting) Lacks tt (record
      { answers = quiet; lacks = lacks; others = refl }) (record {
        most = record { asks = omega arith; reads = omega arith; writes = omega arith };
        some = λ e. absurd (true≢false (sym e));
      })))

  pub wrote : (room : Bool) (now : ℕ) (v : V) (old slot : Slot H R W E) (later : W)
      (bytes rest : List ℕ)
      → 0 < length bytes → old ≡ slot → old.held ≡ None → old.waiting ≡ bytes ++ rest
      → Appends (output.written old.writer)
      (output.written later) bytes
      → Takes (IsVisit 0 0 1 true) room now v slot v
      (record old { writer = later; waiting = rest; active = now })
  wrote room now v old slot later bytes rest some is free first appends =
      let new : Slot H R W E = record old { writer = later; waiting = rest; active = now } in
      subst (λ s. Takes (IsVisit 0 0 1 true) room now v s v new) is
      (one (IsVisit 0 0 1 true) room now v v old new (Writes bytes) tt (
        refl,
        record { some = some; free = free; first = first; appends = appends; others = refl },
      ) (record {
        most = record { asks = omega arith; reads = omega arith; writes = omega arith };
        some = λ e. omega arith;
      }))

  pub released : (room : Bool) (now : ℕ) (v : V) (old slot : Slot H R W E) (until : ℕ)
      → old ≡ slot → old.held ≡ Some until → until ≤ now
      → Takes (IsVisit 0 0 0 false) room now v slot v (record old { held = None })
  released room now v old slot until is was past =
      let new : Slot H R W E = record old { held = None } in
      subst (λ s. Takes (IsVisit 0 0 0 false) room now v s v new) is
      (one (IsVisit 0 0 0 false) room now v v old new Releases tt (
        refl,
        record { until = until; was = was; past = past; others = refl },
      ) (record {
        most = record { asks = omega arith; reads = omega arith; writes = omega arith };
        some = λ e. absurd (true≢false (sym e));
      }))

  pub found_full : (asked read written : ℕ) (room : Bool) (now : ℕ) (v : V)
      (old slot : Slot H R W E) (later : W)
      → old ≡ slot
      → Keeps (output.written old.writer) (output.written later) → output.is_full later
      → Takes (IsVisit asked read written false) room now v slot v
      (record old { writer = later; writable = false })
  found_full asked read written room now v old slot later is keeps full =
      let new : Slot H R W E = record old { writer = later; writable = false } in
      subst (λ s. Takes (IsVisit asked read written false) room now v s v new) is
      (one (IsVisit asked read written false) room now v v old new FindsFull tt (
        refl,
        record {
          written = keeps;
          full = full;
          others =
              refl;
        },
      ) (idle asked read written FindsFull refl refl refl))

  pub found_empty : (asked read written : ℕ) (room : Bool) (now : ℕ) (v : V)
      (old slot : Slot H R W E) (later : R)
      → old ≡ slot
      → Keeps (input.unread old.reader) (input.unread later) → input.is_empty later
      → Takes (IsVisit asked read written false) room now v slot v
      (record old { reader = later; readable = false })
  found_empty asked read written room now v old slot later is keeps empty =
      let new : Slot H R W E = record old { reader = later; readable = false } in
      subst (λ s. Takes (IsVisit asked read written false) room now v s v new) is
      (one (IsVisit asked read written false) room now v v old new FindsEmpty tt (
        refl,
        record {
          unread = keeps;
          empty = empty;
          others
              = refl;
        },
      ) (idle asked read written FindsEmpty refl refl refl))

  pub woke : (asked read written : ℕ) (room : Bool) (now : ℕ) (v : V) (old slot : Slot H R W E)
      → old ≡ slot
      → Takes (IsVisit asked read written false) room now v slot v
      (record old { readable = true; writable = true })
  woke asked read written room now v old slot is =
      let new : Slot H R W E = record old { readable = true; writable = true } in
      subst (λ s. Takes (IsVisit asked read written false) room now v s v new) is (one
      (IsVisit asked read written false) room now v v old new Wakes tt (refl, refl)
      (idle asked read written Wakes refl refl refl))

  pub stopped : (x y z : ℕ) (room : Bool) (now : ℕ) (v : V) (old slot : Slot H R W E) (r : R)
      (w : W)
      (ending : SlotEnd E)
      → old ≡ slot → Keeps (input.unread old.reader) (input.unread r)
      → Keeps (output.written old.writer) (output.written w)
      → IsAllowed room ⊥ (Stops ending)
      → MayStop input output handler now old ending (record old
      { reader = r; writer = w; ending = Some ending })
      → Takes (IsVisit x y z false) room now v slot v
      (record old { reader = r; writer = w; ending = Some ending })
  stopped x y z room now v old slot r w ending is unread written allowed may =
      let new : Slot H R W E = record old { reader = r; writer = w; ending = Some ending } in
      subst (λ s. Takes (IsVisit x y z false) room now v s v new) is
      (one (IsVisit x y z false) room now v v old new (Stops ending) allowed
      (refl, record { unread = unread; written = written; may = may; others = refl })
      (idle x y z (Stops ending) refl refl refl))

-- all was written just where nothing is left
pub written_all : (sent long : ℕ) (out waiting : List ℕ) → drop sent out ≡ waiting
    → sent ≤ length out → long ≡ length out
    → (nat_eq sent long ≡ true → waiting ≡ []) × (waiting ≡ [] → nat_eq sent long ≡ true)
written_all sent long out waiting is within all = (
  λ same. sym is ∙ drop_of_length-le out (omega (arith, all, eqb-true sent long same)),
  λ none.
      let left : length out - sent ≡ 0 = sym (length-drop sent out) ∙ ap length (is ∙ none) in
      eq-eqb sent long (omega (arith, left, within, all)),
)
