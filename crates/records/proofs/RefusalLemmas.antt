-- What the refusals of learning mean.
use Rattle.std.proofs.Common.{◌≡◌, ℕ, ◌+◌, ◌≤◌, ◌<◌, nat_le, nat_lt, ℤ, pos, ◌≤ℤ◌, ◌<ℤ◌, Bool, true, false, refl, sym, ap, ◌∙◌, subst, arith, inl, inr, int_lt}
use Rattle.std.specs.Prelude.{int_le, ◌↔◌}
use Rattle.std.specs.List.{list_any}
use Rattle.std.proofs.lemmas.Bool.{true≢false, lt-leb, le-leb, leb-true, leb-false, lt-ltb, ltb-true, ltb-false, le-ltb, cases_Bool}
use Rattle.std.proofs.lemmas.Int.{ints}
use Rattle.stamp.specs.Limits.{greatest}
use Rattle.records.specs.declared.record.Record.{Record}
use Rattle.records.specs.Lists.{Has}
use Rattle.records.specs.Contents.{Content, vec, last_tick, HasName, IsClosed, Finding, Clash, Gap, TickTooFar, TickNotRising, finding}
use Rattle.records.specs.Same.{same_record}
use Rattle.records.proofs.ContentLemmas.{vec_bounds}
use Rattle.records.proofs.LearnLemmas.{finding_by, held_from_test, held_test, le_from_not, not_lt_test, le_from_test, lt_from_test}

-- the test that a refusal is one of its kind
abbrev clashes : Finding → Bool
clashes Clash = true
clashes _ = false

abbrev is_gap : Finding → Bool
is_gap (Gap held got) = true
is_gap _ = false

abbrev held_of : Finding → ℕ
held_of (Gap held got) = held
held_of _ = 0

abbrev got_of : Finding → ℕ
got_of (Gap held got) = got
got_of _ = 0

abbrev too_far : Finding → Bool
too_far TickTooFar = true
too_far _ = false

abbrev not_rising : Finding → Bool
not_rising TickNotRising = true
not_rising _ = false

-- the five tests of a record
module _ (R : Content) (r : Record) where
  abbrev reached : Bool
  reached = nat_le r.number (vec R r.origin)

  abbrev there : Bool
  there = list_any (same_record r) R

  abbrev beyond : Bool
  beyond = nat_lt (vec R r.origin + 1) r.number

  abbrev far : Bool
  far = int_lt (pos greatest) r.tick

  abbrev late : Bool
  late = int_le r.tick (last_tick R r.origin)

  abbrev IsNumbered : Type 0
  IsNumbered = r.number ≡ vec R r.origin + 1

  clash_tests : finding R r ≡ Clash → (reached ≡ true) × (there ≡ false)
  clash_tests = go reached there beyond far late
    where
      go : (a b g f t : Bool) → finding_by a b g f t (vec R r.origin) r.number ≡ Clash
          → (a ≡ true) × (b ≡ false)
      go true true g f t h = absurd (true≢false (sym (ap clashes h)))
      go true false g f t h = (refl, refl)
      go false b true f t h = absurd (true≢false (sym (ap clashes h)))
      go false b false true t h = absurd (true≢false (sym (ap clashes h)))
      go false b false false true h = absurd (true≢false (sym (ap clashes h)))
      go false b false false false h = absurd (true≢false (sym (ap clashes h)))

  gap_tests : (held got : ℕ) → finding R r ≡ Gap held got
      → (beyond ≡ true) × (held ≡ vec R r.origin) × (got ≡ r.number)
  gap_tests held got = go reached there beyond far late
    where
      go : (a b g f t : Bool) → finding_by a b g f t (vec R r.origin) r.number ≡ Gap held got
          → (g ≡ true) × (held ≡ vec R r.origin) × (got ≡ r.number)
      go true true g f t h = absurd (true≢false (sym (ap is_gap h)))
      go true false g f t h = absurd (true≢false (sym (ap is_gap h)))
      go false b true f t h = (refl, sym (ap held_of h), sym (ap got_of h))
      go false b false true t h = absurd (true≢false (sym (ap is_gap h)))
      go false b false false true h = absurd (true≢false (sym (ap is_gap h)))
      go false b false false false h = absurd (true≢false (sym (ap is_gap h)))

  far_tests : finding R r ≡ TickTooFar → (reached ≡ false) × (beyond ≡ false) × (far ≡ true)
  far_tests = go reached there beyond far late
    where
      go : (a b g f t : Bool) → finding_by a b g f t (vec R r.origin) r.number ≡ TickTooFar
          → (a ≡ false) × (g ≡ false) × (f ≡ true)
      go true true g f t h = absurd (true≢false (sym (ap too_far h)))
      go true false g f t h = absurd (true≢false (sym (ap too_far h)))
      go false b true f t h = absurd (true≢false (sym (ap too_far h)))
      go false b false true t h = (refl, refl, refl)
      go false b false false true h = absurd (true≢false (sym (ap too_far h)))
      go false b false false false h = absurd (true≢false (sym (ap too_far h)))

  late_tests : finding R r ≡ TickNotRising
      → (reached ≡ false) × (beyond ≡ false) × (far ≡ false) × (late ≡ true)
  late_tests = go reached there beyond far late
    where
      go : (a b g f t : Bool) → finding_by a b g f t (vec R r.origin) r.number ≡ TickNotRising
          → (a ≡ false) × (g ≡ false) × (f ≡ false) × (t ≡ true)
      go true true g f t h = absurd (true≢false (sym (ap not_rising h)))
      go true false g f t h = absurd (true≢false (sym (ap not_rising h)))
      go false b true f t h = absurd (true≢false (sym (ap not_rising h)))
      go false b false true t h = absurd (true≢false (sym (ap not_rising h)))
      go false b false false true h = (refl, refl, refl, refl)
      go false b false false false h = absurd (true≢false (sym (ap not_rising h)))

  numbered : reached ≡ false → beyond ≡ false → IsNumbered
  numbered e f = let above = leb-false _ _ e in let below = ltb-false _ _ f in omega arith

  next_tests : IsNumbered → (reached ≡ false) × (beyond ≡ false)
  next_tests n = (lt-leb _ _ (omega arith), le-ltb _ _ (omega arith))

  not_there : (Has R r → ⊥) → there ≡ false
  not_there none = elim (cases_Bool there) [
    | inl e ↦ absurd (none (held_from_test R r e))
    | inr e ↦
        e
  ]

lt_test : (a b : ℤ) → a <ℤ b → int_lt a b ≡ true
lt_test a b h = grind (arith, ints)

le_test : (a b : ℤ) → a ≤ℤ b → int_le a b ≡ true
le_test a b h = grind (arith, ints)

pub clash_found : (R : Content) (r : Record) → IsClosed R → 1 ≤ r.number
    → (finding R r ≡ Clash) ↔ (HasName R r.origin r.number × (Has R r → ⊥))
clash_found R r closed one = (
  λ e.
      let t = clash_tests R r e in (
        closed.whole r.origin r.number one (leb-true _ _ t.0),
        λ h. true≢false (sym (held_test R r h) ∙ t.1),
      ),
  λ h.
      let s = h.0 in
      let bound = vec_bounds R s.0 s.1 in
      let le : r.number ≤ vec R r.origin =
      subst (λ o. r.number ≤ vec R o) s.2.0 (omega (arith, s.2.1)) in
      let reach : nat_le r.number (vec R r.origin) ≡ true = le-leb _ _ le in
      rw (reach, not_there R r h.1) refl,
)

pub gap_found : (R : Content) (r : Record) (held got : ℕ)
    → (finding R r ≡ Gap held got) ↔ ((held ≡ vec R r.origin) × (got ≡ r.number) × (held + 1 < got))
gap_found R r held got = (
  λ e. let t = gap_tests R r held got e in let lt = ltb-true _ _ t.0 in
      (t.1, t.2, omega (arith, t.1, t.2)),
  λ h.
      let above : nat_le r.number (vec R r.origin) ≡ false =
      lt-leb _ _ (omega (arith, h.0, h.1, h.2)) in
      let further : nat_lt (vec R r.origin + 1) r.number ≡ true =
      lt-ltb _ _ (omega (arith, h.0, h.1, h.2)) in
      rw (above, further) (λ i. Gap (sym h.0 i) (sym h.1 i)),
)

pub far_found : (R : Content) (r : Record)
    → (finding R r ≡ TickTooFar) ↔ ((r.number ≡ vec R r.origin + 1) × (pos greatest <ℤ r.tick))
far_found R r = (
  λ e. let t = far_tests R r e in (numbered R r t.0 t.1, lt_from_test _ _ t.2),
  λ h.
      let n = next_tests R r h.0 in
      let above : nat_le r.number (vec R r.origin) ≡ false = n.0 in
      let here : nat_lt (vec R r.origin + 1) r.number ≡ false = n.1 in
      let large : int_lt (pos greatest) r.tick ≡ true = lt_test _ _ h.1 in
      rw (above, here, large) refl,
)

pub late_found : (R : Content) (r : Record)
    → (finding R r ≡ TickNotRising) ↔ ((r.number ≡ vec R r.origin + 1) × (r.tick ≤ℤ pos greatest)
    × (r.tick ≤ℤ last_tick R r.origin))
late_found R r = (
  λ e. let t = late_tests R r e in
      (numbered R r t.0 t.1, le_from_not _ _ t.2, le_from_test _ _ t.3),
  λ h.
      let n = next_tests R r h.0 in
      let above : nat_le r.number (vec R r.origin) ≡ false = n.0 in
      let here : nat_lt (vec R r.origin + 1) r.number ≡ false = n.1 in
      let small : int_lt (pos greatest) r.tick ≡ false = not_lt_test _ _ h.1 in
      let low : int_le r.tick (last_tick R r.origin) ≡ true = le_test _ _ h.2 in
      rw (above, here, small, low) refl,
)

pub ruleset refusals = (clash_found, gap_found, far_found, late_found)
