-- Live values in ranges, and the nearest one outside.
use Rattle.std.proofs.Common.{◌≡◌, ℤ, ◌≤ℤ◌, Bool, true, false, List, [], ◌∷◌, filter, slice_get, Option, Some, None, refl, sym, ap, ◌∙◌, subst, arith, inl, inr, Less}
use Rattle.std.specs.Prelude.{◌↔◌}
use Rattle.std.specs.Ordering.{int_cmp}
use Rattle.std.specs.Prelude.{int_le}
use Rattle.std.proofs.lemmas.Bool.{true≢false, and_from, and_parts}
use Rattle.std.proofs.lemmas.Bool.Decides.{nat_tests}
use Rattle.std.proofs.lemmas.Int.{ints}
use Rattle.ua_binary.specs.declared.values.NodeId.{NodeId}
use Rattle.records.specs.Lists.{Has, IsPairwise}
use Rattle.records.specs.Contents.{Content}
use Rattle.records.specs.Records.{live_value}
use Rattle.records.specs.declared.shown.Held.{Held}
use Rattle.records.proofs.Sorting.{all-has, has-filter, has_from_filter, pairwise-filter}
use Rattle.archive.specs.Reading.{times, lives, in_direction, is_past, is_between, range_of, outside_of}
use Rattle.archive.specs.Queries.{IsInRange, IsNearest, HasNonePast}
use Rattle.archive.specs.declared.reading.Direction.{Direction}
use Rattle.archive.specs.declared.reading.Direction.TheVariants.{Forward, Backward}
use Rattle.archive.proofs.Turning.{has-filter_map, has_from_filter_map, pairwise-filter_map, pairwise-reverse, has-in_direction}
use Rattle.archive.proofs.Timing.{times_rise, current_time}

-- the live values are what `live_value` gives
lives_has : (R : Content) (node : NodeId) (h : Held)
    → Has (lives R node) h ↔ (live_value R node h.time ≡ Some h)
lives_has R node h = (
  λ k. let t = has_from_filter_map (live_value R node) (times R node) h k in
      subst (λ s. live_value R node s ≡ Some h) (sym (current_time R node t.0 h t.2).1) t.2,
  λ e. has-filter_map (live_value R node) (times R node) h.time h
      (current_time R node h.time h e).0 e,
)

-- those of a test, in a direction
chosen_has : (R : Content) (node : NodeId) (p : Held → Bool) (d : Direction) (h : Held)
    → Has (in_direction d (filter p (lives R node))) h ↔
    ((live_value R node h.time ≡ Some h) × (p h ≡ true))
chosen_has R node p d h = (
  λ k. let m = has_from_filter p (lives R node) h ((has-in_direction d _ h).0 k) in
      ((lives_has R node h).0 m.0, m.1),
  λ k. (has-in_direction d _ h).1 (has-filter p (lives R node) h ((lives_has R node h).1 k.0) k.1),
)

abbrev pub IsAhead : Direction → Held → Held → Type 0
IsAhead d a b = is_past d a.time b.time ≡ true

less_past : (s t u v : ℤ) → int_cmp s t ≡ Less → u ≡ s → v ≡ t → is_past Forward u v ≡ true
less_past s t u v less e k = grind (arith, nat_tests, ints)

lives_rise : (R : Content) (node : NodeId) → IsPairwise (IsAhead Forward) (lives R node)
lives_rise R node =
    pairwise-filter_map (λ s t. int_cmp s t ≡ Less) (IsAhead Forward) (live_value R node)
    (λ s t x y less e k. less_past s t x.time y.time less (current_time R node s x e).1
    (current_time R node t y k).1)
    (times R node) (times_rise R node)

pub chosen_go : (R : Content) (node : NodeId) (p : Held → Bool) (d : Direction)
    → IsPairwise (IsAhead d) (in_direction d (filter p (lives R node)))
chosen_go R node p Forward = pairwise-filter (IsAhead Forward) p _ (lives_rise R node)
chosen_go R node p Backward = pairwise-reverse (IsAhead Forward) _
    (pairwise-filter (IsAhead Forward) p _ (lives_rise R node))

-- ---- ranges

pub between_parts : (from to t : ℤ) → is_between from to t ≡ true → (from ≤ℤ t) × (t ≤ℤ to)
between_parts from to t e = let parts = and_parts (int_le from t) (int_le t to) e in
    (grind (arith, nat_tests, ints), grind (arith, nat_tests, ints))

pub between_from : (from to t : ℤ) → from ≤ℤ t → t ≤ℤ to → is_between from to t ≡ true
between_from from to t low high = and_from (int_le from t) (int_le t to)
    (grind (arith, nat_tests, ints)) (grind (arith, nat_tests, ints))

pub range_has : (R : Content) (node : NodeId) (from to : ℤ) (d : Direction) (h : Held)
    → Has (range_of R node from to d) h ↔ IsInRange R node from to h
range_has R node from to d h = (
  λ k.
      let m = (chosen_has R node (λ x. is_between from to x.time) d h).0 k in
      let parts = between_parts from to h.time m.1 in
      record { live = m.0; low = parts.0; high = parts.1 },
  λ k. (chosen_has R node (λ x. is_between from to x.time) d h).1
      (k.live, between_from from to h.time k.low k.high),
)

pub range_goes : (R : Content) (node : NodeId) (from to : ℤ) (d : Direction)
    → IsPairwise (λ a b. is_past d a.time b.time ≡ true) (range_of R node from to d)
range_goes R node from to d = chosen_go R node (λ h. is_between from to h.time) d

pub ruleset ranges = (range_has, range_goes)

-- ---- outside

not_past_itself : (d : Direction) (t : ℤ) → is_past d t t ≡ false
not_past_itself Forward t = grind (arith, nat_tests, ints)
not_past_itself Backward t = grind (arith, nat_tests, ints)

not_past_back : (d : Direction) (s t : ℤ) → is_past d s t ≡ true → is_past d t s ≡ false
not_past_back Forward s t e = grind (arith, nat_tests, ints)
not_past_back Backward s t e = grind (arith, nat_tests, ints)

neither_past : (d : Direction) (s t : ℤ) → is_past d s t ≡ false → is_past d t s ≡ false → s ≡ t
neither_past Forward s t e k = grind (arith, nat_tests, ints)
neither_past Backward s t e k = grind (arith, nat_tests, ints)

first_there : (d : Direction) (xs : List Held) (h : Held) → IsPairwise (IsAhead d) xs
    → slice_get xs 0 ≡ Some h → Has xs h × ((other : Held) → Has xs other
    → is_past d other.time h.time ≡ false)
first_there d [] h up e = cc
first_there d (x ∷ xs) h up e =
    let here : x ≡ h = cc in (
      inl here,
      λ other k. subst (λ y. is_past d other.time y.time ≡ false) here (elim k [
        | inl same ↦ subst (λ y. is_past d y.time x.time ≡ false) same (not_past_itself d x.time)
        | inr m ↦ not_past_back d x.time other.time (all-has (IsAhead d x) xs other up.0 m)
      ]),
    )

first_none : (xs : List Held) (h : Held) → slice_get xs 0 ≡ None → Has xs h → ⊥
first_none [] h e k = k
first_none (x ∷ xs) h e k = absurd (cc)

module _ (R : Content) (node : NodeId) (time : ℤ) (d : Direction) where
  nearest : (h : Held) → outside_of R node time d ≡ Some h → IsNearest R node time d h
  nearest h e =
      let has = chosen_has R node (λ x. is_past d time x.time) d in
      let there = first_there d _ h (chosen_go R node (λ x. is_past d time x.time) d) e in
      let own = (has h).0 there.0 in
      record {
        live = own.0;
        past = own.1;
        none_before =
            λ other live past. there.1 other ((has other).1 (live, past));
      }

  none_past : outside_of R node time d ≡ None → (h : Held) → live_value R node h.time ≡ Some h
      → is_past d time h.time ≡ true → ⊥
  none_past e h live past = first_none _ h e ((chosen_has R node (λ x. is_past d time x.time) d h).1
      (live, past))

  one_nearest : (h k : Held) → IsNearest R node time d h → IsNearest R node time d k → k ≡ h
  one_nearest h k one two =
      let same = neither_past d k.time h.time (one.none_before k two.live two.past)
      (two.none_before h one.live one.past) in
      let told : Some k ≡ Some h = sym two.live ∙ (ap (live_value R node) same ∙ one.live) in
      cc

  pub outside_nearest : (h : Held) → (outside_of R node time d ≡ Some h) ↔ IsNearest R node time d h
  outside_nearest h = (nearest h, λ near. go near (outside_of R node time d) refl)
    where
      go : IsNearest R node time d h → (o : Option Held) → outside_of R node time d ≡ o
          → outside_of R node time d ≡ Some h
      go near None e = absurd (none_past e h near.live near.past)
      go near (Some k) e = e ∙ ap Some (one_nearest h k near (nearest k e))

  pub outside_none : (outside_of R node time d ≡ None) ↔ HasNonePast R node time d
  outside_none = (
    λ e h live. untrue (is_past d time h.time) (none_past e h live),
    λ none. go none (outside_of R node time d) refl,
  )
    where
      untrue : (b : Bool) → (b ≡ true → ⊥) → b ≡ false
      untrue true f = absurd (f refl)
      untrue false f = refl

      go : HasNonePast R node time d → (o : Option Held) → outside_of R node time d ≡ o
          → outside_of R node time d ≡ None
      go none None e = e
      go none (Some h) e = let near = nearest h e in
          absurd (true≢false (sym near.past ∙ none h near.live))
