-- The first part of a history, and the rest.
use Rattle.std.proofs.Common.{◌≡◌, ℕ, zero, suc, ◌≤◌, ◌<◌, ℤ, Bool, true, false, cond, ◌&&◌, not, List, [], ◌∷◌, ◌++◌, filter, map, take, length, reverse, slice_get, Option, Some, None, Result, Ok, Err, refl, sym, ap, ◌∙◌, subst, arith, inl, inr, Less}
use Rattle.std.specs.Prelude.{int_lt, int_le, if◌then◌else◌}
use Rattle.std.specs.List.{AllByRecursion}
use Rattle.std.specs.Ordering.{int_cmp, int_eq}
use Rattle.std.specs.Option.{option_map, option_map_or}
use Rattle.std.proofs.lemmas.Bool.{and_parts}
use Rattle.std.proofs.lemmas.List.{length-map}
use Rattle.std.proofs.lemmas.Option.{slice_get-map}
use Rattle.std.proofs.lemmas.Bool.Decides.{nat_tests}
use Rattle.std.proofs.lemmas.Int.{ints}
use Rattle.records.specs.Lists.{Has, IsPairwise}
use Rattle.records.specs.Contents.{Content}
use Rattle.records.specs.Records.{live_value, modifications_at}
use Rattle.records.specs.declared.shown.Held.{Held}
use Rattle.records.specs.declared.shown.Entry.{Entry}
use Rattle.records.proofs.Sorting.{all-has, has_from_filter, pairwise-filter}
use Rattle.archive.specs.Reading.{times, lives, log}
use Rattle.archive.proofs.SetLemmas.{exact_test}
use Rattle.archive.proofs.Timing.{times_rise, current_time, entry_time, has_from_get}
use Rattle.archive.proofs.Turning.{pairwise-filter_map, pairwise-flat_map, has_from_reverse}
use Rattle.history_report.specs.declared.fault.PartFault.{PartFault}
use Rattle.history_report.specs.declared.fault.PartFault.TheVariants as part_fault
use Rattle.history_report.specs.declared.report.Report.{Report}
use Rattle.history_report.specs.Reports.{is_in_stretch, values_asked, changes_asked}
use Rattle.history_report.specs.Parts.{part_before, part_up_to, rest_from, row_times, end_between, IsFirstPart, AreCrowded, IsPartEnd, AreFirstTimes}
use Rattle.history_report.proofs.PageLemmas.{filter_same, filter_both}

-- ---- rows in the order of time

-- no row is of an earlier time than one before it
abbrev pub GoesOn : {X : Type 0} → (X → ℤ) → List X → Type 0
GoesOn time xs = IsPairwise (λ a b. int_lt (time b) (time a) ≡ false) xs

module _ {X : Type 0} (time : X → ℤ) where
  -- those before a moment, and the others
  abbrev earlier : ℤ → List X → List X
  earlier t xs = filter (λ x. int_lt (time x) t) xs

  abbrev others : ℤ → List X → List X
  others t xs = filter (λ x. not (int_lt (time x) t)) xs

  on_step : (a b t : ℤ) → int_lt a t ≡ false → int_lt b a ≡ false → int_lt b t ≡ false
  on_step a b t e k = grind (arith, nat_tests, ints, e, k)

  -- behind a row that isn't before a moment none is
  none-behind : (x : X) (xs : List X) (t : ℤ) → int_lt (time x) t ≡ false
      → AllByRecursion (λ y. int_lt (time y) (time x) ≡ false) xs → earlier t xs ≡ []
  none-behind x [] t e h = refl
  none-behind x (y ∷ xs) t e h =
      ap (λ b. cond b (y ∷ earlier t xs) (earlier t xs)) (on_step (time x) (time y) t e h.0)
      ∙ none-behind x xs t e h.1

  all-behind : (x : X) (xs : List X) (t : ℤ) → int_lt (time x) t ≡ false
      → AllByRecursion (λ y. int_lt (time y) (time x) ≡ false) xs → others t xs ≡ xs
  all-behind x [] t e h = refl
  all-behind x (y ∷ xs) t e h =
      ap (λ b. cond (not b) (y ∷ others t xs) (others t xs)) (on_step (time x) (time y) t e h.0)
      ∙ ap (λ l. y ∷ l) (all-behind x xs t e h.1)

  pub both-parts : (t : ℤ) (xs : List X) → GoesOn time xs → earlier t xs ++ others t xs ≡ xs
  both-parts t [] up = refl
  both-parts t (x ∷ xs) up = go (int_lt (time x) t) refl (both-parts t xs up.1)
    where
      go : (b : Bool) → int_lt (time x) t ≡ b → earlier t xs ++ others t xs ≡ xs
          → cond b (x ∷ earlier t xs) (earlier t xs)
          ++ cond (not b) (x ∷ others t xs) (others t xs) ≡ x ∷ xs
      go true e rest = ap (λ l. x ∷ l) rest
      go false e rest = ap (λ l. l ++ (x ∷ others t xs)) (none-behind x xs t e up.0)
          ∙ ap (λ l. x ∷ l) (all-behind x xs t e up.0)

  itself : (t : ℤ) → int_lt t t ≡ false
  itself t = grind (arith, nat_tests, ints)

  -- before the time of the k-th stand at most k
  pub few-earlier : (t : ℤ) (k : ℕ) (x : X) (xs : List X) → GoesOn time xs
      → slice_get xs k ≡ Some x → time x ≡ t → length (earlier t xs) ≤ k
  few-earlier t k x [] up at is = absurd cc
  few-earlier t zero x (y ∷ xs) up at is =
      let same : y ≡ x = cc in
      let late : int_lt (time y) t ≡ false = ap (λ z. int_lt (time z) t) same
      ∙ (ap (λ s. int_lt s t) is ∙ itself t) in
      let none : earlier t (y ∷ xs) ≡ [] =
      ap (λ b. cond b (y ∷ earlier t xs) (earlier t xs)) late ∙ none-behind y xs t late up.0 in
      omega (arith, ap length none)
  few-earlier t (suc k) x (y ∷ xs) up at is =
      go (int_lt (time y) t) (few-earlier t k x xs up.1 at is)
    where
      go : (b : Bool) → length (earlier t xs) ≤ k
          → length (cond b (y ∷ earlier t xs) (earlier t xs)) ≤ suc k
      go true rest = omega (arith, rest)
      go false rest = omega (arith, rest)

  -- the first stands before a later moment
  pub some-earlier : (t : ℤ) (x : X) (xs : List X) → slice_get xs 0 ≡ Some x
      → int_lt (time x) t ≡ true → 1 ≤ length (earlier t xs)
  some-earlier t x [] at is = absurd cc
  some-earlier t x (y ∷ xs) at is =
      let same : y ≡ x = cc in
      let there : earlier t (y ∷ xs) ≡ y ∷ earlier t xs =
      ap (λ b. cond b (y ∷ earlier t xs) (earlier t xs)) (ap (λ z. int_lt (time z) t) same ∙ is) in
      omega (arith, ap length there)

  -- those before the time of the k-th stand before it
  pub first-earlier : (t : ℤ) (k : ℕ) (x : X) (xs : List X) → GoesOn time xs
      → slice_get xs k ≡ Some x → time x ≡ t → earlier t xs ≡ earlier t (take k xs)
  first-earlier t k x [] up at is = absurd cc
  first-earlier t zero x (y ∷ xs) up at is =
      let same : y ≡ x = cc in
      let late : int_lt (time y) t ≡ false = ap (λ z. int_lt (time z) t) same
      ∙ (ap (λ s. int_lt s t) is ∙ itself t) in
      ap (λ b. cond b (y ∷ earlier t xs) (earlier t xs)) late ∙ none-behind y xs t late up.0
  first-earlier t (suc k) x (y ∷ xs) up at is =
      ap (λ l. cond (int_lt (time y) t) (y ∷ l) l) (first-earlier t k x xs up.1 at is)

  -- in a list that rises all before the k-th are before its time
  pub all-earlier : (t : ℤ) (k : ℕ) (x : X) (xs : List X)
      → IsPairwise (λ a b. int_lt (time a) (time b) ≡ true) xs → slice_get xs k ≡ Some x
      → time x ≡ t → earlier t (take k xs) ≡ take k xs
  all-earlier t k x [] up at is = absurd cc
  all-earlier t zero x (y ∷ xs) up at is = refl
  all-earlier t (suc k) x (y ∷ xs) up at is =
      let before : int_lt (time y) (time x) ≡ true =
      all-has (λ z. int_lt (time y) (time z) ≡ true) xs x up.0 (has_from_get xs k x at) in
      ap (λ b. cond b (y ∷ earlier t (take k xs)) (earlier t (take k xs)))
      (ap (λ s. int_lt (time y) s) (sym is) ∙ before)
      ∙ ap (λ l. y ∷ l) (all-earlier t k x xs up.1 at is)

-- ---- the order of what is asked for

later_on : (s t u v : ℤ) → int_cmp s t ≡ Less → u ≡ s → v ≡ t → int_lt v u ≡ false
later_on s t u v less e k = grind (arith, nat_tests, ints)

sooner : (s t u v : ℤ) → int_cmp s t ≡ Less → u ≡ s → v ≡ t → int_lt u v ≡ true
sooner s t u v less e k = grind (arith, nat_tests, ints)

apart : (t u : ℤ) → int_eq t u ≡ false → int_lt u t ≡ false → int_lt t u ≡ true
apart t u e k = grind (arith, nat_tests, ints, e, k)

same_on : (t u v : ℤ) → u ≡ t → v ≡ t → int_lt v u ≡ false
same_on t u v e k = grind (arith, nat_tests, ints)

-- each live value is later than those before it
pub values-rise : (R : Content) (report : Report)
    → IsPairwise (λ a b. int_lt a.time b.time ≡ true) (values_asked R report)
values-rise R report = pairwise-filter (λ a b. int_lt a.time b.time ≡ true)
    (λ h. is_in_stretch report h.time) (lives R report.node)
    (pairwise-filter_map (λ s t. int_cmp s t ≡ Less) (λ a b. int_lt a.time b.time ≡ true)
    (live_value R report.node)
    (λ s t x y less e k. sooner s t x.time y.time less (current_time R report.node s x e).1
    (current_time R report.node t y k).1)
    (times R report.node) (times_rise R report.node))

pub values-go : (R : Content) (report : Report) → GoesOn (λ (h : Held). h.time)
    (values_asked R report)
values-go R report = pairwise-filter (λ a b. int_lt b.time a.time ≡ false)
    (λ h. is_in_stretch report h.time) (lives R report.node)
    (pairwise-filter_map (λ s t. int_cmp s t ≡ Less) (λ a b. int_lt b.time a.time ≡ false)
    (live_value R report.node)
    (λ s t x y less e k. later_on s t x.time y.time less (current_time R report.node s x e).1
    (current_time R report.node t y k).1)
    (times R report.node) (times_rise R report.node))

-- entries of one time
at-once : (t : ℤ) (es : List Entry) → ((e : Entry) → Has es e → e.time ≡ t)
    → GoesOn (λ (e : Entry). e.time) es
at-once t [] same = tt
at-once t (x ∷ es) same = (go es (λ e h. same e (inr h)), at-once t es (λ e h. same e (inr h)))
  where
    go : (l : List Entry) → ((e : Entry) → Has l e → e.time ≡ t)
        → AllByRecursion (λ e. int_lt e.time x.time ≡ false) l
    go [] all = tt
    go (y ∷ l) all = (
      same_on t x.time y.time (same x (inl refl)) (all y (inl refl)),
      go l (λ e h. all e (inr h)),
    )

pub changes-go : (R : Content) (report : Report) → GoesOn (λ (e : Entry). e.time)
    (changes_asked R report)
changes-go R report = pairwise-filter (λ a b. int_lt b.time a.time ≡ false)
    (λ e. is_in_stretch report e.time) (log R report.node)
    (pairwise-flat_map (λ s t. int_cmp s t ≡ Less) (λ a b. int_lt b.time a.time ≡ false)
    (λ t. reverse (modifications_at R report.node t))
    (λ s t a b less h k. later_on s t a.time b.time less (of_time s a h) (of_time t b k))
    (λ t. at-once t (reverse (modifications_at R report.node t)) (of_time t))
    (times R report.node) (times_rise R report.node))
  where
    of_time : (t : ℤ) (e : Entry) → Has (reverse (modifications_at R report.node t)) e
        → e.time ≡ t
    of_time t e h = (entry_time R report.node t e
        (has_from_reverse (modifications_at R report.node t) e h)).1

-- ---- a cut

module _ (report : Report) (t : ℤ) (within : is_in_stretch report t ≡ true) where
  is_part : (time : ℤ) → is_in_stretch (part_before report t) time
      ≡ (is_in_stretch report time && int_lt time t)
  is_part time = go report.to refl
    where
      go : (o : Option ℤ) → report.to ≡ o
          → (option_map_or (λ from. int_le from time) report.from true && int_lt time t)
          ≡ ((option_map_or (λ from. int_le from time) report.from true
          && option_map_or (λ to. int_lt time to) o true) && int_lt time t)
      go None e = grind (arith)
      go (Some to) e =
          let inside : int_lt t to ≡ true = (and_parts
          (option_map_or (λ from. int_le from t) report.from true) (int_lt t to)
          (ap (λ o. option_map_or (λ from. int_le from t) report.from true
          && option_map_or (λ x. int_lt t x) o true) (sym e) ∙ within)).1 in
          grind (arith, nat_tests, ints, inside)

  is_rest : (time : ℤ) → is_in_stretch (rest_from report t) time
      ≡ (is_in_stretch report time && not (int_lt time t))
  is_rest time = go report.from refl
    where
      go : (o : Option ℤ) → report.from ≡ o
          → (int_le t time && option_map_or (λ to. int_lt time to) report.to true)
          ≡ ((option_map_or (λ from. int_le from time) o true
          && option_map_or (λ to. int_lt time to) report.to true) && not (int_lt time t))
      go None e = grind (arith, nat_tests, ints)
      go (Some from) e =
          let inside : int_le from t ≡ true = (and_parts (int_le from t)
          (option_map_or (λ to. int_lt t to) report.to true)
          (ap (λ o. option_map_or (λ x. int_le x t) o true
          && option_map_or (λ to. int_lt t to) report.to true) (sym e) ∙ within)).0 in
          grind (arith, nat_tests, ints, inside)

  module _ (R : Content) where
    values-part : values_asked R (part_before report t)
        ≡ filter (λ (h : Held). int_lt h.time t) (values_asked R report)
    values-part =
        filter_same (λ h. is_in_stretch (part_before report t) h.time)
        (λ h. is_in_stretch report h.time && int_lt h.time t) (lives R report.node)
        (λ h there. is_part h.time)
        ∙ sym (filter_both (λ h. int_lt h.time t) (λ h. is_in_stretch report h.time)
        (lives R report.node))

    values-others : values_asked R (rest_from report t)
        ≡ filter (λ (h : Held). not (int_lt h.time t)) (values_asked R report)
    values-others =
        filter_same (λ h. is_in_stretch (rest_from report t) h.time)
        (λ h. is_in_stretch report h.time && not (int_lt h.time t)) (lives R report.node)
        (λ h there. is_rest h.time)
        ∙ sym (filter_both (λ h. not (int_lt h.time t)) (λ h. is_in_stretch report h.time)
        (lives R report.node))

    changes-part : changes_asked R (part_before report t)
        ≡ filter (λ (e : Entry). int_lt e.time t) (changes_asked R report)
    changes-part =
        filter_same (λ e. is_in_stretch (part_before report t) e.time)
        (λ e. is_in_stretch report e.time && int_lt e.time t) (log R report.node)
        (λ e there. is_part e.time)
        ∙ sym (filter_both (λ e. int_lt e.time t) (λ e. is_in_stretch report e.time)
        (log R report.node))

    changes-others : changes_asked R (rest_from report t)
        ≡ filter (λ (e : Entry). not (int_lt e.time t)) (changes_asked R report)
    changes-others =
        filter_same (λ e. is_in_stretch (rest_from report t) e.time)
        (λ e. is_in_stretch report e.time && not (int_lt e.time t)) (log R report.node)
        (λ e there. is_rest e.time)
        ∙ sym (filter_both (λ e. not (int_lt e.time t)) (λ e. is_in_stretch report e.time)
        (log R report.node))

-- the part and the rest are all values
pub values_both : (R : Content) (report : Report) (t : ℤ) → is_in_stretch report t ≡ true
    → values_asked R (part_before report t) ++ values_asked R (rest_from report t)
    ≡ values_asked R report
values_both R report t within =
    ap (λ l. l ++ values_asked R (rest_from report t)) (values-part report t within R)
    ∙ (ap (λ l. filter (λ (h : Held). int_lt h.time t) (values_asked R report) ++ l)
    (values-others report t within R)
    ∙ both-parts (λ (h : Held). h.time) t (values_asked R report) (values-go R report))

-- and all modifications
pub changes_both : (R : Content) (report : Report) (t : ℤ) → is_in_stretch report t ≡ true
    → changes_asked R (part_before report t) ++ changes_asked R (rest_from report t)
    ≡ changes_asked R report
changes_both R report t within =
    ap (λ l. l ++ changes_asked R (rest_from report t)) (changes-part report t within R)
    ∙ (ap (λ l. filter (λ (e : Entry). int_lt e.time t) (changes_asked R report) ++ l)
    (changes-others report t within R)
    ∙ both-parts (λ (e : Entry). e.time) t (changes_asked R report) (changes-go R report))

-- ---- where a part ends

-- of these rows at most 500 stand before this end: there is none where they are no more, and
-- otherwise it is the time of the 501st, which is later than that of the first
abbrev IsEndOf : {X : Type 0} → (X → ℤ) → List X → Option ℤ → Type 0
IsEndOf {X} time_of rows end =
    elim end [
      | None ↦ length rows ≤ 500
      | Some time ↦ (first : X) × (last : X) × (slice_get rows 0 ≡ Some first)
          × (slice_get rows 500 ≡ Some last) × (time_of last ≡ time)
          × (int_lt (time_of first) time ≡ true)
    ]

-- the same by the times of the rows
times-end : {X : Type 0} (time : X → ℤ) (xs : List X) (end : Option ℤ) → IsEndOf time xs end
    → IsPartEnd (map time xs) end
times-end time xs None few = subst (λ n. n ≤ 500) (sym (length-map xs time)) few
times-end time xs (Some t) (first, last, begins, at, same, before) = (
  slice_get-map time xs 500 ∙ (ap (option_map time) at ∙ ap Some same),
  time first,
  slice_get-map time xs 0 ∙ ap (option_map time) begins,
  before,
)

-- what stands at a place of the times
time-at : {X : Type 0} (time : X → ℤ) (xs : List X) (k : ℕ) (t : ℤ)
    → slice_get (map time xs) k ≡ Some t → (x : X) × (slice_get xs k ≡ Some x) × (time x ≡ t)
time-at {X} time xs k t at = go (slice_get xs k) refl (sym (slice_get-map time xs k) ∙ at)
  where
    go : (o : Option X) → slice_get xs k ≡ o → option_map time o ≡ Some t
        → (x : X) × (slice_get xs k ≡ Some x) × (time x ≡ t)
    go None e is = absurd cc
    go (Some x) e is = (x, e, cc)

-- and back
end-times : {X : Type 0} (time : X → ℤ) (xs : List X) (t : ℤ)
    → IsPartEnd (map time xs) (Some t) → IsEndOf time xs (Some t)
end-times time xs t (at, first, begins, before) =
    let (last, there, is) = time-at time xs 500 t at in
    let (x, starts, same) = time-at time xs 0 first begins in
    (x, last, starts, there, is, subst (λ s. int_lt s t ≡ true) (sym same) before)

-- the times of modifications or of live values
times-by : (R : Content) (report : Report) (changes : Bool) → report.changes ≡ changes
    → row_times R report
    ≡ (if changes then map (λ (e : Entry). e.time) (changes_asked R report)
    else map (λ (h : Held). h.time) (values_asked R report))
times-by R report changes is =
    ap (λ b. if b then map (λ (e : Entry). e.time) (changes_asked R report)
    else map (λ (h : Held). h.time) (values_asked R report)) is

pub values-first : (R : Content) (report : Report) (end : Option ℤ) → report.changes ≡ false
    → IsPartEnd (map (λ (h : Held). h.time) (values_asked R report)) end
    → IsFirstPart R report (part_up_to report end)
values-first R report end is ends =
    (end, subst (λ l. IsPartEnd l end) (sym (times-by R report false is)) ends, refl)

pub changes-first : (R : Content) (report : Report) (end : Option ℤ) → report.changes ≡ true
    → IsPartEnd (map (λ (e : Entry). e.time) (changes_asked R report)) end
    → IsFirstPart R report (part_up_to report end)
changes-first R report end is ends =
    (end, subst (λ l. IsPartEnd l end) (sym (times-by R report true is)) ends, refl)

-- ---- the rows of a first part

values-ends : (R : Content) (report : Report) (t : ℤ) → report.changes ≡ false
    → IsPartEnd (row_times R report) (Some t)
    → IsEndOf (λ (h : Held). h.time) (values_asked R report) (Some t)
values-ends R report t is ends =
    end-times (λ (h : Held). h.time) (values_asked R report) t
    (subst (λ l. IsPartEnd l (Some t)) (times-by R report false is) ends)

changes-ends : (R : Content) (report : Report) (t : ℤ) → report.changes ≡ true
    → IsPartEnd (row_times R report) (Some t)
    → IsEndOf (λ (e : Entry). e.time) (changes_asked R report) (Some t)
changes-ends R report t is ends =
    end-times (λ (e : Entry). e.time) (changes_asked R report) t
    (subst (λ l. IsPartEnd l (Some t)) (times-by R report true is) ends)

values-within : (R : Content) (report : Report) (t : ℤ)
    → IsEndOf (λ (h : Held). h.time) (values_asked R report) (Some t)
    → is_in_stretch report t ≡ true
values-within R report t (first, last, begins, at, same, before) =
    subst (λ s. is_in_stretch report s ≡ true) same
    (has_from_filter (λ h. is_in_stretch report h.time) (lives R report.node) last
    (has_from_get (values_asked R report) 500 last at)).1

changes-within : (R : Content) (report : Report) (t : ℤ)
    → IsEndOf (λ (e : Entry). e.time) (changes_asked R report) (Some t)
    → is_in_stretch report t ≡ true
changes-within R report t (first, last, begins, at, same, before) =
    subst (λ s. is_in_stretch report s ≡ true) same
    (has_from_filter (λ e. is_in_stretch report e.time) (log R report.node) last
    (has_from_get (changes_asked R report) 500 last at)).1

-- the end is a moment that the report asks for
pub end_within : (R : Content) (report : Report) (t : ℤ)
    → IsPartEnd (row_times R report) (Some t) → is_in_stretch report t ≡ true
end_within R report t ends = go report.changes refl
  where
    go : (b : Bool) → report.changes ≡ b → is_in_stretch report t ≡ true
    go true is = changes-within R report t (changes-ends R report t is ends)
    go false is = values-within R report t (values-ends R report t is ends)

-- 1 to 500 rows stand before it
pub end_counts : (R : Content) (report : Report) (t : ℤ)
    → IsPartEnd (row_times R report) (Some t)
    → (1 ≤ length (row_times R (part_before report t)))
    × (length (row_times R (part_before report t)) ≤ 500)
end_counts R report t ends = go report.changes refl
  where
    within : is_in_stretch report t ≡ true
    within = end_within R report t ends

    counted : {X : Type 0} (time : X → ℤ) (xs part : List X) → GoesOn time xs
        → IsEndOf time xs (Some t) → part ≡ filter (λ x. int_lt (time x) t) xs
        → row_times R (part_before report t) ≡ map time part
        → (1 ≤ length (row_times R (part_before report t)))
        × (length (row_times R (part_before report t)) ≤ 500)
    counted time xs part up (first, last, begins, at, same, before) is times =
        let count : length (row_times R (part_before report t))
        ≡ length (filter (λ x. int_lt (time x) t) xs) =
        ap length times ∙ (length-map part time ∙ ap length is) in (
          subst (λ n. 1 ≤ n) (sym count) (some-earlier time t first xs begins before),
          subst (λ n. n ≤ 500) (sym count) (few-earlier time t 500 last xs up at same),
        )

    go : (b : Bool) → report.changes ≡ b
        → (1 ≤ length (row_times R (part_before report t)))
        × (length (row_times R (part_before report t)) ≤ 500)
    go true is = counted (λ (e : Entry). e.time) (changes_asked R report)
        (changes_asked R (part_before report t)) (changes-go R report)
        (changes-ends R report t is ends) (changes-part report t within R)
        (times-by R (part_before report t) true is)
    go false is = counted (λ (h : Held). h.time) (values_asked R report)
        (values_asked R (part_before report t)) (values-go R report)
        (values-ends R report t is ends) (values-part report t within R)
        (times-by R (part_before report t) false is)

-- live values are the first 500
pub first_values : (R : Content) (report : Report) (t : ℤ) → report.changes ≡ false
    → IsPartEnd (row_times R report) (Some t)
    → values_asked R (part_before report t) ≡ take 500 (values_asked R report)
first_values R report t is ends =
    let time : Held → ℤ = λ h. h.time in
    let xs = values_asked R report in
    let (first, last, begins, at, same, before) = values-ends R report t is ends in
    values-part report t (end_within R report t ends) R
    ∙ (first-earlier time t 500 last xs (values-go R report) at same
    ∙ all-earlier time t 500 last xs (values-rise R report) at same)

-- modifications are those of the first 500 that are before the end
pub first_changes : (R : Content) (report : Report) (t : ℤ) → report.changes ≡ true
    → IsPartEnd (row_times R report) (Some t)
    → changes_asked R (part_before report t)
    ≡ filter (λ e. int_lt e.time t) (take 500 (changes_asked R report))
first_changes R report t is ends =
    let time : Entry → ℤ = λ e. e.time in
    let xs = changes_asked R report in
    let (first, last, begins, at, same, before) = changes-ends R report t is ends in
    changes-part report t (end_within R report t ends) R
    ∙ first-earlier time t 500 last xs (changes-go R report) at same

-- ---- which times are seen

-- what stands at a place of the first is what stands there in all
get-taken : {X : Type 0} (n k : ℕ) (xs : List X) → k < n → slice_get (take n xs) k ≡ slice_get xs k
get-taken zero k xs lt = absurd (omega (arith, lt))
get-taken (suc n) k [] lt = refl
get-taken (suc n) zero (x ∷ xs) lt = refl
get-taken (suc n) (suc k) (x ∷ xs) lt = get-taken n k xs (omega (arith, lt))

-- the time that is seen at a place is that of the row there
time-seen : {X : Type 0} (time : X → ℤ) (xs : List X) (times : List ℤ) (k : ℕ)
    → AreFirstTimes (map time xs) times → k < 501
    → slice_get times k ≡ option_map time (slice_get xs k)
time-seen time xs times k is lt =
    sym (get-taken 501 k times lt)
    ∙ (ap (λ l. slice_get l k) is
    ∙ (get-taken 501 k (map time xs) lt ∙ slice_get-map time xs k))

-- where nothing stands at a place there are no more
no-more : {X : Type 0} (k : ℕ) (xs : List X) → slice_get xs k ≡ None → length xs ≤ k
no-more k [] e = omega arith
no-more zero (x ∷ xs) e = absurd cc
no-more (suc k) (x ∷ xs) e = omega (arith, no-more k xs e)

-- what stands before another in a list that rises
first-before : {X : Type 0} (time : X → ℤ) (k : ℕ) (last : X) (xs : List X)
    → IsPairwise (λ a b. int_lt (time a) (time b) ≡ true) xs → slice_get xs (suc k) ≡ Some last
    → (first : X) × (slice_get xs 0 ≡ Some first) × (int_lt (time first) (time last) ≡ true)
first-before time k last [] up at = absurd cc
first-before time k last (x ∷ xs) up at = (
  x,
  refl,
  all-has (λ y. int_lt (time x) (time y) ≡ true) xs last up.0 (has_from_get xs k last at),
)

-- at the times that are seen of live values
pub values-end : (R : Content) (report : Report) (times : List ℤ) (end : Option ℤ)
    → AreFirstTimes (map (λ (h : Held). h.time) (values_asked R report)) times
    → end ≡ slice_get times 500
    → IsPartEnd (map (λ (h : Held). h.time) (values_asked R report)) end
values-end R report times end is ends =
    subst (IsPartEnd (map (λ (h : Held). h.time) asked))
    (sym (ends ∙ time-seen (λ (h : Held). h.time) asked times 500 is (omega arith)))
    (times-end (λ (h : Held). h.time) asked
    (option_map (λ (h : Held). h.time) (slice_get asked 500)) (go (slice_get asked 500) refl))
  where
    asked : List Held
    asked = values_asked R report

    go : (o : Option Held) → slice_get asked 500 ≡ o
        → IsEndOf (λ (h : Held). h.time) asked (option_map (λ (h : Held). h.time) o)
    go None e = no-more 500 asked e
    go (Some last) e =
        let (first, begins, before) =
        first-before (λ (h : Held). h.time) 499 last asked (values-rise R report) e in
        (first, last, begins, e, refl, before)

-- what is told of an end of modifications
abbrev pub EndsChanges : List Entry → Result (Option ℤ) PartFault → Type 0
EndsChanges changes result =
    elim result [
      | Ok end ↦ IsPartEnd (map (λ (e : Entry). e.time) changes) end
      | Err part_fault.Crowded ↦ AreCrowded changes
      | Err (part_fault.Report why) ↦ ⊥
    ]

pub changes-end : (R : Content) (report : Report) (times : List ℤ)
    (result : Result (Option ℤ) PartFault)
    → AreFirstTimes (map (λ (e : Entry). e.time) (changes_asked R report)) times
    → result ≡ end_between (slice_get times 0) (slice_get times 500)
    → EndsChanges (changes_asked R report) result
changes-end R report times result is ends =
    subst (EndsChanges asked) (sym (ends
    ∙ (ap (λ o. end_between o (slice_get times 500)) (seen 0 (omega arith))
    ∙ ap (λ o. end_between (option_map (λ (e : Entry). e.time) (slice_get asked 0)) o)
    (seen 500 (omega arith)))))
    (go (slice_get asked 0) (slice_get asked 500) refl refl)
  where
    asked : List Entry
    asked = changes_asked R report

    seen : (k : ℕ) → k < 501
        → slice_get times k ≡ option_map (λ (e : Entry). e.time) (slice_get asked k)
    seen k lt = time-seen (λ (e : Entry). e.time) asked times k is lt

    ordered : (first last : Entry) → slice_get asked 0 ≡ Some first
        → slice_get asked 500 ≡ Some last
        → int_lt last.time first.time ≡ false
    ordered first last p q = in_order asked (changes-go R report) p q
      where
        in_order : (l : List Entry) → GoesOn (λ (e : Entry). e.time) l → slice_get l 0 ≡ Some first
            → slice_get l 500 ≡ Some last → int_lt last.time first.time ≡ false
        in_order [] up a b = absurd cc
        in_order (x ∷ l) up a b =
            let same : x ≡ first = cc in
            subst (λ (z : Entry). int_lt last.time z.time ≡ false) same
            (all-has (λ (y : Entry). int_lt y.time x.time ≡ false) l last up.0
            (has_from_get l 499 last b))

    two : (first last : Entry) (b : Bool) → int_eq first.time last.time ≡ b
        → slice_get asked 0 ≡ Some first → slice_get asked 500 ≡ Some last
        → EndsChanges asked (if b then Err part_fault.Crowded else Ok (Some last.time))
    two first last true e p q = (first, last, p, q, exact_test first.time last.time e)
    two first last false e p q =
        times-end (λ (e : Entry). e.time) asked (Some last.time)
        (first, last, p, q, refl, apart first.time last.time e (ordered first last p q))

    go : (o r : Option Entry) → slice_get asked 0 ≡ o → slice_get asked 500 ≡ r
        → EndsChanges asked (end_between (option_map (λ (e : Entry). e.time) o)
        (option_map (λ (e : Entry). e.time) r))
    go None None p q = times-end (λ (e : Entry). e.time) asked None (no-more 500 asked q)
    go (Some first) None p q = times-end (λ (e : Entry). e.time) asked None (no-more 500 asked q)
    go None (Some last) p q =
        let few = no-more 0 asked p in
        times-end (λ (e : Entry). e.time) asked None (omega (arith, few))
    go (Some first) (Some last) p q = two first last (int_eq first.time last.time) refl p q
