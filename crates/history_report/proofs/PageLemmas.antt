-- Pages of a history, and what they are of.
use Rattle.std.proofs.Common.{◌≡◌, ℕ, zero, suc, ◌+◌, ◌-◌, ◌≤◌, ◌<◌, ℤ, Bool, true, false, cond, ◌&&◌, List, [], ◌∷◌, ◌++◌, filter, take, drop, length, reverse, slice_get, Option, Some, None, Result, Ok, Err, Vec, Global, refl, sym, ap, ◌∙◌, subst, arith, inl, inr}
use Rattle.std.specs.Prelude.{int_lt, MatchResult}
use Rattle.std.proofs.Common.{add-one}
use Rattle.std.specs.List.{AllByRecursion}
use Rattle.std.proofs.lemmas.Bool.Decides.{nat_tests}
use Rattle.std.proofs.lemmas.Int.{ints}
use Rattle.std.proofs.lemmas.List.{length-take, take-append-drop}
use Rattle.std.proofs.lemmas.Option.{slice_get_within}
use Rattle.stamp.specs.Numbers.{number_of}
use Rattle.ua_binary.specs.declared.values.NodeId.{NodeId}
use Rattle.records.specs.Lists.{Has, IsPairwise, last}
use Rattle.records.specs.Contents.{Content, vec, cut}
use Rattle.records.specs.Records.{live_value, modifications_at, versions}
use Rattle.records.specs.Moments.{whole_again, pico_within}
use Rattle.records.specs.declared.record.Record.{Record}
use Rattle.records.specs.declared.shown.Held.{Held}
use Rattle.records.specs.declared.shown.Entry.{Entry}
use Rattle.records.proofs.CutLemmas.{closed_cut, cut_whole}
use Rattle.records.proofs.LatestLemmas.{story_has}
use Rattle.archive.specs.Reading.{times, lives, log, is_between, place_of, range_of, log_of}
use Rattle.archive.specs.Store.{Store, Asks, IsLawfulContent, StoreFailed}
use Rattle.archive.specs.Steps.{Transitions}
use Rattle.archive.specs.declared.fault.StoreFault.{StoreFault}
use Rattle.archive.specs.declared.reading.Direction.TheVariants.{Forward}
use Rattle.archive.specs.declared.reading.LogPlace.{LogPlace}
use Rattle.archive.proofs.Acting.{there-behind, moves-stays, moves-as, left-before}
use Rattle.archive.proofs.Calls.{in_use}
use Rattle.archive.proofs.Ranges.{range_goes}
use Rattle.archive.proofs.Resuming.{log_resumes}
use Rattle.archive.proofs.Timing.{current_from, entry_from}
use Rattle.archive.proofs.Turning.{has_from_filter_map, has_from_flat_map, has_from_reverse}
use Rattle.history_report.specs.declared.pages.Pages.{Pages}
use Rattle.history_report.specs.declared.report.Report.{Report}
use Rattle.history_report.specs.Reports.{is_in_stretch, values_asked, changes_asked}
use Rattle.history_report.specs.Paging.{IsTime, IsBehind, place_behind, values_left, changes_left, IsPageOf, Offers, GivesPage, Fails}

-- ---- lists

module _ {X : Type 0} where
  filter_all : (xs : List X) → filter (λ x. true) xs ≡ xs
  filter_all [] = refl
  filter_all (x ∷ xs) = ap (λ l. x ∷ l) (filter_all xs)

  pub filter_same : (p q : X → Bool) (xs : List X) → ((x : X) → Has xs x → p x ≡ q x)
      → filter p xs ≡ filter q xs
  filter_same p q [] same = refl
  filter_same p q (x ∷ xs) same =
      let rest = filter_same p q xs (λ y h. same y (inr h)) in
      ap (λ b. cond b (x ∷ filter p xs) (filter p xs)) (same x (inl refl))
      ∙ ap (λ l. cond (q x) (x ∷ l) l) rest

  pub filter_both : (p q : X → Bool) (xs : List X)
      → filter p (filter q xs) ≡ filter (λ x. q x && p x) xs
  filter_both p q [] = refl
  filter_both p q (x ∷ xs) =
      let rest = filter_both p q xs in
      elim (q x) as (λ b. filter p (cond b (x ∷ filter q xs) (filter q xs))
      ≡ cond (b && p x) (x ∷ filter (λ y. q y && p y) xs) (filter (λ y. q y && p y) xs)) [
        | true ↦ elim (p x) as (λ c. cond c (x ∷ filter p (filter q xs)) (filter p (filter q xs))
            ≡ cond c (x ∷ filter (λ y. q y && p y) xs) (filter (λ y. q y && p y) xs))
            [ true ↦ ap (λ l. x ∷ l) rest | false ↦ rest ]
        | false ↦ rest
      ]

  take-empty : (k : ℕ) (xs : List X) → take (suc k) xs ≡ [] → xs ≡ []
  take-empty k [] e = refl
  take-empty k (x ∷ xs) e = absurd cc

  -- the first of the first
  take-taken : (n k : ℕ) (xs : List X) → n ≤ k → take n (take k xs) ≡ take n xs
  take-taken zero k xs le = refl
  take-taken (suc n) zero xs le = absurd (omega (arith, le))
  take-taken (suc n) (suc k) [] le = refl
  take-taken (suc n) (suc k) (x ∷ xs) le =
      ap (λ l. x ∷ l) (take-taken n k xs (omega (arith, le)))

  -- what stands at a place of the first is what stands there in all
  of_take : (k i : ℕ) (xs : List X) (x : X) → slice_get (take k xs) i ≡ Some x
      → slice_get xs i ≡ Some x
  of_take zero i xs x e = absurd cc
  of_take (suc k) i [] x e = e
  of_take (suc k) zero (y ∷ ys) x e = e
  of_take (suc k) (suc i) (y ∷ ys) x e = of_take k i ys x e

  -- behind the last of the first k is what is behind these
  page-drop : (k : ℕ) (xs : List X) → take k xs ++ drop (length (take k xs)) xs ≡ xs
  page-drop zero xs = refl
  page-drop (suc k) [] = refl
  page-drop (suc k) (x ∷ xs) = ap (λ l. x ∷ l) (page-drop k xs)

  -- a page, and what is behind its last one
  page-last : (k : ℕ) (page more xs : List X) (x : X) → page ≡ take (suc k) xs
      → slice_get page (length page - 1) ≡ Some x → more ≡ drop (length page - 1 + 1) xs
      → IsPageOf page more xs
  page-last k page more xs x is at behind =
      let some : length page - 1 < length page = slice_get_within page (length page - 1) x at in
      let whole : length page - 1 + 1 ≡ length page = omega (arith, some) in (
        ap (λ l. page ++ l) (behind ∙ (ap (λ n. drop n xs) whole
            ∙ ap (λ (l : List X). drop (length l) xs) is))
            ∙ (ap (λ l. l ++ drop (length (take (suc k) xs)) xs) is ∙ page-drop (suc k) xs),
        λ e. absurd (omega (arith, some, ap length e)),
      )

  no-last : (page : List X) → last page ≡ None → page ≡ []
  no-last [] e = refl
  no-last (x ∷ xs) e = absurd (omega (arith, get-none (x ∷ xs) (length (x ∷ xs) - 1) e))
    where
      get-none : (ys : List X) (k : ℕ) → slice_get ys k ≡ None → length ys ≤ k
      get-none [] k e = omega arith
      get-none (y ∷ ys) zero e = absurd cc
      get-none (y ∷ ys) (suc k) e = omega (arith, get-none ys k e)

  page-none : (k : ℕ) (page xs : List X) → page ≡ take (suc k) xs → page ≡ []
      → IsPageOf page xs xs
  page-none k page xs is none =
      (ap (λ l. l ++ xs) none, λ e. take-empty k xs (sym is ∙ none))

-- of a list in which each element is past those before it, what is past the k-th is what stands
-- behind it
module _ {X : Type 0} (past : X → X → Bool)
    (back : (x y : X) → past x y ≡ true → past y x ≡ false) where
  itself : (x : X) → past x x ≡ false
  itself x = go (past x x) refl
    where
      go : (b : Bool) → past x x ≡ b → b ≡ false
      go true e = sym e ∙ back x x e
      go false e = refl

  all_past : (x : X) (ys : List X) → AllByRecursion (λ y. past x y ≡ true) ys
      → filter (past x) ys ≡ ys
  all_past x [] h = refl
  all_past x (y ∷ ys) h = ap (λ b. cond b (y ∷ filter (past x) ys) (filter (past x) ys)) h.0
      ∙ ap (λ l. y ∷ l) (all_past x ys h.1)

  not_past : (x y : X) (ys : List X) (k : ℕ) → AllByRecursion (λ z. past y z ≡ true) ys
      → slice_get ys k ≡ Some x → past x y ≡ false
  not_past x y [] k h e = cc
  not_past x y (z ∷ ys) zero h e = let same : z ≡ x = cc in
      subst (λ w. past w y ≡ false) same (back y z h.0)
  not_past x y (z ∷ ys) (suc k) h e = not_past x y ys k h.1 e

  past_is_drop : (xs : List X) (k : ℕ) (x : X) → IsPairwise (λ a b. past a b ≡ true) xs
      → slice_get xs k ≡ Some x → filter (past x) xs ≡ drop (suc k) xs
  past_is_drop [] k x up e = cc
  past_is_drop (y ∷ xs) zero x up e =
      let same : y ≡ x = cc in
      subst (λ w. filter (past w) (y ∷ xs) ≡ xs) same
      (ap (λ b. cond b (y ∷ filter (past y) xs) (filter (past y) xs)) (itself y)
      ∙ all_past y xs up.0)
  past_is_drop (y ∷ xs) (suc k) x up e =
      ap (λ b. cond b (y ∷ filter (past x) xs) (filter (past x) xs)) (not_past x y xs k up.0 e)
      ∙ past_is_drop xs k x up.1 e

-- ---- what the archive answers

-- an answer, in terms of what is held
pub answered : {A : Type 0} (t u : Store) (IsAnswer : Content → A → Type 0) (a : A)
    → Asks t u (Ok a) (IsAnswer t.content)
    → Transitions t u [] (λ marks R S. (S ≡ R) × IsLawfulContent R × IsAnswer R a)
answered t u IsAnswer a asks =
    moves-stays t u [] (λ marks R S. (S ≡ R) × IsLawfulContent R × IsAnswer R a)
    asks.leaves.passes asks.stays (there-behind t u None asks.leaves) (λ honest R h.
    let is : t.content ≡ R = left-before t u R asks.leaves honest h in
    let rests = asks.leaves.before (asks.leaves.passes.honest honest) (in_use t u asks.leaves) in (
      refl,
      subst IsLawfulContent is rests.lawful,
      subst (λ C. IsAnswer C a) is
          (asks.answer honest),
    ))

-- a fault of its store
pub unanswered : {A : Type 0} (t u : Store) (why : StoreFault) (P : A → Type 0)
    → Asks {A = A} t u (Err why) P → Fails t u why
unanswered t u why P asks = moves-stays t u (StoreFailed why ∷ [])
    (λ marks R S. S ≡ R) asks.leaves.passes asks.stays (there-behind t u (Some why) asks.leaves)
    (λ honest R h. refl)

-- the first of what is still to come
pub offered : {X : Type 0} (t u : Store) (rest : Content → List X)
    (result : Result (Vec X Global) StoreFault)
    → Asks t u result (λ v. v.items ≡ take 8 (rest t.content))
    → MatchResult result (λ page. Offers t u page.items rest) (λ why. Fails t u why)
offered {X} t u rest (Ok page) asks =
    answered t u (λ R (v : Vec X Global). v.items ≡ take 8 (rest R)) page asks
offered {X} t u rest (Err why) asks =
    unanswered t u why (λ (v : Vec X Global). v.items ≡ take 8 (rest t.content)) asks

module _ {X : Type 0} (t u : Store) (page : List X) (rest : Content → List X)
    (offers : Offers t u page rest) where
  -- they are a page
  pub offers-page : GivesPage t u page (λ R. drop 8 (rest R)) rest
  offers-page = moves-as t u []
      (λ marks R S. (S ≡ R) × IsLawfulContent R × (page ≡ take 8 (rest R)))
      (λ marks R S. (S ≡ R) × IsPageOf page (drop 8 (rest R)) (rest R))
      (λ ms R S p. (
        p.0,
        (
          ap (λ l. l ++ drop 8 (rest R)) p.2 ∙ take-append-drop 8 (rest R),
          λ none. ap (drop 8) (take-empty 7 (rest R) (sym p.2 ∙ none)),
        ),
      )) offers

  -- and so are the first of them
  pub offers-first : (count : ℕ) → 1 ≤ count → count ≤ length page
      → Transitions t u [] (λ marks R S. (S ≡ R) × IsLawfulContent R
      × (take count page ≡ take (suc (count - 1)) (rest R)))
  offers-first count some few = moves-as t u []
      (λ marks R S. (S ≡ R) × IsLawfulContent R × (page ≡ take 8 (rest R)))
      (λ marks R S. (S ≡ R) × IsLawfulContent R
      × (take count page ≡ take (suc (count - 1)) (rest R)))
      (λ ms R S p. (p.0, p.1, taken (rest R) p.2)) offers
    where
      taken : (xs : List X) → page ≡ take 8 xs → take count page ≡ take (suc (count - 1)) xs
      taken xs is =
          let whole : suc (count - 1) ≡ count = omega (arith, some) in
          let within : count ≤ 8 = omega (arith, few, ap length is, length-take 8 xs) in
          ap (take count) is ∙ (take-taken count 8 xs within ∙ ap (λ n. take n xs) (sym whole))

-- ---- live values

past_back : (x y : Held) → int_lt x.time y.time ≡ true → int_lt y.time x.time ≡ false
past_back x y e = grind (arith, nat_tests, ints, e)

-- the range behind one of its values is what stands behind it
range_on : (R : Content) (node : NodeId) (from to from' to' : ℤ) (k : ℕ) (h : Held)
    → ((t : ℤ) → is_between from' to' t ≡ (is_between from to t && int_lt h.time t))
    → slice_get (range_of R node from to Forward) k ≡ Some h
    → range_of R node from' to' Forward ≡ drop (suc k) (range_of R node from to Forward)
range_on R node from to from' to' k h behind at =
    filter_same (λ x. is_between from' to' x.time)
    (λ x. is_between from to x.time && int_lt h.time x.time) (lives R node)
    (λ x there. behind x.time)
    ∙ (sym (filter_both (λ x. int_lt h.time x.time) (λ x. is_between from to x.time)
    (lives R node))
    ∙ past_is_drop (λ a b. int_lt a.time b.time) past_back (range_of R node from to Forward) k h
    (range_goes R node from to Forward) at)

abbrev IsPast : Option Held → (from to new_from new_to : ℤ) → Type 0
IsPast o from to new_from new_to =
    elim o [
      | None ↦ (new_from ≡ from) × (new_to ≡ to)
      | Some h ↦ (t : ℤ) → is_between new_from new_to t
          ≡ (is_between from to t && int_lt h.time t)
    ]

module _ (t u : Store) (node : NodeId) (old new : Pages) (page : List Held) (k : ℕ)
    (asks : Transitions t u [] (λ marks R S. (S ≡ R) × IsLawfulContent R
    × (page ≡ take (suc k) (values_left node old R)))) where
  -- what is still to come behind the page
  values-rest : new.within ≡ old.within
      → IsBehind page old.span.from old.span.to new.span.from new.span.to → (R : Content)
      → page ≡ take (suc k) (values_left node old R)
      → IsPageOf page (values_left node new R) (values_left node old R)
  values-rest within behind R is = go (last page) refl behind
    where
      same : (w : List ℕ) → w ≡ old.within → (from to : ℤ) → from ≡ old.span.from
          → to ≡ old.span.to → range_of (cut R (number_of w)) node from to Forward
          ≡ values_left node old R
      same w e from to low high =
          ap (λ (v : List ℕ). range_of (cut R (number_of v)) node from to Forward) e
          ∙ (ap (λ x. range_of (cut R (number_of old.within)) node x to Forward) low
          ∙ ap (λ x. range_of (cut R (number_of old.within)) node old.span.from x Forward) high)

      go : (o : Option Held) → last page ≡ o
          → IsPast o old.span.from old.span.to new.span.from new.span.to
          → IsPageOf page (values_left node new R) (values_left node old R)
      go None none kept =
          subst (λ (l : List Held). IsPageOf page l (values_left node old R))
          (sym (same new.within within new.span.from new.span.to kept.0 kept.1))
          (page-none k page (values_left node old R) is (no-last page none))
      go (Some h) at past = page-last k page (values_left node new R) (values_left node old R) h is
          at
          (ap (λ (v : List ℕ). range_of (cut R (number_of v)) node new.span.from new.span.to
          Forward) within
          ∙ (range_on (cut R (number_of old.within)) node old.span.from old.span.to new.span.from
          new.span.to (length page - 1) h past
          (of_take (suc k) (length page - 1) (values_left node old R) h
          (ap (λ (l : List Held). slice_get l (length page - 1)) (sym is) ∙ at))
          ∙ ap (λ n. drop n (values_left node old R)) (sym (add-one (length page - 1)))))

  pub values-page : new.within ≡ old.within
      → IsBehind page old.span.from old.span.to new.span.from new.span.to
      → GivesPage t u page (values_left node new) (values_left node old)
  values-page within behind =
      moves-as t u [] (λ marks R S. (S ≡ R) × IsLawfulContent R
      × (page ≡ take (suc k) (values_left node old R)))
      (λ marks R S. (S ≡ R) × IsPageOf page (values_left node new R) (values_left node old R))
      (λ ms R S p. (p.0, values-rest within behind R p.2)) asks

-- ---- modifications

module _ (t u : Store) (node : NodeId) (old new : Pages) (page : List Entry) (k : ℕ)
    (asks : Transitions t u [] (λ marks R S. (S ≡ R) × IsLawfulContent R
    × (page ≡ take (suc k) (changes_left node old R)))) where
  abbrev left_behind : Content → Option LogPlace → List Entry
  left_behind R place =
      log_of (cut R (number_of old.within)) node old.span.from old.span.to place Forward

  changes-rest : (R : Content) → IsLawfulContent R → page ≡ take (suc k) (changes_left node old R)
      → IsPageOf page (left_behind R (place_behind old.after page)) (changes_left node old R)
  changes-rest R lawful is = go (last page) refl
    where
      go : (o : Option Entry) → last page ≡ o → IsPageOf page
          (left_behind R (elim o [ None ↦ old.after | Some e ↦ Some (place_of e) ]))
          (changes_left node old R)
      go None none = page-none k page (changes_left node old R) is (no-last page none)
      go (Some e) at = page-last k page (left_behind R (Some (place_of e)))
          (changes_left node old R) e is at
          (log_resumes (cut R (number_of old.within)) node old.span.from old.span.to old.after
          Forward (length page - 1) e (closed_cut R (number_of old.within) lawful.closed)
          (of_take (suc k) (length page - 1) (changes_left node old R) e
          (ap (λ (l : List Entry). slice_get l (length page - 1)) (sym is) ∙ at)))

  pub changes-page : new ≡ record old { after = place_behind old.after page }
      → GivesPage t u page (changes_left node new) (changes_left node old)
  changes-page same =
      subst (λ p. GivesPage t u page (changes_left node p) (changes_left node old)) (sym same)
      (moves-as t u [] (λ marks R S. (S ≡ R) × IsLawfulContent R
      × (page ≡ take (suc k) (changes_left node old R)))
      (λ marks R S. (S ≡ R) × IsPageOf page (left_behind R (place_behind old.after page))
      (changes_left node old R))
      (λ ms R S p. (p.0, changes-rest R p.1 p.2)) asks)

-- ---- all pages are what is asked for

record_time : (R : Content) (r : Record) → IsLawfulContent R → Has R r → IsTime r.time
record_time R r lawful h =
    let of_record = (lawful.records r h).time in (
      omega (arith, ints, of_record.0, whole_again r.time, pico_within r.time),
      omega (arith, ints, of_record.1, whole_again r.time, pico_within r.time),
    )

lives_lawful : (R : Content) (node : NodeId) (h : Held) → IsLawfulContent R
    → Has (lives R node) h → IsTime h.time
lives_lawful R node h lawful k =
    let t = has_from_filter_map (live_value R node) (times R node) h k in
    let r = current_from R node t.0 h t.2 in
    subst IsTime r.2 (record_time R r.0 lawful ((story_has R node t.0 r.0).0 r.1).0)

log_lawful : (R : Content) (node : NodeId) (e : Entry) → IsLawfulContent R → Has (log R node) e
    → IsTime e.time
log_lawful R node e lawful h =
    let t = has_from_flat_map (λ t. reverse (modifications_at R node t)) (times R node) e h in
    let r = entry_from None (versions R node t.0) e
    (has_from_reverse (modifications_at R node t.0) e t.2) in
    subst IsTime r.2 (record_time R r.0 lawful ((story_has R node t.0 r.0).0 r.1).0)

-- the span has the moments that are asked for
abbrev pub IsSpanOf : Report → ℤ → ℤ → Type 0
IsSpanOf report from to = (t : ℤ) → IsTime t → is_between from to t ≡ is_in_stretch report t

cut_own : (R : Content) (v : List ℕ) → IsLawfulContent R → ((o : ℕ) → number_of v o ≡ vec R o)
    → cut R (number_of v) ≡ R
cut_own R v lawful same = ap (cut R) (λ i o. same o i) ∙ cut_whole R lawful.closed

module _ (R : Content) (report : Report) (pages : Pages) (lawful : IsLawfulContent R)
    (numbers : (o : ℕ) → number_of pages.within o ≡ vec R o)
    (span : IsSpanOf report pages.span.from pages.span.to) where
  pub values-all : values_left report.node pages R ≡ values_asked R report
  values-all =
      ap (λ C. range_of C report.node pages.span.from pages.span.to Forward)
      (cut_own R pages.within lawful numbers)
      ∙ filter_same (λ h. is_between pages.span.from pages.span.to h.time)
      (λ h. is_in_stretch report h.time) (lives R report.node)
      (λ h there. span h.time (lives_lawful R report.node h lawful there))

  pub changes-all : pages.after ≡ None → changes_left report.node pages R ≡ changes_asked R report
  changes-all first =
      ap (λ a. log_of (cut R (number_of pages.within)) report.node pages.span.from pages.span.to a
      Forward) first
      ∙ (ap (λ C. log_of C report.node pages.span.from pages.span.to None Forward)
      (cut_own R pages.within lawful numbers)
      ∙ (filter_all (filter (λ e. is_between pages.span.from pages.span.to e.time)
      (log R report.node))
      ∙ filter_same (λ e. is_between pages.span.from pages.span.to e.time)
      (λ e. is_in_stretch report e.time) (log R report.node)
      (λ e there. span e.time (log_lawful R report.node e lawful there))))
