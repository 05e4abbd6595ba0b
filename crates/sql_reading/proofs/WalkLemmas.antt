-- Going over times.
use Rattle.std.proofs.Common.{◌≡◌, ℕ, ℤ, Bool, true, false, not, List, [], ◌∷◌, ◌++◌, filter, take, length, Some, None, refl, sym, ap, subst, ◌∙◌, inl, inr, ◌⊎◌, arith, Ordering, Less, Equal, Greater}
use Rattle.std.specs.List.{flat_map}
use Rattle.std.specs.Cmp.{IsTotalOrder}
use Rattle.std.specs.Ordering.{int_cmp, ordering_reverse}
use Rattle.std.proofs.lemmas.Cmp.{int_cmp_total}
use Rattle.std.proofs.lemmas.Bool.{true≢false}
use Rattle.std.proofs.lemmas.Bool.Decides.{nat_tests}
use Rattle.std.proofs.lemmas.Int.{ints}
use Rattle.std.proofs.lemmas.List.{append_assoc, append-nil, take-append-le}
use Rattle.ua_binary.specs.declared.values.NodeId.{NodeId}
use Rattle.records.specs.Lists.{Has, Rises, IsApart}
use Rattle.records.specs.Contents.{Content, cut}
use Rattle.records.specs.Records.{record_stamp_cmp, is_beyond, versions}
use Rattle.records.specs.declared.record.Record.{Record}
use Rattle.records.proofs.Orders.{stamp_total}
use Rattle.records.proofs.LatestLemmas.{story_rises, story_has}
use Rattle.records.proofs.Sorting.{same_members, all_from_has, has-filter, has_from_filter, pairwise-filter}
use Rattle.archive.specs.Reading.{times, in_direction, is_past}
use Rattle.archive.specs.declared.reading.Direction.{Direction}
use Rattle.archive.specs.declared.reading.Direction.TheVariants.{Forward, Backward}
use Rattle.archive.proofs.Turning.{has-in_direction, pairwise-reverse}
use Rattle.archive.proofs.Timing.{times_rise}
use Rattle.archive.proofs.Cutting.{apart_cut}
use Rattle.std.proofs.Common.{◌≤◌}
use Rattle.sqlite_trees.specs.Tree.{Trees}
use Rattle.records.proofs.CloseLemmas.{closed_stamps}
use Rattle.sql_tables.specs.Rows.{content_in, IsFilled}
use Rattle.sql_tables.proofs.RowLemmas.{content_is}
use Rattle.sql_reading.specs.Walking.{IsNextTime, stretch, IsStoryAt}

-- ---- integers in a direction

pub not_past_itself : (d : Direction) (t : ℤ) → is_past d t t ≡ false
not_past_itself Forward t = grind (arith, nat_tests, ints)
not_past_itself Backward t = grind (arith, nat_tests, ints)

pub past_then : (d : Direction) (s t u : ℤ) → is_past d s t ≡ true → is_past d t u ≡ true
    → is_past d s u ≡ true
past_then Forward s t u p q = grind (arith, nat_tests, ints)
past_then Backward s t u p q = grind (arith, nat_tests, ints)

past_through : (d : Direction) (s t u : ℤ) → is_past d s t ≡ true → is_past d u t ≡ false
    → is_past d s u ≡ true
past_through Forward s t u p q = grind (arith, nat_tests, ints)
past_through Backward s t u p q = grind (arith, nat_tests, ints)

-- ---- times in a direction

pub turned_total : {X : Type 0} (cmp : X → X → Ordering) → IsTotalOrder cmp
    → IsTotalOrder (λ a b. cmp b a)
turned_total cmp total = record {
  antisymm = λ x y. total.antisymm y x;
  trans = λ x y z p q. total.trans z y x q p;
  congr = λ x y z e. total.antisymm z x
      ∙ (ap ordering_reverse (total.congr x y z (total.antisymm x y ∙ ap ordering_reverse e))
      ∙ sym (total.antisymm z y));
}

abbrev pub along : Direction → ℤ → ℤ → Ordering
along Forward s t = int_cmp s t
along Backward s t = int_cmp t s

pub along_total : (d : Direction) → IsTotalOrder (along d)
along_total Forward = int_cmp_total
along_total Backward = turned_total int_cmp int_cmp_total

pub less_past : (d : Direction) (s t : ℤ) → along d s t ≡ Less → is_past d s t ≡ true
less_past Forward s t e = grind (arith, nat_tests, ints)
less_past Backward s t e = grind (arith, nat_tests, ints)

pub past_less : (d : Direction) (s t : ℤ) → is_past d s t ≡ true → along d s t ≡ Less
past_less Forward s t e = grind (arith, nat_tests, ints)
past_less Backward s t e = grind (arith, nat_tests, ints)

pub past_or_same : (d : Direction) (s t : ℤ) → is_past d s t ≡ false
    → (s ≡ t) ⊎ (is_past d t s ≡ true)
past_or_same Forward s t p = go (int_cmp s t) refl
  where
    go : (o : Ordering) → int_cmp s t ≡ o → (s ≡ t) ⊎ (is_past Forward t s ≡ true)
    go Less e = absurd (true≢false (sym (less_past Forward s t e) ∙ p))
    go Equal e = inl (grind (arith, nat_tests, ints))
    go Greater e = inr (grind (arith, nat_tests, ints))
past_or_same Backward s t p = go (int_cmp s t) refl
  where
    go : (o : Ordering) → int_cmp s t ≡ o → (s ≡ t) ⊎ (is_past Backward t s ≡ true)
    go Less e = inr (grind (arith, nat_tests, ints))
    go Equal e = inl (grind (arith, nat_tests, ints))
    go Greater e = absurd (true≢false
        (sym (less_past Backward s t (int_cmp_total.antisymm t s ∙ ap ordering_reverse e)) ∙ p))

pub turned_rise : (d : Direction) (ts : List ℤ) → Rises int_cmp ts
    → Rises (along d) (in_direction d ts)
turned_rise Forward ts up = up
turned_rise Backward ts up = pairwise-reverse (λ s t. int_cmp s t ≡ Less) ts up

in_ahead : (d : Direction) (place : ℤ) (ts : List ℤ) (t : ℤ) → Has ts t → is_past d place t ≡ true
    → Has (filter (is_past d place) (in_direction d ts)) t
in_ahead d place ts t h e = has-filter (is_past d place) (in_direction d ts) t
    ((has-in_direction d ts t).1 h) e

from_ahead : (d : Direction) (place : ℤ) (ts : List ℤ) (t : ℤ)
    → Has (filter (is_past d place) (in_direction d ts)) t → Has ts t × (is_past d place t ≡ true)
from_ahead d place ts t h = let p = has_from_filter (is_past d place) (in_direction d ts) t h in
    ((has-in_direction d ts t).0 p.0, p.1)

-- the first time beyond a place, and those beyond it
first_ahead : (d : Direction) (place t : ℤ) (ts : List ℤ) → Rises int_cmp ts
    → IsNextTime d place ts (Some t)
    → filter (is_past d place) (in_direction d ts) ≡ t ∷ filter (is_past d t) (in_direction d ts)
first_ahead d place t ts up next =
    same_members (along d) (along_total d) (filter (is_past d place) (in_direction d ts))
    (t ∷ filter (is_past d t) (in_direction d ts))
    (pairwise-filter (λ s u. along d s u ≡ Less) (is_past d place) (in_direction d ts)
    (turned_rise d ts up)) (
      all_from_has (λ u. along d t u ≡ Less) (filter (is_past d t) (in_direction d ts))
          (λ u h. past_less d t u (from_ahead d t ts u h).1),
      pairwise-filter (λ s u. along d s u ≡ Less) (is_past d t) (in_direction d ts)
          (turned_rise d ts up),
    )
    (λ u h. let p = from_ahead d place ts u h in
    elim (past_or_same d u t (next.2 u p.0 p.1))
    [ inl e ↦ inl (sym e) | inr q ↦ inr (in_ahead d t ts u p.0 q) ])
    (λ u h. elim h [
      | inl e ↦ subst (λ w. Has (filter (is_past d place) (in_direction d ts)) w) e
          (in_ahead d place ts t next.0 next.1)
      | inr k ↦ let p = from_ahead d t ts u k in
          in_ahead d place ts u p.0 (past_then d place t u next.1 p.1)
    ])

pub filter_none : {X : Type 0} (p : X → Bool) (xs : List X) → ((x : X) → Has xs x → p x ≡ false)
    → filter p xs ≡ []
filter_none p [] none = refl
filter_none p (x ∷ xs) none = rw (none x (inl refl)) (filter_none p xs (λ z h. none z (inr h)))

none_ahead : (d : Direction) (place : ℤ) (ts : List ℤ) → IsNextTime d place ts None
    → filter (is_past d place) (in_direction d ts) ≡ []
none_ahead d place ts none = filter_none (is_past d place) (in_direction d ts)
    (λ t h. none t ((has-in_direction d ts t).0 h))

-- no time is left
pub stretch_ends : (d : Direction) (place far : ℤ) (ts : List ℤ) → IsNextTime d place ts None
    → stretch d place far ts ≡ []
stretch_ends d place far ts none =
    ap (filter (λ t. not (is_past d far t))) (none_ahead d place ts none)

-- the next one is beyond the far one
pub stretch_stops : (d : Direction) (place far t : ℤ) (ts : List ℤ) → IsNextTime d place ts (Some t)
    → is_past d far t ≡ true → stretch d place far ts ≡ []
stretch_stops d place far t ts next beyond =
    filter_none (λ u. not (is_past d far u)) (filter (is_past d place) (in_direction d ts))
    (λ u h. let p = from_ahead d place ts u h in
    ap not (past_through d far t u beyond (next.2 u p.0 p.1)))

-- the next one is the first of them
pub stretch_goes : (d : Direction) (place far t : ℤ) (ts : List ℤ) → Rises int_cmp ts
    → IsNextTime d place ts (Some t) → is_past d far t ≡ false
    → stretch d place far ts ≡ t ∷ stretch d t far ts
stretch_goes d place far t ts up next within =
    ap (filter (λ u. not (is_past d far u))) (first_ahead d place t ts up next) ∙ rw within refl

-- ---- the records of a time that a vector covers

module _ (R : Content) (node : NodeId) (t : ℤ) (v : ℕ → ℕ)
    (apart : IsApart record_stamp_cmp R) where
  pub story_cut : filter (λ r. not (is_beyond v r)) (versions R node t) ≡ versions (cut R v) node t
  story_cut =
      same_members record_stamp_cmp stamp_total (filter covered (versions R node t))
      (versions (cut R v) node t)
      (pairwise-filter (λ a b. record_stamp_cmp a b ≡ Less) covered (versions R node t)
      (story_rises R node t apart))
      (story_rises (cut R v) node t (apart_cut R v apart))
      (λ r h. let p = has_from_filter covered (versions R node t) r h in let q =
      (story_has R node t r).0 p.0 in
      (story_has (cut R v) node t r).1 (has-filter covered R r q.0 p.1, q.1, q.2))
      (λ r h. let q = (story_has (cut R v) node t r).0 h in let p =
      has_from_filter covered R r q.0 in
      has-filter covered (versions R node t) r ((story_has R node t r).1 (p.0, q.1, q.2)) p.1)
    where
      covered : Record → Bool
      covered r = not (is_beyond v r)

-- a content's records that a vector covers, of one time
pub covered_found : (db : Trees) (node : NodeId) (t : ℤ) (v : ℕ → ℕ) (all items : List Record)
    → IsFilled db → all ≡ versions (content_in db) node t
    → items ≡ filter (λ r. not (is_beyond v r)) all
    → items ≡ versions (cut (content_in db) v) node t
covered_found db node t v all items (R, l, stand) is kept =
    kept ∙ (ap (filter (λ r. not (is_beyond v r))) is
    ∙ story_cut (content_in db) node t v (subst (IsApart record_stamp_cmp)
    (sym (content_is R db l stand)) (closed_stamps R l.closed)))

-- ---- the next story

pub no_story : (R : Content) (node : NodeId) (v : ℕ → ℕ) (d : Direction) (place far : ℤ)
    → IsNextTime d place (times R node) None → stretch d place far (times R node) ≡ []
no_story R node v d place far none = stretch_ends d place far (times R node) none

pub next_story_is : (R : Content) (node : NodeId) (v : ℕ → ℕ) (d : Direction) (place far t : ℤ)
    (records : List Record) → IsNextTime d place (times R node) (Some t) → is_past d far t ≡ false
    → records ≡ versions (cut R v) node t → IsStoryAt R node v d place far t records
next_story_is R node v d place far t records next within is =
    record {
      first = stretch_goes d place far t (times R node) (times_rise R node) next within;
      there = is;
    }

-- ---- what is found so far, and what is still to come

module _ {X : Type 0} (f : ℤ → List X) where
  pub still : (found more all : List X) (t : ℤ) (ts rest : List ℤ) → found ++ flat_map f ts ≡ all
      → ts ≡ t ∷ rest → more ≡ found ++ f t → more ++ flat_map f rest ≡ all
  still found more all t ts rest so is more_is =
      ap (λ l. l ++ flat_map f rest) more_is ∙ (append_assoc found (f t) (flat_map f rest)
      ∙ (ap (λ l. found ++ flat_map f l) (sym is) ∙ so))

  pub whole : (found all : List X) (ts : List ℤ) → found ++ flat_map f ts ≡ all → ts ≡ []
      → found ≡ all
  whole found all ts so none = sym (append-nil found)
      ∙ (ap (λ l. found ++ flat_map f l) (sym none) ∙ so)

  pub enough : (n : ℕ) (found all : List X) (ts : List ℤ) → found ++ flat_map f ts ≡ all
      → n ≤ length found → take n found ≡ take n all
  enough n found all ts so reached =
      sym (take-append-le n found (flat_map f ts) reached) ∙ ap (take n) so
