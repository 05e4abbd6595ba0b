-- Records that are read ahead.
use Rattle.std.proofs.Common.{◌≡◌, ℕ, zero, suc, ◌+◌, ◌<◌, ◌≤◌, nat_lt, ℤ, Bool, true, false, not, List, [], ◌∷◌, ◌++◌, filter, take, drop, length, Some, None, IfSome, refl, sym, ap, ap₂, subst, ◌∙◌, inl, inr, arith, Less, append_assoc}
use Rattle.std.specs.List.{AllByRecursion}
use Rattle.std.specs.Cmp.{IsTotalOrder}
use Rattle.std.specs.Ordering.{int_cmp, ordering_then}
use Rattle.std.proofs.lemmas.Bool.{true≢false, and_parts, and_from}
use Rattle.std.proofs.lemmas.Bool.Decides.{nat_tests}
use Rattle.std.proofs.lemmas.Cmp.{tied_itself, int_cmp_total}
use Rattle.std.proofs.lemmas.List.{take-append-drop, reverse-reverse}
use Rattle.ua_binary.specs.declared.values.NodeId.{NodeId}
use Rattle.sqlite_trees.specs.Tree.{Trees}
use Rattle.records.specs.Lists.{Has, Rises, IsApart}
use Rattle.records.specs.Same.{same_node}
use Rattle.records.proofs.SameParts.{node_code}
use Rattle.records.specs.Records.{record_stamp_cmp, versions}
use Rattle.records.specs.Contents.{Content}
use Rattle.records.specs.declared.record.Record.{Record}
use Rattle.records.proofs.CloseLemmas.{closed_stamps}
use Rattle.records.proofs.ContentLemmas.{has-append, has_from_append, pairwise-append}
use Rattle.records.proofs.LatestLemmas.{story_rises, story_has}
use Rattle.records.proofs.Same.{Decides-is_same}
use Rattle.records.proofs.Sorting.{same_members, all-has, all_from_has, has-filter, has_from_filter, has-sort_by, has_from_sort_by, rises-sort_by}
use Rattle.archive.specs.Reading.{times, in_direction, is_past}
use Rattle.archive.specs.declared.reading.Direction.{Direction}
use Rattle.archive.specs.declared.reading.Direction.TheVariants.{Forward, Backward}
use Rattle.archive.proofs.Turning.{has-in_direction, pairwise-reverse}
use Rattle.sql_tables.specs.Rows.{content_in, IsFilled}
use Rattle.sql_reading.specs.Walking.{IsNextTime, first_time, time_order, walk_cmp, records_beyond, AreHeld, IsAhead, StandsFirst, is_used_up, AreTaken, IsTaken}
use Rattle.sql_tables.proofs.RowLemmas.{content_is}
use Rattle.sql_reading.proofs.PageLemmas.{time_order_total, next_by, forward_goes, backward_goes, apart_beyond, time_there, beyond_place}
use Rattle.sql_reading.proofs.WalkLemmas.{turned_total, not_past_itself, past_then, past_less, past_or_same}

pub stamps_apart : (db : Trees) → IsFilled db → IsApart record_stamp_cmp (content_in db)
stamps_apart db (R, l, stand) = subst (IsApart record_stamp_cmp) (sym (content_is R db l stand))
    (closed_stamps R l.closed)

-- ---- the order in a direction

walk_total : (d : Direction) → IsTotalOrder (walk_cmp d)
walk_total Forward = time_order_total
walk_total Backward = turned_total time_order time_order_total

walk_goes : (d : Direction) (a b : Record) → walk_cmp d a b ≡ Less → is_past d b.time a.time ≡ false
walk_goes Forward a b h = forward_goes a b h
walk_goes Backward a b h = backward_goes a b h

past_walks : (d : Direction) (a b : Record) → is_past d a.time b.time ≡ true → walk_cmp d a b ≡ Less
past_walks Forward a b h = ap (λ o. ordering_then o (record_stamp_cmp a b))
    (past_less Forward a.time b.time h)
past_walks Backward a b h = ap (λ o. ordering_then o (record_stamp_cmp b a))
    (past_less Backward a.time b.time h)

timed_step : (t : ℤ) (a b : Record) → a.time ≡ t → b.time ≡ t → record_stamp_cmp a b ≡ Less
    → time_order a b ≡ Less
timed_step t a b p q h = ap (λ o. ordering_then o (record_stamp_cmp a b))
    (ap₂ int_cmp p q ∙ tied_itself int_cmp_total t) ∙ h

-- records of one time that rise by stamp
timed_rise : (t : ℤ) (rs : List Record) → ((r : Record) → Has rs r → r.time ≡ t)
    → Rises record_stamp_cmp rs → Rises time_order rs
timed_rise t [] same up = tt
timed_rise t (r ∷ rs) same up = (
  all_from_has (λ z. time_order r z
      ≡ Less) rs (λ z h. timed_step t r z (same r (inl refl)) (same z (inr h))
      (all-has (λ y. record_stamp_cmp r y ≡ Less) rs z up.0 h)),
  timed_rise t rs (λ z h. same z (inr h)) up.1,
)

turned_rise : (d : Direction) (rs : List Record) → Rises time_order rs
    → Rises (walk_cmp d) (in_direction d rs)
turned_rise Forward rs up = up
turned_rise Backward rs up = pairwise-reverse (λ a b. time_order a b ≡ Less) rs up

-- ---- what stands beyond a place

in_beyond : (R : Content) (node : NodeId) (d : Direction) (place : ℤ) (r : Record) → Has R r
    → same_node r.node node ≡ true → is_past d place r.time ≡ true
    → Has (records_beyond R node d place) r
in_beyond R node d place r h e p =
    has-sort_by (walk_cmp d) (walk_total d) (filter (beyond_place d node place) R) r
    (has-filter (beyond_place d node place) R r h (and_from (same_node r.node node)
    (is_past d place r.time) e p))

from_beyond : (R : Content) (node : NodeId) (d : Direction) (place : ℤ) (r : Record)
    → Has (records_beyond R node d place) r
    → Has R r × (same_node r.node node ≡ true) × (is_past d place r.time ≡ true)
from_beyond R node d place r h =
    let p = has_from_filter (beyond_place d node place) R r
    (has_from_sort_by (walk_cmp d) (walk_total d) (filter (beyond_place d node place) R) r h) in
    let q = and_parts (same_node r.node node) (is_past d place r.time) p.1 in (p.0, q.0, q.1)

rises_beyond : (R : Content) (node : NodeId) (d : Direction) (place : ℤ)
    → IsApart record_stamp_cmp R → Rises (walk_cmp d) (records_beyond R node d place)
rises_beyond R node d place apart =
    rises-sort_by (walk_cmp d) (walk_total d) (filter (beyond_place d node place) R)
    (apart_beyond d R node place apart)

first_beyond : (R : Content) (node : NodeId) (d : Direction) (place : ℤ)
    → IsApart record_stamp_cmp R → IsNextTime d place (times R node)
    (first_time (records_beyond R node d place))
first_beyond R node d place apart =
    next_by d R node place (walk_cmp d) (walk_total d) (walk_goes d)
    (apart_beyond d R node place apart)

-- no record beyond a time is of it
not_of_it : (R : Content) (node : NodeId) (d : Direction) (t : ℤ) → IsApart record_stamp_cmp R
    → first_time (records_beyond R node d t) ≡ Some t → ⊥
not_of_it R node d t apart e =
    let next = subst (IsNextTime d t (times R node)) e (first_beyond R node d t apart) in
    absurd (true≢false (sym next.1 ∙ not_past_itself d t))

of_time : (R : Content) (node : NodeId) (d : Direction) (t : ℤ) (r : Record)
    → Has (in_direction d (versions R node t)) r → Has R r × (r.node ≡ node) × (r.time ≡ t)
of_time R node d t r h = (story_has R node t r).0 ((has-in_direction d (versions R node t) r).0 h)

-- the story of the next time stands first, and behind it what is beyond that time
beyond_splits : (R : Content) (node : NodeId) (d : Direction) (place t : ℤ)
    → IsApart record_stamp_cmp R → IsNextTime d place (times R node) (Some t)
    → records_beyond R node d place
    ≡ in_direction d (versions R node t) ++ records_beyond R node d t
beyond_splits R node d place t apart next =
    same_members (walk_cmp d) (walk_total d) (records_beyond R node d place) (here ++ there)
    (rises_beyond R node d place apart)
    (pairwise-append (λ a b. walk_cmp d a b ≡ Less) here there
    (turned_rise d (versions R node t) (timed_rise t (versions R node t)
    (λ r h. ((story_has R node t r).0 h).2) (story_rises R node t apart)))
    (rises_beyond R node d t apart) across)
    forth back
  where
    here : List Record
    here = in_direction d (versions R node t)

    there : List Record
    there = records_beyond R node d t

    across : (a b : Record) → Has (in_direction d (versions R node t)) a
        → Has (records_beyond R node d t) b → walk_cmp d a b ≡ Less
    across a b h k = past_walks d a b (subst (λ s. is_past d s b.time ≡ true)
        (sym (of_time R node d t a h).2) (from_beyond R node d t b k).2)

    forth : (r : Record) → Has (records_beyond R node d place) r
        → Has (in_direction d (versions R node t) ++ records_beyond R node d t) r
    forth r h =
        let p = from_beyond R node d place r h in
        has-append (in_direction d (versions R node t)) (records_beyond R node d t) r
        (elim (past_or_same d r.time t (next.2 r.time (time_there R node r p.0 p.1) p.2)) [
          | inl e ↦ inl ((has-in_direction d (versions R node t) r).1
              ((story_has R node t r).1 (p.0, (Decides-is_same node_code r.node node).0 p.1, e)))
          | inr q ↦ inr (in_beyond R node d t r p.0 p.1 q)
        ])

    back : (r : Record) → Has (in_direction d (versions R node t) ++ records_beyond R node d t) r
        → Has (records_beyond R node d place) r
    back r h = elim (has_from_append (in_direction d (versions R node t))
        (records_beyond R node d t) r h) [
          | inl k ↦ let p = of_time R node d t r k in
              in_beyond R node d place r p.0 ((Decides-is_same node_code r.node node).1 p.1)
              (subst (λ s. is_past d place s ≡ true) (sym p.2) next.1)
          | inr k ↦ let p = from_beyond R node d t r k in
              in_beyond R node d place r p.0 p.1 (past_then d place t r.time next.1 p.2)
        ]

-- ---- what is held of it

none_behind : {X : Type 0} (n : ℕ) (xs : List X) → length (take n xs) < n → drop n xs ≡ []
none_behind zero xs h = absurd (omega (arith, h))
none_behind (suc n) [] h = refl
none_behind (suc n) (x ∷ xs) h = none_behind n xs (omega (arith, h))

-- the first so many of some records are held; they are all where they are fewer
pub read_ahead_is : (all held : List Record) (count : ℕ) (ends : Bool) → held ≡ take count all
    → 0 < count → ends ≡ nat_lt (length held) count
    → AreHeld all held ends × (is_used_up held ends ≡ false)
read_ahead_is all held count ends is some told = (
  record {
    behind = drop count all;
    next = sym (take-append-drop count all) ∙ ap (λ l. l ++ drop count all) (sym is);
    whole = λ e. none_behind count all (let fewer : length held < count =
        grind (arith, nat_tests) in subst (λ l. length l < count) is fewer);
  },
  used held ends told,
)
  where
    used : (rs : List Record) (b : Bool) → b ≡ nat_lt (length rs) count → is_used_up rs b ≡ false
    used [] b e = let more : nat_lt 0 count ≡ true = grind (arith, nat_tests) in ap not (e ∙ more)
    used (r ∷ rs) b e = refl

-- where nothing is held and others may stand behind it
pub nothing_held : (all held : List Record) (ends : Bool) → is_used_up held ends ≡ true
    → AreHeld all held ends
nothing_held all [] true e = absurd (true≢false (sym e))
nothing_held all [] false e = record {
  behind = all;
  next = refl;
  whole =
      λ p. absurd (true≢false (sym p));
}
nothing_held all (r ∷ rs) ends e = absurd (true≢false (sym e))

-- the first record that is held tells the next time
pub next_told : (R : Content) (node : NodeId) (d : Direction) (place : ℤ) (held : List Record)
    (ends : Bool) → IsApart record_stamp_cmp R → IsAhead R node d place held ends
    → is_used_up held ends ≡ false
    → IsNextTime d place (times R node) (first_time held)
    × IfSome (first_time held) (λ t. StandsFirst R node d t held ends)
next_told R node d place [] true apart a e = (
  subst (λ l. IsNextTime d place (times R node) (first_time l)) (a.next ∙ a.whole refl)
      (first_beyond R node d place apart),
  tt,
)
next_told R node d place [] false apart a e = absurd (true≢false e)
next_told R node d place (r ∷ rs) ends apart a e =
    let next : IsNextTime d place (times R node) (Some r.time) =
    subst (λ l. IsNextTime d place (times R node) (first_time l)) a.next
    (first_beyond R node d place apart) in (
      next,
      record {
        behind = a.behind;
        next =
            sym (beyond_splits R node d place r.time apart next) ∙ a.next;
        whole = a.whole;
      },
    )

-- ---- the records of a time are taken

same_front : (t : ℤ) (xs ys us vs : List Record) → xs ++ us ≡ ys ++ vs
    → AllByRecursion (λ r. r.time ≡ t) xs → AllByRecursion (λ r. r.time ≡ t) ys
    → (first_time us ≡ Some t → ⊥) → (first_time vs ≡ Some t → ⊥) → (xs ≡ ys) × (us ≡ vs)
same_front t [] [] us vs e p q fresh none = (refl, e)
same_front t [] (y ∷ ys) us vs e p q fresh none =
    absurd (fresh (ap first_time e ∙ ap (λ z. Some z) q.0))
same_front t (x ∷ xs) [] us vs e p q fresh none =
    absurd (none (ap first_time (sym e) ∙ ap (λ z. Some z) p.0))
same_front t (x ∷ xs) (y ∷ ys) us vs e p q fresh none =
    let heads : x ≡ y = cc in
    let tails : xs ++ us ≡ ys ++ vs = cc in
    let more = same_front t xs ys us vs tails p.1 q.1 fresh none in
    (ap₂ ◌∷◌ heads more.0, more.1)

-- where others are held behind those that were taken, or none stand there, they are the story
pub story_taken : (R : Content) (node : NodeId) (d : Direction) (t : ℤ)
    (held taken left : List Record) (ends : Bool) → IsApart record_stamp_cmp R
    → StandsFirst R node d t held ends → AreTaken t held taken left → is_used_up left ends ≡ false
    → (taken ≡ in_direction d (versions R node t)) × IsAhead R node d t left ends
story_taken R node d t held taken left ends apart first took e =
    let here = in_direction d (versions R node t) in
    let there = records_beyond R node d t in
    let both : taken ++ (left ++ first.behind) ≡ here ++ there =
    sym (append_assoc taken left first.behind)
    ∙ (ap (λ l. l ++ first.behind) (sym took.parts) ∙ sym first.next) in
    let same = same_front t taken here (left ++ first.behind) there both took.each
    (all_from_has (λ r. r.time ≡ t) here (λ r h. (of_time R node d t r h).2))
    (no_more left ends e took.no_more first.whole) (not_of_it R node d t apart) in
    (same.0, record { behind = first.behind; next = sym same.1; whole = first.whole })
  where
    no_more : (rs : List Record) (b : Bool) → is_used_up rs b ≡ false → (first_time rs ≡ Some t → ⊥)
        → (b ≡ true → first.behind ≡ []) → first_time (rs ++ first.behind) ≡ Some t → ⊥
    no_more [] true u fresh whole k = absurd (none_first (sym (ap first_time (whole refl)) ∙ k))
      where
        none_first : None ≡ Some t → ⊥
        none_first z = absurd (let w = z in cc)
    no_more [] false u fresh whole k = absurd (true≢false u)
    no_more (r ∷ rs) b u fresh whole k = fresh k

pub turned_back : (d : Direction) (rs : List Record) → in_direction d (in_direction d rs) ≡ rs
turned_back Forward rs = refl
turned_back Backward rs = reverse-reverse rs

-- ---- one after the other

all_more : {X : Type 0} (P : X → Type 0) (xs : List X) (x : X) → AllByRecursion P xs → P x
    → AllByRecursion P (xs ++ x ∷ [])
all_more P [] x all p = (p, tt)
all_more P (y ∷ ys) x all p = (all.0, all_more P ys x all.1 p)

-- records of a time were taken off, and so many stand there still
pub record Taking (t : ℤ) (old taken left : List Record) (done : ℕ) : Type 0 where
  pub parts : old ≡ taken ++ left
  pub each : AllByRecursion (λ r. r.time ≡ t) taken
  pub still : length left + done ≡ length old

pub taking_starts : (t : ℤ) (old taken : List Record) → taken ≡ [] → Taking t old taken old 0
taking_starts t old taken none = record {
  parts = ap (λ l. l ++ old) (sym none);
  each = subst (AllByRecursion (λ r. r.time ≡ t)) (sym none) tt;
  still = omega arith;
}

pub taking_goes : (t : ℤ) (old taken left more new : List Record) (done : ℕ) (r : Record)
    → Taking t old taken left done → IsTaken t left (Some r) new → more ≡ taken ++ r ∷ []
    → Taking t old more new (done + 1)
taking_goes t old taken left more new done r w took is = record {
  parts = w.parts ∙ (ap (λ l. taken ++ l) took.0
      ∙ (sym (append_assoc taken (r ∷ []) new) ∙ ap (λ l. l ++ new) (sym is)));
  each = subst (AllByRecursion (λ z. z.time ≡ t)) (sym is)
      (all_more (λ z. z.time ≡ t) taken r w.each took.1);
  still = let fewer : length left ≡ suc (length new) = ap length took.0 in
      omega (arith, fewer, w.still);
}

pub taking_stops : (t : ℤ) (old taken left new : List Record) (done : ℕ)
    → Taking t old taken left done → IsTaken t left None new → AreTaken t old taken new
taking_stops t old taken left new done w none = record {
  parts = w.parts ∙ ap (λ l. taken ++ l) (sym none.0);
  each = w.each;
  no_more = subst (λ l. first_time l ≡ Some t → ⊥) (sym none.0) none.1;
}

pub taking_ends : (t : ℤ) (old taken left : List Record) (done : ℕ) → Taking t old taken left done
    → length old ≤ done → AreTaken t old taken left
taking_ends t old taken left done w end = record {
  parts = w.parts;
  each = w.each;
  no_more =
      none left (omega (arith, w.still, end));
}
  where
    none : (rs : List Record) → length rs ≤ 0 → first_time rs ≡ Some t → ⊥
    none [] few k = absurd (let z = k in cc)
    none (r ∷ rs) few k = absurd (omega (arith, few))
