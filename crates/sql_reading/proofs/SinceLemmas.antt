-- The records that a vector lacks, by the rows of each origin.
use Rattle.std.proofs.Common.{◌≡◌, ℕ, zero, suc, ◌+◌, ◌≤◌, ◌<◌, ◌==◌, nat_lt, nat_le, ℤ, pos, Bool, true, false, ◌&&◌, cond, List, [], ◌∷◌, ◌++◌, filter, take, length, Option, Some, None, Result, Ok, Err, IfOk, IfErr, refl, sym, ap, ap₂, subst, ◌∙◌, inl, inr, ◌⊎◌, arith, Ordering, Less, Equal, Greater, is_eq, is_gt, append_assoc, append-nil}
use Rattle.std.specs.List.{flat_map}
use Rattle.std.specs.Cmp.{IsTotalOrder}
use Rattle.std.specs.Ordering.{int_cmp, nat_cmp, ordering_then}
use Rattle.std.proofs.lemmas.Bool.{cases_order, cases_lt}
use Rattle.std.proofs.lemmas.Bool.Decides.{nat_tests}
use Rattle.std.proofs.lemmas.Cmp.{on_total, then_total}
use Rattle.std.proofs.lemmas.Int.{ints}
use Rattle.std.proofs.lemmas.List.{take-append-le}
use Rattle.sqlite_value.specs.Order.{Row, column}
use Rattle.sqlite_value.specs.declared.value.Value.TheVariants.{Int}
use Rattle.sqlite_value.proofs.OrderLemmas.{value_cmp_total, value_cmp-Int}
use Rattle.sqlite_sql.specs.Query.{as_count, limited}
use Rattle.sqlite_sql.specs.Ops.{is_true}
use Rattle.sqlite_sql.specs.declared.ops.CompareOp.TheVariants.{Gt}
use Rattle.sqlite_trees.specs.Tree.{Trees}
use Rattle.sqlite.specs.State.{State, HasCleanDisk}
use Rattle.stamp.specs.Limits.{IsReplica}
use Rattle.records.specs.Lists.{Rises, IsApart, sort_by}
use Rattle.records.specs.Contents.{Content, vec}
use Rattle.records.specs.Records.{name_cmp, is_beyond, missing}
use Rattle.records.specs.declared.record.Record.{Record}
use Rattle.records.proofs.ContentLemmas.{vec_bounds}
use Rattle.records.proofs.Orders.{name_total}
use Rattle.records.proofs.CloseLemmas.{closed_names}
use Rattle.records.proofs.Sorting.{same_members, all-has, has-sort_by, has_from_sort_by, rises-sort_by, pairwise-filter}
use Rattle.archive.specs.Store.{IsLawfulContent}
use Rattle.archive.specs.declared.fault.StoreFault.{StoreFault}
use Rattle.archive.specs.declared.fault.StoreFault.TheVariants.{OutOfMemory}
use Rattle.sql_tables.specs.Words.{cells, is_behind, name_order, IsPage}
use Rattle.sql_tables.specs.Rows.{row_of, records_in, content_in, IsFilled}
use Rattle.sql_tables.specs.State.{Idles, LeavesUnchanged}
use Rattle.sql_reading.specs.Lacked.{records_after, lacked_of}
use Rattle.sql_tables.proofs.RowLemmas.{content_is}
use Rattle.sql_reading.proofs.StoryLemmas.{numbers_cmp, filter_as}
use Rattle.sql_reading.proofs.PageLemmas.{page_found, compared, truly}
use Rattle.sql_reading.proofs.WalkLemmas.{filter_none}
use Rattle.sql_reading.proofs.LoopLemmas.{memory_own, memory_unlike}
use Rattle.sql_tables.proofs.AskLemmas.{Passed, passed_none, passed_ok, passed_then, passed_told, early, same_trees}

-- ---- the rows of an origin

name_order_total : IsTotalOrder name_order
name_order_total = then_total (on_total (λ c. column c 0) value_cmp_total)
    (on_total (λ c. column c 1) value_cmp_total)

names_as : (a b : Record) → name_order (row_of a) (row_of b) ≡ name_cmp a b
names_as a b = ap₂ ordering_then (value_cmp-Int (pos a.origin) (pos b.origin)
    ∙ numbers_cmp a.origin b.origin) (value_cmp-Int (pos a.number) (pos b.number)
    ∙ numbers_cmp a.number b.number)

same_as : (m n : ℕ) → is_eq (int_cmp (pos m) (pos n)) ≡ (m == n)
same_as m n = grind (arith, nat_tests, ints)

above_as : (m n : ℕ) → is_gt (int_cmp (pos m) (pos n)) ≡ nat_lt n m
above_as m n = grind (arith, nat_tests, ints)

behind_as : (origin number : ℕ) (r : Record)
    → is_behind (pos origin) (pos number) (row_of r)
    ≡ ((r.origin == origin) && nat_lt number r.number)
behind_as origin number r = ap₂ ◌&&◌ (ap is_eq (value_cmp-Int (pos r.origin) (pos origin))
    ∙ same_as r.origin origin) (ap is_true (compared Gt (pos r.number) (pos number))
    ∙ (truly _ ∙ above_as r.number number))

rising_sorted : (rs : List Record) → IsApart name_cmp rs → Rises name_cmp rs
    → sort_by name_cmp rs ≡ rs
rising_sorted rs apart up = same_members name_cmp name_total (sort_by name_cmp rs) rs
    (rises-sort_by name_cmp name_total rs apart) up (has_from_sort_by name_cmp name_total rs)
    (has-sort_by name_cmp name_total rs)

take_twice : {X : Type 0} (n : ℕ) (xs : List X) → take n (take n xs) ≡ take n xs
take_twice zero xs = refl
take_twice (suc n) [] = refl
take_twice (suc n) (x ∷ xs) = ap (λ l. x ∷ l) (take_twice n xs)

take_front : {X : Type 0} (n : ℕ) (xs ys : List X) → take n (take n xs ++ ys) ≡ take n (xs ++ ys)
take_front zero xs ys = refl
take_front (suc n) [] ys = refl
take_front (suc n) (x ∷ xs) ys = ap (λ l. x ∷ l) (take_front n xs ys)

take_within : {X : Type 0} (n : ℕ) (xs : List X) → length (take n xs) ≤ n
take_within zero xs = omega arith
take_within (suc n) [] = omega arith
take_within (suc n) (x ∷ xs) = omega (arith, take_within n xs)

take_whole : {X : Type 0} (n : ℕ) (xs : List X) → length xs ≤ n → take n xs ≡ xs
take_whole zero [] h = refl
take_whole zero (x ∷ xs) h = absurd (omega (arith, h))
take_whole (suc n) [] h = refl
take_whole (suc n) (x ∷ xs) h = ap (λ l. x ∷ l) (take_whole n xs (omega (arith, h)))

-- of what comes behind others, no more is needed than there is room for
take_room : {X : Type 0} (room limit : ℕ) (xs ys : List X) → length xs + room ≡ limit
    → take limit (xs ++ take room ys) ≡ take limit (xs ++ ys)
take_room room limit [] ys e =
    let same : room ≡ limit = omega (arith, e) in
    subst (λ n. take n (take room ys) ≡ take n ys) same (take_twice room ys)
take_room room zero (x ∷ xs) ys e = refl
take_room room (suc n) (x ∷ xs) ys e = ap (λ l. x ∷ l) (take_room room n xs ys (omega (arith, e)))

pub behind_found : (db : Trees) (origin number limit wanted : ℕ) (place above count : ℤ)
    (rows : List Row) (found more all : List Record) → IsFilled db → place ≡ pos origin
    → above ≡ pos number → length found + wanted ≡ limit
    → (as_count (Int count) ≡ None) ⊎ (as_count (Int count) ≡ Some wanted)
    → IsPage (is_behind place above) name_order (as_count (Int count)) (cells (db 1)) rows
    → more ≡ flat_map records_in rows → all ≡ take limit (found ++ more)
    → all ≡ take limit (found ++ records_after (content_in db) origin number)
behind_found db origin number limit wanted place above count rows found more all
    (R, l, stand) e k room asks page read is =
    is ∙ (ap (λ rs. take limit (found ++ rs)) (read ∙ rows_are)
    ∙ (front (as_count (Int count)) asks
    ∙ ap (λ S. take limit (found ++ records_after S origin number))
    (sym (content_is R db l stand))))
  where
    p : Record → Bool
    p r = (r.origin == origin) && nat_lt number r.number

    rows_are : flat_map records_in rows
        ≡ limited (as_count (Int count)) (records_after R origin number)
    rows_are =
        page_found (is_behind (pos origin) (pos number)) name_order name_order_total p name_cmp
        name_total (as_count (Int count)) R db rows l stand
        (λ r h. behind_as origin number r) names_as
        (pairwise-filter _ p R (closed_names R l.closed))
        (subst (λ n. IsPage (is_behind (pos origin) n) name_order (as_count (Int count))
        (cells (db 1)) rows) k (subst
        (λ o. IsPage (is_behind o above) name_order (as_count (Int count)) (cells (db 1)) rows)
        e page))
        ∙ ap (limited (as_count (Int count))) (rising_sorted (records_after R origin number)
        (pairwise-filter _ p R (closed_names R l.closed)) (pairwise-filter _ p R l.closed.ordered))

    front : (o : Option ℕ) → (o ≡ None) ⊎ (o ≡ Some wanted)
        → take limit (found ++ limited o (records_after R origin number))
        ≡ take limit (found ++ records_after R origin number)
    front o (inl none) = ap (λ c. take limit (found ++ limited c (records_after R origin number)))
        none
    front o (inr some) = ap (λ c. take limit (found ++ limited c (records_after R origin number)))
        some ∙ take_room wanted limit found (records_after R origin number) room

-- ---- the records of an origin

pub behind_lacked : (R : Content) (v : ℕ → ℕ) (origin held : ℕ) → held ≡ v origin
    → records_after R origin held ≡ lacked_of R v origin
behind_lacked R v origin held e = ap (records_after R origin) e
    ∙ filter_as (λ r. (r.origin == origin) && nat_lt (v origin) r.number)
    (λ r. (r.origin == origin) && is_beyond v r) R (λ r h. go r (r.origin == origin) refl)
  where
    go : (r : Record) (b : Bool) → (r.origin == origin) ≡ b
        → (b && nat_lt (v origin) r.number) ≡ (b && is_beyond v r)
    go r true e = let same : r.origin ≡ origin = grind (arith, nat_tests) in
        ap (λ o. nat_lt (v o) r.number) (sym same)
    go r false e = refl

-- what is held to its last number is not lacked
pub none_lacked : (R : Content) (v : ℕ → ℕ) (origin : ℕ) → vec R origin ≤ v origin
    → lacked_of R v origin ≡ []
none_lacked R v origin held = filter_none (λ r. (r.origin == origin) && is_beyond v r) R
    (λ r h. go r (r.origin == origin) refl (vec_bounds R r h))
  where
    go : (r : Record) (b : Bool) → (r.origin == origin) ≡ b → r.number ≤ vec R r.origin
        → (b && is_beyond v r) ≡ false
    go r true e bound =
        let same : r.origin ≡ origin = grind (arith, nat_tests) in
        let low : r.number ≤ v r.origin =
        subst (λ o. r.number ≤ v o) (sym same)
        (omega (arith, held, subst (λ o. r.number ≤ vec R o) same bound)) in
        grind (arith, nat_tests)
    go r false e bound = refl

-- an origin whose last number a vector has
pub not_behind : (R : Content) (own v : ℕ → ℕ) (number origin held : ℕ)
    → ((replica : ℕ) → own replica ≡ vec R replica) → origin ≡ number → held ≡ v origin
    → (held + 1 ≤ own origin → ⊥) → vec R number ≤ v number
not_behind R own v number origin held is e h none = elim (cases_lt (v origin) (own origin)) [
  | inl lt ↦ absurd (none (omega (arith, lt, h)))
  | inr le ↦ subst (λ o. vec R o ≤ v o) e (subst (λ n. n ≤ v origin) (is origin) le)
]

-- what a query showed is put behind others
pub pushed : {A : Type 0} (a b : State) (rows : A) (P : A → Type 0)
    (r : Result (Unit {0}) StoreFault) (Q S : Type 0) → LeavesUnchanged a b (Ok rows) P
    → IfOk r (λ _. Q) → IfErr r (λ e. e ≡ OutOfMemory) → (HasCleanDisk b → P rows → Q → S)
    → LeavesUnchanged a b r (λ _. S)
pushed a b rows P (Ok u) Q S h q m f = record {
  answer = λ clean. f clean (h.answer clean) q;
  kept =
      λ clean ok. h.kept clean refl;
  met = tt;
  refused = λ clean. tt;
  crash = h.crash;
}
pushed a b rows P (Err e) Q S h q m f = record {
  answer = λ clean. tt;
  kept =
      λ clean ok. h.kept clean refl;
  met = memory_own e m;
  refused = λ clean is. absurd (memory_unlike e m is);
  crash = h.crash;
}

pub nothing_pushed : {X : Type 0} (limit : ℕ) (found lacked : List X) → length found < limit
    → lacked ≡ [] → found ≡ take limit (found ++ lacked)
nothing_pushed limit found lacked room none =
    sym (take_whole limit found (omega (arith, room)))
    ∙ ap (take limit) (sym (append-nil found) ∙ ap (λ l. found ++ l) (sym none))

-- ---- one origin behind the other

-- the records beyond a vector of the origins from this one on
abbrev pub lacked_from : Content → (ℕ → ℕ) → ℕ → List Record
lacked_from R v first = filter (λ r. nat_le first r.origin && is_beyond v r) R

origin_rises : (a b : Record) → name_cmp a b ≡ Less → a.origin ≤ b.origin
origin_rises a b h = go (nat_cmp a.origin b.origin) refl h
  where
    go : (o : Ordering) → nat_cmp a.origin b.origin ≡ o
        → ordering_then o (nat_cmp a.number b.number) ≡ Less → a.origin ≤ b.origin
    go Less p h = grind (arith, nat_tests)
    go Equal p h = grind (arith, nat_tests)
    go Greater p h = absurd (let q = h in cc)

abbrev put_if : Bool → Record → List Record → List Record
put_if b r rs = cond b (r ∷ rs) rs

joined : (a b c q : Bool) (r : Record) (whole one others : List Record) → whole ≡ one ++ others
    → ((a ≡ b) × (c ≡ false)) ⊎ ((b ≡ false) × (a ≡ c) × (one ≡ []))
    → put_if (a && q) r whole ≡ put_if (b && q) r one ++ put_if (c && q) r others
joined true true false true r whole one others so (inl h) = ap (λ l. r ∷ l) so
joined true true false false r whole one others so (inl h) = so
joined false false false q r whole one others so h = so
joined true false true true r whole one others so (inr h) =
    ap (λ l. r ∷ l) (so ∙ ap (λ l. l ++ others) h.2) ∙ ap (λ l. l ++ (r ∷ others)) (sym h.2)
joined true false true false r whole one others so h = so
joined true false c q r whole one others so (inl h) = absurd (let e = h.0 in cc)
joined true true true q r whole one others so (inl h) = absurd (let e = h.1 in cc)
joined false true c q r whole one others so (inl h) = absurd (let e = h.0 in cc)
joined false false true q r whole one others so (inl h) = absurd (let e = h.1 in cc)
joined a true c q r whole one others so (inr h) = absurd (let e = h.0 in cc)
joined true false false q r whole one others so (inr h) = absurd (let e = h.1 in cc)
joined false false true q r whole one others so (inr h) = absurd (let e = h.1 in cc)

parted : (R : Content) (v : ℕ → ℕ) (k : ℕ) → Rises name_cmp R
    → lacked_from R v k ≡ lacked_of R v k ++ lacked_from R v (k + 1)
parted [] v k up = refl
parted (r ∷ R) v k up = joined (nat_le k r.origin) (r.origin == k) (nat_le (k + 1) r.origin)
    (is_beyond v r) r (lacked_from R v k) (lacked_of R v k) (lacked_from R v (k + 1))
    (parted R v k up.1) (elim (cases_order r.origin k) [
      | inl same ↦ inl (grind (arith, nat_tests), grind (arith, nat_tests))
      | inr other ↦ elim other [
        | inl below ↦ inl (grind (arith, nat_tests), grind (arith, nat_tests))
        | inr above ↦ inr (
          grind (arith, nat_tests),
          grind (arith, nat_tests),
          filter_none (λ z. (z.origin == k) && is_beyond v z) R
              (λ z h. later z (origin_rises r z (all-has (λ y. name_cmp r y ≡ Less) R z up.0 h)) above),
        )
      ]
    ])
  where
    later : (z : Record) → r.origin ≤ z.origin → k < r.origin
        → ((z.origin == k) && is_beyond v z) ≡ false
    later z le lt = let not_it : (z.origin == k) ≡ false = grind (arith, nat_tests) in
        ap (λ b. b && is_beyond v z) not_it

all_lacked : (R : Content) (v : ℕ → ℕ) → IsLawfulContent R
    → lacked_from R v 1 ≡ filter (is_beyond v) R
all_lacked R v l = filter_as (λ r. nat_le 1 r.origin && is_beyond v r) (is_beyond v) R
    (λ r h. go r (l.records r h).origin)
  where
    go : (r : Record) → IsReplica r.origin → (nat_le 1 r.origin && is_beyond v r) ≡ is_beyond v r
    go r is = let some : nat_le 1 r.origin ≡ true = grind (arith, nat_tests) in
        ap (λ b. b && is_beyond v r) some

none_left : (R : Content) (v : ℕ → ℕ) (k : ℕ) → IsLawfulContent R → 65 ≤ k → lacked_from R v k ≡ []
none_left R v k l le = filter_none (λ r. nat_le k r.origin && is_beyond v r) R
    (λ r h. go r (l.records r h).origin)
  where
    go : (r : Record) → IsReplica r.origin → (nat_le k r.origin && is_beyond v r) ≡ false
    go r is = let none : nat_le k r.origin ≡ false = grind (arith, nat_tests) in
        ap (λ b. b && is_beyond v r) none

missing_all : (R : Content) (v : ℕ → ℕ) (limit : ℕ) → IsLawfulContent R
    → take limit (lacked_from R v 1) ≡ missing R v limit
missing_all R v limit l = ap (take limit) (all_lacked R v l
    ∙ sym (rising_sorted (filter (is_beyond v) R) (pairwise-filter _ (is_beyond v) R
    (closed_names R l.closed)) (pairwise-filter _ (is_beyond v) R l.closed.ordered)))

lawful_in : (db : Trees) → IsFilled db → IsLawfulContent (content_in db)
lawful_in db (R, l, stand) = subst IsLawfulContent (sym (content_is R db l stand)) l

-- calls were made, none of which met a fault; what is found, with what the origins from the next
-- one on have, is what is missing
pub record Gathered (a b : State) (v : ℕ → ℕ) (limit next : ℕ) (found : List Record) : Type 0 where
  pub passed : Passed a b
  pub filled : HasCleanDisk a → IsFilled a.now.trees
  pub so : HasCleanDisk b → take limit (found ++ lacked_from (content_in a.now.trees) v next)
      ≡ missing (content_in a.now.trees) v limit
  pub within : HasCleanDisk b → length found ≤ limit

pub gathered_start : (a : State) (v : ℕ → ℕ) (limit : ℕ) (found : List Record)
    → (HasCleanDisk a → Idles a) → (HasCleanDisk a → IsFilled a.now.trees) → found ≡ []
    → Gathered a a v limit 1 found
gathered_start a v limit found idles filled none = record {
  passed = passed_none a idles;
  filled = filled;
  so = λ clean. ap (λ l. take limit (l ++ lacked_from (content_in a.now.trees) v 1)) none
      ∙ missing_all (content_in a.now.trees) v limit (lawful_in a.now.trees (filled clean));
  within = λ clean. subst (λ l. length l ≤ limit) (sym none) (omega arith);
}

pub gathered_on : (a b c : State) (v : ℕ → ℕ) (limit next : ℕ) (found more : List Record)
    (told : Unit {0}) → Gathered a b v limit next found
    → LeavesUnchanged b c (Ok told) (λ _. more
    ≡ take limit (found ++ lacked_of (content_in b.now.trees) v next))
    → Gathered a c v limit (next + 1) more
gathered_on a b c v limit next found more told g asked =
    let passed = passed_ok b c told _ asked in
    record {
      passed = passed_then a b c g.passed passed;
      filled = g.filled;
      so = λ clean.
          let before = early b c passed clean in
          let R = content_in a.now.trees in
          let is = more_is clean before in
          ap (λ l. take limit (l ++ lacked_from R v (next + 1))) is
          ∙ (take_front limit (found ++ lacked_of R v next) (lacked_from R v (next + 1))
          ∙ (ap (take limit) (append_assoc found (lacked_of R v next) (lacked_from R v (next + 1))
          ∙ ap (λ l. found ++ l) (sym
          (parted R v next (lawful_in a.now.trees (g.filled
          (early a b g.passed before))).closed.ordered))) ∙ g.so before));
      within = λ clean. subst (λ l. length l ≤ limit) (sym (more_is clean (early b c passed clean)))
          (take_within limit (found ++ lacked_of (content_in a.now.trees) v next));
    }
  where
    more_is : HasCleanDisk c → HasCleanDisk b
        → more ≡ take limit (found ++ lacked_of (content_in a.now.trees) v next)
    more_is clean before = subst (λ t. more ≡ take limit (found ++ lacked_of (content_in t) v next))
        (same_trees a b g.passed before) (asked.answer clean)

pub gathered_enough : {V : Type 0} (items : V → List Record) (a b : State) (v : ℕ → ℕ)
    (limit next : ℕ) (r : V) → Gathered a b v limit next (items r) → limit ≤ length (items r)
    → LeavesUnchanged a b (Ok r) (λ x. items x ≡ missing (content_in a.now.trees) v limit)
gathered_enough items a b v limit next r g reached =
    passed_told a b r (λ x. items x ≡ missing (content_in a.now.trees) v limit) g.passed
    (λ clean. sym (take_whole limit (items r) (g.within clean))
    ∙ (sym (take-append-le limit (items r)
    (lacked_from (content_in a.now.trees) v next) reached) ∙ g.so clean))

pub gathered_ends : {V : Type 0} (items : V → List Record) (a b : State) (v : ℕ → ℕ)
    (limit next : ℕ) (r : V) → Gathered a b v limit next (items r) → 65 ≤ next
    → LeavesUnchanged a b (Ok r) (λ x. items x ≡ missing (content_in a.now.trees) v limit)
gathered_ends items a b v limit next r g end =
    passed_told a b r (λ x. items x ≡ missing (content_in a.now.trees) v limit) g.passed
    (λ clean.
    sym (take_whole limit (items r) (g.within clean))
    ∙ (ap (take limit) (sym (append-nil (items r))
    ∙ ap (λ l. items r
    ++ l) (sym (none_left (content_in a.now.trees) v next
    (lawful_in a.now.trees (g.filled (early a b g.passed clean))) end))) ∙ g.so clean))
