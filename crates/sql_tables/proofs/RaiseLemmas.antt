-- What a row of records2 makes of the row of currents2 of its moment, where others stand there.
use Rattle.std.proofs.Common.{◌≡◌, ◌⊎◌, arith, ℕ, ℤ, pos, ◌<ℤ◌, ◌≤ℤ◌, inl, inr, not, ◌&&◌, ◌||◌, Bool, true, false, cond, List, [], ◌∷◌, ◌++◌, length, map, filter, refl, sym, ap, ap₂, subst, ◌∙◌, IsPermutation, is_eq, is_lt, is_gt, Ordering, Less, Equal, Greater, Some}
use Rattle.std.specs.List.{list_any, AllByRecursion}
use Rattle.std.specs.Ordering.{ordering_reverse, int_cmp, is_le, is_ge, is_ne}
use Rattle.std.proofs.lemmas.Bool.{cases_Bool, and_parts}
use Rattle.std.proofs.lemmas.Cmp.{tied_itself}
use Rattle.std.proofs.lemmas.Int.{ints}
use Rattle.std.proofs.lemmas.List.{length-map}
use Rattle.std.proofs.lemmas.List.Elements.{recursion_from_All, All-from_recursion}
use Rattle.std.proofs.lemmas.List.Sorted.{All-permutation, IsPermutation-refl, IsPermutation-sym, IsPermutation-trans, IsPermutation-map, IsPermutation-append, length_permutation}
use Rattle.sqlite_value.specs.declared.value.Value.{Value}
use Rattle.sqlite_value.specs.declared.value.Value.TheVariants.{Int, Blob as Bytes}
use Rattle.sqlite_value.specs.declared.keys.Collation.TheVariants.{Binary}
use Rattle.sqlite_value.specs.Order.{Row, column, value_cmp}
use Rattle.sqlite_value.proofs.OrderLemmas.{value_cmp_total, value_cmp-Int}
use Rattle.sqlite_sql.specs.Ops.{binary, is_true, is_null, from_truth, truth, or3}
use Rattle.sqlite_sql.specs.declared.ops.BinaryOp.TheVariants.{Compare, Or}
use Rattle.sqlite_sql.specs.declared.ops.CompareOp.TheVariants.{Ne, Lt, Le, Gt, Ge}
use Rattle.sqlite_keyed.proofs.ListLemmas.{none_from_any, any_from_none, all_map, all_weaker, all_both, all-filter, filter_none, filter_same, filter-map, IsPermutation-filter}
use Rattle.sql_tables.specs.Words.{cells_of}
use Rattle.sql_tables.specs.Derived.{IsCells, current_of, currents_of, flag, is_later, is_other, is_of, is_current_of, same}
use Rattle.sql_tables.specs.Keeping.{currents_where}
use Rattle.sql_tables.proofs.WriteLemmas.{not_true}
use Rattle.sql_tables.proofs.DerivedLemmas.{both_filters, made_permuted, stable_currents, same_turned, currents_changed}

-- ---- stamps: tick and origin

-- the first stamp is above the second
abbrev pub up : ℤ → ℤ → ℤ → ℤ → Bool
up a b c d = is_ge (int_cmp a c) && (is_gt (int_cmp a c) || is_gt (int_cmp b d))

-- it is below the second
abbrev pub down : ℤ → ℤ → ℤ → ℤ → Bool
down a b c d = is_le (int_cmp a c) && (is_lt (int_cmp a c) || is_lt (int_cmp b d))

-- it is another
abbrev pub apart : ℤ → ℤ → ℤ → ℤ → Bool
apart a b c d = is_ne (int_cmp a c) || is_ne (int_cmp b d)

abbrev pub not_less : Value → Value → Value → Value → Bool
not_less a b c d = is_true (binary (Compare Ge Binary) a c)
    && is_true (binary Or (binary (Compare Gt Binary) a c) (binary (Compare Gt Binary) b d))

abbrev not_more : Value → Value → Value → Value → Bool
not_more a b c d = is_true (binary (Compare Le Binary) a c)
    && is_true (binary Or (binary (Compare Lt Binary) a c) (binary (Compare Lt Binary) b d))

abbrev pub not_same : Value → Value → Value → Value → Bool
not_same a b c d =
    is_true (binary Or (binary (Compare Ne Binary) a c) (binary (Compare Ne Binary) b d))

pub up_is : (a b c d : ℤ) → not_less (Int a) (Int b) (Int c) (Int d) ≡ up a b c d
unfolding binary
up_is a b c d = rw (value_cmp-Int a c, value_cmp-Int b d) (go (int_cmp a c) (int_cmp b d))
  where
    go : (o p : Ordering) → (is_true (from_truth (Some (is_ge o)))
        && is_true (from_truth (or3 (truth (from_truth (Some (is_gt o))))
        (truth (from_truth (Some (is_gt p))))))) ≡ (is_ge o && (is_gt o || is_gt p))
    go Less Less = refl
    go Less Equal = refl
    go Less Greater = refl
    go Equal Less = refl
    go Equal Equal = refl
    go Equal Greater = refl
    go Greater Less = refl
    go Greater Equal = refl
    go Greater Greater = refl

down_is : (a b c d : ℤ) → not_more (Int a) (Int b) (Int c) (Int d) ≡ down a b c d
unfolding binary
down_is a b c d = rw (value_cmp-Int a c, value_cmp-Int b d) (go (int_cmp a c) (int_cmp b d))
  where
    go : (o p : Ordering) → (is_true (from_truth (Some (is_le o)))
        && is_true (from_truth (or3 (truth (from_truth (Some (is_lt o))))
        (truth (from_truth (Some (is_lt p))))))) ≡ (is_le o && (is_lt o || is_lt p))
    go Less Less = refl
    go Less Equal = refl
    go Less Greater = refl
    go Equal Less = refl
    go Equal Equal = refl
    go Equal Greater = refl
    go Greater Less = refl
    go Greater Equal = refl
    go Greater Greater = refl

pub apart_is : (a b c d : ℤ) → not_same (Int a) (Int b) (Int c) (Int d) ≡ apart a b c d
unfolding binary
apart_is a b c d = rw (value_cmp-Int a c, value_cmp-Int b d) (go (int_cmp a c) (int_cmp b d))
  where
    go : (o p : Ordering) → is_true (from_truth (or3 (truth (from_truth (Some (is_ne o))))
        (truth (from_truth (Some (is_ne p)))))) ≡ (is_ne o || is_ne p)
    go Less Less = refl
    go Less Equal = refl
    go Less Greater = refl
    go Equal Less = refl
    go Equal Equal = refl
    go Equal Greater = refl
    go Greater Less = refl
    go Greater Equal = refl
    go Greater Greater = refl

up_itself : (a b : ℤ) → up a b a b ≡ false
up_itself a b = grind arith

down_apart : (a b c d : ℤ) → down a b c d ≡ true → apart a b c d ≡ true
down_apart a b c d low = grind (arith, low)

up_apart : (a b c d : ℤ) → up c d a b ≡ true → apart a b c d ≡ true
up_apart a b c d high = grind (arith, high)

-- the same of whole numbers
abbrev pub Over : ℤ → ℤ → ℤ → ℤ → Type 0
Over a b c d = (c <ℤ a) ⊎ ((a ≡ c) × (d <ℤ b))

abbrev AtMost : ℤ → ℤ → ℤ → ℤ → Type 0
AtMost a b c d = (a <ℤ c) ⊎ ((a ≡ c) × (b ≤ℤ d))

over_from : (a b c d : ℤ) → up a b c d ≡ true → Over a b c d
over_from a b c d e = grind (arith, ints, e)

under_from : (a b c d : ℤ) → down a b c d ≡ true → Over c d a b
under_from a b c d e = grind (arith, ints, e)

most_from : (a b c d : ℤ) → up a b c d ≡ false → AtMost a b c d
most_from a b c d e = grind (arith, ints, e)

up_from : (a b c d : ℤ) → Over a b c d → up a b c d ≡ true
up_from a b c d (inl l) = grind (arith, ints, l)
up_from a b c d (inr l) = grind (arith, ints, l.0, l.1)

down_from : (a b c d : ℤ) → Over c d a b → down a b c d ≡ true
down_from a b c d (inl l) = grind (arith, ints, l)
down_from a b c d (inr l) = grind (arith, ints, l.0, l.1)

not_from : (a b c d : ℤ) → AtMost a b c d → up a b c d ≡ false
not_from a b c d (inl l) = grind (arith, ints, l)
not_from a b c d (inr l) = grind (arith, ints, l.0, l.1)

not_down : (a b c d : ℤ) → Over a b c d → down a b c d ≡ false
not_down a b c d (inl l) = grind (arith, ints, l)
not_down a b c d (inr l) = grind (arith, ints, l.0, l.1)

over_most : (a b c d e f : ℤ) → Over a b c d → AtMost e f c d → Over a b e f
over_most a b c d e f (inl l) (inl m) = inl (grind (arith, ints, l, m))
over_most a b c d e f (inl l) (inr m) = inl (grind (arith, ints, l, m.0))
over_most a b c d e f (inr l) (inl m) = inl (grind (arith, ints, l.0, m))
over_most a b c d e f (inr l) (inr m) =
    inr (grind (arith, ints, l.0, m.0), grind (arith, ints, l.1, m.1))

most_over : (a b c d e f : ℤ) → Over a b c d → AtMost a b e f → Over e f c d
most_over a b c d e f (inl l) (inl m) = inl (grind (arith, ints, l, m))
most_over a b c d e f (inl l) (inr m) = inl (grind (arith, ints, l, m.0))
most_over a b c d e f (inr l) (inl m) = inl (grind (arith, ints, l.0, m))
most_over a b c d e f (inr l) (inr m) =
    inr (grind (arith, ints, l.0, m.0), grind (arith, ints, l.1, m.1))

most_by : (a b c d : ℤ) → Over a b c d → AtMost c d a b
most_by a b c d (inl l) = inl l
most_by a b c d (inr l) = inr (grind (arith, ints, l.0), grind (arith, ints, l.1))

-- with a stamp t below n, one that is not above t is not above n
not_up : (t u n o r s : ℤ) → down t u n o ≡ true → up r s t u ≡ false → up r s n o ≡ false
not_up t u n o r s low off = not_from r s n o (most_by n o r s
    (over_most n o t u r s (under_from t u n o low) (most_from r s t u off)))

-- and n is above it
is_up : (t u n o r s : ℤ) → down t u n o ≡ true → up r s t u ≡ false → up n o r s ≡ true
is_up t u n o r s low off = up_from n o r s
    (over_most n o t u r s (under_from t u n o low) (most_from r s t u off))

is_down : (t u n o r s : ℤ) → down t u n o ≡ true → up r s t u ≡ false → down r s n o ≡ true
is_down t u n o r s low off = down_from r s n o
    (over_most n o t u r s (under_from t u n o low) (most_from r s t u off))

-- with a stamp t above n, one that t is not above is above n
stays_up : (t u n o r s : ℤ) → up t u n o ≡ true → up t u r s ≡ false → up r s n o ≡ true
stays_up t u n o r s high off = up_from r s n o
    (most_over t u n o r s (over_from t u n o high) (most_from t u r s off))

-- and n is not above it
stays_under : (t u n o r s : ℤ) → up t u n o ≡ true → up t u r s ≡ false → up n o r s ≡ false
stays_under t u n o r s high off = not_from n o r s (most_by r s n o
    (most_over t u n o r s (over_from t u n o high) (most_from t u r s off)))

-- ---- tests

grouped : (a b c d : Bool) → (a && (b && (c && d))) ≡ ((a && (b && c)) && d)
grouped true true c d = refl
grouped true false c d = refl
grouped false b c d = refl

three_on : (a b c d : Bool) → a ≡ true → b ≡ true → c ≡ true → (a && (b && (c && d))) ≡ d
three_on a b c d p q r = rw (p, q, r) refl

and_false : (a : Bool) → (a && false) ≡ false
and_false true = refl
and_false false = refl

or_true : (a b : Bool) → b ≡ true → (a || b) ≡ true
or_true true b e = refl
or_true false b e = e

equal_by : (o : Ordering) → is_eq o ≡ true → o ≡ Equal
equal_by Less e = absurd (let no = e in cc)
equal_by Equal e = refl
equal_by Greater e = absurd (let no = e in cc)

plain_same : (u v : Value) → is_null u ≡ false → is_null v ≡ false
    → same u v ≡ is_eq (value_cmp u v)
unfolding binary
plain_same u v p q = rw (p, q) (truly (is_eq (value_cmp u v)))
  where
    truly : (b : Bool) → is_true (from_truth (Some b)) ≡ b
    truly true = refl
    truly false = refl

same_both : (u v w : Value) → is_null u ≡ false → is_null v ≡ false → is_null w ≡ false
    → same u w ≡ true → same v w ≡ true → same u v ≡ true
same_both u v w nu nv nw p q =
    let a : value_cmp u w ≡ Equal = equal_by (value_cmp u w) (sym (plain_same u w nu nw) ∙ p) in
    let b : value_cmp v w ≡ Equal = equal_by (value_cmp v w) (sym (plain_same v w nv nw) ∙ q) in
    plain_same u v nu nv ∙ ap is_eq (value_cmp_total.congr u w v a
    ∙ (value_cmp_total.antisymm w v ∙ ap ordering_reverse b))

-- ---- lists

turned_and : (a b : Bool) → (a && b) ≡ (b && a)
turned_and true true = refl
turned_and true false = refl
turned_and false true = refl
turned_and false false = refl

pub filter_true : {A : Type 0} (p : A → Bool) (xs : List A)
    → AllByRecursion (λ x. p x ≡ true) (filter p xs)
filter_true p [] = tt
filter_true {A} p (x ∷ xs) = go (p x) refl (filter_true p xs)
  where
    go : (b : Bool) → p x ≡ b → AllByRecursion (λ x. p x ≡ true) (filter p xs)
        → AllByRecursion (λ x. p x ≡ true) (cond b (x ∷ filter p xs) (filter p xs))
    go true e more = (e, more)
    go false e more = more

any_at : {A : Type 0} (p : A → Bool) (xs : List A)
    → AllByRecursion (λ x. p x ≡ true → list_any p xs ≡ true) xs
any_at p [] = tt
any_at p (y ∷ ys) = (
  λ e. ap (λ b. b || list_any p ys) e,
  all_weaker (λ x. p x ≡ true → list_any p ys ≡ true)
      (λ x. p x ≡ true → (p y || list_any p ys) ≡ true)
      (λ x f e. or_true (p y) (list_any p ys) (f e)) ys (any_at p ys),
)

filter_alike : {A : Type 0} (p q : A → Bool) (xs : List A) → AllByRecursion (λ x. p x ≡ q x) xs
    → filter p xs ≡ filter q xs
filter_alike p q [] all = refl
filter_alike p q (x ∷ xs) all =
    ap₂ (λ b l. cond b (x ∷ l) l) all.0 (filter_alike p q xs all.1)

only_one : {A : Type 0} (xs : List A) → length xs ≡ 1 → (t : A) × (xs ≡ t ∷ [])
only_one [] e = absurd (omega (arith, e))
only_one (x ∷ []) e = (x, refl)
only_one (x ∷ y ∷ xs) e = absurd (omega (arith, e))

pub all_permuted : {A : Type 0} (P : A → Type 0) (xs ys : List A) → IsPermutation xs ys
    → AllByRecursion P xs → AllByRecursion P ys
all_permuted P xs ys same_rows all = recursion_from_All P ys (All-permutation P xs ys same_rows
    (All-from_recursion P xs all))

-- ---- the rows of one moment

module _ (origin number tick : ℤ) (node : List ℕ) (time pico asked : ℤ) (who value : List ℕ) where
  abbrev pub new : Row
  new = cells_of origin number tick node time pico asked who value

  abbrev pub new_cells : IsCells new
  new_cells = record {
    origin = origin;
    number = number;
    tick = tick;
    node = node;
    time = time;
    pico = pico;
    asked = asked;
    who = who;
    value = value;
    is = refl;
  }

  abbrev here : Row → Bool
  here = is_of node time pico

  abbrev rises : Row → Row → Bool
  rises s r = not_less (column s 2) (column s 0) (column r 2) (column r 0)

  abbrev differs : Row → Row → Bool
  differs s r = not_same (column s 2) (column s 0) (column r 2) (column r 0)

  rises_is : (r s : Row) (a : IsCells r) (b : IsCells s)
      → rises s r ≡ up b.tick b.origin a.tick a.origin
  rises_is r s a b = ap₂ (λ (x y : Row). rises y x) a.is b.is
      ∙ up_is b.tick b.origin a.tick a.origin

  differs_is : (r s : Row) (a : IsCells r) (b : IsCells s)
      → differs s r ≡ apart b.tick b.origin a.tick a.origin
  differs_is r s a b = ap₂ (λ (x y : Row). differs y x) a.is b.is
      ∙ apart_is b.tick b.origin a.tick a.origin

  -- what is later than the new row, and what that is later than
  later_new : (r : Row) → is_later new r ≡ (here r && rises r new)
  later_new r = grouped (same (column r 3) (Bytes node)) (same (column r 4) (Int time))
      (same (column r 5) (Int pico)) (rises r new)

  turned : (r : Row) (rest : Bool) → (same (Bytes node) (column r 3)
      && (same (Int time) (column r 4) && (same (Int pico) (column r 5) && rest)))
      ≡ (here r && rest)
  turned r rest = ap₂ ◌&&◌ (same_turned (Bytes node) (column r 3))
      (ap₂ ◌&&◌ (same_turned (Int time) (column r 4))
      (ap (λ b. b && rest) (same_turned (Int pico) (column r 5))))
      ∙ grouped (same (column r 3) (Bytes node)) (same (column r 4) (Int time))
      (same (column r 5) (Int pico)) rest

  new_later : (r : Row) → is_later r new ≡ (here r && rises new r)
  new_later r = turned r (rises new r)

  other_new : (r : Row) → is_other new r ≡ (here r && differs r new)
  other_new r = grouped (same (column r 3) (Bytes node)) (same (column r 4) (Int time))
      (same (column r 5) (Int pico)) (differs r new)

  new_other : (r : Row) → is_other r new ≡ (here r && differs new r)
  new_other r = turned r (differs new r)

  -- of two rows of the moment
  both_here : (r t : Row) → IsCells r → IsCells t → here r ≡ true → here t ≡ true
      → is_later t r ≡ rises r t
  both_here r t a b p q =
      let x = and_parts (same (column r 3) (Bytes node))
      (same (column r 4) (Int time) && same (column r 5) (Int pico)) p in
      let y = and_parts (same (column t 3) (Bytes node))
      (same (column t 4) (Int time) && same (column t 5) (Int pico)) q in
      let xs = and_parts (same (column r 4) (Int time)) (same (column r 5) (Int pico)) x.1 in
      let ys = and_parts (same (column t 4) (Int time)) (same (column t 5) (Int pico)) y.1 in
      three_on (same (column r 3) (column t 3)) (same (column r 4) (column t 4))
      (same (column r 5) (column t 5)) (rises r t)
      (same_both (column r 3) (column t 3) (Bytes node) (ap (λ c. is_null (column c 3)) a.is)
      (ap (λ c. is_null (column c 3)) b.is) refl x.0 y.0)
      (same_both (column r 4) (column t 4) (Int time) (ap (λ c. is_null (column c 4)) a.is)
      (ap (λ c. is_null (column c 4)) b.is) refl xs.0 ys.0)
      (same_both (column r 5) (column t 5) (Int pico) (ap (λ c. is_null (column c 5)) a.is)
      (ap (λ c. is_null (column c 5)) b.is) refl xs.1 ys.1)

  own_here : here new ≡ true
  own_here = rw (
    plain_same (Bytes node) (Bytes node) refl refl,
    plain_same (Int time) (Int time) refl refl,
    plain_same (Int pico) (Int pico) refl refl,
    tied_itself value_cmp_total (Bytes node),
    tied_itself value_cmp_total (Int time),
    tied_itself value_cmp_total (Int pico),
  ) refl

  -- ---- rows of currents2, as SQL compares their stamps with the new one

  abbrev pub is_raised : Row → Bool
  is_raised c = is_current_of node time pico c
      && not_more (column c 3) (column c 4) (Int tick) (Int origin)

  abbrev pub is_passed : Row → Bool
  is_passed c = is_current_of node time pico c
      && not_less (column c 3) (column c 4) (Int tick) (Int origin)

  -- the row of the new one, and the same row with a mark that others stand there
  abbrev pub raised : Row
  raised = Bytes node ∷ Int time ∷ Int pico ∷ Int tick ∷ Int origin
      ∷ binary (Compare Ne Binary) (Int asked) (Int (pos 4)) ∷ flag true ∷ Bytes value ∷ []

  abbrev pub marked : Row → Row
  marked c = column c 0 ∷ column c 1 ∷ column c 2 ∷ column c 3 ∷ column c 4 ∷ column c 5
      ∷ flag true ∷ column c 7 ∷ []

  -- where one row of currents2 is of the moment, the rows that pass are that one or none
  module _ (C : List Row) (current : Row) (only : filter (is_current_of node time pico) C
      ≡ current ∷ []) (a b : ℤ) (tick_is : column current 3 ≡ Int a)
      (origin_is : column current 4 ≡ Int b) where
    of_one : (q : Row → Bool) (pass : Bool) → q current ≡ pass
        → filter (λ c. is_current_of node time pico c && q c) C ≡ cond pass (current ∷ []) []
    of_one q pass e =
        filter_same (λ c. is_current_of node time pico c && q c)
        (λ c. q c && is_current_of node time pico c)
        (λ c. turned_and (is_current_of node time pico c) (q c)) C
        ∙ sym (both_filters q (is_current_of node time pico) C) ∙ ap (filter q) only
        ∙ ap (λ p. cond p (current ∷ []) []) e

    pub one_raised : Over tick origin a b → length (filter is_raised C) ≡ 1
    one_raised over = ap length (of_one (λ c. not_more (column c 3) (column c 4) (Int tick)
        (Int origin)) true (ap₂ (λ x y. not_more x y (Int tick) (Int origin)) tick_is origin_is
        ∙ down_is a b tick origin ∙ down_from a b tick origin over))

    pub none_raised : Over a b tick origin → length (filter is_raised C) ≡ 0
    none_raised over = ap length (of_one (λ c. not_more (column c 3) (column c 4) (Int tick)
        (Int origin)) false (ap₂ (λ x y. not_more x y (Int tick) (Int origin)) tick_is origin_is
        ∙ down_is a b tick origin ∙ not_down a b tick origin over))

    pub one_passed : Over a b tick origin → length (filter is_passed C) ≡ 1
    one_passed over = ap length (of_one (λ c. not_less (column c 3) (column c 4) (Int tick)
        (Int origin)) true (ap₂ (λ x y. not_less x y (Int tick) (Int origin)) tick_is origin_is
        ∙ up_is a b tick origin ∙ up_from a b tick origin over))

  below_is : (r : Row) (b : IsCells r) → not_more (column r 2) (column r 0) (Int tick) (Int origin)
      ≡ down b.tick b.origin tick origin
  below_is r b = ap (λ x. not_more (column x 2) (column x 0) (Int tick) (Int origin)) b.is
      ∙ down_is b.tick b.origin tick origin

  beyond_is : (r : Row) (b : IsCells r)
      → not_less (column r 2) (column r 0) (Int tick) (Int origin) ≡ up b.tick b.origin tick origin
  beyond_is r b = rises_is new r new_cells b

  module _ (X : List Row) (typed : AllByRecursion IsCells X) where
    abbrev top : Row → Bool
    top r = not (list_any (is_later r) X)

    abbrev tops : List Row
    tops = filter top X

    abbrev raised_of : Row → Bool
    raised_of r = is_raised (current_of X r)

    abbrev passed_of : Row → Bool
    passed_of r = is_passed (current_of X r)

    -- one row is picked from the latest of their moments
    module _ (q : Row → Bool) (t : Row) (alone : filter q tops ≡ t ∷ []) where
      at_it : (P : Row → Type 0) → AllByRecursion P X → P t
      at_it P all =
          (subst (AllByRecursion P) alone (all-filter P q tops (all-filter P top X all))).0

      it_passes : q t ≡ true
      it_passes = (subst (AllByRecursion (λ r. q r ≡ true)) alone (filter_true q tops)).0

      it_tops : list_any (is_later t) X ≡ false
      it_tops = not_true (list_any (is_later t) X) (subst (AllByRecursion (λ r. top r ≡ true)) alone
          (all-filter (λ r. top r ≡ true) q tops (filter_true top X))).0

      it_typed : IsCells t
      it_typed = at_it IsCells typed

    -- ---- the new row is later than the one that stood there

    module _ (t : Row) (alone : filter raised_of tops ≡ t ∷ []) where
      abbrev t_cells : IsCells t
      t_cells = it_typed raised_of t alone

      t_here : here t ≡ true
      t_here = (and_parts (here t) (not_more (column t 2) (column t 0) (Int tick) (Int origin))
          (it_passes raised_of t alone)).0

      t_low : down t_cells.tick t_cells.origin tick origin ≡ true
      t_low = sym (below_is t t_cells)
          ∙ (and_parts (here t) (not_more (column t 2) (column t 0) (Int tick) (Int origin))
          (it_passes raised_of t alone)).1

      record IsUnder (r : Row) : Type 0 where
        earlier : is_later new r ≡ false
        gone : (here r && not (is_later r new || list_any (is_later r) X)) ≡ false
        alike : raised_of r ≡ here r

      under : (r : Row) → IsCells r → is_later t r ≡ false → IsUnder r
      under r b not_later = elim (cases_Bool (here r)) [
        | inl e ↦
            let a = t_cells in
            let off : up b.tick b.origin a.tick a.origin ≡ false =
            sym (both_here r t b a e t_here ∙ rises_is t r a b) ∙ not_later in
            let over : is_later r new ≡ true =
            new_later r ∙ ap₂ ◌&&◌ e (rises_is r new b new_cells
            ∙ is_up a.tick a.origin tick origin b.tick b.origin t_low off) in
            record {
              earlier = later_new r ∙ ap₂ ◌&&◌ e (rises_is new r new_cells b
                  ∙ not_up a.tick a.origin tick origin b.tick b.origin t_low off);
              gone = ap (λ x. here r && not (x || list_any (is_later r) X)) over
                  ∙ and_false (here r);
              alike = ap₂ ◌&&◌ e (below_is r b
                  ∙ is_down a.tick a.origin tick origin b.tick b.origin t_low off) ∙ sym e;
            }
        | inr e ↦
            record {
              earlier = later_new r ∙ ap (λ x. x && rises r new) e;
              gone = ap (λ x. x && not (is_later r new || list_any (is_later r) X)) e;
              alike = ap (λ x. x && not_more (column r 2) (column r 0) (Int tick) (Int origin)) e
                  ∙ sym e;
            }
      ]

      all_under : AllByRecursion IsUnder X
      all_under = all_both IsCells (λ r. is_later t r ≡ false) IsUnder under X typed
          (none_from_any (is_later t) X (it_tops raised_of t alone))

      none_above : list_any (is_later new) (new ∷ X) ≡ false
      none_above = any_from_none (is_later new) (new ∷ X) (
        later_new new ∙ ap (λ x. here new && x) (rises_is new new new_cells new_cells
            ∙ up_itself tick origin) ∙ and_false (here new),
        all_weaker IsUnder (λ r. is_later new r ≡ false) (λ r u. u.earlier) X all_under,
      )

      some_other : list_any (is_other new) (new ∷ X) ≡ true
      some_other = or_true (is_other new new) (list_any (is_other new) X)
          (at_it raised_of t alone (λ x. is_other new x ≡ true → list_any (is_other new) X ≡ true)
          (any_at (is_other new) X) (other_new t ∙ ap₂ ◌&&◌ t_here
          (differs_is new t new_cells t_cells
          ∙ down_apart t_cells.tick t_cells.origin tick origin t_low)))

      raised_made : currents_where here (new ∷ X) ≡ raised ∷ []
      raised_made =
          ap (λ b. map (current_of (new ∷ X)) (cond
          (b && not (list_any (is_later new) (new ∷ X))) (new ∷ more) more)) own_here
          ∙ ap (λ b. map (current_of (new ∷ X)) (cond (not b) (new ∷ more) more)) none_above
          ∙ ap (λ l. map (current_of (new ∷ X)) (new ∷ l))
          (filter_none (λ r. here r && not (list_any (is_later r) (new ∷ X))) X
          (all_weaker IsUnder (λ r. (here r && not (list_any (is_later r) (new ∷ X))) ≡ false)
          (λ r u. u.gone) X all_under))
          ∙ ap (λ b. (column new 3 ∷ column new 4 ∷ column new 5 ∷ column new 2 ∷ column new 0
          ∷ binary (Compare Ne Binary) (column new 6) (Int (pos 4)) ∷ flag b ∷ column new 8 ∷ [])
          ∷ []) some_other
        where
          more : List Row
          more = filter (λ r. here r && not (list_any (is_later r) (new ∷ X))) X

      raised_left : AllByRecursion (λ c. is_raised c ≡ is_current_of node time pico c)
          (currents_of X)
      raised_left = all_map (λ c. is_raised c ≡ is_current_of node time pico c) (current_of X) tops
          (all-filter (λ r. raised_of r ≡ here r) top X
          (all_weaker IsUnder (λ r. raised_of r ≡ here r) (λ r u. u.alike) X all_under))

    -- ---- the one that stood there is later than the new row

    module _ (t : Row) (alone : filter passed_of tops ≡ t ∷ []) where
      abbrev its_cells : IsCells t
      its_cells = it_typed passed_of t alone

      its_here : here t ≡ true
      its_here = (and_parts (here t) (not_less (column t 2) (column t 0) (Int tick) (Int origin))
          (it_passes passed_of t alone)).0

      its_high : up its_cells.tick its_cells.origin tick origin ≡ true
      its_high = sym (beyond_is t its_cells)
          ∙ (and_parts (here t) (not_less (column t 2) (column t 0) (Int tick) (Int origin))
          (it_passes passed_of t alone)).1

      -- a row that no other is later than is above the new one
      above : (r : Row) → IsCells r → list_any (is_later r) X ≡ false
          → (is_later r new ≡ false) × (passed_of r ≡ here r)
      above r b none = elim (cases_Bool (here r)) [
        | inl e ↦
            let a = its_cells in
            let later_off : is_later r t ≡ false =
            at_it passed_of t alone (λ x. is_later r x ≡ false)
            (none_from_any (is_later r) X none) in
            let off : up a.tick a.origin b.tick b.origin ≡ false =
            sym (both_here t r a b its_here e ∙ rises_is r t b a) ∙ later_off in (
              new_later r ∙ ap₂ ◌&&◌ e (rises_is r new b new_cells
                  ∙ stays_under a.tick a.origin tick origin b.tick b.origin its_high off),
              ap₂ ◌&&◌ e (beyond_is r b
                  ∙ stays_up a.tick a.origin tick origin b.tick b.origin its_high off) ∙ sym e,
            )
        | inr e ↦ (
          new_later r ∙ ap (λ x. x && rises new r) e,
          ap (λ x. x && not_less (column r 2) (column r 0) (Int tick) (Int origin)) e ∙ sym e,
        )
      ]

      kept_alike : (r : Row) → IsCells r
          → (here r && not (is_later r new || list_any (is_later r) X)) ≡ (passed_of r && top r)
      kept_alike r b = elim (cases_Bool (list_any (is_later r) X)) [
        | inl e ↦ ap (λ x. here r && not x) (or_true (is_later r new) (list_any (is_later r) X) e)
            ∙ and_false (here r) ∙ sym (ap (λ x. passed_of r && not x) e ∙ and_false (passed_of r))
        | inr e ↦ let it = above r b e in
            ap (λ x. here r && not (x || list_any (is_later r) X)) it.0
            ∙ ap (λ x. x && top r) (sym it.1)
      ]

      some_above : list_any (is_later new) (new ∷ X) ≡ true
      some_above = or_true (is_later new new) (list_any (is_later new) X)
          (at_it passed_of t alone (λ x. is_later new x ≡ true → list_any (is_later new) X ≡ true)
          (any_at (is_later new) X) (later_new t
          ∙ ap₂ ◌&&◌ its_here (rises_is new t new_cells its_cells
          ∙ its_high)))

      new_differs : is_other t new ≡ true
      new_differs = new_other t ∙ ap₂ ◌&&◌ its_here (differs_is t new its_cells new_cells
          ∙ up_apart tick origin its_cells.tick its_cells.origin its_high)

      marked_made : currents_where here (new ∷ X) ≡ marked (current_of X t) ∷ []
      marked_made =
          ap (λ b. map (current_of (new ∷ X)) (cond (here new && not b) (new ∷ more) more))
          some_above
          ∙ ap (λ b. map (current_of (new ∷ X)) (cond b (new ∷ more) more)) (and_false (here new))
          ∙ ap (map (current_of (new ∷ X)))
          (filter_alike (λ r. here r && not (list_any (is_later r) (new ∷ X)))
          (λ r. passed_of r && top r) X
          (all_weaker IsCells (λ r. (here r && not (list_any (is_later r) (new ∷ X)))
          ≡ (passed_of r && top r)) kept_alike X typed)
          ∙ sym (both_filters passed_of top X) ∙ alone)
          ∙ ap (λ b. (column t 3 ∷ column t 4 ∷ column t 5 ∷ column t 2 ∷ column t 0
          ∷ binary (Compare Ne Binary) (column t 6) (Int (pos 4))
          ∷ flag (b || list_any (is_other t) X) ∷ column t 8 ∷ []) ∷ []) new_differs
        where
          more : List Row
          more = filter (λ r. here r && not (list_any (is_later r) (new ∷ X))) X

      marked_left : AllByRecursion (λ c. is_passed c ≡ is_current_of node time pico c)
          (currents_of X)
      marked_left = all_map (λ c. is_passed c ≡ is_current_of node time pico c) (current_of X) tops
          (all_both IsCells (λ r. top r ≡ true) (λ r. passed_of r ≡ here r)
          (λ r b e. (above r b (not_true (list_any (is_later r) X) e)).1) tops
          (all-filter IsCells top X typed) (filter_true top X))

  -- ---- the rows that follow

  module _ (X Y C after : List Row) (same_rows : IsPermutation (new ∷ X) Y)
      (typed : AllByRecursion IsCells X) (was : IsPermutation (currents_of X) C) where
    -- one row of currents2 passes, so one of the rows that make them does
    one_top : (p : Row → Bool) → length (filter p C) ≡ 1
        → (t : Row) × (filter (λ r. p (current_of X r)) (tops X typed) ≡ t ∷ [])
    one_top p e = only_one (filter (λ r. p (current_of X r)) (tops X typed))
        (sym (length-map (filter (λ r. p (current_of X r)) (tops X typed)) (current_of X))
        ∙ sym (ap length (filter-map p (current_of X) (tops X typed)))
        ∙ sym (length_permutation (filter p (currents_of X)) (filter p C)
        (IsPermutation-filter p (currents_of X) C was)) ∙ e)

    -- where these are the rows of the moment
    put_for : (p : Row → Bool) (now : List Row) → IsPermutation (currents_where here (new ∷ X)) now
        → AllByRecursion (λ c. p c ≡ is_current_of node time pico c) (currents_of X)
        → IsPermutation (now ++ filter (λ c. not (p c)) C) after
        → IsPermutation (currents_of Y) after
    put_for p now made left put =
        let others : filter (λ c. not (p c)) C
        ≡ filter (λ c. not (is_current_of node time pico c)) C =
        filter_alike (λ c. not (p c)) (λ c. not (is_current_of node time pico c)) C
        (all_weaker (λ c. p c ≡ is_current_of node time pico c)
        (λ c. not (p c) ≡ not (is_current_of node time pico c)) (λ c e. ap not e) C
        (all_permuted (λ c. p c ≡ is_current_of node time pico c) (currents_of X) C was left)) in
        let rest = filter (λ c. not (is_current_of node time pico c)) C in
        currents_changed origin number tick node time pico asked who value X Y C after same_rows was
        (IsPermutation-trans (currents_where here Y ++ rest) (now ++ rest) after
        (IsPermutation-append (currents_where here Y) now rest rest
        (IsPermutation-trans (currents_where here Y) (currents_where here (new ∷ X)) now
        (IsPermutation-sym (currents_where here (new ∷ X)) (currents_where here Y)
        (made_permuted is_later current_of stable_currents here (new ∷ X) Y same_rows)) made)
        (IsPermutation-refl rest)) (subst (λ l. IsPermutation (now ++ l) after) others put))

    pub raise_follows : length (filter is_raised C) ≡ 1
        → IsPermutation (raised ∷ filter (λ c. not (is_raised c)) C) after
        → IsPermutation (currents_of Y) after
    raise_follows e put =
        let one = one_top is_raised e in
        put_for is_raised (raised ∷ [])
        (subst (λ l. IsPermutation l (raised ∷ [])) (sym (raised_made X typed one.0 one.1))
        (IsPermutation-refl (raised ∷ []))) (raised_left X typed one.0 one.1) put

    pub mark_follows : length (filter is_passed C) ≡ 1
        → IsPermutation (map marked (filter is_passed C) ++ filter (λ c. not (is_passed c)) C) after
        → IsPermutation (currents_of Y) after
    mark_follows e put =
        let one = one_top is_passed e in
        let there : filter is_passed (currents_of X) ≡ current_of X one.0 ∷ [] =
        filter-map is_passed (current_of X) (tops X typed) ∙ ap (map (current_of X)) one.1 in
        put_for is_passed (map marked (filter is_passed C))
        (subst (λ l. IsPermutation l (map marked (filter is_passed C)))
        (ap (map marked) there ∙ sym (marked_made X typed one.0 one.1))
        (IsPermutation-map marked (filter is_passed (currents_of X)) (filter is_passed C)
        (IsPermutation-filter is_passed (currents_of X) C was)))
        (marked_left X typed one.0 one.1) put
