-- What an opening asks of vectors, and that it holds what follows from records2 then.
use Rattle.std.proofs.Common.{◌≡◌, ◌⊎◌, ◌≤◌, ◌<◌, ◌+◌, inl, inr, ℕ, ℤ, pos, not, ◌&&◌, Bool, true, false, cond, List, [], ◌∷◌, length, map, filter, codes, Some, refl, sym, ap, ap₂, subst, ◌∙◌, arith, IsPermutation, is_eq, is_gt}
use Rattle.std.specs.List.{list_any, AllByRecursion}
use Rattle.std.specs.Ordering.{int_cmp, is_ge}
use Rattle.std.proofs.lemmas.Cmp.{tied_itself}
use Rattle.std.proofs.lemmas.Bool.{true≢false, and_parts}
use Rattle.std.proofs.lemmas.List.Elements.{recursion_from_All, All-from_recursion}
use Rattle.std.proofs.lemmas.List.Sorted.{All-permutation, IsPermutation-sym, IsPermutation-trans}
use Rattle.sqlite_value.specs.declared.value.Value.{Value}
use Rattle.sqlite_value.specs.declared.value.Value.TheVariants.{Int}
use Rattle.sqlite_value.specs.declared.keys.Collation.TheVariants.{Binary}
use Rattle.sqlite_value.specs.Order.{Row, column, value_cmp}
use Rattle.sqlite_value.proofs.OrderLemmas.{value_cmp_total, value_cmp-Int}
use Rattle.sqlite_sql.specs.Ops.{is_true, binary, from_truth}
use Rattle.sqlite_sql.specs.Term.{Term, col}
use Rattle.sqlite_sql.specs.declared.ops.BinaryOp.TheVariants.{Compare}
use Rattle.sqlite_sql.specs.declared.ops.CompareOp.TheVariants.{Ge}
use Rattle.sqlite_schema.specs.declared.command.Command.TheVariants.{Select}
use Rattle.sqlite_trees.specs.Tree.{Trees, IsAscending}
use Rattle.sqlite_rules.specs.Lists.{Has}
use Rattle.sqlite_keyed.proofs.ListLemmas.{all_weaker, all_unmap, ascending-map, ascending_weaker, any_from_none, none_from_any}
use Rattle.sqlite_tied.specs.Compute.{everything}
use Rattle.sqlite.specs.Listing.{understood}
use Rattle.sqlite.specs.Effect.{Database}
use Rattle.sqlite_catalog.specs.Listing.{IsSound}
use Rattle.records.specs.Lists.{Has as HasRecord, IsApart}
use Rattle.records.specs.Records.{name_cmp}
use Rattle.records.specs.Contents.{Content, IsClosed, vec}
use Rattle.records.specs.declared.record.Record.{Record}
use Rattle.records.proofs.CloseLemmas.{closed_names}
use Rattle.records.proofs.ContentLemmas.{vec_bounds, vec_attained}
use Rattle.records.proofs.Sorting.{all-has}
use Rattle.sql_schema.specs.Tables.{archive_schema, IsArchiveSchema}
use Rattle.sql_tables.specs.Words.{cells, columns_of}
use Rattle.sql_tables.specs.Derived.{AreNumbered, IsCells, same, is_newer, int_in, last_of, vectors_of, vector_columns}
use Rattle.sql_tables.specs.Agreeing.{command_in, ShowsOf, ShowsSome, AreOfRecords, AreReached, HasVectors, reaches}
use Rattle.sql_tables.specs.Rows.{row_of, AreRecords}
use Rattle.sql_tables.proofs.Texts.{vectors_stray_text}
use Rattle.sql_tables.proofs.MadeLemmas.{eq}
use Rattle.sql_tables.proofs.DerivedLemmas.{same_turned, filled_by, vectors_permuted}
use Rattle.sql_tables.proofs.KeptLemmas.{same_ints, newer_is, not_above, same_origins, equal_origins}
use Rattle.sql_tables.proofs.AgreeLemmas.{HasNumbers, typed_vectors, three_parts, int_equal, any_has, has_mapped, all_has}
use Rattle.sql_tables.proofs.WholeLemmas.{same_int, has_from_map, all_has_permuted, any_by, three_true}
use Rattle.sql_tables.proofs.LackLemmas.{lacking, meets, none_lack, some_lack, met_all, all_asked}

-- ---- the texts

-- a row of records2 has the origin, the number and the tick of a row of vectors
abbrev pub stray_tests : List Term
stray_tests = eq (col 2 1) (col 1 0) ∷ eq (col 2 2) (col 1 2) ∷ eq (col 2 3) (col 1 3) ∷ []

pub vectors_stray_is : (indexed : Bool)
    → command_in (understood (archive_schema indexed) vectors_stray_text)
    ≡ Select (record { lets = []; body = lacking 6 1 [] stray_tests (col 1 0 ∷ []) })
    (codes "origin" ∷ [])
unfolding understood everything
vectors_stray_is indexed = refl

-- ---- lists

pub all_from : {A : Type 0} (P : A → Type 0) (xs : List A) → ((x : A) → Has xs x → P x)
    → AllByRecursion P xs
all_from P [] h = tt
all_from P (x ∷ xs) h = (h x (inl refl), all_from P xs (λ y k. h y (inr k)))

pub kept_of : {A : Type 0} (p : A → Bool) (xs : List A) (x : A) → Has (filter p xs) x
    → Has xs x × (p x ≡ true)
kept_of p [] x h = absurd h
kept_of {A} p (y ∷ xs) x h = go (p y) refl h (kept_of p xs x)
  where
    go : (b : Bool) → p y ≡ b → Has (cond b (y ∷ filter p xs) (filter p xs)) x
        → (Has (filter p xs) x → Has xs x × (p x ≡ true)) → Has (y ∷ xs) x × (p x ≡ true)
    go true e (inl is) on = (inl is, ap p is ∙ e)
    go true e (inr more) on = let it = on more in (inr it.0, it.1)
    go false e more on = let it = on more in (inr it.0, it.1)

pub has_kept : {A : Type 0} (p : A → Bool) (xs : List A) (x : A) → Has xs x → p x ≡ true
    → Has (filter p xs) x
has_kept p [] x h pass = absurd h
has_kept {A} p (y ∷ xs) x h pass = go (p y) refl h (λ k. has_kept p xs x k pass)
  where
    go : (b : Bool) → p y ≡ b → (x ≡ y) ⊎ Has xs x → (Has xs x → Has (filter p xs) x)
        → Has (cond b (y ∷ filter p xs) (filter p xs)) x
    go true e (inl is) on = inl is
    go true e (inr more) on = inr (on more)
    go false e (inl is) on = absurd (true≢false (sym pass ∙ (ap p is ∙ e)))
    go false e (inr more) on = on more

-- a list whose elements differ is no longer than one that has them
pub no_longer : {A : Type 0} (xs ys : List A) → IsAscending (λ a b. a ≡ b → ⊥) xs
    → ((x : A) → Has xs x → Has ys x) → length xs ≤ length ys
no_longer [] ys apart within = omega arith
no_longer {A} (x ∷ xs) ys apart within =
    let shorter = no_longer xs (without ys (within x (inl refl))) apart.1
    (λ z h. left ys (within x (inl refl)) z (λ e. all_has (λ b. x ≡ b → ⊥) xs z apart.0 h (sym e))
    (within z (inr h))) in
    omega (arith, shorter, one_less ys (within x (inl refl)))
  where
    without : (zs : List A) → Has zs x → List A
    without [] h = absurd h
    without (z ∷ zs) (inl e) = zs
    without (z ∷ zs) (inr h) = z ∷ without zs h

    one_less : (zs : List A) (h : Has zs x) → length zs ≡ length (without zs h) + 1
    one_less [] h = absurd h
    one_less (z ∷ zs) (inl e) = omega arith
    one_less (z ∷ zs) (inr h) = omega (arith, one_less zs h)

    left : (zs : List A) (h : Has zs x) (y : A) → (y ≡ x → ⊥) → Has zs y → Has (without zs h) y
    left [] h y other k = absurd h
    left (z ∷ zs) (inl e) y other (inl f) = absurd (other (f ∙ sym e))
    left (z ∷ zs) (inl e) y other (inr k) = k
    left (z ∷ zs) (inr h) y other (inl f) = inl f
    left (z ∷ zs) (inr h) y other (inr k) = inr (left zs h y other k)

pub itself : (v : Value) → is_eq (value_cmp v v) ≡ true
itself v = ap is_eq (tied_itself value_cmp_total v)

pub clash : (v w : Value) → v ≡ w → is_eq (value_cmp v w) ≡ false → ⊥
clash v w is off = true≢false (sym (itself v) ∙ (ap (λ u. is_eq (value_cmp v u)) is ∙ off))

-- rows that are told by their first columns
pub one_row : (xs : List Row)
    → IsAscending (λ a b. is_eq (value_cmp (column a 0) (column b 0)) ≡ false) xs → (a b : Row)
    → Has xs a → Has xs b → column a 0 ≡ column b 0 → a ≡ b
one_row [] up a b h k same_key = absurd h
one_row (x ∷ xs) up a b (inl e) (inl f) same_key = e ∙ sym f
one_row (x ∷ xs) up a b (inl e) (inr k) same_key =
    absurd (clash (column x 0) (column b 0) (ap (λ (r : Row). column r 0) (sym e) ∙ same_key)
    (all_has (λ z. is_eq (value_cmp (column x 0) (column z 0)) ≡ false) xs b up.0 k))
one_row (x ∷ xs) up a b (inr h) (inl f) same_key =
    absurd (clash (column x 0) (column a 0)
    (ap (λ (r : Row). column r 0) (sym f) ∙ sym same_key)
    (all_has (λ z. is_eq (value_cmp (column x 0) (column z 0)) ≡ false) xs a up.0 h))
one_row (x ∷ xs) up a b (inr h) (inr k) same_key = one_row xs up.1 a b h k same_key

-- ---- rows of records

pub has_rows : (R : Content) (r : Record) → HasRecord R r → Has (map row_of R) (row_of r)
has_rows [] r h = absurd h
has_rows (s ∷ R) r (inl e) = inl (ap row_of (sym e))
has_rows (s ∷ R) r (inr h) = inr (has_rows R r h)

pub rows_have : (R : Content) (c : Row) → Has (map row_of R) c
    → (r : Record) × HasRecord R r × (c ≡ row_of r)
rows_have [] c h = absurd h
rows_have (s ∷ R) c (inl e) = (s, inl refl, e)
rows_have (s ∷ R) c (inr h) = let it = rows_have R c h in (it.0, inr it.1, it.2)

tied_names : (a b : Record) → a.origin ≡ b.origin → a.number ≡ b.number
    → is_eq (name_cmp a b) ≡ true
tied_names a b origin number = grind (arith, origin, number)

by_name : (R : Content) → IsApart name_cmp R → (a b : Record) → HasRecord R a → HasRecord R b
    → a.origin ≡ b.origin → a.number ≡ b.number → a ≡ b
by_name [] apart a b h k origin number = absurd h
by_name (x ∷ R) apart a b (inl e) (inl f) origin number = sym e ∙ f
by_name (x ∷ R) apart a b (inl e) (inr k) origin number =
    absurd (true≢false (sym (subst (λ (z : Record). is_eq (name_cmp z b) ≡ true) (sym e)
    (tied_names a b origin number))
    ∙ all-has (λ z. is_eq (name_cmp x z) ≡ false) R b apart.0 k))
by_name (x ∷ R) apart a b (inr h) (inl f) origin number =
    absurd (true≢false (sym (subst (λ (z : Record). is_eq (name_cmp z a) ≡ true) (sym f)
    (tied_names b a (sym origin) (sym number)))
    ∙ all-has (λ z. is_eq (name_cmp x z) ≡ false) R a apart.0 h))
by_name (x ∷ R) apart a b (inr h) (inr k) origin number = by_name R apart.1 a b h k origin number

least_ints : (m n : ℤ) → is_true (binary (Compare Ge Binary) (Int m) (Int n)) ≡ is_ge (int_cmp m n)
unfolding binary
least_ints m n = rw (value_cmp-Int m n) (truly (is_ge (int_cmp m n)))
  where
    truly : (b : Bool) → is_true (from_truth (Some b)) ≡ b
    truly true = refl
    truly false = refl

reaches_is : (r s : Record) → reaches (row_of r) (last_of (row_of s))
    ≡ (is_eq (int_cmp (pos s.origin) (pos r.origin))
    && is_ge (int_cmp (pos s.number) (pos r.number)))
reaches_is r s =
    ap₂ ◌&&◌ (same_ints (pos s.origin) (pos r.origin)) (least_ints (pos s.number) (pos r.number))

at_least : (a b : ℕ) → is_ge (int_cmp (pos a) (pos b)) ≡ true → b ≤ a
at_least a b e = grind (arith, e)

is_least : (m n a b : ℕ) → m ≡ n → b ≤ a
    → (is_eq (int_cmp (pos m) (pos n)) && is_ge (int_cmp (pos a) (pos b))) ≡ true
is_least m n a b e up = grind (arith, e, up)

not_over : (a b : ℕ) → is_gt (int_cmp (pos a) (pos b)) ≡ false → a ≤ b
not_over a b e = grind (arith, e)

by_number : {m n : ℕ} → ◌≡◌ {A = ℤ} (pos m) (pos n) → m ≡ n
by_number e = cc

-- a record that no record of its origin is above is the newest one
none_newer : (R : Content) (s : Record)
    → ((r : Record) → HasRecord R r → r.origin ≡ s.origin → r.number ≤ s.number)
    → list_any (is_newer (row_of s)) (map row_of R) ≡ false
none_newer R s above =
    any_from_none (is_newer (row_of s)) (map row_of R) (all_from
    (λ c. is_newer (row_of s) c ≡ false) (map row_of R) (λ c h. one c (rows_have R c h)))
  where
    each : (r : Record) → HasRecord R r → is_newer (row_of s) (row_of r) ≡ false
    each r h = newer_is s r ∙ go (is_eq (int_cmp (pos r.origin) (pos s.origin))) refl
      where
        go : (b : Bool) → is_eq (int_cmp (pos r.origin) (pos s.origin)) ≡ b
            → (b && is_gt (int_cmp (pos r.number) (pos s.number))) ≡ false
        go true e = not_above r.number s.number true
            (above r h (same_origins r.origin s.origin e))
        go false e = refl

    one : (c : Row) → (r : Record) × HasRecord R r × (c ≡ row_of r)
        → is_newer (row_of s) c ≡ false
    one c (r, h, is) = subst (λ z. is_newer (row_of s) z ≡ false) (sym is) (each r h)

-- the last number of each origin that has one stands in these rows of vectors
abbrev pub HasLasts : Content → List Row → Type 0
HasLasts R V =
    (o : ℕ) → 0 < vec R o
    → (v : Row) × Has V v × (column v 0 ≡ Int (pos o)) × (column v 1 ≡ Int (pos (vec R o)))

-- ---- rows of vectors that are of records, and that reach each record

module _ (R : Content) (closed : IsClosed R) (V : List Row) where
  abbrev M : List Row
  M = map row_of R

  abbrev top : Row → Bool
  top c = not (list_any (is_newer c) M)

  module _ (lasts : (v : Row) → Has V v → (s : Record) × HasRecord R s × (v ≡ last_of (row_of s)))
      (reached : (r : Record) → HasRecord R r → list_any (reaches (row_of r)) V ≡ true) where
    -- a record whose origin's last number is there, and isn't below its own
    above_it : (r : Record) → HasRecord R r → (s : Record) × HasRecord R s
        × Has V (last_of (row_of s)) × (s.origin ≡ r.origin) × (r.number ≤ s.number)
    above_it r h =
        let got = any_has (reaches (row_of r)) V (reached r h) in
        let it = lasts got.0 got.1 in
        let parts = and_parts (is_eq (int_cmp (pos it.0.origin) (pos r.origin)))
        (is_ge (int_cmp (pos it.0.number) (pos r.number))) (sym (reaches_is r it.0)
        ∙ subst (λ v. reaches (row_of r) v ≡ true) it.2 got.2) in (
          it.0,
          it.1,
          subst (Has V) it.2 got.1,
          same_origins it.0.origin r.origin parts.0,
          at_least it.0.number r.number parts.1,
        )

    -- each that follows is there
    there : (x : Row) → Has (vectors_of M) x → Has V x
    there x h =
        let at = has_from_map last_of (filter top M) x h in
        let kept = kept_of top M at.0 at.1 in
        let it = rows_have R at.0 kept.0 in
        let up = above_it it.0 it.1 in
        let off : is_newer (row_of it.0) (row_of up.0) ≡ false =
        all_has (λ c. is_newer (row_of it.0) c ≡ false) M (row_of up.0)
        (none_from_any (is_newer (row_of it.0)) M (back
        (list_any (is_newer (row_of it.0)) M) (subst (λ c. top c ≡ true) it.2 kept.1)))
        (has_rows R up.0 up.1) in
        let under : up.0.number ≤ it.0.number = not_over up.0.number it.0.number
        (second_off _ _ (equal_origins up.0.origin it.0.origin up.3)
        (sym (newer_is it.0 up.0) ∙ off)) in
        let is : up.0 ≡ it.0 = by_name R (closed_names R closed) up.0 it.0 up.1 it.1 up.3
        (omega (arith, under, up.4)) in
        subst (Has V) (ap (λ z. last_of (row_of z)) is ∙ sym (at.2 ∙ ap last_of it.2)) up.2
      where
        back : (b : Bool) → not b ≡ true → b ≡ false
        back true e = absurd (true≢false (sym e))
        back false e = refl

        second_off : (a b : Bool) → a ≡ true → (a && b) ≡ false → b ≡ false
        second_off true b on off = off
        second_off false b on off = absurd (true≢false (sym on))

    -- and no other
    only : IsAscending (λ a b. is_eq (value_cmp (column a 0) (column b 0)) ≡ false) V → (v : Row)
        → Has V v → Has (vectors_of M) v
    only keyed v h =
        let it = lasts v h in
        let newest = none_newer R it.0 (λ r k same_origin. below it.0
        (subst (Has V) it.2 h) r same_origin (above_it r k)) in
        subst (Has (vectors_of M)) (sym it.2) (has_mapped last_of (filter top M) (row_of it.0)
        (has_kept top M (row_of it.0) (has_rows R it.0 it.1) (ap not newest)))
      where
        below : (s : Record) → Has V (last_of (row_of s)) → (r : Record) → r.origin ≡ s.origin
            → (u : Record) × HasRecord R u × Has V (last_of (row_of u)) × (u.origin ≡ r.origin)
            × (r.number ≤ u.number) → r.number ≤ s.number
        below s here r same_origin (u, is_one, there_too, origin, over) =
            let alike : last_of (row_of u) ≡ last_of (row_of s) =
            one_row V keyed (last_of (row_of u)) (last_of (row_of s)) there_too here
            (ap (λ n. Int (pos n)) (origin ∙ same_origin)) in
            let number : u.number ≡ s.number =
            by_number (ap (λ (x : Row). int_in (column x 1)) alike) in
            omega (arith, over, number)

  -- the last number of each origin that has one is there, and so each record is reached
  lasts_reach_each : HasLasts R V → (r : Record) → HasRecord R r
      → list_any (reaches (row_of r)) V ≡ true
  lasts_reach_each lasts r h =
      let some : 0 < vec R r.origin = omega (arith, vec_bounds R r h, closed.numbers r h) in
      let it = lasts r.origin some in
      any_by (reaches (row_of r)) V it.0 it.1
      (ap₂ (λ x y. same x (Int (pos r.origin))
      && is_true (binary (Compare Ge Binary) y (Int (pos r.number)))) it.2 it.3
      ∙ ap₂ ◌&&◌ (same_ints (pos r.origin) (pos r.origin))
      (least_ints (pos (vec R r.origin)) (pos r.number))
      ∙ is_least r.origin r.origin (vec R r.origin) r.number refl (vec_bounds R r h))

  -- where the rows of vectors are those that follow, the last number of each origin is there
  lasts_follow : ((x : Row) → Has (vectors_of M) x → Has V x) → HasLasts R V
  lasts_follow there o some = elim (vec_attained R o) [
    | inl none ↦ absurd (omega (arith, none, some))
    | inr last ↦
        let newest = none_newer R last.0 (λ q k same_origin. omega (
          arith,
          last.2.1,
          subst (λ p. q.number ≤ vec R p) (same_origin ∙ last.2.0) (vec_bounds R q k),
        )) in (
          last_of (row_of last.0),
          there (last_of (row_of last.0)) (has_mapped last_of (filter top M) (row_of last.0)
              (has_kept top M (row_of last.0) (has_rows R last.0 last.1) (ap not newest))),
          ap (λ n. Int (pos n)) last.2.0,
          ap (λ n. Int (pos n)) last.2.1,
        )
  ]

-- ---- of the tables

all_permuted : (P : Row → Type 0) (xs ys : List Row) → IsPermutation xs ys → AllByRecursion P xs
    → AllByRecursion P ys
all_permuted P xs ys same_rows all =
    recursion_from_All P ys (All-permutation P xs ys same_rows (All-from_recursion P xs all))

-- no two rows of vectors are of one origin
keyed_vectors : (db : Trees) → AreNumbered (db 6)
    → IsAscending (λ a b. is_eq (value_cmp (column a 0) (column b 0)) ≡ false)
    (map vector_columns (db 6))
keyed_vectors db ids = ascending-map
    (λ a b. is_eq (value_cmp (column a 0) (column b 0)) ≡ false) vector_columns (db 6) ids.apart

last_record : (R : Content) (V : List Row) → AllByRecursion (Has (map last_of (map row_of R))) V
    → (v : Row) → Has V v → (s : Record) × HasRecord R s × (v ≡ last_of (row_of s))
last_record R V each v h =
    let at = has_from_map last_of (map row_of R) v
    (all_has (Has (map last_of (map row_of R))) V v each h) in
    let it = rows_have R at.0 at.1 in (it.0, it.1, at.2 ∙ ap last_of it.2)

pub vectors_follow : (db : Trees) (R : Content) → IsClosed R → AreRecords R db
    → IsAscending (λ a b. a ≡ b → ⊥) (vectors_of (map row_of R)) → AreOfRecords db
    → AreReached db → AreNumbered (db 6) → HasVectors db
vectors_follow db R closed stand differ stands reached ids =
    let V = map vector_columns (db 6) in
    let M = map row_of R in
    let back = IsPermutation-sym _ _ stand in
    let each : AllByRecursion (Has (map last_of M)) V =
    all_weaker (Has (map last_of (cells (db 1)))) (Has (map last_of M))
    (λ v h. within v (has_from_map last_of (cells (db 1)) v h)) V stands in
    let lasts = last_record R V each in
    let on : AllByRecursion (λ r. list_any (reaches r) V ≡ true) M =
    all_permuted (λ r. list_any (reaches r) V ≡ true) (cells (db 1)) M back reached in
    let up = λ (r : Record) (h : HasRecord R r).
    all_has (λ c. list_any (reaches c) V ≡ true) M (row_of r) on (has_rows R r h) in
    let keyed = keyed_vectors db ids in
    let forth = there R closed V lasts up in
    let apart = ascending_weaker
    (λ a b. is_eq (value_cmp (column a 0) (column b 0)) ≡ false) (λ a b. a ≡ b → ⊥)
    (λ a b off is. clash (column a 0) (column b 0) (ap (λ (r : Row). column r 0) is) off) V
    keyed in
    let many : length (vectors_of M) ≡ length V = omega (
      arith,
      no_longer (vectors_of M) V differ forth,
      no_longer V (vectors_of M) apart (only R closed V lasts up keyed),
    ) in (
      IsPermutation-trans _ _ _
          (IsPermutation-sym _ _ (vectors_permuted M (cells (db 1)) stand))
          (filled_by (vectors_of M) V differ forth many),
      ids,
    )
  where
    within : (v : Row) → (c : Row) × Has (cells (db 1)) c × (v ≡ last_of c)
        → Has (map last_of (map row_of R)) v
    within v (c, h, is) =
        subst (Has (map last_of (map row_of R))) (sym is) (has_mapped last_of (map row_of R) c
        (all_has (Has (map row_of R)) (cells (db 1)) c
        (all_has_permuted _ _ (IsPermutation-sym _ _ stand)) h))

-- so each record of the tables is reached
pub lasts_reach : (db : Trees) (R : Content) → IsClosed R → AreRecords R db
    → HasLasts R (map vector_columns (db 6)) → AreReached db
lasts_reach db R closed stand lasts =
    let V = map vector_columns (db 6) in
    all_permuted (λ r. list_any (reaches r) V ≡ true) (map row_of R) (cells (db 1)) stand
    (all_from (λ r. list_any (reaches r) V ≡ true) (map row_of R)
    (λ c h. one c (rows_have R c h)))
  where
    one : (c : Row) → (r : Record) × HasRecord R r × (c ≡ row_of r)
        → list_any (reaches c) (map vector_columns (db 6)) ≡ true
    one c (r, h, is) =
        subst (λ z. list_any (reaches z) (map vector_columns (db 6)) ≡ true) (sym is)
        (lasts_reach_each R closed (map vector_columns (db 6)) lasts r h)

-- and where the rows of vectors are those that follow, the last numbers are there
pub kept_lasts : (db : Trees) (R : Content) → IsClosed R → AreRecords R db → HasVectors db
    → HasLasts R (map vector_columns (db 6))
kept_lasts db R closed stand kept =
    let V = map vector_columns (db 6) in
    let follow = vectors_permuted (map row_of R) (cells (db 1)) stand in
    lasts_follow R closed V (λ x h. all_has (Has V) (vectors_of (map row_of R)) x
    (all_has_permuted _ _ (IsPermutation-trans _ _ _ follow kept.0)) h)

-- ---- what the texts show

module _ (db : Trees) where
  abbrev stands_for : Row → Row → Bool
  stands_for = meets db 6 1 [] stray_tests (col 1 0 ∷ [])

  is_last_of : (v r : Row) → IsCells (columns_of r) → HasNumbers v → stands_for v r ≡ true
      → vector_columns v ≡ last_of (columns_of r)
  is_last_of v r it kinds fits =
      let all = three_parts (same (column r 1) (column v 0)) (same (column r 2) (column v 2))
      (same (column r 3) (column v 3)) fits in
      ap₂ ◌∷◌ (int_equal (column v 0) (column r 1) it.origin (ap (λ x. column x 0) it.is)
      kinds.origin (same_turned (column v 0) (column r 1) ∙ all.0))
      (ap₂ ◌∷◌ (int_equal (column v 2) (column r 2) it.number (ap (λ x. column x 1) it.is)
      kinds.number (same_turned (column v 2) (column r 2) ∙ all.1))
      (ap (λ y. y ∷ []) (int_equal (column v 3) (column r 3) it.tick
      (ap (λ x. column x 2) it.is) kinds.tick (same_turned (column v 3) (column r 3) ∙ all.2))))

  all_of_records : AllByRecursion IsCells (cells (db 1)) → AllByRecursion HasNumbers (db 6)
      → AllByRecursion (λ v. list_any (stands_for v) (db 1) ≡ true) (db 6) → AreOfRecords db
  all_of_records typed kinds all = go (db 6) kinds all
    where
      one : (v : Row) → HasNumbers v → list_any (stands_for v) (db 1) ≡ true
          → Has (map last_of (cells (db 1))) (vector_columns v)
      one v kind on =
          let found = any_has (stands_for v) (db 1) on in
          let in_cells = has_mapped columns_of (db 1) found.0 found.1 in
          let it = all_has IsCells (cells (db 1)) (columns_of found.0) typed in_cells in
          subst (Has (map last_of (cells (db 1)))) (sym (is_last_of v found.0 it kind found.2))
          (has_mapped last_of (cells (db 1)) (columns_of found.0) in_cells)

      go : (vs : List Row) → AllByRecursion HasNumbers vs
          → AllByRecursion (λ v. list_any (stands_for v) (db 1) ≡ true) vs
          → AllByRecursion (Has (map last_of (cells (db 1)))) (map vector_columns vs)
      go [] kinds all = tt
      go (v ∷ vs) kinds all = (one v kinds.0 all.0, go vs kinds.1 all.1)

  all_stand : AllByRecursion IsCells (cells (db 1)) → HasVectors db
      → AllByRecursion (λ v. list_any (stands_for v) (db 1) ≡ true) (db 6)
  all_stand typed kept =
      all_weaker (λ v. Has (vectors_of (cells (db 1))) (vector_columns v))
      (λ v. list_any (stands_for v) (db 1) ≡ true) one (db 6)
      (all_unmap (Has (vectors_of (cells (db 1)))) vector_columns (db 6)
      (all_has_permuted _ _ (IsPermutation-sym _ _ kept.0)))
    where
      one : (v : Row) → Has (vectors_of (cells (db 1))) (vector_columns v)
          → list_any (stands_for v) (db 1) ≡ true
      one v h =
          let top = λ (c : Row). not (list_any (is_newer c) (cells (db 1))) in
          let at = has_from_map last_of (filter top (cells (db 1))) (vector_columns v) h in
          let row = has_from_map columns_of (db 1) at.0
          (kept_of top (cells (db 1)) at.0 at.1).0 in
          let it = all_has IsCells (cells (db 1)) (columns_of row.0) typed
          (has_mapped columns_of (db 1) row.0 row.1) in
          let is : vector_columns v ≡ last_of (columns_of row.0) = at.2 ∙ ap last_of row.2 in
          let eqs = λ (i : ℕ). ap (λ (x : Row). column x i) is in
          any_by (stands_for v) (db 1) row.0 row.1 (three_true
          (same_int (column row.0 1) (column v 0) it.origin (sym (eqs 0))
          (eqs 0 ∙ ap (λ x. column x 0) it.is))
          (same_int (column row.0 2) (column v 2) it.number (sym (eqs 1))
          (eqs 1 ∙ ap (λ x. column x 1) it.is))
          (same_int (column row.0 3) (column v 3) it.tick (sym (eqs 2))
          (eqs 2 ∙ ap (λ x. column x 2) it.is)))

module _ (d : Database) (has : IsArchiveSchema d.schema) where
  pub vectors_stand_of : IsSound d.schema d.trees → AllByRecursion IsCells (cells (d.trees 1))
      → ShowsOf vectors_stray_text d [] → AreNumbered (d.trees 6) → AreOfRecords d.trees
  vectors_stand_of sound typed none ids =
      all_of_records d.trees typed
      (typed_vectors has.0 d.trees (subst (λ s. IsSound s d.trees) has.1 sound) ids)
      (met_all (λ v. list_any (stands_for d.trees v) (d.trees 1)) (d.trees 6)
      (none_lack vectors_stray_text 6 1 [] stray_tests (col 1 0 ∷ []) _ vectors_stray_is d has
      none))

  pub vectors_stray_some : AllByRecursion IsCells (cells (d.trees 1))
      → ShowsSome vectors_stray_text d → HasVectors d.trees → ⊥
  vectors_stray_some typed some kept =
      some_lack vectors_stray_text 6 1 [] stray_tests (col 1 0 ∷ []) _ vectors_stray_is d has some
      (all_asked (λ v. list_any (stands_for d.trees v) (d.trees 1)) (d.trees 6)
      (all_stand d.trees typed kept))
