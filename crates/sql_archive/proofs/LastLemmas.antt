-- The last record of an origin, by its row of vectors.
use Rattle.std.proofs.Common.{◌≡◌, inl, inr, ℕ, ℤ, ◌≤◌, Ok, Err, Result, IfOk, IfErr, pos, not, ◌&&◌, Bool, true, false, List, [], ◌∷◌, map, filter, refl, sym, ap, subst, ◌∙◌, arith, is_eq, is_gt, IsPermutation}
use Rattle.std.specs.List.{list_any}
use Rattle.std.specs.Ordering.{int_cmp}
use Rattle.std.proofs.lemmas.Bool.{true≢false, cases_lt, cases_Bool}
use Rattle.std.proofs.lemmas.List.Sorted.{IsPermutation-sym, IsPermutation-trans}
use Rattle.sqlite_value.specs.Order.{Row}
use Rattle.sqlite_trees.specs.Tree.{Trees}
use Rattle.sqlite_keyed.proofs.ListLemmas.{any_from_none, none_from_any, IsPermutation-filter}
use Rattle.records.specs.Lists.{Has}
use Rattle.records.specs.Contents.{vec, last_tick}
use Rattle.records.specs.declared.record.Record.{Record}
use Rattle.records.proofs.ContentLemmas.{vec_is, vec_bounds, vec_attained}
use Rattle.records.proofs.GreatestLemmas.{last_attained, last_of_last}
use Rattle.records.proofs.Sorting.{all-has, all_from_has, has-permutation, has_from_filter, has-filter}
use Rattle.archive.proofs.Turning.{has-map, has_from_map}
use Rattle.sql_tables.specs.Words.{cells}
use Rattle.sql_tables.specs.Rows.{row_of, content_in, IsFilled}
use Rattle.sql_tables.specs.Derived.{AreKept, is_newer, last_of, vectors_of, vector_columns}
use Rattle.sql_tables.specs.Keeping.{is_vector_of}
use Rattle.sql_tables.specs.Learning.{IsLast, end_of}
use Rattle.std.specs.Result.{IsOkAnd}
use Rattle.records.specs.declared.fault.RecordFault.{RecordFault}
use Rattle.sql_archive.specs.Ends.{LacksEnd}
use Rattle.sql_tables.proofs.RowLemmas.{content_is}
use Rattle.sql_tables.proofs.DerivedLemmas.{vectors_permuted}
use Rattle.sql_tables.proofs.KeptLemmas.{newer_is, not_above, is_above, same_ints, same_origins, equal_origins}

last_both : (db : Trees) (origin : ℕ) (rows : List Row) → IsFilled db → AreKept db
    → IsPermutation (filter (is_vector_of (pos origin)) (map vector_columns (db 6))) rows
    → IsLast (content_in db) origin (end_of rows) × (LacksEnd rows → ⊥)
last_both db origin rows (R, l, stand) kept shown =
    subst (λ S. IsLast S origin (end_of rows) × (LacksEnd rows → ⊥)) (sym (content_is R db l stand))
    (go rows refl)
  where
    X : List Row
    X = map row_of R

    top : Row → Bool
    top c = not (list_any (is_newer c) X)

    ours : Row → Bool
    ours c = is_vector_of (pos origin) c

    perm : IsPermutation (filter ours (vectors_of X)) rows
    perm =
        IsPermutation-trans (filter ours (vectors_of X))
        (filter ours (map vector_columns (db 6))) rows
        (IsPermutation-filter ours (vectors_of X) (map vector_columns (db 6))
        (IsPermutation-trans (vectors_of X) (vectors_of (cells (db 1)))
        (map vector_columns (db 6)) (vectors_permuted X (cells (db 1)) stand) kept.vectors))
        shown

    flipped : (b : Bool) → not b ≡ true → b ≡ false
    flipped true e = absurd (true≢false (sym e))
    flipped false e = refl

    -- a record of the origin than which none of it has a greater number
    IsTop : Record → Type 0
    IsTop r = Has R r × (r.origin ≡ origin) × ((z : Record) → Has R z → z.origin ≡ origin
        → z.number ≤ r.number)

    below : (r z : Record) → z.origin ≡ r.origin → is_newer (row_of r) (row_of z) ≡ false
        → z.number ≤ r.number
    below r z e off = elim (cases_lt r.number z.number) [
      | inl lt ↦ absurd (true≢false
          (sym (newer_is r z ∙ is_above z.origin r.origin z.number r.number e lt) ∙ off))
      | inr le ↦ le
    ]

    -- each row is that of such a record
    of_top : (x : Row) → Has rows x → (r : Record) × IsTop r × (x ≡ last_of (row_of r))
    of_top x h =
        let held = has_from_filter ours (vectors_of X) x
        (has-permutation rows (filter ours (vectors_of X)) x
        (IsPermutation-sym (filter ours (vectors_of X)) rows perm) h) in
        let c = has_from_map last_of (filter top X) x held.0 in
        let up = has_from_filter top X c.0 c.1 in
        let r = has_from_map row_of R c.0 up.0 in
        let is : x ≡ last_of (row_of r.0) = sym c.2 ∙ ap last_of (sym r.2) in
        let own : ours (last_of (row_of r.0)) ≡ true = subst (λ y. ours y ≡ true) is held.1 in
        let from : r.0.origin ≡ origin =
        same_origins r.0.origin origin (sym (same_ints (pos r.0.origin) (pos origin)) ∙ own) in
        let none : list_any (is_newer (row_of r.0)) X ≡ false =
        flipped (list_any (is_newer (row_of r.0)) X)
        (subst (λ d. top d ≡ true) (sym r.2) up.1) in (
          r.0,
          (
            r.1,
            from,
            λ z k e.
                below r.0 z (e ∙ sym from) (all-has (λ d. is_newer (row_of r.0) d ≡ false) X
                (row_of z)
                (none_from_any (is_newer (row_of r.0)) X none) (has-map row_of R z k)),
          ),
          is,
        )

    not_newer : (r : Record) → IsTop r → (z : Record) → Has R z
        → is_newer (row_of r) (row_of z) ≡ false
    not_newer r t z k =
        let same_one = is_eq (int_cmp (pos z.origin) (pos r.origin)) in
        elim (cases_Bool (is_eq (int_cmp (pos z.origin) (pos r.origin)))) [
          | inl e ↦ newer_is r z ∙ not_above z.number r.number same_one
              (t.2 z k (same_origins z.origin r.origin e ∙ t.1))
          | inr e ↦ newer_is r z ∙ ap (λ b. b && is_gt (int_cmp (pos z.number) (pos r.number))) e
        ]

    none_newer : (r : Record) → IsTop r → (d : Row) → Has X d → is_newer (row_of r) d ≡ false
    none_newer r t d h = let z = has_from_map row_of R d h in
        subst (λ e. is_newer (row_of r) e ≡ false) z.2 (not_newer r t z.0 z.1)

    -- and each such record has its row
    there : (r : Record) → IsTop r → Has rows (last_of (row_of r))
    there r t =
        let none : list_any (is_newer (row_of r)) X ≡ false =
        any_from_none (is_newer (row_of r)) X (all_from_has
        (λ d. is_newer (row_of r) d ≡ false) X (none_newer r t)) in
        let own : ours (last_of (row_of r)) ≡ true =
        same_ints (pos r.origin) (pos origin) ∙ equal_origins r.origin origin t.1 in
        has-permutation (filter ours (vectors_of X)) rows (last_of (row_of r)) perm
        (has-filter ours (vectors_of X) (last_of (row_of r))
        (has-map last_of (filter top X) (row_of r)
        (has-filter top X (row_of r) (has-map row_of R r t.0) (ap not none))) own)

    bound : (s : Record) → Has R s → s.origin ≡ origin → s.number ≤ vec R origin
    bound s k e = subst (λ o. s.number ≤ vec R o) e (vec_bounds R s k)

    -- an origin with a record has such a one
    some_top : (z : Record) → Has R z → z.origin ≡ origin → (r : Record) × IsTop r
    some_top z k from = elim (vec_attained R origin) [
      | inl zero_is ↦ (z, (k, from, λ s m e. let b = bound s m e in omega (arith, b, zero_is)))
      | inr h ↦ let named = h.2.1 in
          (h.0, (h.1, h.2.0, λ s m e. let b = bound s m e in omega (arith, b, named)))
    ]

    go : (xs : List Row) → rows ≡ xs → IsLast R origin (end_of xs) × (LacksEnd xs → ⊥)
    go [] e =
        let none : (z : Record) → Has R z → z.origin ≡ origin → ⊥ = λ z k from. let t =
        some_top z k from in subst (λ l. Has l (last_of (row_of t.0))) e (there t.0 t.1) in (
          (
            vec_is R origin 0 (λ z h from. absurd (none z h from)) (inl refl),
            elim (last_attained R origin) [ inl is ↦ is | inr w ↦ absurd (none w.0 w.1 w.2) ],
          ),
          λ lacks. lacks,
        )
    go (x ∷ xs) e =
        let t = of_top x (subst (λ l. Has l x) (sym e) (inl refl)) in
        let r = t.0 in
        let greatest : vec R origin ≡ r.number =
        vec_is R origin r.number t.1.2 (inr (r, t.1.0, (t.1.1, refl))) in
        let tick : last_tick R origin ≡ r.tick =
        sym (last_of_last R r l.closed t.1.0 (sym greatest ∙ sym (ap (vec R) t.1.1))
        ∙ ap (last_tick R) t.1.1) in
        subst (λ y. IsLast R origin (end_of (y ∷ xs)) × (LacksEnd (y ∷ xs) → ⊥)) (sym t.2)
        ((greatest, tick), λ lacks. lacks r.number r.tick refl refl)

-- what is read of the row is the last number and tick, and it is read
pub last_read : (db : Trees) (origin : ℕ) (rows : List Row) (told : Result (ℕ × ℤ) RecordFault)
    → IsFilled db → AreKept db
    → IsPermutation (filter (is_vector_of (pos origin)) (map vector_columns (db 6))) rows
    → IfOk told (λ last. last ≡ end_of rows) → IfErr told (λ _. LacksEnd rows)
    → IsOkAnd told (IsLast (content_in db) origin)
last_read db origin rows (Ok last) filled kept shown is other =
    subst (IsLast (content_in db) origin) (sym is) (last_both db origin rows filled kept shown).0
last_read db origin rows (Err e) filled kept shown is other =
    absurd ((last_both db origin rows filled kept shown).1 other)
