-- Rows that are taken out of a table, by their rowids.
use Rattle.std.proofs.Common.{◌≡◌, ℤ, Bool, true, false, cond, not, ◌||◌, List, [], ◌∷◌, map, filter, refl, sym, ap, ◌∙◌, IsPermutation, is_eq, Ordering, Less, Equal, Greater}
use Rattle.std.specs.List.{list_any, AllByRecursion}
use Rattle.std.specs.Ordering.{ordering_reverse}
use Rattle.std.proofs.lemmas.Cmp.{tied_itself}
use Rattle.std.proofs.lemmas.List.Sorted.{list_any-IsPermutation}
use Rattle.sqlite_value.specs.Order.{Row, value_cmp}
use Rattle.sqlite_value.proofs.OrderLemmas.{value_cmp_total}
use Rattle.sqlite_trees.specs.Tree.{IsAscending, rowid, has_rowid, without_rowid}
use Rattle.sqlite_trees.specs.View.{is_int}
use Rattle.sqlite_trees.proofs.ListLemmas.{filter_all, all_of, all_both}
use Rattle.sqlite_rules.specs.Edit.{id_in, without_all}
use Rattle.sqlite_rules.proofs.TableLemmas.{int_is}

-- no two rows have one rowid
abbrev pub IsApartBy : List Row → Type 0
IsApartBy = IsAscending (λ a b. is_eq (value_cmp (rowid a) (rowid b)) ≡ false)

-- what an edit takes out, one rowid after the other
taken_out : (ids : List ℤ) (rows : List Row)
    → without_all rows ids ≡ filter (λ r. not (list_any (λ id. has_rowid id r) ids)) rows
taken_out [] rows = sym (filter_all (λ _. true) rows (all_of (λ _. true ≡ true) (λ _. refl) rows))
taken_out (id ∷ ids) rows = taken_out ids (without_rowid id rows) ∙ twice rows
  where
    twice : (rs : List Row) → filter (λ r. not (list_any (λ i. has_rowid i r) ids))
        (without_rowid id rs) ≡ filter (λ r.
        not (has_rowid id r || list_any (λ i. has_rowid i r) ids)) rs
    twice [] = refl
    twice (r ∷ rs) = go (has_rowid id r) (list_any (λ i. has_rowid i r) ids) refl refl (twice rs)
      where
        go : (a b : Bool) → has_rowid id r ≡ a → list_any (λ i. has_rowid i r) ids ≡ b
            → filter (λ r. not (list_any (λ i. has_rowid i r) ids)) (without_rowid id rs)
            ≡ filter (λ r. not (has_rowid id r || list_any (λ i. has_rowid i r) ids)) rs
            → filter (λ r. not (list_any (λ i. has_rowid i r) ids))
            (cond (not a) (r ∷ without_rowid id rs) (without_rowid id rs))
            ≡ cond (not (a || b)) (r
            ∷ filter (λ r. not (has_rowid id r || list_any (λ i. has_rowid i r) ids)) rs)
            (filter (λ r. not (has_rowid id r || list_any (λ i. has_rowid i r) ids)) rs)
        go true b p q more = more
        go false true p q more = rw q more
        go false false p q more = rw q (ap (λ l. r ∷ l) more)

abbrev pub AreKeyed : List Row → Type 0
AreKeyed = AllByRecursion (λ r. is_int (rowid r) ≡ true)

abbrev pub ids_where : (Row → Bool) → List Row → List ℤ
ids_where p rows = map (λ x. id_in (rowid x)) (filter p rows)

abbrev pub is_gone : List ℤ → Row → Bool
is_gone ids r = list_any (λ id. has_rowid id r) ids

has_self : (r : Row) → is_int (rowid r) ≡ true → has_rowid (id_in (rowid r)) r ≡ true
has_self r int = ap (λ v. is_eq (value_cmp (rowid r) v)) (sym (int_is (rowid r) int))
    ∙ ap is_eq (tied_itself value_cmp_total (rowid r))

turned : (o : Ordering) → is_eq (ordering_reverse o) ≡ is_eq o
turned Less = refl
turned Equal = refl
turned Greater = refl

has_other : (r x : Row) → is_int (rowid r) ≡ true → is_eq (value_cmp (rowid r) (rowid x)) ≡ false
    → has_rowid (id_in (rowid r)) x ≡ false
has_other r x int apart =
    ap (λ v. is_eq (value_cmp (rowid x) v)) (sym (int_is (rowid r) int))
    ∙ ap is_eq (value_cmp_total.antisymm (rowid x) (rowid r))
    ∙ turned (value_cmp (rowid r) (rowid x)) ∙ apart

has_later : (r x : Row) → is_int (rowid x) ≡ true → is_eq (value_cmp (rowid r) (rowid x)) ≡ false
    → has_rowid (id_in (rowid x)) r ≡ false
has_later r x int apart = ap (λ v. is_eq (value_cmp (rowid r) v)) (sym (int_is (rowid x) int))
    ∙ apart

never : (p : Row → Bool) (r : Row) (xs : List Row)
    → AllByRecursion (λ x. is_eq (value_cmp (rowid r) (rowid x)) ≡ false) xs → AreKeyed xs
    → is_gone (ids_where p xs) r ≡ false
never p r [] none keyed = refl
never p r (x ∷ xs) none keyed = go (p x) (never p r xs none.1 keyed.1)
  where
    go : (b : Bool) → is_gone (ids_where p xs) r ≡ false
        → is_gone (map (λ x. id_in (rowid x)) (cond b (x ∷ filter p xs) (filter p xs))) r ≡ false
    go true more = rw (has_later r x keyed.0 none.0, more)
    go false more = more

first_gone : (p : Row → Bool) (r : Row) (rs : List Row) (b : Bool) → p r ≡ b
    → AllByRecursion (λ x. is_eq (value_cmp (rowid r) (rowid x)) ≡ false) rs
    → is_int (rowid r) ≡ true → AreKeyed rs
    → is_gone (map (λ x. id_in (rowid x)) (cond b (r ∷ filter p rs) (filter p rs))) r ≡ p r
first_gone p r rs true is none int keyed = rw (has_self r int, is)
first_gone p r rs false is none int keyed = never p r rs none keyed ∙ sym is

later_gone : (p : Row → Bool) (r x : Row) (rs : List Row) (b : Bool) → is_int (rowid r) ≡ true
    → is_eq (value_cmp (rowid r) (rowid x)) ≡ false → is_gone (ids_where p rs) x ≡ p x
    → is_gone (map (λ y. id_in (rowid y)) (cond b (r ∷ filter p rs) (filter p rs))) x ≡ p x
later_gone p r x rs true int apart more = rw (has_other r x int apart) more
later_gone p r x rs false int apart more = more

each_gone : (p : Row → Bool) (rows : List Row) → IsApartBy rows → AreKeyed rows
    → AllByRecursion (λ r. is_gone (ids_where p rows) r ≡ p r) rows
each_gone p [] apart keyed = tt
each_gone p (r ∷ rs) apart keyed = (
  first_gone p r rs (p r) refl apart.0 keyed.0 keyed.1,
  all_both (λ x. is_eq (value_cmp (rowid r) (rowid x)) ≡ false)
      (λ x. is_gone (ids_where p rs) x ≡ p x) (λ x. is_gone (ids_where p (r ∷ rs)) x ≡ p x)
      (λ x a b. later_gone p r x rs (p r) keyed.0 a b) rs apart.0 (each_gone p rs apart.1 keyed.1),
)

filter_on : (p q : Row → Bool) (rows : List Row) → AllByRecursion (λ r. p r ≡ q r) rows
    → filter (λ r. not (p r)) rows ≡ filter (λ r. not (q r)) rows
filter_on p q [] same = refl
filter_on p q (r ∷ rows) same = rw (same.0, filter_on p q rows same.1)

-- with no rowid twice, the rows that pass are taken out
pub left_without : (p : Row → Bool) (rows : List Row) → IsApartBy rows → AreKeyed rows
    → without_all rows (ids_where p rows) ≡ filter (λ r. not (p r)) rows
left_without p rows apart keyed = taken_out (ids_where p rows) rows
    ∙ filter_on (is_gone (ids_where p rows)) p rows (each_gone p rows apart keyed)

pub same_taken : (xs ys : List ℤ) (rows : List Row) → IsPermutation xs ys
    → without_all rows ys ≡ without_all rows xs
same_taken xs ys rows same = taken_out ys rows ∙ each rows ∙ sym (taken_out xs rows)
  where
    each : (rs : List Row) → filter (λ r. not (is_gone ys r)) rs
        ≡ filter (λ r. not (is_gone xs r)) rs
    each [] = refl
    each (r ∷ rs) = rw (sym (list_any-IsPermutation (λ id. has_rowid id r) xs ys same), each rs)
