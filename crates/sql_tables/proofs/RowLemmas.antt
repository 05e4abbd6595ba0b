-- A content and the rows that stand for it.
use Rattle.std.proofs.Common.{◌≡◌, false, List, [], ◌∷◌, map, refl, ap, subst, ◌∙◌, inl, inr, Ordering, Less, Equal, Greater, is_eq, IsPermutation, Ok}
use Rattle.std.specs.List.{flat_map, AllByRecursion}
use Rattle.std.specs.Ordering.{ordering_reverse}
use Rattle.std.specs.Cmp.{IsTotalOrder}
use Rattle.std.proofs.lemmas.List.Sorted.{IsPermutation-refl, IsPermutation-cons, IsPermutation-middle, IsPermutation-sym, IsPermutation-trans}
use Rattle.sqlite_trees.specs.Tree.{Trees}
use Rattle.sqlite_value.specs.Order.{Row}
use Rattle.sqlite_keyed.proofs.ListLemmas.{along_permutation, IsPermutation-flat_map}
use Rattle.records.specs.Lists.{Has, IsApart, sort_by}
use Rattle.records.specs.Records.{name_cmp}
use Rattle.records.specs.Contents.{Content}
use Rattle.records.specs.Spelling.{IsRecord, record_form, record_at, fields, time}
use Rattle.records.specs.declared.record.Record.{Record}
use Rattle.records.proofs.Orders.{name_total}
use Rattle.records.proofs.CloseLemmas.{closed_names}
use Rattle.records.proofs.Sorting.{same_members, rises-sort_by, has-sort_by, has_from_sort_by, has-permutation}
use Rattle.records.proofs.Spelled.{record_lawful, record_only}
use Rattle.archive.specs.Store.{IsLawfulContent}
use Rattle.sql_tables.specs.Words.{cells}
use Rattle.sql_tables.specs.Rows.{row_of, spelled, found, records_in, content_in, AreRecords}

spelled_is : (r : Record) → spelled (row_of r) ≡ record_form.canon r
unfolding record_form fields time
spelled_is r = refl

fits : (r : Record) → IsRecord r → record_form.Fits r
unfolding record_form
fits r h = h

-- what the row of a record spells is read as that record
pub read_back : (r : Record) → IsRecord r → record_at (spelled (row_of r)) ≡ Ok r
read_back r h = ap record_at (spelled_is r)
    ∙ record_only (record_form.canon r) r (record_lawful.written r (fits r h))

-- the row of a record stands for it
pub record_again : (r : Record) → IsRecord r → records_in (row_of r) ≡ r ∷ []
record_again r h = ap found (read_back r h)

pub each_record : (R : Content) → IsLawfulContent R → (r : Record) → Has R r → IsRecord r
each_record R l r h = (l.records r h, l.closed.ticks r h)

pub records_back : (rs : List Record) → ((r : Record) → Has rs r → IsRecord r)
    → flat_map records_in (map row_of rs) ≡ rs
records_back [] all = refl
records_back (r ∷ rs) all = rw (
  record_again r (all r (inl refl)),
  records_back rs (λ z h. all z (inr h)),
) refl

module _ {X : Type 0} (cmp : X → X → Ordering) (total : IsTotalOrder cmp) where
  either_way : (x y : X) → is_eq (cmp x y) ≡ false → is_eq (cmp y x) ≡ false
  either_way x y h = ap is_eq (total.antisymm y x) ∙ go (cmp x y) h
    where
      go : (o : Ordering) → is_eq o ≡ false → is_eq (ordering_reverse o) ≡ false
      go Less e = refl
      go Equal e = e
      go Greater e = refl

  all-permuted : (P : X → Type 0) (xs ys : List X) → IsPermutation xs ys → AllByRecursion P xs
      → AllByRecursion P ys
  all-permuted P = along_permutation (λ xs ys. AllByRecursion P xs → AllByRecursion P ys)
      (λ xs h. h) (λ x xs ys more h. (h.0, more h.1)) (λ x y xs h. (h.1.0, (h.0, h.1.1)))
      (λ xs ys zs p q h. q (p h))

  -- no two of a list tie, in whatever order they stand
  pub apart-permuted : (xs ys : List X) → IsPermutation xs ys → IsApart cmp xs → IsApart cmp ys
  apart-permuted xs ys same = (along_permutation
      (λ us vs. IsPermutation us vs × (IsApart cmp us → IsApart cmp vs))
      (λ us. (IsPermutation-refl us, λ h. h))
      (λ x us vs more. (
        IsPermutation-cons x us vs more.0,
        λ h. (all-permuted (λ b. is_eq (cmp x b) ≡ false) us vs more.0 h.0, more.1 h.1),
      ))
      (λ x y us. (
        IsPermutation-middle (x ∷ []) y us,
        λ h. ((either_way x y h.0.0, h.1.0), (h.0.1, h.1.1)),
      ))
      (λ us vs ws p q. (IsPermutation-trans us vs ws p.0 q.0, λ h. q.1 (p.1 h))) xs ys same).1

-- the records in rows that are those of a content are that content
pub content_from : (R : Content) (rows : List Row) → IsLawfulContent R
    → IsPermutation (map row_of R) rows → sort_by name_cmp (flat_map records_in rows) ≡ R
content_from R rows l stand =
    let back = records_back R (each_record R l) in
    let all = flat_map records_in rows in
    let same : IsPermutation R all =
    subst (λ xs. IsPermutation xs all) back (IsPermutation-flat_map records_in
    (map row_of R) rows stand) in
    let apart = apart-permuted name_cmp name_total R all same (closed_names R l.closed) in
    same_members name_cmp name_total (sort_by name_cmp all) R
    (rises-sort_by name_cmp name_total all apart) l.closed.ordered
    (λ z h. has-permutation all R z (IsPermutation-sym R all same)
    (has_from_sort_by name_cmp name_total all z h))
    (λ z h. has-sort_by name_cmp name_total all z (has-permutation R all z same h))

-- the records in the tables that stand for a content are that content
pub content_is : (R : Content) (db : Trees) → IsLawfulContent R → AreRecords R db
    → content_in db ≡ R
content_is R db = content_from R (cells (db 1))
