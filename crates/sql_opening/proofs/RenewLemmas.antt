-- A store of format 1 becomes one of an archive.
use Rattle.std.proofs.Common.{◌≡◌, ◌<◌, ◌≤◌, ◌+◌, ℕ, ℤ, pos, true, false, cond, not, ◌&&◌, Bool, List, [], ◌∷◌, ◌++◌, map, length, take, slice_index_or, All, Ok, Err, Result, IfOk, IfErr, refl, sym, ap, subst, ◌∙◌, inl, inr, append_assoc, append-nil, IsPermutation}
use Rattle.std.specs.List.{AllByRecursion}
use Rattle.std.proofs.lemmas.List.{map-append, take_more, take_all}
use Rattle.std.proofs.lemmas.List.Elements.{recursion_from_All, All-from_recursion}
use Rattle.std.proofs.lemmas.List.Sorted.{All-permutation, IsPermutation-refl, IsPermutation-sym, IsPermutation-trans, IsPermutation-middle, IsPermutation-cons}
use Rattle.sqlite_value.specs.Order.{Row, column}
use Rattle.sqlite_trees.specs.Tree.{Trees}
use Rattle.sqlite.specs.Effect.{Database}
use Rattle.sqlite.specs.State.{State, HasCleanDisk, IsUnchanged}
use Rattle.sqlite.proofs.StateLemmas.{survives_then}
use Rattle.sqlite_value.specs.declared.value.Value.TheVariants.{Int}
use Rattle.records.specs.Contents.{Content}
use Rattle.records.specs.Moments.{pico_of}
use Rattle.archive.specs.declared.fault.StoreFault.{StoreFault}
use Rattle.archive.specs.declared.fault.StoreFault.TheVariants.{WrongArchive, WrongReplica, Refused}
use Rattle.archive.specs.Store.{IsLawfulContent, IsOfOpening, fault_in}
use Rattle.archive.specs.Listed.{is_broken}
use Rattle.sql_opening.specs.declared.migrate.Rows1.{Rows1}
use Rattle.sql_opening.specs.declared.checking.Walk.{Walk}
use Rattle.sql_schema.specs.Tables.{archive_schema}
use Rattle.sql_tables.specs.Words.{cells}
use Rattle.sql_tables.specs.Derived.{currents_of, current_columns, vectors_of, vector_columns}
use Rattle.sql_tables.specs.Rows.{row_of, meta_cells, meta_columns}
use Rattle.sql_tables.specs.Keeping.{AddsRecord, Fills}
use Rattle.sql_tables.specs.State.{Making, IsNewArchive, Found, FoundOr, Holds, shown_of}
use Rattle.sql_opening.specs.Opening.{AnyReason, has_bytes, has_number, checked_meta, judged_as, HasWalked, OpensV1}
use Rattle.sql_opening.specs.Renewing.{columns1, cells1, current1, meta1_row, IsStored1, IsRead1, IsRenewed, IsTurned, PutsRecords}
use Rattle.sql_tables.proofs.QueryLemmas.{repaired}
use Rattle.sql_tables.proofs.DerivedLemmas.{currents_permuted, vectors_permuted}
use Rattle.sql_tables.proofs.KeptLemmas.{filled_kept}
use Rattle.sql_opening.proofs.OpenLemmas.{own_row, walked_lawful, meta_passed}

-- ---- rows of records2

pub puts_none : (db : Trees) → PutsRecords [] db db
puts_none db = record {
  records = IsPermutation-refl (cells (db 1));
  meta = refl;
  currents =
      refl;
  vectors = refl;
}

pub puts_more : (xs : List Row) (x : Row) (old mid new : Trees) → PutsRecords xs old mid
    → AddsRecord x mid new → PutsRecords (xs ++ x ∷ []) old new
puts_more xs x old mid new one two = record {
  records = subst (λ l. IsPermutation l (cells (new 1)))
      (sym (append_assoc xs (x ∷ []) (cells (old 1))))
      (IsPermutation-trans (xs ++ x ∷ cells (old 1)) (x ∷ xs ++ cells (old 1)) (cells (new 1))
      (IsPermutation-middle xs x (cells (old 1)))
      (IsPermutation-trans (x ∷ xs ++ cells (old 1)) (x ∷ cells (mid 1)) (cells (new 1))
      (IsPermutation-cons x (xs ++ cells (old 1)) (cells (mid 1)) one.records) two.records));
  meta = two.meta ∙ one.meta;
  currents = two.currents ∙ one.currents;
  vectors = two.vectors ∙ one.vectors;
}

pub puts_next : (rows : List Row) (n : ℕ) (x : Row) (old mid new : Trees) → n < length rows
    → x ≡ slice_index_or rows n x → PutsRecords (map shown_of (take n rows)) old mid
    → AddsRecord (shown_of x) mid new → PutsRecords (map shown_of (take (n + 1) rows)) old new
puts_next rows n x old mid new within is one two =
    let more : take (n + 1) rows ≡ take n rows ++ x ∷ [] =
    take_more rows n x within ∙ ap (λ y. take n rows ++ y ∷ []) (sym is) in
    subst (λ l. PutsRecords l old new) (sym
    (ap (map shown_of) more ∙ map-append shown_of (take n rows) (x ∷ [])))
    (puts_more (map shown_of (take n rows)) (shown_of x) old mid new one two)

-- rows that were gone over to the end are those of a lawful content
pub lawful_rows : (rows : List Row) (n : ℕ) (walk : Walk) → length rows ≤ n
    → HasWalked (take n rows) walk
    → (R : Content) × IsLawfulContent R × (map row_of R ≡ map shown_of rows)
lawful_rows rows n walk over walked =
    walked_lawful rows walk (subst (λ l. HasWalked l walk) (take_all n rows over) walked)

-- ---- the tables of an archive

-- new tables that were filled with the rows of a lawful content's records
pub refilled : (id : List ℕ) (own : ℤ) (rows : List Row) (made put new : Trees)
    → ((R : Content) × IsLawfulContent R × (map row_of R ≡ rows)) → IsNewArchive id own made
    → PutsRecords rows made put → Fills put new → IsRenewed id own rows new
refilled id own rows made put new (R, lawful, are) fresh puts fills =
    let there : IsPermutation rows (cells (put 1)) =
    subst (λ l. IsPermutation l (cells (put 1)))
    (ap (λ old. rows ++ cells old) fresh.records ∙ append-nil rows) puts.records in
    let moved = filled_kept put put new (
      R,
      lawful,
      subst (λ l. IsPermutation l (cells (put 1))) (sym are) there,
    )
    (record { meta = refl; records = refl }) (puts.currents ∙ fresh.currents)
    (puts.vectors ∙ fresh.vectors) fills in
    record {
      meta = ap (map meta_columns) (moved.meta ∙ puts.meta ∙ fresh.meta);
      records = subst (λ rs. IsPermutation rows (cells rs)) (sym moved.records) there;
      kept = moved.kept;
      lists = moved.lists;
    }

shown_first : (rows all : List Row) → IsPermutation (map columns1 rows) all → map shown_of all ≡ all
shown_first rows all same = repaired shown_of all (recursion_from_All (λ c. shown_of c ≡ c) all
    (All-permutation (λ c. shown_of c ≡ c) (map columns1 rows) all same
    (All-from_recursion (λ c. shown_of c ≡ c) (map columns1 rows) (each rows))))
  where
    each : (rs : List Row) → AllByRecursion (λ c. shown_of c ≡ c) (map columns1 rs)
    each [] = tt
    each (r ∷ rs) = (refl, each rs)

-- the rows that were read are those of the records
pub read_are : (db : Trees) (rows : Rows1) → IsRead1 db rows
    → map shown_of rows.records.items ≡ rows.records.items
read_are db rows read = shown_first (db 1) rows.records.items read.records

-- what was read agrees with what was made anew
pub turned : (id : List ℕ) (own : ℤ) (old mid : Trees) (rows : Rows1) (currents vectors : List Row)
    → IsRead1 old rows → IsRenewed id own (map shown_of rows.records.items) mid
    → IsPermutation (map current_columns (mid 4)) currents
    → IsPermutation (map vector_columns (mid 6)) vectors → rows.currents.items ≡ currents
    → rows.vectors.items ≡ vectors → IsTurned id own old mid
turned id own old mid rows currents vectors read made shown_currents shown_vectors same_currents
    same_vectors = record {
      currents = IsPermutation-trans (currents_of (cells1 old)) (currents_of (cells (mid 1)))
          (map current1 (old 4)) (currents_permuted (cells1 old) (cells (mid 1)) there)
          (IsPermutation-trans (currents_of (cells (mid 1))) (map current_columns (mid 4))
          (map current1 (old 4)) made.kept.currents
          (IsPermutation-trans (map current_columns (mid 4)) currents
          (map current1 (old 4)) shown_currents (subst
          (λ l. IsPermutation l (map current1 (old 4))) same_currents
          (IsPermutation-sym (map current1 (old 4)) rows.currents.items read.currents))));
      vectors = IsPermutation-trans (vectors_of (cells1 old)) (vectors_of (cells (mid 1)))
          (map vector_columns (old 6)) (vectors_permuted (cells1 old) (cells (mid 1)) there)
          (IsPermutation-trans (vectors_of (cells (mid 1))) (map vector_columns (mid 6))
          (map vector_columns (old 6)) made.kept.vectors
          (IsPermutation-trans (map vector_columns (mid 6)) vectors
          (map vector_columns (old 6)) shown_vectors
          (subst (λ l. IsPermutation l (map vector_columns (old 6))) same_vectors
          (IsPermutation-sym (map vector_columns (old 6)) rows.vectors.items read.vectors))));
      renewed = record { meta = made.meta; records = there; kept = made.kept; lists = made.lists };
    }
  where
    there : IsPermutation (cells1 old) (cells (mid 1))
    there = IsPermutation-trans (cells1 old) rows.records.items (cells (mid 1)) read.records
        (subst (λ l. IsPermutation l (cells (mid 1))) (read_are old rows read) made.records)

-- it was a store of format 1, and is one of an archive
pub stored1 : (id : List ℕ) (own : ℕ) (old new : Trees) (rows : Rows1)
    → meta_cells old ≡ meta1_row id own ∷ [] → IsRead1 old rows → IsTurned id (pos own) old new
    → IsStored1 id own old
stored1 id own old new rows meta read turned = record {
  content = read.content;
  lawful = read.lawful;
  meta = meta;
  records = subst (λ l. IsPermutation l (cells1 old)) (sym (read.are ∙ read_are old rows read))
      (IsPermutation-sym (cells1 old) rows.records.items read.records);
  currents = turned.currents;
  vectors = turned.vectors;
}

-- ---- its moments

abbrev at_zero : Row → Type 0
at_zero c = column c 5 ≡ Int (pos 0)

pub moments1 : (id : List ℕ) (own : ℕ) (db : Trees) (stored : IsStored1 id own db)
    → All (λ r. pico_of r.time ≡ 0) stored.content
moments1 id own db stored = All-from_recursion (λ r. pico_of r.time ≡ 0) stored.content
    (back stored.content (recursion_from_All at_zero (map row_of stored.content) there))
  where
    each : (rs : List Row) → AllByRecursion at_zero (map columns1 rs)
    each [] = tt
    each (r ∷ rs) = (refl, each rs)

    there : All at_zero (map row_of stored.content)
    there = All-permutation at_zero (cells1 db) (map row_of stored.content)
        (IsPermutation-sym (map row_of stored.content) (cells1 db) stored.records)
        (All-from_recursion at_zero (cells1 db) (each (db 1)))

    back : (R : Content) → AllByRecursion at_zero (map row_of R)
        → AllByRecursion (λ r. pico_of r.time ≡ 0) R
    back [] h = tt
    back (r ∷ R) (zero, h) = (
      (let is : Int (pos (pico_of r.time)) ≡ Int (pos 0) = zero in cc),
      back R h,
    )

-- ---- whose it is

pub judged_alike : (id : List ℕ) (own : ℕ) (rows : List Row) (fault : StoreFault)
    → judged_as 1 id own rows ≡ Err fault → IsOfOpening fault → checked_meta id own rows ≡ Err fault
judged_alike id own [] fault e of = e
judged_alike id own (r ∷ s ∷ rs) fault e of = e
judged_alike id own (r ∷ []) fault e of =
    go (has_bytes (column r 2) id) (has_number (column r 3) own)
    (has_number (column r 0) 1 && has_number (column r 1) 1)
    (has_number (column r 0) 1 && has_number (column r 1) 2) e
  where
    ends : (x y z : Bool) → Result Unit StoreFault
    ends x y z = cond (not x) (Err WrongArchive) (cond (not y) (Err WrongReplica)
        (cond (not z) (Err Refused) (Ok tt)))

    go : (x y z w : Bool) → ◌≡◌ {A = Result Unit StoreFault}
        (cond (not x) (Err WrongArchive) (cond (not y) (Err WrongReplica)
        (cond (not z) (Err Refused) (Ok tt)))) (Err fault)
        → ◌≡◌ {A = Result Unit StoreFault} (cond (not x) (Err WrongArchive)
        (cond (not y) (Err WrongReplica) (cond (not w) (Err Refused) (Ok tt)))) (Err fault)
    go false y z w e = e
    go true false z w e = e
    go true true true w e = absurd cc
    go true true false w e = let is : Refused ≡ fault = cc in
        absurd (elim of [
          | inl a ↦ let no : Refused ≡ WrongReplica = is ∙ a in cc
          | inr a ↦
              let no : Refused ≡ WrongArchive = is ∙ a in cc
        ])

-- new tables are those of their archive and replica
pub renewed_is_own : (id : List ℕ) (own : ℕ) (rows : List Row) (db : Trees)
    → IsRenewed id (pos own) rows db → checked_meta id own (meta_cells db) ≡ Ok tt
renewed_is_own id own rows db made = ap (checked_meta id own) made.meta ∙ own_row id own

-- what an opening makes of its rows
pub opened_rows : (id : List ℕ) (own : ℕ) (a b c : State) (result : Result Rows1 StoreFault)
    → Found a b (Ok (Ok tt)) (λ told. told ≡ judged_as 1 id own (meta_cells a.now.trees))
    → FoundOr AnyReason b c result (IsRead1 b.now.trees) → (HasCleanDisk c → HasCleanDisk b)
    → OpensV1 id own a c result
opened_rows id own a b c result one two early = record {
  opened = λ clean. go result (one.kept (early clean) refl) (one.answer (early clean))
      (two.kept clean) (two.answer clean);
  wrong = λ clean. never result two.met;
  crash = survives_then a b c _ _ _ (λ clean db none. none)
      (λ clean db none. none) one.crash two.crash;
}
  where
    go : (r : Result Rows1 StoreFault) → Holds a b
        → Ok tt ≡ judged_as 1 id own (meta_cells a.now.trees)
        → (is_broken (fault_in r) ≡ false → Holds b c) → IfOk r (IsRead1 b.now.trees)
        → IfOk r (λ rows. Holds a c × (meta_cells a.now.trees ≡ meta1_row id own ∷ [])
        × IsRead1 a.now.trees rows)
    go (Ok rows) s is more read =
        let t = more refl in
        let same = ap (λ (d : Database). d.trees) s.same in (
          record { rests = t.rests; same = t.same ∙ s.same },
          meta_passed 1 id own (a.now.trees 0) (sym is),
          subst (λ d. IsRead1 d rows) same read,
        )
    go (Err f) s is more read = tt

    never : (r : Result Rows1 StoreFault) → IfErr r (λ f. IsOfOpening f → ⊥)
        → IfErr r (λ f. IsOfOpening f → checked_meta id own (meta_cells a.now.trees) ≡ Err f)
    never (Ok t) h = tt
    never (Err f) h = λ o. absurd (h o)

-- two queries inside of a transaction change nothing
pub makes_still : (a b c : State) → Making (archive_schema false) a → IsUnchanged a b
    → IsUnchanged b c
    → Making (archive_schema false) c × (c.committed ≡ a.committed) × (c.now.trees ≡ a.now.trees)
    × (b.now.trees ≡ a.now.trees)
makes_still a b c was one two =
    let now : c.now ≡ a.now = two.0.now_is ∙ one.0.now_is in (
      record {
        inside = two.0.mode ∙ one.0.mode ∙ was.inside;
        has =
            ap (λ (d : Database). d.schema) now ∙ was.has;
      },
      two.0.committed_is ∙ one.0.committed_is,
      ap (λ (d : Database). d.trees) now,
      ap (λ (d : Database). d.trees) one.0.now_is,
    )
