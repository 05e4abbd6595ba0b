-- The writes of a record leave the rows that follow from those of records2.
use Rattle.std.proofs.Common.{append-nil, ◌≡◌, inl, inr, ℕ, ℤ, pos, ◌<◌, ◌≤◌, not, ◌&&◌, Bool, true, false, List, [], ◌∷◌, ◌++◌, map, filter, Some, refl, sym, ap, ap₂, subst, subst₂, ◌∙◌, arith, IsPermutation, is_eq, is_gt}
use Rattle.std.specs.List.{AllByRecursion}
use Rattle.std.specs.Ordering.{int_cmp}
use Rattle.std.proofs.lemmas.List.Elements.{recursion_from_All, All-from_recursion}
use Rattle.std.proofs.lemmas.List.Sorted.{All-permutation, IsPermutation-refl}
use Rattle.sqlite_value.specs.declared.value.Value.TheVariants.{Int}
use Rattle.sqlite_value.specs.Order.{Row, column, value_cmp}
use Rattle.sqlite_value.proofs.OrderLemmas.{value_cmp-Int}
use Rattle.sqlite_sql.specs.Ops.{binary, is_true, from_truth}
use Rattle.sqlite_trees.specs.Tree.{Trees, rowid}
use Rattle.sqlite_trees.specs.View.{is_int}
use Rattle.sqlite_keyed.proofs.ListLemmas.{filter-map, ascending-filter, all-filter}
use Rattle.ua_binary.specs.Binary.{node_id}
use Rattle.ua_variant.specs.DataValue.{data_value}
use Rattle.ua_variant.specs.UpdateType.{update_number}
use Rattle.records.specs.Lists.{Has}
use Rattle.records.specs.Moments.{ticks_of, pico_of}
use Rattle.records.specs.Contents.{Content, IsNext, vec, finding, Adds as IsAdded}
use Rattle.records.specs.declared.record.Record.{Record}
use Rattle.records.proofs.ContentLemmas.{vec_bounds}
use Rattle.records.proofs.LearnLemmas.{next_found}
use Rattle.sql_tables.specs.Words.{cells, cells_of}
use Rattle.sql_tables.specs.Derived.{AreKept, AreNumbered, IsCells, IsNextRow, currents_of, current_columns, is_current_of, is_of, is_newer, same, above, last_of, vectors_of, vector_columns}
use Rattle.sql_tables.specs.Keeping.{AddsRecord, ChangesCurrents, TakesIn, Keeps, Fills, currents_where, is_vector_of}
use Rattle.sql_tables.specs.State.{Adds, IsNewArchive, IsCompleted, KeepsFirst}
use Rattle.sql_tables.specs.Rows.{row_of, AreRecords, IsFilled}
use Rattle.sql_tables.proofs.DerivedLemmas.{currents_changed, vectors_changed}
use Rattle.sql_tables.proofs.RaiseLemmas.{new_cells}

-- ---- rows of their kinds

row_cells : (r : Record) → IsCells (row_of r)
row_cells r = record {
  origin = pos r.origin;
  number = pos r.number;
  tick = r.tick;
  node = node_id.canon r.node;
  time = ticks_of r.time;
  pico = pos (pico_of r.time);
  asked = pos (update_number r.asked);
  who = r.user;
  value = data_value.canon r.value;
  is = refl;
}

rows_cells : (R : Content) → AllByRecursion IsCells (map row_of R)
rows_cells [] = tt
rows_cells (r ∷ R) = (row_cells r, rows_cells R)

cells_permuted : (xs ys : List Row) → IsPermutation xs ys → AllByRecursion IsCells xs
    → AllByRecursion IsCells ys
cells_permuted xs ys same_rows all =
    recursion_from_All IsCells ys (All-permutation IsCells xs ys same_rows
    (All-from_recursion IsCells xs all))

-- the rows of a content have columns of their kinds
pub filled_cells : (R : Content) (db : Trees) → AreRecords R db
    → AllByRecursion IsCells (cells (db 1))
filled_cells R db stand = cells_permuted (map row_of R) (cells (db 1)) stand (rows_cells R)

-- ---- the newest row of its origin

pub same_ints : (m n : ℤ) → same (Int m) (Int n) ≡ is_eq (int_cmp m n)
unfolding binary
same_ints m n = rw (value_cmp-Int m n) (truly (is_eq (int_cmp m n)))
  where
    truly : (b : Bool) → is_true (from_truth (Some b)) ≡ b
    truly true = refl
    truly false = refl

pub above_ints : (m n : ℤ) → above (Int m) (Int n) ≡ is_gt (int_cmp m n)
unfolding binary
above_ints m n = rw (value_cmp-Int m n) (truly (is_gt (int_cmp m n)))
  where
    truly : (b : Bool) → is_true (from_truth (Some b)) ≡ b
    truly true = refl
    truly false = refl

pub newer_is : (r s : Record) → is_newer (row_of r) (row_of s)
    ≡ (is_eq (int_cmp (pos s.origin) (pos r.origin))
    && is_gt (int_cmp (pos s.number) (pos r.number)))
newer_is r s = ap₂ ◌&&◌ (same_ints (pos s.origin) (pos r.origin))
    (above_ints (pos s.number) (pos r.number))

pub not_above : (a b : ℕ) (x : Bool) → a ≤ b → (x && is_gt (int_cmp (pos a) (pos b))) ≡ false
not_above a b x below = grind (arith, below)

pub is_above : (m n a b : ℕ) → m ≡ n → b < a
    → (is_eq (int_cmp (pos m) (pos n)) && is_gt (int_cmp (pos a) (pos b))) ≡ true
is_above m n a b e up = grind (arith, e, up)

pub same_origins : (m n : ℕ) → is_eq (int_cmp (pos m) (pos n)) ≡ true → m ≡ n
same_origins m n e = grind (arith, e)

pub equal_origins : (m n : ℕ) → m ≡ n → is_eq (int_cmp (pos m) (pos n)) ≡ true
equal_origins m n e = grind (arith, e)

-- the next record's row is newer than those of its origin
pub next_row : (R : Content) (r : Record) (db : Trees) → AreRecords R db → finding R r ≡ IsAdded
    → IsNextRow (row_of r) db
next_row R r db stand adds = record {
  each = filled_cells R db stand;
  it = row_cells r;
  newest = (
    newer_is r r ∙ not_above r.number r.number (is_eq (int_cmp (pos r.origin) (pos r.origin)))
        (omega arith),
    recursion_from_All P (cells (db 1)) (All-permutation P (map row_of R) (cells (db 1)) stand
        (All-from_recursion P (map row_of R) (each R (λ z h. h)))),
  );
}
  where
    next : IsNext R r
    next = next_found R r adds

    P : Row → Type 0
    P c = (is_newer (row_of r) c ≡ false) × (same (column c 0) (column (row_of r) 0) ≡ true
        → is_newer c (row_of r) ≡ true)

    one : (s : Record) → Has R s → P (row_of s)
    one s h = (
      elim (Rattle.std.proofs.lemmas.Bool.cases_Bool
          (is_eq (int_cmp (pos s.origin) (pos r.origin)))) [
            | inl e ↦ newer_is r s ∙ not_above s.number r.number
                (is_eq (int_cmp (pos s.origin) (pos r.origin)))
                (below s h (same_origins s.origin r.origin e))
            | inr e ↦ newer_is r s ∙ ap (λ b. b && is_gt (int_cmp (pos s.number) (pos r.number))) e
          ],
      λ e. let at = same_origins s.origin r.origin
          (sym (same_ints (pos s.origin) (pos r.origin)) ∙ e) in
          newer_is s r ∙ is_above r.origin s.origin r.number s.number (sym at) (strictly s h at),
    )
      where
        strictly : (s : Record) → Has R s → s.origin ≡ r.origin → s.number < r.number
        strictly s h e = omega (
          arith,
          next.number,
          subst (λ o. s.number ≤ vec R o) e (vec_bounds R s h),
        )

        below : (s : Record) → Has R s → s.origin ≡ r.origin → s.number ≤ r.number
        below s h e = let l = strictly s h e in omega (arith, l)

    each : (F : List Record) → ((z : Record) → Has F z → Has R z) → AllByRecursion P (map row_of F)
    each [] f = tt
    each (s ∷ F) f = (one s (f s (inl refl)), each F (λ z h. f z (inr h)))

-- ---- the tables behind the writes

pub filtered_numbered : (p : Row → Bool) (rows : List Row) → AreNumbered rows
    → AreNumbered (filter p rows)
filtered_numbered p rows was = record {
  apart =
      ascending-filter (λ a b. is_eq (value_cmp (rowid a) (rowid b)) ≡ false) p rows was.apart;
  keyed = all-filter (λ r. is_int (rowid r) ≡ true) p rows was.keyed;
}

module _ (origin number tick : ℤ) (node : List ℕ) (time pico asked : ℤ) (who value : List ℕ) where
  abbrev row : Row
  row = cells_of origin number tick node time pico asked who value

  abbrev not_here : Row → Bool
  not_here c = not (is_current_of node time pico c)

  -- rows that are made anew take the row in
  pub changes_take_in : (old new : Trees) → ChangesCurrents node time pico old new
      → TakesIn row old new
  changes_take_in old new makes =
      let d = makes.dropped in
      let p = makes.put in
      record {
        rest = record {
          meta = p.rest.meta ∙ d.rest.meta;
          records = p.rest.records ∙ d.rest.records;
          vectors = p.rest.vectors ∙ d.rest.vectors;
        };
        follow = λ a.
            let left : makes.between 4 ≡ filter (λ r. not_here (current_columns r)) (old 4) =
            d.left a.numbered in
            let typed : AllByRecursion IsCells (cells (old 1)) =
            cells_permuted (row ∷ a.others) (cells (old 1)) a.records
            (new_cells origin number tick node time pico asked who value, a.typed) in
            let more : IsPermutation (currents_where (is_of node time pico)
            (cells (makes.between 1)) ++ map current_columns (makes.between 4))
            (map current_columns (new 4)) =
            p.more (subst (λ rs. AllByRecursion IsCells (cells rs)) (sym d.rest.records) typed) in
            let now : IsPermutation (currents_where (is_of node time pico) (cells (old 1))
            ++ filter not_here (map current_columns (old 4))) (map current_columns (new 4)) =
            subst₂ (λ rs ls. IsPermutation (currents_where (is_of node time pico) (cells rs) ++ ls)
            (map current_columns (new 4))) d.rest.records
            (ap (map current_columns) left ∙ sym (filter-map not_here current_columns (old 4))) more
            in (
              currents_changed origin number tick node time pico asked who value a.others
                  (cells (old 1)) (map current_columns (old 4)) (map current_columns (new 4))
                  a.records a.currents now,
              p.numbered (subst AreNumbered (sym left) (filtered_numbered
                  (λ r. not_here (current_columns r)) (old 4) a.numbered)),
            );
      }

  currents_kept : (old added changed : Trees) → AddsRecord row old added
      → TakesIn row added changed → AreKept old → AllByRecursion IsCells (cells (old 1))
      → IsPermutation (currents_of (cells (added 1))) (map current_columns (changed 4))
      × AreNumbered (changed 4)
  currents_kept old added changed adds takes was each =
      takes.follow (record {
        others = cells (old 1);
        records = adds.records;
        typed = each;
        currents = subst (λ rs. IsPermutation (currents_of (cells (old 1)))
            (map current_columns rs)) (sym adds.currents) was.currents;
        numbered = subst AreNumbered (sym adds.currents) was.numbered.0;
      })

  abbrev not_ours : Row → Bool
  not_ours c = not (is_vector_of origin c)

  -- all of them
  all_kept : (old new : Trees) → Keeps row old new → AreKept old → IsNextRow row old
      → AreKept new × IsPermutation (row ∷ cells (old 1)) (cells (new 1)) × (new 0 ≡ old 0)
  all_kept old new k was next =
      let cur = currents_kept old k.added k.changed k.adds k.currents was next.each in
      let d = k.vectors.dropped in
      let p = k.vectors.put in
      let records : new 1 ≡ k.added 1 =
      p.rest.records ∙ (d.rest.records ∙ k.currents.rest.records) in
      let currents : new 4 ≡ k.changed 4 = p.rest.currents ∙ d.rest.currents in
      let vectors : k.changed 6 ≡ old 6 =
      k.currents.rest.vectors ∙ k.adds.vectors in
      let left : k.vectors.between 6 ≡ filter (λ r. not_ours (vector_columns r)) (old 6) =
      d.left (subst AreNumbered (sym vectors) was.numbered.1)
      ∙ ap (filter (λ r. not_ours (vector_columns r))) vectors in
      let typed : AllByRecursion IsCells (cells (k.added 1)) =
      cells_permuted (row ∷ cells (old 1)) (cells (k.added 1)) k.adds.records
      (next.it, next.each) in
      let there : k.vectors.between 1 ≡ k.added 1 =
      d.rest.records ∙ k.currents.rest.records in
      let more : IsPermutation (last_of row ∷ map vector_columns (k.vectors.between 6))
      (map vector_columns (new 6)) =
      p.more (subst (λ rs. AllByRecursion IsCells (cells rs)) (sym there) typed) in
      let now : IsPermutation (last_of row ∷ filter not_ours (map vector_columns (old 6)))
      (map vector_columns (new 6)) =
      subst (λ ls. IsPermutation (last_of row ∷ ls) (map vector_columns (new 6)))
      (ap (map vector_columns) left ∙ sym (filter-map not_ours vector_columns (old 6))) more in (
        record {
          currents = subst₂ (λ rs cs.
              IsPermutation (currents_of (cells rs)) (map current_columns cs)) (sym records)
              (sym currents) cur.0;
          vectors = subst (λ rs. IsPermutation (vectors_of (cells rs)) (map vector_columns (new 6)))
              (sym records) (vectors_changed row origin (cells (old 1)) (cells (k.added 1))
              (map vector_columns (old 6))
              (map vector_columns (new 6)) refl next.newest k.adds.records was.vectors now);
          numbered = (
            subst AreNumbered (sym currents) cur.1,
            p.numbered (subst AreNumbered (sym left)
                (filtered_numbered (λ r. not_ours (vector_columns r)) (old 6) was.numbered.1)),
          );
        },
        subst (λ rs. IsPermutation (row ∷ cells (old 1)) (cells rs)) (sym records) k.adds.records,
        p.rest.meta ∙ (d.rest.meta ∙ (k.currents.rest.meta ∙ k.adds.meta)),
      )

  pub adds_by_keeping : (old new : Trees) → Keeps row old new → AreKept old → IsNextRow row old
      → Adds row old new
  adds_by_keeping old new k was next = let all = all_kept old new k was next in
      record { records = all.1; meta = all.2; kept = all.0; lists = k.vectors.lists }

-- ---- tables without rows, and tables that were filled

pub new_kept : {id : List ℕ} {own : ℤ} (db : Trees) → IsNewArchive id own db → AreKept db
new_kept db new = record {
  currents = subst₂ (λ rs cs. IsPermutation (currents_of (cells rs)) (map current_columns cs))
      (sym new.records) (sym new.currents) (IsPermutation-refl []);
  vectors = subst₂ (λ rs cs. IsPermutation (vectors_of (cells rs)) (map vector_columns cs))
      (sym new.records) (sym new.vectors) (IsPermutation-refl []);
  numbered = (
    subst AreNumbered (sym new.currents) (record { apart = tt; keyed = tt }),
    subst AreNumbered (sym new.vectors) (record { apart = tt; keyed = tt }),
  );
}

-- tables that were made and filled hold the rows that follow
pub filled_kept : (old made new : Trees) → IsFilled old → KeepsFirst old made → made 4 ≡ []
    → made 6 ≡ [] → Fills made new → IsCompleted old new
filled_kept old made new (R, l, stand) older none none_too fills =
    let typed : AllByRecursion IsCells (cells (made 1)) =
    subst (λ rs. AllByRecursion IsCells (cells rs)) (sym older.records)
    (filled_cells R old stand) in
    let between = fills.between in
    let records : new 1 ≡ made 1 = fills.vectors.rest.records ∙ fills.currents.rest.records in
    let currents : new 4 ≡ between 4 = fills.vectors.rest.currents in
    let vectors : between 6 ≡ [] = fills.currents.rest.vectors ∙ none_too in
    let first : IsPermutation (currents_of (cells (made 1))) (map current_columns (between 4)) =
    subst (λ l. IsPermutation l (map current_columns (between 4)))
    (ap (λ rs. currents_of (cells (made 1)) ++ map current_columns rs) none ∙ append-nil _)
    (fills.currents.more typed) in
    let there : AllByRecursion IsCells (cells (between 1)) =
    subst (λ rs. AllByRecursion IsCells (cells rs)) (sym fills.currents.rest.records) typed in
    let second : IsPermutation (vectors_of (cells (between 1))) (map vector_columns (new 6)) =
    subst (λ l. IsPermutation l (map vector_columns (new 6)))
    (ap (λ rs. vectors_of (cells (between 1)) ++ map vector_columns rs) vectors ∙ append-nil _)
    (fills.vectors.more there) in
    record {
      meta = fills.vectors.rest.meta ∙ (fills.currents.rest.meta ∙ older.meta);
      records = records ∙ older.records;
      kept = record {
        currents = subst₂ (λ rs cs. IsPermutation (currents_of (cells rs)) (map current_columns cs))
            (sym records) (sym currents) first;
        vectors = subst (λ rs. IsPermutation (vectors_of (cells rs)) (map vector_columns (new 6)))
            (sym fills.vectors.rest.records) second;
        numbered = (
          subst AreNumbered (sym currents) (fills.currents.numbered
              (subst AreNumbered (sym none) (record { apart = tt; keyed = tt }))),
          fills.vectors.numbered (subst AreNumbered (sym vectors)
              (record { apart = tt; keyed = tt })),
        );
      };
      lists = fills.lists;
    }
