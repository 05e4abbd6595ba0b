-- What rows of vectors tell of the last numbers of records that were gone over, for `vectors_reach`.
use Rattle.std.proofs.Common.{◌≡◌, ◌<◌, ℕ, pos, negsuc, ◌&&◌, Bool, true, false, List, map, refl, sym, ap, ap₂, subst, ◌∙◌, IsTrue, IsPermutation, eq-eqb}
use Rattle.std.proofs.lemmas.Bool.{and_parts, eqb-true, true≢false}
use Rattle.std.proofs.lemmas.List.Sorted.{IsPermutation-sym}
use Rattle.sqlite_value.specs.declared.value.Value.{Value}
use Rattle.sqlite_value.specs.declared.value.Value.TheVariants.{Null, Int, Real, Text, Blob as Bytes}
use Rattle.sqlite_value.specs.Order.{Row, column}
use Rattle.sqlite_trees.specs.Tree.{Trees}
use Rattle.sqlite_rules.specs.Lists.{Has}
use Rattle.records.specs.Contents.{Content}
use Rattle.stamp.specs.Numbers.{number_of}
use Rattle.sql_tables.specs.Agreeing.{AreReached, HasVectors}
use Rattle.sql_tables.specs.Derived.{vector_columns}
use Rattle.sql_tables.specs.Rows.{content_in, IsFilled}
use Rattle.sql_tables.proofs.RowLemmas.{content_is}
use Rattle.sql_tables.proofs.AgreeLemmas.{any_has, all_has}
use Rattle.sql_tables.proofs.WholeLemmas.{all_has_permuted, any_by}
use Rattle.sql_tables.proofs.LastLemmas.{HasLasts, lasts_reach, kept_lasts}
use Rattle.sql_opening.specs.Opening.{has_number}
use Rattle.sql_opening.specs.Again.{has_last, TellLasts}
use Rattle.sql_opening.specs.Latest.{AreLasts}

-- ---- of a value

number_is : (v : Value) (n : ℕ) → has_number v n ≡ true → v ≡ Int (pos n)
number_is Null n e = absurd (true≢false (sym e))
number_is (Int (pos m)) n e = ap (λ k. Int (pos k)) (eqb-true m n e)
number_is (Int (negsuc m)) n e = absurd (true≢false (sym e))
number_is (Real x) n e = absurd (true≢false (sym e))
number_is (Text t) n e = absurd (true≢false (sym e))
number_is (Bytes b) n e = absurd (true≢false (sym e))

pub is_number : (v : Value) (n : ℕ) → v ≡ Int (pos n) → has_number v n ≡ true
is_number v n e = ap (λ w. has_number w n) e ∙ eq-eqb n n refl

pub no_number : (v : Value) (n : ℕ) → (v ≡ Int (pos n) → ⊥) → has_number v n ≡ false
no_number v n other = go (has_number v n) refl
  where
    go : (b : Bool) → has_number v n ≡ b → b ≡ false
    go true e = absurd (other (number_is v n e))
    go false e = refl

-- ---- of rows

module _ (R : Content) (numbers : List ℕ) (V rows : List Row) (lasts : AreLasts R numbers)
    (same : IsPermutation V rows) where
  told_lasts : TellLasts numbers rows → HasLasts R V
  told_lasts tell o some =
      let it = any_has (has_last o (number_of numbers o)) rows
      (tell o (subst (λ n. 0 < n) (sym (lasts o)) some)) in
      let parts = and_parts (has_number (column it.0 0) o)
      (has_number (column it.0 1) (number_of numbers o)) it.2 in (
        it.0,
        all_has (Has V) rows it.0 (all_has_permuted rows V (IsPermutation-sym V rows same)) it.1,
        number_is (column it.0 0) o parts.0,
        number_is (column it.0 1) (number_of numbers o) parts.1
            ∙ ap (λ n. Int (pos n)) (lasts o),
      )

  lasts_told : HasLasts R V → TellLasts numbers rows
  lasts_told there o some =
      let it = there o (subst (λ n. 0 < n) (lasts o) some) in
      any_by (has_last o (number_of numbers o)) rows it.0
      (all_has (Has rows) V it.0 (all_has_permuted V rows same) it.1)
      (ap₂ ◌&&◌ (is_number (column it.0 0) o it.2) (is_number (column it.0 1)
      (number_of numbers o) (it.3 ∙ ap (λ n. Int (pos n)) (sym (lasts o)))))

-- ---- of the tables

pub reach_told : (db : Trees) (numbers : List ℕ) (rows : List Row) → IsFilled db
    → AreLasts (content_in db) numbers → IsPermutation (map vector_columns (db 6)) rows
    → (tell : Bool) → (IsTrue tell → TellLasts numbers rows)
    → (tell ≡ false → TellLasts numbers rows → ⊥)
    → (IsTrue tell → AreReached db) × (tell ≡ false → HasVectors db → ⊥)
reach_told db numbers rows (R, l, stand) lasts same tell told lacking =
    let V = map vector_columns (db 6) in
    let mine = subst (λ C. AreLasts C numbers) (content_is R db l stand) lasts in (
      λ on. lasts_reach db R l.closed stand (told_lasts R numbers V rows mine same (told on)),
      λ off kept. lacking off (lasts_told R numbers V rows mine same
          (kept_lasts db R l.closed stand kept)),
    )
