-- What a query tells that shows the rows of a table which none of another table goes with.
use Rattle.std.proofs.Common.{◌≡◌, ℕ, pos, min, length, take, not, ◌&&◌, Bool, true, false, cond, List, [], ◌∷◌, ◌++◌, map, filter, flat_map, refl, sym, ap, subst, ◌∙◌, IsPermutation}
use Rattle.std.specs.List.{list_any, list_all, AllByRecursion}
use Rattle.std.proofs.lemmas.Bool.{true≢false}
use Rattle.sqlite_value.specs.declared.value.Value.{Value}
use Rattle.sqlite_value.specs.declared.value.Value.TheVariants.{Int}
use Rattle.sqlite_value.specs.Order.{Row}
use Rattle.sqlite_sql.specs.Ops.{is_true, unary}
use Rattle.sqlite_sql.specs.Term.{Term, col, op1, holds, eval_all}
use Rattle.sqlite_sql.specs.declared.ops.UnaryOp.TheVariants.{Not}
use Rattle.sqlite_sql.specs.Query.{Query, inner, end, counted, IsAnswer}
use Rattle.sqlite_sql.specs.Program.{overlay}
use Rattle.sqlite_schema.specs.declared.command.Command.TheVariants.{Select}
use Rattle.sqlite_trees.specs.Tree.{Trees}
use Rattle.sqlite_keyed.proofs.ListLemmas.{all_weaker}
use Rattle.sqlite.specs.Listing.{understood}
use Rattle.sqlite.specs.Effect.{Database}
use Rattle.sql_schema.specs.Tables.{archive_schema, IsArchiveSchema}
use Rattle.sql_tables.specs.Agreeing.{command_in, ShowsOf, ShowsSome}
use Rattle.sql_tables.proofs.MadeLemmas.{counted_is, not_flag, one_true}
use Rattle.sql_tables.proofs.AgreeLemmas.{listing, listed, first_only, none_first, none_of, none_passes, shown_is}
use Rattle.sql_tables.proofs.WholeLemmas.{none_listed, as_archive_is}

-- the rows that pass some tests, and that none of the other table goes with
abbrev pub lacking : ℕ → ℕ → List Term → List Term → List Term → Query
lacking table other when tests shown =
    listing (inner table (counted 1 (inner other end) tests end)) (when ++ op1 Not (col 2 0) ∷ [])
    shown [] first_only

all_joined : {A : Type 0} (p : A → Bool) (xs ys : List A)
    → list_all p (xs ++ ys) ≡ (list_all p xs && list_all p ys)
all_joined p [] ys = refl
all_joined p (x ∷ xs) ys =
    ap (λ b. p x && b) (all_joined p xs ys) ∙ sym (grouped (p x) (list_all p xs) (list_all p ys))
  where
    grouped : (a b c : Bool) → ((a && b) && c) ≡ (a && (b && c))
    grouped true b c = refl
    grouped false b c = refl

module _ (db : Trees) (table other : ℕ) (when tests shown : List Term) where
  abbrev pub meets : Row → Row → Bool
  meets x y = list_all (holds ([] ∷ x ∷ y ∷ [])) tests

  abbrev pub is_met : Row → Bool
  is_met x = list_any (meets x) (db other)

  abbrev count : Row → Value
  count x = Int (pos (min 1 (length (flat_map (λ y.
      cond (meets x y) (([] ∷ x ∷ y ∷ []) ∷ []) []) (db other)))))

  abbrev pub is_asked : Row → Bool
  is_asked x = list_all (holds ([] ∷ x ∷ (count x ∷ []) ∷ [])) when

  abbrev lacks : Row → Bool
  lacks x = list_all (holds ([] ∷ x ∷ (count x ∷ []) ∷ [])) (when ++ op1 Not (col 2 0) ∷ [])

  abbrev answer : Row → Row
  answer x = eval_all shown ([] ∷ x ∷ (count x ∷ []) ∷ [])

  lacks_is : (x : Row) → lacks x ≡ (is_asked x && not (is_met x))
  lacks_is x =
      all_joined (holds ([] ∷ x ∷ (count x ∷ []) ∷ [])) when (op1 Not (col 2 0) ∷ [])
      ∙ ap (λ b. is_asked x && b) (one_true (is_true (unary Not (count x)))
      ∙ ap (λ n. is_true (unary Not (Int (pos n))))
      (counted_is (meets x) (λ y. [] ∷ x ∷ y ∷ []) (db other)) ∙ not_flag (is_met x))

  answered : (rows : List Row) → IsAnswer (lacking table other when tests shown) db [] rows
      → (all : List Row) × IsPermutation (map answer (filter lacks (db table))) all
      × (rows ≡ take 1 all)
  answered rows a =
      listed (inner table (counted 1 (inner other end) tests end))
      (when ++ op1 Not (col 2 0) ∷ []) shown [] first_only [] db (db table) lacks
      (λ x. [] ∷ x ∷ (count x ∷ []) ∷ []) refl rows a

  pub all_met : IsAnswer (lacking table other when tests shown) db [] []
      → AllByRecursion (λ x. is_asked x ≡ true → is_met x ≡ true) (db table)
  all_met a =
      let got = answered [] a in
      all_weaker (λ x. lacks x ≡ false) (λ x. is_asked x ≡ true → is_met x ≡ true)
      (λ x off asked. back (is_asked x) (is_met x) asked (sym (lacks_is x) ∙ off)) (db table)
      (none_passes lacks (db table) (none_of answer (filter lacks (db table))
      (subst (IsPermutation (map answer (filter lacks (db table)))) (none_first got.0 (sym got.2))
      got.1)))
    where
      back : (a b : Bool) → a ≡ true → (a && not b) ≡ false → b ≡ true
      back true true on e = refl
      back true false on e = absurd (true≢false e)
      back false b on e = absurd (true≢false (sym on))

  pub none_shown : (rows : List Row)
      → AllByRecursion (λ x. is_asked x ≡ true → is_met x ≡ true) (db table)
      → IsAnswer (lacking table other when tests shown) db [] rows → rows ≡ []
  none_shown rows met a =
      let got = answered rows a in
      none_listed answer lacks (db table) got.0 rows
      (all_weaker (λ x. is_asked x ≡ true → is_met x ≡ true) (λ x. lacks x ≡ false)
      (λ x on. lacks_is x ∙ off (is_asked x) (is_met x) on) (db table) met) got.1 got.2
    where
      off : (a b : Bool) → (a ≡ true → b ≡ true) → (a && not b) ≡ false
      off true b on = ap not (on refl)
      off false b on = refl

-- ---- as a text shows it

module _ (sql : List ℕ) (table other : ℕ) (when tests shown : List Term) (names : List (List ℕ))
    (is : (indexed : Bool) → command_in (understood (archive_schema indexed) sql)
    ≡ Select (record { lets = []; body = lacking table other when tests shown }) names)
    (d : Database) (has : IsArchiveSchema d.schema) where
  abbrev pub AllAreMet : Type 0
  AllAreMet = AllByRecursion (λ x. is_asked (overlay d.trees []) table other when tests shown x
      ≡ true → is_met (overlay d.trees []) table other when tests shown x ≡ true)
      (overlay d.trees [] table)

  read_in : (rows : List Row) → ShowsOf sql d rows
      → IsAnswer (lacking table other when tests shown) (overlay d.trees []) [] rows
  read_in rows shows = shown_is has.0 sql (lacking table other when tests shown) names d.trees rows
      (is has.0)
      (subst (λ x. ShowsOf sql x rows) (as_archive_is d has) shows)

  pub none_lack : ShowsOf sql d [] → AllAreMet
  none_lack shows = all_met (overlay d.trees []) table other when tests shown (read_in [] shows)

  pub some_lack : ShowsSome sql d → AllAreMet → ⊥
  some_lack (row, rows, shows) met =
      let none = none_shown (overlay d.trees []) table other when tests shown (row ∷ rows) met
      (read_in (row ∷ rows) shows) in cc

-- ---- where each row is asked

pub met_all : (p : Row → Bool) (xs : List Row)
    → AllByRecursion (λ x. true ≡ true → p x ≡ true) xs → AllByRecursion (λ x. p x ≡ true) xs
met_all p xs all =
    all_weaker (λ x. true ≡ true → p x ≡ true) (λ x. p x ≡ true) (λ x on. on refl) xs all

pub all_asked : (p : Row → Bool) (xs : List Row) → AllByRecursion (λ x. p x ≡ true) xs
    → AllByRecursion (λ x. true ≡ true → p x ≡ true) xs
all_asked p xs all =
    all_weaker (λ x. p x ≡ true) (λ x. true ≡ true → p x ≡ true) (λ x on asked. on) xs all
