-- What an opening asks of currents2.
use Rattle.std.proofs.Common.{◌≡◌, ◌⊎◌, inl, inr, ℕ, ℤ, pos, not, ◌&&◌, ◌||◌, Bool, true, false, cond, List, [], ◌∷◌, map, filter, codes, Option, Some, None, unwrap_or, refl, sym, ap, ap₂, subst, ◌∙◌, arith}
use Rattle.std.specs.List.{list_any, list_all, AllByRecursion}
use Rattle.std.specs.Ordering.{int_cmp, is_ne}
use Rattle.std.proofs.lemmas.Cmp.{tied_itself}
use Rattle.std.proofs.lemmas.Int.{ints}
use Rattle.std.proofs.lemmas.Bool.{true≢false, and_parts, and_from}
use Rattle.std.proofs.lemmas.List.Sorted.{IsPermutation-sym}
use Rattle.sqlite_value.specs.declared.value.Value.{Value}
use Rattle.sqlite_value.specs.declared.value.Value.TheVariants.{Null, Int, Real, Text, Blob}
use Rattle.sqlite_value.specs.declared.keys.Collation.TheVariants.{Binary}
use Rattle.sqlite_value.specs.Keys.{first_key, plain}
use Rattle.sqlite_value.specs.Order.{Row, column, value_cmp}
use Rattle.sqlite_value.proofs.OrderLemmas.{value_cmp_total, value_cmp-Int}
use Rattle.sqlite_sql.specs.Ops.{is_null, is_true, unary, binary, truth, from_truth, and3, or3}
use Rattle.sqlite_sql.specs.Term.{Term, lit, col, op1, op2}
use Rattle.sqlite_sql.specs.declared.ops.UnaryOp.TheVariants.{ToNumeric}
use Rattle.sqlite_sql.specs.declared.ops.BinaryOp.TheVariants.{Compare, And, Or}
use Rattle.sqlite_sql.specs.declared.ops.CompareOp.TheVariants.{Eq, Ne, Gt}
use Rattle.sqlite_schema.specs.declared.command.Command.TheVariants.{Select}
use Rattle.sqlite_schema.specs.declared.schema.Constraint.TheVariants.{Unique}
use Rattle.sqlite_schema.specs.declared.schema.Kind.TheVariants as kind
use Rattle.sqlite_schema.specs.Rules.{is_of, passes, guards, agree, clashes, differ}
use Rattle.sqlite_trees.specs.Tree.{Trees, rowid}
use Rattle.sqlite_trees.specs.View.{is_int}
use Rattle.sqlite_rules.specs.Lists.{Has}
use Rattle.sqlite_keyed.proofs.ListLemmas.{none_from_any, all_map, all_both}
use Rattle.sqlite_tied.specs.Compute.{everything}
use Rattle.sqlite.specs.Listing.{understood}
use Rattle.sqlite.specs.Effect.{Database}
use Rattle.sqlite_catalog.specs.Listing.{IsSound}
use Rattle.sql_schema.specs.Tables.{archive_schema, IsArchiveSchema, live_indexes, third_table}
use Rattle.sql_tables.specs.Words.{cells, columns_of}
use Rattle.sql_tables.specs.Derived.{IsCells, is_later, is_other, same, above, flag, current_of, currents_of, current_columns}
use Rattle.sql_tables.specs.Agreeing.{command_in, ShowsOf, ShowsSome, IsAt, IsStamped, IsShownBy, AreStamped, AreSingle, AreTelling, AreShown, HasCurrents}
use Rattle.sql_tables.proofs.Texts.{currents_stray_text, currents_alone_text, currents_hide_text}
use Rattle.sql_tables.proofs.MadeLemmas.{eq, one_true, other_alike}
use Rattle.sql_tables.proofs.DerivedLemmas.{same_turned}
use Rattle.sql_tables.proofs.AgreeLemmas.{HasInts, typed_currents, int_equal, blob_equal, numeric_int, live_is, any_has, has_mapped, all_has}
use Rattle.sql_tables.proofs.WholeLemmas.{same_int, same_blob, has_from_map, all_has_permuted, any_by, int_of}
use Rattle.sql_tables.proofs.LastLemmas.{all_from, kept_of, one_row}
use Rattle.sql_tables.proofs.LackLemmas.{lacking, meets, none_lack, some_lack, met_all, all_asked}
use Rattle.sql_tables.proofs.TopLemmas.{follow_shows}

-- ---- the texts

-- a row of records2 is of a current value's node, time and picoseconds
abbrev pub at_current : List Term → List Term
at_current more = eq (col 2 4) (col 1 1) ∷ eq (col 2 5) (col 1 2) ∷ eq (col 2 6) (col 1 3) ∷ more

-- and of its stamp
abbrev pub stray_tests : List Term
stray_tests = at_current (eq (col 2 3) (col 1 4) ∷ eq (col 2 1) (col 1 5) ∷ [])

pub currents_stray_is : (indexed : Bool)
    → command_in (understood (archive_schema indexed) currents_stray_text)
    ≡ Select (record { lets = []; body = lacking 4 1 [] stray_tests (col 1 5 ∷ []) })
    (codes "origin" ∷ [])
unfolding understood everything
currents_stray_is indexed = refl

-- it tells of others
abbrev pub telling : List Term
telling = op2 (Compare Ne Binary) (col 1 7) (lit (Int (pos 0))) ∷ []

-- a row of records2 is of its moment and of another stamp
abbrev pub alone_tests : List Term
alone_tests = at_current (op2 Or (op2 (Compare Ne Binary) (col 2 3) (col 1 4))
    (op2 (Compare Ne Binary) (col 2 1) (col 1 5)) ∷ [])

pub currents_alone_is : (indexed : Bool)
    → command_in (understood (archive_schema indexed) currents_alone_text)
    ≡ Select (record { lets = []; body = lacking 4 1 telling alone_tests (col 1 5 ∷ []) })
    (codes "origin" ∷ [])
unfolding understood everything
currents_alone_is indexed = refl

-- a row of currents2 tells of others and is later than a row of records2, or is that row's
abbrev pub later_one : Term
later_one = op2 And (eq (col 2 7) (lit (Int (pos 1)))) (op2 Or
    (op2 (Compare Gt Binary) (col 2 4) (col 1 3)) (op2 And (eq (col 2 4) (col 1 3))
    (op2 (Compare Gt Binary) (col 2 5) (col 1 1))))

abbrev pub own_one : Term
own_one = op2 And (op2 And (op2 And (eq (col 2 4) (col 1 3)) (eq (col 2 5) (col 1 1)))
    (eq (col 2 6) (op1 ToNumeric (op2 (Compare Ne Binary) (col 1 7) (lit (Int (pos 4)))))))
    (eq (col 2 8) (col 1 9))

abbrev pub hide_tests : List Term
hide_tests = eq (col 2 1) (col 1 4) ∷ eq (col 2 2) (col 1 5) ∷ eq (col 2 3) (col 1 6)
    ∷ op2 Or later_one own_one ∷ []

pub currents_hide_is : (indexed : Bool)
    → command_in (understood (archive_schema indexed) currents_hide_text)
    ≡ Select (record { lets = []; body = lacking 1 4 [] hide_tests (col 1 1 ∷ []) })
    (codes "origin" ∷ [])
unfolding understood everything
currents_hide_is indexed = refl

-- ---- as SQL judges

or_is : (a b : Value) → is_true (binary Or a b) ≡ (is_true a || is_true b)
unfolding binary
or_is a b = go (truth a) (truth b)
  where
    go : (o p : Option Bool) → is_true (from_truth (or3 o p))
        ≡ (unwrap_or o false || unwrap_or p false)
    go None None = refl
    go None (Some true) = refl
    go None (Some false) = refl
    go (Some true) None = refl
    go (Some true) (Some true) = refl
    go (Some true) (Some false) = refl
    go (Some false) None = refl
    go (Some false) (Some true) = refl
    go (Some false) (Some false) = refl

and_is : (a b : Value) → is_true (binary And a b) ≡ (is_true a && is_true b)
unfolding binary
and_is a b = go (truth a) (truth b)
  where
    go : (o p : Option Bool) → is_true (from_truth (and3 o p))
        ≡ (unwrap_or o false && unwrap_or p false)
    go None None = refl
    go None (Some true) = refl
    go None (Some false) = refl
    go (Some true) None = refl
    go (Some true) (Some true) = refl
    go (Some true) (Some false) = refl
    go (Some false) None = refl
    go (Some false) (Some true) = refl
    go (Some false) (Some false) = refl

-- a value doesn't differ from itself
not_differing : (v : Value) → is_true (binary (Compare Ne Binary) v v) ≡ false
unfolding binary
not_differing v = go (is_null v)
  where
    go : (b : Bool) → is_true (cond (b || b) Null (from_truth (Some (is_ne (value_cmp v v)))))
        ≡ false
    go true = refl
    go false = ap (λ o. is_true (from_truth (Some (is_ne o)))) (tied_itself value_cmp_total v)

ne_ints : (m n : ℤ) → is_true (binary (Compare Ne Binary) (Int m) (Int n)) ≡ is_ne (int_cmp m n)
unfolding binary
ne_ints m n = rw (value_cmp-Int m n) (truly (is_ne (int_cmp m n)))
  where
    truly : (b : Bool) → is_true (from_truth (Some b)) ≡ b
    truly true = refl
    truly false = refl

not_apart : (m n : ℤ) → is_ne (int_cmp m n) ≡ false → m ≡ n
not_apart m n off = grind (arith, ints, off)

-- a whole number that isn't told from 0 is it
is_zero : (v : Value) → is_of kind.Integer v ≡ true → is_null v ≡ false
    → is_true (binary (Compare Ne Binary) v (Int (pos 0))) ≡ false → v ≡ Int (pos 0)
is_zero Null kind some off = absurd (true≢false some)
is_zero (Int n) kind some off = ap Int (not_apart n (pos 0) (sym (ne_ints n (pos 0)) ∙ off))
is_zero (Real x) kind some off = absurd (true≢false (sym kind))
is_zero (Text t) kind some off = absurd (true≢false (sym kind))
is_zero (Blob b) kind some off = absurd (true≢false (sym kind))

told_of : (b : Bool) → is_true (binary (Compare Ne Binary) (flag b) (Int (pos 0))) ≡ true
    → b ≡ true
told_of true on = refl
told_of false on = absurd (true≢false (sym on ∙ not_differing (Int (pos 0))))

-- ---- a row of currents2 and one of records2

module _ (c r : Row) (it : IsCells (columns_of r)) where
  abbrev stamp_is : Bool
  stamp_is = same (column r 3) (column c 4) && (same (column r 1) (column c 5) && true)

  abbrev other_is : Bool
  other_is = is_true (binary Or (binary (Compare Ne Binary) (column r 3) (column c 4))
      (binary (Compare Ne Binary) (column r 1) (column c 5)))

  abbrev later_value : Value
  later_value = binary And (binary (Compare Eq
      Binary) (column c 7) (Int (pos 1))) (binary Or (binary (Compare Gt Binary) (column c 4)
      (column r 3)) (binary And
      (binary (Compare Eq Binary)
      (column c 4) (column r 3)) (binary (Compare Gt Binary) (column c 5) (column r 1))))

  abbrev live_of : Value
  live_of = binary (Compare Ne Binary) (column r 7) (Int (pos 4))

  abbrev own_value : Value
  own_value = binary And (binary And (binary And
      (binary (Compare Eq Binary)
      (column c 4) (column r 3))
      (binary (Compare Eq Binary)
      (column c 5) (column r 1)))
      (binary (Compare Eq Binary)
      (column c 6) (unary ToNumeric live_of)))
      (binary (Compare Eq Binary)
      (column c 8) (column r 9))

  abbrev rises_here : Bool
  rises_here = above (column c 4) (column r 3)
      || (same (column c 4) (column r 3) && above (column c 5) (column r 1))

  later_is : is_true later_value ≡ (same (column c 7) (Int (pos 1)) && rises_here)
  later_is = and_is _ _ ∙ ap (λ b. same (column c 7) (Int (pos 1)) && b) (or_is _ _
      ∙ ap (λ b. above (column c 4) (column r 3) || b) (and_is _ _))

  own_is : is_true own_value ≡ (((same (column c 4) (column r 3) && same (column c 5) (column r 1))
      && same (column c 6) (unary ToNumeric live_of)) && same (column c 8) (column r 9))
  own_is = and_is _ _ ∙ ap (λ b. b && same (column c 8) (column r 9)) (and_is _ _
      ∙ ap (λ b. b && same (column c 6) (unary ToNumeric live_of)) (and_is _ _))

  -- from records2's side
  at_made : (rest : Bool) → IsAt (current_columns c) (columns_of r) → rest ≡ true
      → (same (column r 4) (column c 1) && (same (column r 5) (column c 2)
      && (same (column r 6) (column c 3) && rest))) ≡ true
  at_made rest (node, time, pico) e =
      and_from (same (column r 4) (column c 1)) _ (same_blob (column r 4) (column c 1) it.node
      (sym node) (node ∙ ap (λ x. column x 3) it.is))
      (and_from (same (column r 5) (column c 2)) _ (same_int (column r 5) (column c 2) it.time
      (sym time) (time ∙ ap (λ x. column x 4) it.is))
      (and_from (same (column r 6) (column c 3)) rest (same_int (column r 6) (column c 3) it.pico
      (sym pico) (pico ∙ ap (λ x. column x 5) it.is)) e))

  stray_made : IsAt (current_columns c) (columns_of r)
      → IsStamped (current_columns c) (columns_of r)
      → (same (column r 4) (column c 1) && (same (column r 5) (column c 2)
      && (same (column r 6) (column c 3) && stamp_is))) ≡ true
  stray_made at (tick, origin) =
      at_made stamp_is at (and_from (same (column r 3) (column c 4)) _
      (same_int (column r 3) (column c 4) it.tick (sym tick) (tick ∙ ap (λ x. column x 2) it.is))
      (and_from (same (column r 1) (column c 5)) true (same_int (column r 1) (column c 5) it.origin
      (sym origin) (origin ∙ ap (λ x. column x 0) it.is)) refl))

  asked_is : (unary ToNumeric live_of ≡ live_of) × ((k : ℤ) × (live_of ≡ Int k))
  asked_is =
      let live = live_is (column r 7) it.asked (ap (λ x. column x 6) it.is) in
      (ap (unary ToNumeric) live.1 ∙ numeric_int live.0 ∙ sym live.1, live)

  show_made : IsShownBy (columns_of r) (current_columns c)
      → (same (column c 1) (column r 4) && (same (column c 2) (column r 5)
      && (same (column c 3) (column r 6) && (is_true (binary Or later_value own_value) && true))))
      ≡ true
  show_made ((node, time, pico), how) =
      and_from (same (column c 1) (column r 4)) _ (same_blob (column c 1) (column r 4) it.node node
      (ap (λ x. column x 3) it.is))
      (and_from (same (column c 2) (column r 5)) _ (same_int (column c 2) (column r 5) it.time time
      (ap (λ x. column x 4) it.is))
      (and_from (same (column c 3) (column r 6)) _ (same_int (column c 3) (column r 6) it.pico pico
      (ap (λ x. column x 5) it.is))
      (one_true _ ∙ or_is later_value own_value ∙ either how)))
    where
      first : (a b : Bool) → a ≡ true → (a || b) ≡ true
      first true b e = refl
      first false b e = absurd (true≢false (sym e))

      other : (a b : Bool) → b ≡ true → (a || b) ≡ true
      other true b e = refl
      other false b e = e

      either : ((rises_here ≡ true) × (column c 7 ≡ Int (pos 1)))
          ⊎ (((column c 4 ≡ column r 3) × (column c 5 ≡ column r 1))
          × ((column c 6 ≡ live_of) × (column c 8 ≡ column r 9)))
          → (is_true later_value || is_true own_value) ≡ true
      either (inl (high, tells)) =
          first _ _ (later_is ∙ and_from (same (column c 7) (Int (pos 1))) rises_here
          (same_int (column c 7) (Int (pos 1)) (pos 1) tells refl) high)
      either (inr ((tick, origin), (live, value))) =
          other _ _ (own_is ∙ and_from _ (same (column c 8) (column r 9)) (and_from _
          (same (column c 6) (unary ToNumeric live_of)) (and_from (same (column c 4) (column r 3))
          (same (column c 5) (column r 1)) (same_int (column c 4) (column r 3) it.tick tick
          (ap (λ x. column x 2) it.is)) (same_int (column c 5) (column r 1) it.origin origin
          (ap (λ x. column x 0) it.is))) (same_int (column c 6) (unary ToNumeric live_of)
          asked_is.1.0 (live ∙ sym asked_is.0) (asked_is.0 ∙ asked_is.1.1)))
          (same_blob (column c 8) (column r 9) it.value value (ap (λ x. column x 8) it.is)))

  module _ (kinds : HasInts c) where
    at_parts : same (column c 1) (column r 4) ≡ true → same (column c 2) (column r 5) ≡ true
        → same (column c 3) (column r 6) ≡ true → IsAt (current_columns c) (columns_of r)
    at_parts node time pico = (
      blob_equal (column c 1) (column r 4) it.node (ap (λ x. column x 3) it.is) node,
      int_equal (column c 2) (column r 5) it.time (ap (λ x. column x 4) it.is) kinds.time time,
      int_equal (column c 3) (column r 6) it.pico (ap (λ x. column x 5) it.is) kinds.pico pico,
    )

    at_turned : (rest : Bool) → (same (column r 4) (column c 1) && (same (column r 5) (column c 2)
        && (same (column r 6) (column c 3) && rest))) ≡ true
        → IsAt (current_columns c) (columns_of r) × (rest ≡ true)
    at_turned rest e =
        let one = and_parts (same (column r 4) (column c 1)) (same (column r 5) (column c 2)
        && (same (column r 6) (column c 3) && rest)) e in
        let two = and_parts (same (column r 5) (column c 2)) (same (column r 6) (column c 3)
        && rest) one.1 in
        let three = and_parts (same (column r 6) (column c 3)) rest two.1 in (
          at_parts (same_turned (column c 1) (column r 4) ∙ one.0)
              (same_turned (column c 2) (column r 5) ∙ two.0)
              (same_turned (column c 3) (column r 6) ∙ three.0),
          three.1,
        )

    stamp_parts : same (column c 4) (column r 3) ≡ true → same (column c 5) (column r 1) ≡ true
        → IsStamped (current_columns c) (columns_of r)
    stamp_parts tick origin = (
      int_equal (column c 4) (column r 3) it.tick (ap (λ x. column x 2) it.is) kinds.tick tick,
      int_equal (column c 5) (column r 1) it.origin (ap (λ x. column x 0) it.is) kinds.origin
          origin,
    )

    stray_parts : (same (column r 4) (column c 1) && (same (column r 5) (column c 2)
        && (same (column r 6) (column c 3) && stamp_is))) ≡ true
        → IsAt (current_columns c) (columns_of r) × IsStamped (current_columns c) (columns_of r)
    stray_parts e =
        let it = at_turned stamp_is e in
        let one = and_parts (same (column r 3) (column c 4)) (same (column r 1) (column c 5)
        && true) it.1 in
        let two = and_parts (same (column r 1) (column c 5)) true one.1 in (
          it.0,
          stamp_parts (same_turned (column c 4) (column r 3) ∙ one.0)
              (same_turned (column c 5) (column r 1) ∙ two.0),
        )

    alone_parts : (same (column r 4) (column c 1) && (same (column r 5) (column c 2)
        && (same (column r 6) (column c 3) && (other_is && true)))) ≡ true
        → IsAt (current_columns c) (columns_of r)
        × (IsStamped (current_columns c) (columns_of r) → ⊥)
    alone_parts e =
        let it = at_turned (other_is && true) e in (
          it.0,
          λ stamp. true≢false (sym (sym (one_true other_is) ∙ it.1)
              ∙ (or_is _ _ ∙ ap₂ (λ v w. is_true (binary (Compare Ne Binary) (column r 3) v)
              || is_true (binary (Compare Ne Binary) (column r 1) w)) stamp.0 stamp.1
              ∙ ap₂ ◌||◌ (not_differing (column r 3)) (not_differing (column r 1)))),
        )

    show_parts : (same (column c 1) (column r 4) && (same (column c 2) (column r 5)
        && (same (column c 3) (column r 6) && (is_true (binary Or later_value own_value) && true))))
        ≡ true → IsShownBy (columns_of r) (current_columns c)
    show_parts e =
        let one = and_parts (same (column c 1) (column r 4)) (same (column c 2) (column r 5)
        && (same (column c 3) (column r 6) && (is_true (binary Or later_value own_value)
        && true))) e in
        let two = and_parts (same (column c 2) (column r 5)) (same (column c 3) (column r 6)
        && (is_true (binary Or later_value own_value) && true)) one.1 in
        let three = and_parts (same (column c 3) (column r 6))
        (is_true (binary Or later_value own_value) && true) two.1 in (
          at_parts one.0 two.0 three.0,
          either (is_true later_value) (is_true own_value) refl refl
              (sym (or_is later_value own_value)
              ∙ (sym (one_true _) ∙ three.1)),
        )
      where
        own : is_true own_value ≡ true → IsStamped (current_columns c) (columns_of r)
            × ((column c 6 ≡ live_of) × (column c 8 ≡ column r 9))
        own on =
            let one = and_parts ((same (column c 4) (column r 3) && same (column c 5) (column r 1))
            && same (column c 6) (unary ToNumeric live_of)) (same (column c 8) (column r 9))
            (sym own_is ∙ on) in
            let two = and_parts (same (column c 4) (column r 3) && same (column c 5) (column r 1))
            (same (column c 6) (unary ToNumeric live_of)) one.0 in
            let three = and_parts (same (column c 4) (column r 3)) (same (column c 5) (column r 1))
            two.0 in (
              stamp_parts three.0 three.1,
              (
                int_equal (column c 6) live_of asked_is.1.0 asked_is.1.1 kinds.live
                    (subst (λ v. same (column c 6) v ≡ true) asked_is.0 two.1),
                blob_equal (column c 8) (column r 9) it.value (ap (λ x. column x 8) it.is) one.1,
              ),
            )

        either : (a b : Bool) → is_true later_value ≡ a → is_true own_value ≡ b
            → (a || b) ≡ true → ((rises_here ≡ true) × (column c 7 ≡ Int (pos 1)))
            ⊎ (IsStamped (current_columns c) (columns_of r)
            × ((column c 6 ≡ live_of) × (column c 8 ≡ column r 9)))
        either true b p q on =
            let parts = and_parts (same (column c 7) (Int (pos 1))) rises_here
            (sym later_is ∙ p) in
            inl (parts.1, int_equal (column c 7) (Int (pos 1)) (pos 1) refl kinds.extra parts.0)
        either false true p q on = inr (own q)
        either false false p q on = absurd (true≢false (sym on))

-- ---- what the texts show

module _ (db : Trees) where
  abbrev stray : Row → Row → Bool
  stray = meets db 4 1 [] stray_tests (col 1 5 ∷ [])

  abbrev alone : Row → Row → Bool
  alone = meets db 4 1 telling alone_tests (col 1 5 ∷ [])

  abbrev shows : Row → Row → Bool
  shows = meets db 1 4 [] hide_tests (col 1 1 ∷ [])

  abbrev M : List Row
  M = cells (db 1)

  abbrev tells : Row → Bool
  tells c = is_true (binary (Compare Ne Binary) (column c 7) (Int (pos 0)))

  module _ (typed : AllByRecursion IsCells (cells (db 1))) where
    cells_at : (r : Row) → Has (db 1) r → IsCells (columns_of r)
    cells_at r h = all_has IsCells (cells (db 1)) (columns_of r) typed
        (has_mapped columns_of (db 1) r h)

    all_stamped : AllByRecursion HasInts (db 4)
        → AllByRecursion (λ c. list_any (stray c) (db 1) ≡ true) (db 4) → AreStamped db
    all_stamped kinds all =
        all_map (λ c. (r : Row) × Has (cells (db 1)) r × IsAt c r × IsStamped c r)
        current_columns (db 4) (all_both HasInts (λ c. list_any (stray c) (db 1) ≡ true)
        (λ c. (r : Row) × Has (cells (db 1)) r × IsAt (current_columns c) r
        × IsStamped (current_columns c) r) one (db 4) kinds all)
      where
        one : (c : Row) → HasInts c → list_any (stray c) (db 1) ≡ true
            → (r : Row) × Has (cells (db 1)) r × IsAt (current_columns c) r
            × IsStamped (current_columns c) r
        one c kind on =
            let found = any_has (stray c) (db 1) on in
            let parts = stray_parts c found.0 (cells_at found.0 found.1) kind found.2 in
            (columns_of found.0, has_mapped columns_of (db 1) found.0 found.1, parts.0, parts.1)

    all_telling : AllByRecursion HasInts (db 4)
        → AllByRecursion (λ c. (tells c && true) ≡ true → list_any (alone c) (db 1) ≡ true) (db 4)
        → AreTelling db
    all_telling kinds all =
        all_map (λ c. (column c 6 ≡ Int (pos 0))
        ⊎ ((r : Row) × Has (cells (db 1)) r × IsAt c r × (IsStamped c r → ⊥))) current_columns
        (db 4) (all_both HasInts
        (λ c. (tells c && true) ≡ true → list_any (alone c) (db 1) ≡ true)
        (λ c. (column c 7 ≡ Int (pos 0)) ⊎ ((r : Row) × Has (cells (db 1)) r
        × IsAt (current_columns c) r × (IsStamped (current_columns c) r → ⊥))) one (db 4) kinds all)
      where
        one : (c : Row) → HasInts c
            → ((tells c && true) ≡ true → list_any (alone c) (db 1) ≡ true)
            → (column c 7 ≡ Int (pos 0)) ⊎ ((r : Row) × Has (cells (db 1)) r
            × IsAt (current_columns c) r × (IsStamped (current_columns c) r → ⊥))
        one c kind on = go (tells c) refl
          where
            go : (b : Bool) → tells c ≡ b → (column c 7 ≡ Int (pos 0)) ⊎ ((r : Row)
                × Has (cells (db 1)) r × IsAt (current_columns c) r
                × (IsStamped (current_columns c) r → ⊥))
            go false e = inl (is_zero (column c 7) kind.extra kind.told e)
            go true e =
                let found = any_has (alone c) (db 1) (on (one_true (tells c) ∙ e)) in
                let parts = alone_parts c found.0 (cells_at found.0 found.1) kind found.2 in inr (
                  columns_of found.0,
                  has_mapped columns_of (db 1) found.0 found.1,
                  parts.0,
                  parts.1,
                )

    all_shown : AllByRecursion HasInts (db 4)
        → AllByRecursion (λ r. list_any (shows r) (db 4) ≡ true) (db 1) → AreShown db
    all_shown kinds all =
        all_map (λ r. (c : Row) × Has (map current_columns (db 4)) c × IsShownBy r c) columns_of
        (db 1) (all_from (λ r. (c : Row) × Has (map current_columns (db 4)) c
        × IsShownBy (columns_of r) c) (db 1) (λ r h. one r h
        (all_has (λ x. list_any (shows x) (db 4) ≡ true) (db 1) r all h)))
      where
        one : (r : Row) → Has (db 1) r → list_any (shows r) (db 4) ≡ true
            → (c : Row) × Has (map current_columns (db 4)) c × IsShownBy (columns_of r) c
        one r h on =
            let found = any_has (shows r) (db 4) on in (
              current_columns found.0,
              has_mapped current_columns (db 4) found.0 found.1,
              show_parts found.0 r (cells_at r h) (all_has HasInts (db 4) found.0 kinds found.1)
                  found.2,
            )

    -- ---- where currents2 holds what follows

    module _ (kept : HasCurrents db) where
      follows : (c : Row) → Has (db 4) c → (s : Row) × Has (db 1) s
          × (current_columns c ≡ current_of (cells (db 1)) (columns_of s))
      follows c h =
          let top = λ (x : Row). not (list_any (is_later x) (cells (db 1))) in
          let there = all_has (Has (currents_of (cells (db 1)))) (map current_columns (db 4))
          (current_columns c) (all_has_permuted _ _ (IsPermutation-sym _ _ kept.0))
          (has_mapped current_columns (db 4) c h) in
          let at = has_from_map (current_of (cells (db 1))) (filter top (cells (db 1)))
          (current_columns c) there in
          let row = has_from_map columns_of (db 1) at.0
          (kept_of top (cells (db 1)) at.0 at.1).0 in
          (row.0, row.1, at.2 ∙ ap (current_of (cells (db 1))) row.2)

      all_stand : AllByRecursion (λ c. list_any (stray c) (db 1) ≡ true) (db 4)
      all_stand = all_from (λ c. list_any (stray c) (db 1) ≡ true) (db 4)
          (λ c h. one c (follows c h))
        where
          one : (c : Row) → (s : Row) × Has (db 1) s
              × (current_columns c ≡ current_of (cells (db 1)) (columns_of s))
              → list_any (stray c) (db 1) ≡ true
          one c (s, h, is) =
              let eqs = λ (i : ℕ). ap (λ (x : Row). column x i) is in
              any_by (stray c) (db 1) s h (stray_made c s (cells_at s h) (eqs 0, eqs 1, eqs 2)
              (eqs 3, eqs 4))

      all_tell : AllByRecursion (λ c. (tells c && true) ≡ true → list_any (alone c) (db 1) ≡ true)
          (db 4)
      all_tell = all_from (λ c. (tells c && true) ≡ true → list_any (alone c) (db 1) ≡ true) (db 4)
          (λ c h. one c (follows c h))
        where
          one : (c : Row) → (s : Row) × Has (db 1) s
              × (current_columns c ≡ current_of (cells (db 1)) (columns_of s))
              → (tells c && true) ≡ true → list_any (alone c) (db 1) ≡ true
          one c (s, h, is) on =
              let eqs = λ (i : ℕ). ap (λ (x : Row). column x i) is in
              let some : list_any (is_other (columns_of s)) (cells (db 1)) ≡ true =
              told_of (list_any (is_other (columns_of s)) (cells (db 1)))
              (subst (λ v. is_true (binary (Compare Ne Binary) v (Int (pos 0))) ≡ true) (eqs 6)
              (sym (one_true (tells c)) ∙ on)) in
              let it = any_has (is_other (columns_of s)) (cells (db 1)) some in
              let row = has_from_map columns_of (db 1) it.0 it.1 in
              any_by (alone c) (db 1) row.0 row.1 (alike (column c 1) (column c 2) (column c 3)
              (column c 4) (column c 5) s row.0 (eqs 0) (eqs 1) (eqs 2) (eqs 3) (eqs 4)
              ∙ subst (λ x. is_other (columns_of s) x ≡ true) row.2 it.2)
            where
              alike : (node time pico tick origin : Value) (s r : Row) → node ≡ column s 4
                  → time ≡ column s 5 → pico ≡ column s 6 → tick ≡ column s 3
                  → origin ≡ column s 1
                  → (same (column r 4) node && (same (column r 5) time && (same (column r 6) pico
                  && (is_true (binary Or (binary (Compare Ne Binary) (column r 3) tick)
                  (binary (Compare Ne Binary) (column r 1) origin)) && true))))
                  ≡ is_other (columns_of s) (columns_of r)
              alike node time pico tick origin s r a b p q o = rw (a, b, p, q, o) (other_alike s r)

      all_show : AllByRecursion (λ r. list_any (shows r) (db 4) ≡ true) (db 1)
      all_show = all_from (λ r. list_any (shows r) (db 4) ≡ true) (db 1) one
        where
          one : (r : Row) → Has (db 1) r → list_any (shows r) (db 4) ≡ true
          one r h =
              let it = follow_shows (cells (db 1)) typed (columns_of r)
              (has_mapped columns_of (db 1) r h) in
              let there = all_has (Has (map current_columns (db 4))) (currents_of (cells (db 1)))
              it.0 (all_has_permuted _ _ kept.0) it.1 in
              let at = has_from_map current_columns (db 4) it.0 there in
              any_by (shows r) (db 4) at.0 at.1 (show_made at.0 r (cells_at r h)
              (subst (IsShownBy (columns_of r)) at.2 it.2))

    -- ---- no two rows of one moment

    module _ (indexed : Bool) (sound : IsSound (archive_schema indexed) db) where
      abbrev key : List ℕ
      key = 1 ∷ 2 ∷ 3 ∷ []

      unclashed : (d : Row) → passes Unique (archive_schema indexed) db third_table d ≡ true
          → clashes plain key (db 4) d ≡ false
      unclashed d e = back (clashes plain key (db 4) d)
          (and_parts (not (clashes plain key (db 4) d))
          (list_all (λ i. not (guards i third_table && clashes i.order i.columns (db 4) d))
          (live_indexes indexed)) e).0
        where
          back : (b : Bool) → not b ≡ true → b ≡ false
          back true e = absurd (true≢false (sym e))
          back false e = refl

      agree_is : (c d : Row) → agree plain key c key d ≡ (same (column c 1) (column d 1)
          && (same (column c 2) (column d 2) && (same (column c 3) (column d 3) && true)))
      unfolding first_key
      agree_is c d = refl

      all_single : AreStamped db → AreSingle db
      all_single stamped ids c d h k node time pico =
          let it = all_has (λ x. (r : Row) × Has (cells (db 1)) r × IsAt x r × IsStamped x r)
          (map current_columns (db 4)) (current_columns d) stamped
          (has_mapped current_columns (db 4) d k) in
          let rules = all_has (λ x. passes Unique (archive_schema indexed) db third_table x ≡ true)
          (db 4) d
          (sound.obeys.rules Unique).1.1.0 k in
          let off = all_has (λ x. (agree plain key x key d && differ (rowid x) (rowid d)) ≡ false)
          (db 4) c (none_from_any (λ x. agree plain key x key d && differ (rowid x) (rowid d))
          (db 4) (unclashed d rules)) h in
          let row = all_has IsCells (cells (db 1)) it.0 typed it.1 in
          let agrees : agree plain key c key d ≡ true = agree_is c d
          ∙ and_from (same (column c 1) (column d 1)) _ (same_blob (column c 1) (column d 1)
          row.node node (it.2.0 ∙ ap (λ x. column x 3) row.is))
          (and_from (same (column c 2) (column d 2)) _ (same_int (column c 2) (column d 2)
          row.time time (it.2.1 ∙ ap (λ x. column x 4) row.is))
          (and_from (same (column c 3) (column d 3)) true (same_int (column c 3) (column d 3)
          row.pico pico (it.2.2 ∙ ap (λ x. column x 5) row.is)) refl)) in
          let m = int_of (rowid c) (all_has (λ x. is_int (rowid x) ≡ true) (db 4) c ids.keyed h) in
          let n = int_of (rowid d) (all_has (λ x. is_int (rowid x) ≡ true) (db 4) d ids.keyed k) in
          let differs : differ (rowid c) (rowid d) ≡ false =
          second (agree plain key c key d) (differ (rowid c) (rowid d)) agrees off in
          one_row (db 4) ids.apart c d h k (m.1 ∙ ap Int (not_apart m.0 n.0
          (sym (ne_ints m.0 n.0) ∙ (ap₂ differ (sym m.1) (sym n.1) ∙ differs))) ∙ sym n.1)
        where
          second : (a b : Bool) → a ≡ true → (a && b) ≡ false → b ≡ false
          second true b on off = off
          second false b on off = absurd (true≢false (sym on))

module _ (d : Database) (has : IsArchiveSchema d.schema) where
  module _ (sound : IsSound d.schema d.trees) (typed : AllByRecursion IsCells (cells (d.trees 1)))
    where
      sound_here : IsSound (archive_schema has.0) d.trees
      sound_here = subst (λ s. IsSound s d.trees) has.1 sound

      pub currents_stand_of : ShowsOf currents_stray_text d [] → AreStamped d.trees
          × AreSingle d.trees
      currents_stand_of none =
          let all = all_stamped d.trees typed (typed_currents has.0 d.trees sound_here)
          (met_all (λ c. list_any (stray d.trees c) (d.trees 1)) (d.trees 4)
          (none_lack currents_stray_text 4 1 [] stray_tests (col 1 5 ∷ []) _ currents_stray_is d has
          none)) in (all, all_single d.trees typed has.0 sound_here all)

      pub currents_tell_of : ShowsOf currents_alone_text d [] → AreTelling d.trees
      currents_tell_of none =
          all_telling d.trees typed (typed_currents has.0 d.trees sound_here)
          (none_lack currents_alone_text 4 1 telling alone_tests
          (col 1 5 ∷ []) _ currents_alone_is d
          has none)

      pub currents_show_of : ShowsOf currents_hide_text d [] → AreShown d.trees
      currents_show_of none =
          all_shown d.trees typed (typed_currents has.0 d.trees sound_here)
          (met_all (λ r. list_any (shows d.trees r) (d.trees 4)) (d.trees 1)
          (none_lack currents_hide_text 1 4 [] hide_tests (col 1 1 ∷ []) _ currents_hide_is d has
          none))

  module _ (typed : AllByRecursion IsCells (cells (d.trees 1))) where
    pub currents_stray_some : ShowsSome currents_stray_text d → HasCurrents d.trees → ⊥
    currents_stray_some some kept =
        some_lack currents_stray_text 4 1 [] stray_tests (col 1 5 ∷ []) _ currents_stray_is d has
        some (all_asked (λ c. list_any (stray d.trees c) (d.trees 1)) (d.trees 4)
        (all_stand d.trees typed kept))

    pub currents_alone_some : ShowsSome currents_alone_text d → HasCurrents d.trees → ⊥
    currents_alone_some some kept =
        some_lack currents_alone_text 4 1 telling alone_tests (col 1 5 ∷ []) _ currents_alone_is d
        has some (all_tell d.trees typed kept)

    pub currents_hide_some : ShowsSome currents_hide_text d → HasCurrents d.trees → ⊥
    currents_hide_some some kept =
        some_lack currents_hide_text 1 4 [] hide_tests (col 1 1 ∷ []) _ currents_hide_is d has some
        (all_asked (λ r. list_any (shows d.trees r) (d.trees 4)) (d.trees 1)
        (all_show d.trees typed kept))
