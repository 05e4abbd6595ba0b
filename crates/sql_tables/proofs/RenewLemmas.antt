-- What the statements do that renew a row of currents2.
use Rattle.std.proofs.Common.{◌≡◌, ◌⊎◌, inl, inr, ℕ, ℤ, pos, not, ◌&&◌, Bool, true, List, [], ◌∷◌, ◌++◌, drop, length, map, filter, unwrap_or, Ok, Err, Result, IfOk, refl, sym, ap, ap₂, subst, subst₂, ◌∙◌, IsPermutation}
use Rattle.std.specs.List.{list_all, list_any, AllByRecursion}
use Rattle.std.proofs.lemmas.Bool.{and_parts}
use Rattle.std.proofs.lemmas.List.{map-append, length-map}
use Rattle.std.proofs.lemmas.List.Sorted.{length_permutation, IsPermutation-trans, IsPermutation-map, IsPermutation-append, IsPermutation-refl}
use Rattle.sqlite_value.specs.declared.value.Value.{Value}
use Rattle.sqlite_value.specs.declared.value.Value.TheVariants.{Null, Int, Blob}
use Rattle.sqlite_value.specs.declared.keys.Collation.TheVariants.{Binary}
use Rattle.sqlite_value.specs.Order.{Row, column}
use Rattle.sqlite_sql.specs.Ops.{binary, is_true}
use Rattle.sqlite_sql.specs.Term.{Term, lit, col, op2, holds, eval_all}
use Rattle.sqlite_sql.specs.declared.ops.BinaryOp.TheVariants.{Compare, Or}
use Rattle.sqlite_sql.specs.declared.ops.CompareOp.TheVariants.{Ne, Lt, Le, Gt, Ge}
use Rattle.sqlite_sql.specs.Query.{inner, end}
use Rattle.sqlite_sql.specs.Program.{overlay}
use Rattle.sqlite_schema.specs.declared.program.Program.{Program}
use Rattle.sqlite_schema.specs.declared.command.Command.TheVariants.{Update}
use Rattle.sqlite_schema.specs.declared.schema.Kind.TheVariants.{Integer}
use Rattle.sqlite_rules.specs.declared.error.Rowids.TheVariants.{Given}
use Rattle.sqlite_rules.specs.Cast.{cast, cast_row}
use Rattle.sqlite_rules.specs.Calls.{ids_of}
use Rattle.sqlite_rules.specs.Edit.{numbered, put_all, are_fresh, have_rowids, without_all}
use Rattle.sqlite_trees.specs.Tree.{Trees, rowid}
use Rattle.sqlite_keyed.proofs.ListLemmas.{filter_same, filter-map, all_weaker, all_unmap, all_map, all_both, all-filter, map-map}
use Rattle.sqlite_tied.specs.Compute.{everything}
use Rattle.sqlite.specs.Listing.{understood}
use Rattle.sqlite.specs.Does.{Tally}
use Rattle.sqlite.specs.Effect.{Database}
use Rattle.sqlite.specs.State.{State, ExecutesInside}
use Rattle.sqlite.specs.declared.error.Error.{Error}
use Rattle.sqlite.proofs.Callers.{IsPlain, command_of, statement_of, runs_as}
use Rattle.sql_schema.specs.Tables.{archive_schema, third_table}
use Rattle.sql_tables.specs.Words.{cells, cells_of}
use Rattle.sql_tables.specs.State.{MakingArchive}
use Rattle.sql_tables.specs.Derived.{AreNumbered, IsCells, current_of, currents_of, current_columns, flag, is_current_of, is_later, same}
use Rattle.sql_tables.specs.Keeping.{KeepsBesideCurrents, KeepsTables, Renews, is_beside, HasOneBeside, HasLaterBeside, RaisesOne, TakesIn}
use Rattle.sql_tables.proofs.Texts.{raise_current_text, mark_current_text}
use Rattle.sql_tables.proofs.WriteLemmas.{apart_by, cast_int}
use Rattle.sql_tables.proofs.ChangeLemmas.{Sets, set_currents, put_beside, all_more, as_given}
use Rattle.sql_tables.proofs.MadeLemmas.{asking, asked_all, cast_live, eq, regrouped}
use Rattle.sql_tables.proofs.AgreeLemmas.{int_same, blob_same}
use Rattle.sql_tables.proofs.KeepLemmas.{removed, empty_by, single_by}
use Rattle.sql_tables.proofs.KeptLemmas.{filtered_numbered}
use Rattle.sql_tables.proofs.RaiseLemmas.{is_raised, is_passed, raised, marked, all_permuted, filter_true, Over, raise_follows, mark_follows, one_raised, none_raised, one_passed}

-- the columns of a row of currents2 are of their kinds
record HasKinds (c : Row) : Type 0 where
  pub time : ℤ
  pub time_is : column c 1 ≡ Int time
  pub pico : ℤ
  pub pico_is : column c 2 ≡ Int pico
  pub tick : ℤ
  pub tick_is : column c 3 ≡ Int tick
  pub origin : ℤ
  pub origin_is : column c 4 ≡ Int origin
  pub live_is : cast Integer (column c 5) ≡ column c 5

made_kinds : (X : List Row) (r : Row) → IsCells r → HasKinds (current_of X r)
made_kinds X r c = record {
  time = c.time;
  time_is = ap (λ x. column x 4) c.is;
  pico = c.pico;
  pico_is = ap (λ x. column x 5) c.is;
  tick = c.tick;
  tick_is = ap (λ x. column x 2) c.is;
  origin = c.origin;
  origin_is = ap (λ x. column x 0) c.is;
  live_is = cast_live [] (λ _. []) (column r 6) c.asked (ap (λ x. column x 6) c.is);
}

-- the rows of currents2 that follow from rows of their kinds have such columns
have_kinds : (X C : List Row) → AllByRecursion IsCells X → IsPermutation (currents_of X) C
    → AllByRecursion HasKinds C
have_kinds X C typed was = all_permuted HasKinds (currents_of X) C was
    (all_map HasKinds (current_of X) tops
    (all_weaker IsCells (λ r. HasKinds (current_of X r)) (made_kinds X) tops
    (all-filter IsCells (λ r. not (list_any (is_later r) X)) X typed)))
  where
    tops : List Row
    tops = filter (λ r. not (list_any (is_later r) X)) X

as_whole : (v : Value) (n : ℤ) → v ≡ Int n → cast Integer v ≡ v
as_whole v n e = ap (cast Integer) e ∙ cast_int n ∙ sym e

map_alike : {A B : Type 0} (f g : A → B) (xs : List A) → AllByRecursion (λ x. f x ≡ g x) xs
    → map f xs ≡ map g xs
map_alike f g [] all = refl
map_alike f g (x ∷ xs) all = ap₂ ◌∷◌ all.0 (map_alike f g xs all.1)

eight : (a b c d e f g h a2 b2 c2 d2 e2 f2 g2 h2 : Value) → a ≡ a2 → b ≡ b2 → c ≡ c2 → d ≡ d2
    → e ≡ e2 → f ≡ f2 → g ≡ g2 → h ≡ h2
    → ◌≡◌ {A = Row} (a ∷ b ∷ c ∷ d ∷ e ∷ f ∷ g ∷ h ∷ [])
    (a2 ∷ b2 ∷ c2 ∷ d2 ∷ e2 ∷ f2 ∷ g2 ∷ h2 ∷ [])
eight a b c d e f g h a2 b2 c2 d2 e2 f2 g2 h2 p q r s t u v w =
    ap₂ ◌∷◌ p (ap₂ ◌∷◌ q (ap₂ ◌∷◌ r (ap₂ ◌∷◌ s (ap₂ ◌∷◌ t (ap₂ ◌∷◌ u (ap₂ ◌∷◌ v
    (ap (λ x. x ∷ []) w)))))))

abbrev writes : List Term → List Term → Program
writes tests terms = record { lets = []; body = asking (inner 4 end) tests terms [] }

-- what an UPDATE of the rows of currents2 leaves that pass
module _ {indexed : Bool} (tests terms : List Term) (params : Row) (db : Trees) (tally : Tally)
    (after : Database)
    (it : Sets indexed third_table (writes tests terms) params db tally after) (p : Row → Bool)
    (alike : (r : Row) → list_all (holds (params ∷ r ∷ [])) tests ≡ p (current_columns r))
    (keyed : (r : Row) → rowid (eval_all terms (params ∷ r ∷ [])) ≡ rowid r) where
  abbrev passes : Row → Bool
  passes r = list_all (holds (params ∷ r ∷ [])) tests

  abbrev source : Row → Row
  source r = eval_all terms (params ∷ r ∷ [])

  abbrev write : Row → Row
  write s = current_columns (cast_row third_table (drop 1 s))

  abbrev ours : List Row
  ours = filter passes (db 4)

  abbrev made : List Row
  made = map (λ s. cast_row third_table (drop 1 s)) it.rows

  abbrev left : List Row
  left = without_all (db 4) (ids_of it.rows)

  abbrev held : List Row
  held = map current_columns (db 4)

  asked : IsPermutation (map source ours) it.rows
  asked = asked_all (inner 4 end) tests terms [] params (overlay db []) (db 4) passes
      (λ r. params ∷ r ∷ []) refl it.rows (it.are.answer Null)

  rest : KeepsBesideCurrents db after.trees
  rest = let others = it.applied.tables in
      record {
        meta = others.0 (apart_by 0 4 refl);
        records = others.1.0 (apart_by 1 4 refl);
        vectors = others.1.1.1.0 (apart_by 6 4 refl);
      }

  news : numbered Given left made ≡ made
  news = as_given left made

  now : after.trees 4 ≡ put_all left made
  now = it.applied.rows ∙ ap (put_all left) news

  as_many : (count : ℕ) → count ≡ unwrap_or tally.rows 0 → count ≡ length it.rows
  as_many count e = e ∙ ap (λ o. unwrap_or o 0) it.counted ∙ ap length news
      ∙ length-map it.rows (λ s. cast_row third_table (drop 1 s))

  none_written : length it.rows ≡ 0 → KeepsTables db after.trees
  none_written e = record {
    rest = rest;
    currents = now ∙ ap (λ rs. put_all (without_all (db 4) (ids_of rs))
        (map (λ s. cast_row third_table (drop 1 s)) rs)) (empty_by it.rows e);
  }

  ours_held : map current_columns ours ≡ filter p held
  ours_held = ap (map current_columns) (filter_same passes (λ r. p (current_columns r)) alike
      (db 4))
      ∙ sym (filter-map p current_columns (db 4))

  many_ours : length ours ≡ length it.rows
  many_ours = sym (length-map ours source)
      ∙ sym (length_permutation (map source ours) it.rows asked)

  as_held : length (filter p held) ≡ length it.rows
  as_held = ap length (sym ours_held) ∙ length-map ours current_columns ∙ many_ours

  one_held : length it.rows ≡ 1 → length (filter p held) ≡ 1
  one_held e = ap length (sym ours_held) ∙ length-map ours current_columns ∙ many_ours ∙ e

  fresh : are_fresh left made ≡ true
  fresh = subst (λ l. are_fresh left l ≡ true) news it.applied.fresh

  others_left : AreNumbered (db 4) → left ≡ filter (λ r. not (p (current_columns r))) (db 4)
  others_left was = removed 4 tests terms params (overlay db []) (λ r. p (current_columns r)) alike
      keyed was it.rows (it.are.answer Null)

  -- the rows that passed, as they were written, stand beside the others
  written : AreNumbered (db 4) → (olds : List Row) → map (λ r. write (source r)) ours ≡ olds
      → IsPermutation (olds ++ filter (λ c. not (p c)) held) (map current_columns (after.trees 4))
  written was olds are =
      let wrote : IsPermutation olds (map current_columns made) =
      subst₂ IsPermutation (map-map write source ours ∙ are)
      (sym (map-map current_columns (λ s. cast_row third_table (drop 1 s)) it.rows))
      (IsPermutation-map write (map source ours) it.rows asked) in
      let others : map current_columns left ≡ filter (λ c. not (p c)) held =
      ap (map current_columns) (others_left was)
      ∙ sym (filter-map (λ c. not (p c)) current_columns (db 4)) in
      let beside : IsPermutation (map current_columns made ++ map current_columns left)
      (map current_columns (after.trees 4)) =
      subst₂ IsPermutation (map-append current_columns made left)
      (ap (map current_columns) (sym now)) (IsPermutation-map current_columns (made ++ left)
      (put_all left made) (put_beside left made fresh)) in
      subst (λ l. IsPermutation (olds ++ l) (map current_columns (after.trees 4))) others
      (IsPermutation-trans (olds ++ map current_columns left)
      (map current_columns made ++ map current_columns left) (map current_columns (after.trees 4))
      (IsPermutation-append olds (map current_columns made) (map current_columns left)
      (map current_columns left) wrote (IsPermutation-refl (map current_columns left))) beside)

  still_numbered : AreNumbered (db 4) → AreNumbered (after.trees 4)
  still_numbered was = subst AreNumbered (sym now) (all_more left made fresh
      (subst (λ l. have_rowids l ≡ true) news it.applied.keyed)
      (subst AreNumbered (sym (others_left was))
      (filtered_numbered (λ r. not (p (current_columns r))) (db 4) was)))

  -- each row that passed, with the kinds of its columns
  ours_kinds : AllByRecursion HasKinds held
      → AllByRecursion (λ r. HasKinds (current_columns r) × (p (current_columns r) ≡ true)) ours
  ours_kinds kinds = all_both
      (λ r. HasKinds (current_columns r)) (λ r. passes r ≡ true)
      (λ r. HasKinds (current_columns r) × (p (current_columns r) ≡ true))
      (λ r k e. (k, sym (alike r) ∙ e)) ours
      (all-filter (λ r. HasKinds (current_columns r)) passes (db 4)
      (all_unmap HasKinds current_columns (db 4) kinds)) (filter_true passes (db 4))

-- ---- a record that is later than the current value of its moment, and one that is earlier

abbrev moment_tests : List Term
moment_tests = eq (col 1 1) (col 0 0) ∷ eq (col 1 2) (col 0 1) ∷ eq (col 1 3) (col 0 2) ∷ []

abbrev raise_tests : List Term
raise_tests = moment_tests ++ op2 (Compare Le Binary) (col 1 4) (col 0 3)
    ∷ op2 Or (op2 (Compare Lt Binary) (col 1 4) (col 0 3))
    (op2 (Compare Lt Binary) (col 1 5) (col 0 4)) ∷ []

abbrev raise_terms : List Term
raise_terms = col 1 0 ∷ col 1 0 ∷ col 1 1 ∷ col 1 2 ∷ col 1 3 ∷ col 0 3 ∷ col 0 4
    ∷ op2 (Compare Ne Binary) (col 0 5) (lit (Int (pos 4))) ∷ lit (Int (pos 1)) ∷ col 0 6 ∷ []

raise_is : (indexed : Bool) → command_of (understood (archive_schema indexed) raise_current_text)
    ≡ Update 2 (writes raise_tests raise_terms)
unfolding understood everything
raise_is indexed = refl

raise_plain : (indexed : Bool) → IsPlain (understood (archive_schema indexed) raise_current_text)
unfolding understood everything
raise_plain indexed = (refl, refl)

abbrev mark_tests : List Term
mark_tests = moment_tests ++ op2 (Compare Ge Binary) (col 1 4) (col 0 3)
    ∷ op2 Or (op2 (Compare Gt Binary) (col 1 4) (col 0 3))
    (op2 (Compare Gt Binary) (col 1 5) (col 0 4)) ∷ []

abbrev mark_terms : List Term
mark_terms = col 1 0 ∷ col 1 0 ∷ col 1 1 ∷ col 1 2 ∷ col 1 3 ∷ col 1 4 ∷ col 1 5 ∷ col 1 6
    ∷ lit (Int (pos 1)) ∷ col 1 8 ∷ []

mark_is : (indexed : Bool) → command_of (understood (archive_schema indexed) mark_current_text)
    ≡ Update 2 (writes mark_tests mark_terms)
unfolding understood everything
mark_is indexed = refl

mark_plain : (indexed : Bool) → IsPlain (understood (archive_schema indexed) mark_current_text)
unfolding understood everything
mark_plain indexed = (refl, refl)

module _ (origin number tick : ℤ) (node : List ℕ) (time pico asked : ℤ) (who value : List ℕ) where
  abbrev row : Row
  row = cells_of origin number tick node time pico asked who value

  abbrev raise_params : Row
  raise_params = Blob node ∷ Int time ∷ Int pico ∷ Int tick ∷ Int origin ∷ Int asked ∷ Blob value
      ∷ []

  abbrev mark_params : Row
  mark_params = Blob node ∷ Int time ∷ Int pico ∷ Int tick ∷ Int origin ∷ []

  abbrev later : Row → Bool
  later = is_raised origin number tick node time pico asked who value

  abbrev earlier : Row → Bool
  earlier = is_passed origin number tick node time pico asked who value

  abbrev new_current : Row
  new_current = raised origin number tick node time pico asked who value

  abbrev with_mark : Row → Row
  with_mark = marked origin number tick node time pico asked who value

  raise_alike : (r : Row) → list_all (holds (raise_params ∷ r ∷ [])) raise_tests
      ≡ later (current_columns r)
  raise_alike r =
      regrouped (same (column r 1) (Blob node)) (same (column r 2) (Int time))
      (same (column r 3) (Int pico)) (is_true (binary (Compare Le Binary) (column r 4) (Int tick)))
      (is_true (binary Or (binary (Compare Lt Binary) (column r 4) (Int tick))
      (binary (Compare Lt Binary) (column r 5) (Int origin))))

  mark_alike : (r : Row) → list_all (holds (mark_params ∷ r ∷ [])) mark_tests
      ≡ earlier (current_columns r)
  mark_alike r =
      regrouped (same (column r 1) (Blob node)) (same (column r 2) (Int time))
      (same (column r 3) (Int pico)) (is_true (binary (Compare Ge Binary) (column r 4) (Int tick)))
      (is_true (binary Or (binary (Compare Gt Binary) (column r 4) (Int tick))
      (binary (Compare Gt Binary) (column r 5) (Int origin))))

  int_there : (v : Value) (m n : ℤ) → v ≡ Int m → same v (Int n) ≡ true → cast Integer v ≡ Int n
  int_there v m n e s = ap (cast Integer) (e ∙ int_same (Int m) n refl
      (sym (ap (λ x. same x (Int n)) e) ∙ s)) ∙ cast_int n

  raise_written : (db : Trees) (r : Row) → HasKinds (current_columns r)
      → later (current_columns r) ≡ true
      → current_columns (cast_row third_table
      (drop 1 (eval_all raise_terms (raise_params ∷ r ∷ []))))
      ≡ new_current
  raise_written db r k e =
      let moment = (and_parts (is_current_of node time pico (current_columns r))
      (is_true (binary (Compare Le Binary) (column r 4) (Int tick))
      && is_true (binary Or (binary (Compare Lt Binary) (column r 4) (Int tick))
      (binary (Compare Lt Binary) (column r 5) (Int origin)))) e).0 in
      let a = and_parts (same (column r 1) (Blob node))
      (same (column r 2) (Int time) && same (column r 3) (Int pico)) moment in
      let b = and_parts (same (column r 2) (Int time)) (same (column r 3) (Int pico)) a.1 in
      eight (column r 1) (cast Integer (column r 2)) (cast Integer (column r 3))
      (cast Integer (Int tick)) (cast Integer (Int origin))
      (cast Integer (binary (Compare Ne Binary) (Int asked) (Int (pos 4))))
      (cast Integer (Int (pos 1))) (Blob value)
      (Blob node) (Int time) (Int pico) (Int tick) (Int origin)
      (binary (Compare Ne Binary) (Int asked) (Int (pos 4))) (flag true) (Blob value)
      (blob_same (column r 1) node a.0)
      (int_there (column r 2) k.time time k.time_is b.0)
      (int_there (column r 3) k.pico pico k.pico_is b.1) (cast_int tick) (cast_int origin)
      (cast_live [] db (Int asked) asked refl) (cast_int (pos 1)) refl

  mark_written : (r : Row) → HasKinds (current_columns r)
      → current_columns (cast_row third_table (drop 1 (eval_all mark_terms (mark_params ∷ r ∷ []))))
      ≡ with_mark (current_columns r)
  mark_written r k =
      eight (column r 1) (cast Integer (column r 2)) (cast Integer (column r 3))
      (cast Integer (column r 4)) (cast Integer (column r 5)) (cast Integer (column r 6))
      (cast Integer (Int (pos 1))) (column r 8)
      (column r 1) (column r 2) (column r 3) (column r 4) (column r 5) (column r 6) (flag true)
      (column r 8) refl (as_whole (column r 2) k.time k.time_is)
      (as_whole (column r 3) k.pico k.pico_is) (as_whole (column r 4) k.tick k.tick_is)
      (as_whole (column r 5) k.origin k.origin_is) k.live_is (cast_int (pos 1)) refl

  module _ {indexed : Bool} (db : Trees) (tally : Tally) (after : Database)
      (it : Sets indexed third_table (writes raise_tests raise_terms) raise_params db tally after)
    where
      raises : (count : ℕ) → count ≡ unwrap_or tally.rows 0 → Renews count row db after.trees
      raises count counted = record {
        none = λ e. none_written raise_tests raise_terms raise_params db tally after it later
            raise_alike (λ r. refl) (sym many ∙ e);
        one = λ e. record {
          rest = rest raise_tests raise_terms raise_params db tally after it later raise_alike
              (λ r. refl);
          follow = λ a.
              let single = sym many ∙ e in
              let rows = ours raise_tests raise_terms raise_params db tally after it later raise_alike
              (λ r. refl) in
              let kinds = ours_kinds raise_tests raise_terms raise_params db tally after it later
              raise_alike (λ r. refl)
              (have_kinds a.others (map current_columns (db 4)) a.typed a.currents) in
              let wrote = map_alike (λ r. current_columns (cast_row third_table
              (drop 1 (eval_all raise_terms (raise_params ∷ r ∷ []))))) (λ _. new_current) rows
              (all_weaker (λ r. HasKinds (current_columns r) × (later (current_columns r) ≡ true))
              (λ r. current_columns (cast_row third_table
              (drop 1 (eval_all raise_terms (raise_params ∷ r ∷ [])))) ≡ new_current)
              (λ r k. raise_written db r k.0 k.1) rows kinds)
              ∙ single_by new_current rows (many_ours raise_tests raise_terms raise_params db tally
              after it later raise_alike (λ r. refl) ∙ single) in (
                raise_follows origin number tick node time pico asked who value a.others
                    (cells (db 1)) (map current_columns (db 4)) (map current_columns (after.trees 4))
                    a.records a.typed a.currents
                    (one_held raise_tests raise_terms raise_params db tally after it later raise_alike
                    (λ r. refl) single)
                    (written raise_tests raise_terms raise_params db tally after it later raise_alike
                    (λ r. refl) a.numbered (new_current ∷ []) wrote),
                still_numbered raise_tests raise_terms raise_params db tally after it later
                    raise_alike
                    (λ r. refl) a.numbered,
              );
        };
      }
        where
          many : count ≡ length it.rows
          many = as_many raise_tests raise_terms raise_params db tally after it later raise_alike
              (λ r. refl) count counted

  module _ {indexed : Bool} (db : Trees) (tally : Tally) (after : Database)
      (it : Sets indexed third_table (writes mark_tests mark_terms) mark_params db tally after)
    where
      marks : (count : ℕ) → count ≡ unwrap_or tally.rows 0 → Renews count row db after.trees
      marks count counted = record {
        none = λ e. none_written mark_tests mark_terms mark_params db tally after it earlier
            mark_alike (λ r. refl) (sym many ∙ e);
        one = λ e. record {
          rest = rest mark_tests mark_terms mark_params db tally after it earlier mark_alike
              (λ r. refl);
          follow = λ a.
              let single = sym many ∙ e in
              let rows = ours mark_tests mark_terms mark_params db tally after it earlier mark_alike
              (λ r. refl) in
              let kinds = ours_kinds mark_tests mark_terms mark_params db tally after it earlier
              mark_alike (λ r. refl)
              (have_kinds a.others (map current_columns (db 4)) a.typed a.currents) in
              let wrote = map_alike (λ r. current_columns (cast_row third_table
              (drop 1 (eval_all mark_terms (mark_params ∷ r ∷ [])))))
              (λ r. with_mark (current_columns r)) rows
              (all_weaker (λ r. HasKinds (current_columns r) × (earlier (current_columns r) ≡ true))
              (λ r. current_columns (cast_row third_table
              (drop 1 (eval_all mark_terms (mark_params ∷ r ∷ [])))) ≡ with_mark (current_columns r))
              (λ r k. mark_written r k.0) rows kinds)
              ∙ sym (map-map with_mark current_columns rows)
              ∙ ap (map with_mark) (ours_held mark_tests mark_terms mark_params db tally after it
              earlier mark_alike (λ r. refl)) in (
                mark_follows origin number tick node time pico asked who value a.others
                    (cells (db 1)) (map current_columns (db 4)) (map current_columns (after.trees 4))
                    a.records a.typed a.currents
                    (one_held mark_tests mark_terms mark_params db tally after it earlier mark_alike
                    (λ r. refl) single)
                    (written mark_tests mark_terms mark_params db tally after it earlier mark_alike
                    (λ r. refl) a.numbered
                    (map with_mark (filter earlier (map current_columns (db 4)))) wrote),
                still_numbered mark_tests mark_terms mark_params db tally after it earlier mark_alike
                    (λ r. refl) a.numbered,
              );
        };
      }
        where
          many : count ≡ length it.rows
          many = as_many mark_tests mark_terms mark_params db tally after it earlier mark_alike
              (λ r. refl) count counted

  pub raises_current : (old new : State) (r : Result ℕ Error) → MakingArchive old
      → ExecutesInside 0 raise_current_text raise_params old new r
      → IfOk r (λ count. MakingArchive new × (new.now.schema ≡ old.now.schema)
      × (new.committed ≡ old.committed)
      × Renews count row old.now.trees new.now.trees)
  raises_current old new (Err e) was h = tt
  raises_current old new (Ok count) was h =
      let is = was.has in
      let w = runs_as raise_current_text raise_params old new (archive_schema is.0) is.1
      (Update 2 (writes raise_tests raise_terms)) (raise_is is.0) (raise_plain is.0) count h.0 in
      let it = set_currents old w.tally new.now (statement_of raise_current_text
      (understood (archive_schema is.0) raise_current_text)) raise_params is.0 is.1
      (writes raise_tests raise_terms) w.changed in (
        record { inside = h.1.mode; has = (is.0, it.schema) },
        it.schema ∙ sym is.1,
        h.1.committed_is,
        raises old.now.trees w.tally new.now it count w.counted,
      )

  pub marks_current : (old new : State) (r : Result ℕ Error) → MakingArchive old
      → ExecutesInside 0 mark_current_text mark_params old new r
      → IfOk r (λ count. MakingArchive new × (new.now.schema ≡ old.now.schema)
      × (new.committed ≡ old.committed)
      × Renews count row old.now.trees new.now.trees)
  marks_current old new (Err e) was h = tt
  marks_current old new (Ok count) was h =
      let is = was.has in
      let w = runs_as mark_current_text mark_params old new (archive_schema is.0) is.1
      (Update 2 (writes mark_tests mark_terms)) (mark_is is.0) (mark_plain is.0) count h.0 in
      let it = set_currents old w.tally new.now (statement_of mark_current_text
      (understood (archive_schema is.0) mark_current_text)) mark_params is.0 is.1
      (writes mark_tests mark_terms) w.changed in (
        record { inside = h.1.mode; has = (is.0, it.schema) },
        it.schema ∙ sym is.1,
        h.1.committed_is,
        marks old.now.trees w.tally new.now it count w.counted,
      )

  -- ---- how many rows they meet, where one row is of the moment

  raised_one : (db : Trees) (count : ℕ) → count ≡ length (filter later (map current_columns (db 4)))
      → RaisesOne count row db
  raised_one db count many one = go one.so
    where
      go : (Over one.tick one.origin tick origin ⊎ Over tick origin one.tick one.origin)
          → (count ≡ 1) ⊎ ((count ≡ 0) × HasLaterBeside row db)
      go (inl above) = inr (
        many ∙ none_raised origin number tick node time pico asked who value
            (map current_columns (db 4)) one.current one.only one.tick one.origin one.stamp.0
            one.stamp.1 above,
        record {
          current = one.current;
          only = one.only;
          tick = one.tick;
          origin = one.origin;
          stamp = one.stamp;
          so = above;
        },
      )
      go (inr below) = inl (many ∙ one_raised origin number tick node time pico asked who value
          (map current_columns (db 4)) one.current one.only one.tick one.origin one.stamp.0
          one.stamp.1 below)

  pub raises_one : (old new : State) (r : Result ℕ Error) → MakingArchive old
      → ExecutesInside 0 raise_current_text raise_params old new r
      → IfOk r (λ count. RaisesOne count row old.now.trees)
  raises_one old new (Err e) was h = tt
  raises_one old new (Ok count) was h =
      let is = was.has in
      let w = runs_as raise_current_text raise_params old new (archive_schema is.0) is.1
      (Update 2 (writes raise_tests raise_terms)) (raise_is is.0) (raise_plain is.0) count h.0 in
      let it = set_currents old w.tally new.now (statement_of raise_current_text
      (understood (archive_schema is.0) raise_current_text)) raise_params is.0 is.1
      (writes raise_tests raise_terms) w.changed in
      raised_one old.now.trees count
      (as_many raise_tests raise_terms raise_params old.now.trees w.tally new.now it later
      raise_alike (λ r. refl) count w.counted
      ∙ sym (as_held raise_tests raise_terms raise_params old.now.trees w.tally new.now it later
      raise_alike (λ r. refl)))

  pub marks_one : (old new : State) (r : Result ℕ Error) → MakingArchive old
      → ExecutesInside 0 mark_current_text mark_params old new r
      → IfOk r (λ count. HasLaterBeside row old.now.trees → count ≡ 1)
  marks_one old new (Err e) was h = tt
  marks_one old new (Ok count) was h = λ one.
      let is = was.has in
      let w = runs_as mark_current_text mark_params old new (archive_schema is.0) is.1
      (Update 2 (writes mark_tests mark_terms)) (mark_is is.0) (mark_plain is.0) count h.0 in
      let it = set_currents old w.tally new.now (statement_of mark_current_text
      (understood (archive_schema is.0) mark_current_text)) mark_params is.0 is.1
      (writes mark_tests mark_terms) w.changed in
      as_many mark_tests mark_terms mark_params old.now.trees w.tally new.now it earlier
      mark_alike (λ r. refl) count w.counted
      ∙ sym (as_held mark_tests mark_terms mark_params old.now.trees w.tally new.now it earlier
      mark_alike (λ r. refl))
      ∙ one_passed origin number tick node time pico asked who value
      (map current_columns (old.now.trees 4)) one.current one.only one.tick one.origin
      one.stamp.0 one.stamp.1 one.so

-- ---- between the calls

pub still_other : (row : Row) (Are : ℤ → ℤ → Type 0) (old new : Trees) → new 4 ≡ old 4
    → HasOneBeside row Are old → HasOneBeside row Are new
still_other row Are old new same_rows one = record {
  current = one.current;
  only = ap (λ rows. filter (is_beside row) (map current_columns rows)) same_rows ∙ one.only;
  tick = one.tick;
  origin = one.origin;
  stamp = one.stamp;
  so = one.so;
}

-- where a statement wrote none, what the next one takes in is taken in by both
pub behind_none : (row : Row) (old mid new : Trees) → KeepsTables old mid → TakesIn row mid new
    → TakesIn row old new
behind_none row old mid new kept took = record {
  rest = record {
    meta = took.rest.meta ∙ kept.rest.meta;
    records = took.rest.records ∙ kept.rest.records;
    vectors = took.rest.vectors ∙ kept.rest.vectors;
  };
  follow = λ a.
      let after = took.follow (record {
        others = a.others;
        records = subst (λ rows. IsPermutation (row ∷ a.others) (cells rows))
            (sym kept.rest.records) a.records;
        typed = a.typed;
        currents = subst (λ rows. IsPermutation (currents_of a.others) (map current_columns rows))
            (sym kept.currents) a.currents;
        numbered = subst AreNumbered (sym kept.currents) a.numbered;
      }) in (
        subst (λ rows. IsPermutation (currents_of (cells rows)) (map current_columns (new 4)))
            kept.rest.records after.0,
        after.1,
      );
}
