-- What an opening found of currents2 and of vectors makes them hold the rows that follow.
use Rattle.std.proofs.Common.{◌≡◌, ◌⊎◌, ℕ, ℤ, pos, not, Bool, true, false, List, [], ◌∷◌, length, map, filter, inl, inr, arith, refl, sym, ap, subst, ◌∙◌, IsPermutation, is_eq, Ordering, Result, Ok, Err, OnOk, IfErr, IsTrue}
use Rattle.std.specs.List.{list_any, AllByRecursion}
use Rattle.std.proofs.lemmas.Bool.{true≢false}
use Rattle.std.proofs.lemmas.List.Sorted.{IsPermutation-sym, IsPermutation-trans, length_permutation}
use Rattle.sqlite_value.specs.declared.value.Value.TheVariants.{Int}
use Rattle.sqlite_value.specs.Order.{Row, column, value_cmp}
use Rattle.sqlite_rules.specs.Lists.{Has}
use Rattle.sqlite_trees.specs.Tree.{Trees, IsAscending, rowid}
use Rattle.sqlite_keyed.proofs.ListLemmas.{ascending-map, ascending-filter}
use Rattle.records.specs.Lists.{IsPairwise, IsApart, Has as HasRecord}
use Rattle.records.specs.Contents.{Content}
use Rattle.records.proofs.Sorting.{all-has}
use Rattle.records.specs.Records.{name_cmp, record_stamp_cmp}
use Rattle.records.specs.declared.record.Record.{Record}
use Rattle.records.proofs.CloseLemmas.{closed_names, closed_stamps}
use Rattle.sql_tables.specs.Words.{cells}
use Rattle.sql_tables.specs.Derived.{current_of, currents_of, current_columns, is_later, is_newer, last_of, int_in}
use Rattle.sql_tables.specs.Rows.{row_of, IsFilled}
use Rattle.sqlite.specs.State.{State, HasCleanDisk}
use Rattle.archive.specs.declared.fault.StoreFault.{StoreFault}
use Rattle.sql_tables.specs.State.{LeavesUnchanged}
use Rattle.sql_tables.specs.Agreeing.{IsAt, IsStamped, IsShownBy, AreStamped, AreSingle, AreTelling, AreShown, HasCurrents, AreOfRecords, AreReached, HasVectors}
use Rattle.sql_tables.proofs.AskLemmas.{passed_ok, passed_then, passed_told, passed_asked, passed_err, passed_fault, early, same_trees}
use Rattle.archive.specs.Store.{IsOfOpening}
use Rattle.sql_tables.specs.Derived.{AreKept, AreNumbered}
use Rattle.sql_tables.proofs.DerivedLemmas.{currents_permuted, filled_by}
use Rattle.sql_tables.proofs.KeptLemmas.{filled_cells}
use Rattle.sql_tables.proofs.WholeLemmas.{has_from_map, all_has_permuted}
use Rattle.sql_tables.proofs.LastLemmas.{vectors_follow, no_longer, clash, rows_have}
use Rattle.sql_tables.proofs.TopLemmas.{forth, back}

ascends : {X : Type 0} (R : X → X → Type 0) (xs : List X) → IsPairwise R xs → IsAscending R xs
ascends R [] all = tt
ascends R (x ∷ xs) all = (all.0, ascends R xs all.1)

each_has : {X : Type 0} (P : X → Type 0) (xs : List X) → AllByRecursion P xs → (x : X) → Has xs x
    → P x
each_has P [] all x h = absurd h
each_has P (y ∷ ys) all x (inl e) = subst P (sym e) all.0
each_has P (y ∷ ys) all x (inr h) = each_has P ys all.1 x h

-- rows that are made of records of which no two tie differ, where a row tells what ties
module _ (cmp : Record → Record → Ordering) (f : Row → Row) (p : Row → Bool) (R : List Record)
    (apart : IsPairwise (λ a b. is_eq (cmp a b) ≡ false) R)
    (tells : (a b : Record) → f (row_of a) ≡ f (row_of b) → is_eq (cmp a b) ≡ true) where
  rows_differ : IsAscending (λ a b. a ≡ b → ⊥) (map f (filter p (map row_of R)))
  rows_differ =
      ascending-map (λ a b. a ≡ b → ⊥) f (filter p (map row_of R))
      (ascending-filter (λ a b. f a ≡ f b → ⊥) p (map row_of R)
      (ascending-map (λ a b. f a ≡ f b → ⊥) row_of R
      (weaker R (ascends (λ a b. is_eq (cmp a b) ≡ false) R apart))))
    where
      weaker_each : (a : Record) (xs : List Record)
          → AllByRecursion (λ b. is_eq (cmp a b) ≡ false) xs
          → AllByRecursion (λ b. f (row_of a) ≡ f (row_of b) → ⊥) xs
      weaker_each a [] all = tt
      weaker_each a (b ∷ xs) all =
          (λ e. true≢false (sym (tells a b e) ∙ all.0), weaker_each a xs all.1)

      weaker : (xs : List Record) → IsAscending (λ a b. is_eq (cmp a b) ≡ false) xs
          → IsAscending (λ a b. f (row_of a) ≡ f (row_of b) → ⊥) xs
      weaker [] all = tt
      weaker (x ∷ xs) all = (weaker_each x xs all.0, weaker xs all.1)

tied_stamps : (a b : Record) → a.tick ≡ b.tick → a.origin ≡ b.origin
    → is_eq (record_stamp_cmp a b) ≡ true
tied_stamps a b tick origin = grind (arith, tick, origin)

same_stamp : (rows : List Row) (a b : Record)
    → current_of rows (row_of a) ≡ current_of rows (row_of b) → is_eq (record_stamp_cmp a b) ≡ true
same_stamp rows a b e =
    let tick : a.tick ≡ b.tick = ap (λ (r : Row). int_in (column r 3)) e in
    let origin : a.origin ≡ b.origin = by_number (ap (λ (r : Row). int_in (column r 4)) e) in
    tied_stamps a b tick origin
  where
    by_number : {m n : ℕ} → ◌≡◌ {A = ℤ} (pos m) (pos n) → m ≡ n
    by_number e = cc

same_name : (a b : Record) → last_of (row_of a) ≡ last_of (row_of b) → is_eq (name_cmp a b) ≡ true
same_name a b e =
    let origin : a.origin ≡ b.origin = by_number (ap (λ (r : Row). int_in (column r 0)) e) in
    let number : a.number ≡ b.number = by_number (ap (λ (r : Row). int_in (column r 1)) e) in
    grind (arith, origin, number)
  where
    by_number : {m n : ℕ} → ◌≡◌ {A = ℤ} (pos m) (pos n) → m ≡ n
    by_number e = cc

-- records of one stamp are one
one_record : (R : Content) → IsApart record_stamp_cmp R → (a b : Record) → HasRecord R a
    → HasRecord R b → a.tick ≡ b.tick → a.origin ≡ b.origin → a ≡ b
one_record [] apart a b h k tick origin = absurd h
one_record (x ∷ R) apart a b (inl e) (inl f) tick origin = sym e ∙ f
one_record (x ∷ R) apart a b (inl e) (inr k) tick origin =
    absurd (true≢false (sym (subst (λ (z : Record). is_eq (record_stamp_cmp z b) ≡ true) (sym e)
    (tied_stamps a b tick origin))
    ∙ all-has (λ z. is_eq (record_stamp_cmp x z) ≡ false) R b apart.0 k))
one_record (x ∷ R) apart a b (inr h) (inl f) tick origin =
    absurd (true≢false (sym (subst (λ (z : Record). is_eq (record_stamp_cmp z a) ≡ true) (sym f)
    (tied_stamps b a (sym tick) (sym origin)))
    ∙ all-has (λ z. is_eq (record_stamp_cmp x z) ≡ false) R a apart.0 h))
one_record (x ∷ R) apart a b (inr h) (inr k) tick origin =
    one_record R apart.1 a b h k tick origin

-- so are their rows
one_of : (R : Content) → IsApart record_stamp_cmp R → (M : List Row)
    → IsPermutation (map row_of R) M
    → (a b : Row) → Has M a → Has M b → column a 2 ≡ column b 2 → column a 0 ≡ column b 0 → a ≡ b
one_of R apart M stand a b h k tick origin =
    let back = all_has_permuted M (map row_of R) (IsPermutation-sym _ _ stand) in
    let x = rows_have R a (each_has (Has (map row_of R)) M back a h) in
    let y = rows_have R b (each_has (Has (map row_of R)) M back b k) in
    x.2 ∙ ap row_of (one_record R apart x.0 y.0 x.1 y.1
    (ap int_in (sym (ap (λ (r : Row). column r 2) x.2) ∙ (tick ∙ ap (λ (r : Row). column r 2) y.2)))
    (by_number (ap int_in (sym (ap (λ (r : Row). column r 0) x.2)
    ∙ (origin ∙ ap (λ (r : Row). column r 0) y.2))))) ∙ sym y.2
  where
    by_number : {m n : ℕ} → ◌≡◌ {A = ℤ} (pos m) (pos n) → m ≡ n
    by_number e = cc

ascends_by : {X : Type 0} (R S : X → X → Type 0) (xs : List X)
    → ((a b : X) → Has xs a → Has xs b → R a b → S a b) → IsAscending R xs → IsAscending S xs
ascends_by R S [] f up = tt
ascends_by {X} R S (x ∷ xs) f up = (
  go xs (λ b h. f x b (inl refl) (inr h)) up.0,
  ascends_by R S xs (λ a b h k. f a b (inr h) (inr k)) up.1,
)
  where
    go : (ys : List X) → ((b : X) → Has ys b → R x b → S x b) → AllByRecursion (R x) ys
        → AllByRecursion (S x) ys
    go [] f all = tt
    go (y ∷ ys) f all = (f y (inl refl) all.0, go ys (λ b h. f b (inr h)) all.1)

pub has_currents : (db : Trees) → IsFilled db → AreStamped db → AreSingle db → AreTelling db
    → AreShown db → AreNumbered (db 4) → HasCurrents db
has_currents db (R, l, stand) stamped single telling shown ids =
    let M = cells (db 1) in
    let C = map current_columns (db 4) in
    let typed = filled_cells R db stand in
    let apart = closed_stamps R l.closed in
    let only = λ (c d : Row) (h : Has C c) (k : Has C d) (node : column c 0 ≡ column d 0)
    (time : column c 1 ≡ column d 1) (pico : column c 2 ≡ column d 2).
    one_current db (single ids) c d h k node time pico in
    let of_c = λ (c : Row) (h : Has C c).
    each_has (λ x. (r : Row) × Has M r × IsAt x r × IsStamped x r) C stamped c h in
    let tell_c = λ (c : Row) (h : Has C c).
    each_has (λ x. (column x 6 ≡ Int (pos 0))
    ⊎ ((r : Row) × Has M r × IsAt x r × (IsStamped x r → ⊥))) C telling c h in
    let show_r = λ (r : Row) (h : Has M r).
    each_has (λ x. (c : Row) × Has C c × IsShownBy x c) M shown r h in
    let here = λ (x : Row) (h : Has (currents_of M) x).
    forth M typed (one_of R apart M stand) C (formed db) only of_c tell_c show_r x h in
    let gone = λ (c : Row) (h : Has C c).
    back M typed (one_of R apart M stand) C (formed db) only of_c tell_c show_r c h in
    let follow = currents_permuted (map row_of R) M stand in
    let differ = rows_differ record_stamp_cmp (current_of (map row_of R))
    (λ r. not (list_any (is_later r) (map row_of R))) R apart (same_stamp (map row_of R)) in
    let there = λ (x : Row) (h : Has (currents_of (map row_of R)) x).
    here x (each_has (Has (currents_of M)) (currents_of (map row_of R))
    (all_has_permuted _ _ follow) x h) in
    let apart_rows = ascending-map (λ a b. a ≡ b → ⊥) current_columns (db 4)
    (ascends_by (λ a b. is_eq (value_cmp (rowid a) (rowid b)) ≡ false)
    (λ a b. current_columns a ≡ current_columns b → ⊥) (db 4)
    (λ a b h k off e. clash (rowid a) (rowid b) (ap rowid (single ids a b h k
    (ap (λ (x : Row). column x 0) e) (ap (λ (x : Row). column x 1) e)
    (ap (λ (x : Row). column x 2) e))) off) ids.apart) in
    let many : length (currents_of (map row_of R)) ≡ length C = omega (
      arith,
      no_longer (currents_of (map row_of R)) C differ there,
      no_longer C (currents_of M) apart_rows gone,
      length_permutation _ _ follow,
    ) in
    let is = filled_by (currents_of (map row_of R)) C differ there many in
    (IsPermutation-trans _ _ _ (IsPermutation-sym _ _ follow) is, ids)
  where
    one_current : (db : Trees) → ((c d : Row) → Has (db 4) c → Has (db 4) d
        → column c 1 ≡ column d 1 → column c 2 ≡ column d 2 → column c 3 ≡ column d 3 → c ≡ d)
        → (c d : Row) → Has (map current_columns (db 4)) c → Has (map current_columns (db 4)) d
        → column c 0 ≡ column d 0 → column c 1 ≡ column d 1 → column c 2 ≡ column d 2 → c ≡ d
    one_current db single c d h k node time pico =
        let x = has_from_map current_columns (db 4) c h in
        let y = has_from_map current_columns (db 4) d k in
        let at = λ (i : ℕ) (e : column c i ≡ column d i).
        sym (ap (λ (r : Row). column r i) x.2) ∙ (e ∙ ap (λ (r : Row). column r i) y.2) in
        x.2 ∙ ap current_columns (single x.0 y.0 x.1 y.1 (at 0 node) (at 1 time) (at 2 pico))
        ∙ sym y.2

    formed : (db : Trees) (c : Row) → Has (map current_columns (db 4)) c
        → c ≡ column c 0 ∷ column c 1 ∷ column c 2 ∷ column c 3 ∷ column c 4 ∷ column c 5
        ∷ column c 6 ∷ column c 7 ∷ []
    formed db c h =
        let x = has_from_map current_columns (db 4) c h in
        subst (λ (z : Row). z ≡ column z 0 ∷ column z 1 ∷ column z 2 ∷ column z 3 ∷ column z 4
        ∷ column z 5 ∷ column z 6 ∷ column z 7 ∷ []) (sym x.2) refl

pub has_vectors : (db : Trees) → IsFilled db → AreOfRecords db → AreReached db
    → AreNumbered (db 6) → HasVectors db
has_vectors db (R, l, stand) =
    vectors_follow db R l.closed stand (rows_differ name_cmp last_of
    (λ r. not (list_any (is_newer r) (map row_of R))) R (closed_names R l.closed) same_name)

-- ---- one question behind the other

fits_where : (b : Bool) → (b ≡ false → ⊥) → IsTrue b
fits_where true h = refl
fits_where false h = absurd (h refl)

pub checked_currents : (a b c d e : State) (stand tell show : Bool) (held : ℕ)
    → (HasCleanDisk a → IsFilled a.now.trees)
    → LeavesUnchanged a b (Ok stand) (λ s. (IsTrue s → AreStamped a.now.trees
    × AreSingle a.now.trees) × (s ≡ false → HasCurrents a.now.trees → ⊥))
    → LeavesUnchanged b c (Ok tell) (λ s. (IsTrue s → AreTelling b.now.trees)
    × (s ≡ false → HasCurrents b.now.trees → ⊥))
    → LeavesUnchanged c d (Ok show) (λ s. (IsTrue s → AreShown c.now.trees)
    × (s ≡ false → HasCurrents c.now.trees → ⊥))
    → LeavesUnchanged d e (Ok held) (λ n. (n ≡ length (d.now.trees 4))
    × AreNumbered (d.now.trees 4)) → (r : Result Unit StoreFault)
    → OnOk r (IsTrue stand × IsTrue tell × IsTrue show) → IfErr r (λ f. IsOfOpening f → ⊥)
    → IfErr r (λ _. IsTrue stand → IsTrue tell → IsTrue show → ⊥)
    → LeavesUnchanged a e r (λ _. HasCurrents a.now.trees)
checked_currents a b c d e stand tell show held filled one two three four (Err fault) same met why =
    let first = passed_ok a b stand _ one in
    let second = passed_then a b c first (passed_ok b c tell _ two) in
    let third = passed_then a c d second (passed_ok c d show _ three) in
    let fourth = passed_then a d e third (passed_ok d e held _ four) in
    passed_fault a e fault (λ _. HasCurrents a.now.trees) fourth met (λ clean is whole.
    let later = early d e (passed_ok d e held _ four) clean in
    let late = early c d (passed_ok c d show _ three) later in
    let mid = early b c (passed_ok b c tell _ two) late in
    let at_b : b.now.trees ≡ a.now.trees = same_trees a b first mid in
    let at_c : c.now.trees ≡ a.now.trees = same_trees a c second late in
    let kept : HasCurrents a.now.trees = (whole.kept.currents, whole.kept.numbered.0) in
    why (fits_where stand (λ off. (one.answer mid).1 off kept))
    (fits_where tell (λ off. (two.answer late).1 off (subst HasCurrents (sym at_b) kept)))
    (fits_where show (λ off. (three.answer later).1 off (subst HasCurrents (sym at_c) kept))))
checked_currents a b c d e stand tell show held filled one two three four (Ok tt)
    (stands, tells, shows) met why =
    let first = passed_ok a b stand _ one in
    let second = passed_then a b c first (passed_ok b c tell _ two) in
    let third = passed_then a c d second (passed_ok c d show _ three) in
    let fourth = passed_then a d e third (passed_ok d e held _ four) in
    passed_told a e tt (λ _. HasCurrents a.now.trees) fourth (λ clean.
    let later = early d e (passed_ok d e held _ four) clean in
    let late = early c d (passed_ok c d show _ three) later in
    let mid = early b c (passed_ok b c tell _ two) late in
    let start = early a b first mid in
    let at_b : b.now.trees ≡ a.now.trees = same_trees a b first mid in
    let at_c : c.now.trees ≡ a.now.trees = same_trees a c second late in
    let at_d : d.now.trees ≡ a.now.trees = same_trees a d third later in
    let have = subst (λ (t : Trees). (held ≡ length (t 4)) × AreNumbered (t 4)) at_d
    (four.answer clean) in
    let of_records = (one.answer mid).0 stands in
    has_currents a.now.trees (filled start) of_records.0 of_records.1
    (subst AreTelling at_b ((two.answer late).0 tells))
    (subst AreShown at_c ((three.answer later).0 shows)) have.1)

-- a fault met by the fourth question
pub fourth_failed : {A B C D E : Type 0} (a b c d e : State) (x : A) (y : B) (z : C)
    (fault : StoreFault) (P : A → Type 0) (Q : B → Type 0) (S : C → Type 0) (T : D → Type 0)
    (W : E → Type 0) → LeavesUnchanged a b (Ok x) P → LeavesUnchanged b c (Ok y) Q
    → LeavesUnchanged c d (Ok z) S → LeavesUnchanged {A = D} d e (Err fault) T
    → (r : Result E StoreFault) → r ≡ Err fault → LeavesUnchanged a e r W
fourth_failed {E = E} a b c d e x y z fault P Q S T W one two three four r is =
    let second = passed_then a b c (passed_ok a b x P one) (passed_ok b c y Q two) in
    let third = passed_then a c d second (passed_ok c d z S three) in
    subst (λ (told : Result E StoreFault). LeavesUnchanged a e told W) (sym is)
    (passed_err a d e fault T W third four)

pub checked_vectors : (a b c d : State) (stand reach : Bool) (held : ℕ)
    → (HasCleanDisk a → IsFilled a.now.trees)
    → LeavesUnchanged a b (Ok stand) (λ s. (IsTrue s → AreNumbered (a.now.trees 6)
    → AreOfRecords a.now.trees) × (s ≡ false → HasVectors a.now.trees → ⊥))
    → LeavesUnchanged b c (Ok reach) (λ s. (IsTrue s → AreReached b.now.trees)
    × (s ≡ false → HasVectors b.now.trees → ⊥))
    → LeavesUnchanged c d (Ok held) (λ n. (n ≡ length (c.now.trees 6))
    × AreNumbered (c.now.trees 6)) → (r : Result Unit StoreFault)
    → OnOk r (IsTrue stand × IsTrue reach) → IfErr r (λ f. IsOfOpening f → ⊥)
    → IfErr r (λ _. IsTrue stand → IsTrue reach → ⊥)
    → LeavesUnchanged a d r (λ _. HasVectors a.now.trees)
checked_vectors a b c d stand reach held filled one two three (Err fault) same met why =
    let first = passed_ok a b stand _ one in
    let second = passed_then a b c first (passed_ok b c reach _ two) in
    let third = passed_then a c d second (passed_ok c d held _ three) in
    passed_fault a d fault (λ _. HasVectors a.now.trees) third met (λ clean is whole.
    let late = early c d (passed_ok c d held _ three) clean in
    let mid = early b c (passed_ok b c reach _ two) late in
    let at_b : b.now.trees ≡ a.now.trees = same_trees a b first mid in
    let kept : HasVectors a.now.trees = (whole.kept.vectors, whole.kept.numbered.1) in
    why (fits_where stand (λ e. (one.answer mid).1 e kept))
    (fits_where reach (λ e. (two.answer late).1 e (subst HasVectors (sym at_b) kept))))
checked_vectors a b c d stand reach held filled one two three (Ok tt) (stands, reaches) met why =
    let first = passed_ok a b stand _ one in
    let second = passed_then a b c first (passed_ok b c reach _ two) in
    let third = passed_then a c d second (passed_ok c d held _ three) in
    passed_told a d tt (λ _. HasVectors a.now.trees) third (λ clean.
    let late = early c d (passed_ok c d held _ three) clean in
    let mid = early b c (passed_ok b c reach _ two) late in
    let start = early a b first mid in
    let at_b : b.now.trees ≡ a.now.trees = same_trees a b first mid in
    let at_c : c.now.trees ≡ a.now.trees = same_trees a c second late in
    let have = subst (λ (t : Trees). (held ≡ length (t 6)) × AreNumbered (t 6)) at_c
    (three.answer clean) in
    has_vectors a.now.trees (filled start) ((one.answer mid).0 stands have.1)
    (subst AreReached at_b ((two.answer late).0 reaches)) have.1)

pub checked_both : (a b c : State) (r : Result Unit StoreFault)
    → LeavesUnchanged {A = Unit {0}} a b (Ok tt) (λ _. HasCurrents a.now.trees)
    → LeavesUnchanged b c r (λ _. HasVectors b.now.trees)
    → LeavesUnchanged a c r (λ _. AreKept a.now.trees)
checked_both a b c r one two =
    let first = passed_ok {A = Unit {0}} a b tt (λ _. HasCurrents a.now.trees) one in
    passed_asked a b c r (λ _. HasVectors b.now.trees) (λ _. AreKept a.now.trees) first two
    (λ clean v vectors.
    let currents = one.answer clean in
    let mine : HasVectors a.now.trees = subst HasVectors (same_trees a b first clean) vectors in
    record { currents = currents.0; vectors = mine.0; numbered = (currents.1, mine.1) })
