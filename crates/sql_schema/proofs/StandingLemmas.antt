-- The tables of an archive, written out.
use Rattle.std.proofs.Common.{◌≡◌, Bool, refl, List, [], ◌∷◌, ◌++◌, length, slice_index_or, arith}
use Rattle.sqlite_schema.specs.declared.schema.Schema.{Schema}
use Rattle.sqlite_value.specs.Order.{Row}
use Rattle.sqlite_catalog.specs.Listing.{Lists}
use Rattle.sqlite_tied.specs.Compute.{everything}
use Rattle.std.proofs.Common.{ℕ, suc, zero, Some, slice_get, pos, sym, ap, subst, ◌∙◌, inl, inr, rules, unwrap_or}
use Rattle.std.proofs.lemmas.Option.{get_or_from_slice_get, slice_get_cases, unwrap_or-slice_get}
use Rattle.sqlite_value.specs.declared.keys.Collation.TheVariants as collation
use Rattle.sqlite_value.specs.declared.value.Value.TheVariants as value
use Rattle.sqlite_value.specs.declared.value.ValueRef.TheVariants as lent
use Rattle.sqlite_sql.specs.declared.ops.BinaryOp.TheVariants.{Compare}
use Rattle.sqlite_sql.specs.declared.ops.CompareOp.TheVariants.{Eq}
use Rattle.sqlite_sql.specs.declared.expr.Node.{Node}
use Rattle.sqlite_sql.specs.declared.expr.Node.TheVariants as node
use Rattle.sqlite_sql.specs.Term.{Term, lit, col, op2}
use Rattle.sqlite_sql.specs.Syntax.{node_term, term_at, term_of}
use Rattle.sql_schema.specs.Tables.{HasMeta, IsArchiveSchema, ListsArchive, first_table, second_table, third_table, fourth_table, second_table1, third_table1, key_indexes, live_indexes, indexes1, indexes_beside, records_beside, currents_beside, schema1, archive_schema, beside_schema}

pub written_out : (indexed : Bool) → archive_schema indexed ≡ record {
  tables = first_table ∷ second_table ∷ third_table ∷ fourth_table ∷ [];
  indexes = key_indexes ++ live_indexes indexed;
  views = [];
}
unfolding everything
written_out indexed = refl

pub is_whole : (indexed : Bool) (s : Schema)
    → s.tables ≡ first_table ∷ second_table ∷ third_table ∷ fourth_table ∷ []
    → s.indexes ≡ key_indexes ++ live_indexes indexed → s.views ≡ [] → s ≡ archive_schema indexed
is_whole indexed s tables indexes views = rw (written_out indexed, tables, indexes, views) refl

pub first_written_out : schema1 ≡ record {
  tables =
      first_table ∷ second_table1 ∷ third_table1 ∷ fourth_table ∷ [];
  indexes = indexes1;
  views = [];
}
unfolding everything
first_written_out = refl

pub is_first : (s : Schema) → s.tables
    ≡ first_table ∷ second_table1 ∷ third_table1 ∷ fourth_table ∷ [] → s.indexes ≡ indexes1
    → s.views ≡ [] → s ≡ schema1
is_first s tables indexes views = rw (first_written_out, tables, indexes, views) refl

pub beside_written_out : beside_schema ≡ record {
  tables =
      first_table ∷ second_table ∷ third_table ∷ fourth_table ∷ records_beside ∷ currents_beside ∷ [];
  indexes = key_indexes ++ indexes_beside;
  views = [];
}
unfolding everything
beside_written_out = refl

pub is_beside : (s : Schema) → s.tables
    ≡ first_table ∷ second_table ∷ third_table ∷ fourth_table ∷ records_beside ∷ currents_beside
    ∷ [] → s.indexes ≡ key_indexes ++ indexes_beside → s.views ≡ [] → s ≡ beside_schema
is_beside s tables indexes views = rw (beside_written_out, tables, indexes, views) refl

-- nine items that were taken from a list of nine are the list
pub nine : {A : Type 0} (xs : List A) (a b c d e f g h i : A) → length xs ≡ 9
    → a ≡ slice_index_or xs 0 a → b ≡ slice_index_or xs 1 b → c ≡ slice_index_or xs 2 c
    → d ≡ slice_index_or xs 3 d → e ≡ slice_index_or xs 4 e → f ≡ slice_index_or xs 5 f
    → g ≡ slice_index_or xs 6 g → h ≡ slice_index_or xs 7 h → i ≡ slice_index_or xs 8 i
    → xs ≡ a ∷ b ∷ c ∷ d ∷ e ∷ f ∷ g ∷ h ∷ i ∷ []
nine ([]) a b c d e f g h i len p0 p1 p2 p3 p4 p5 p6 p7 p8 = absurd (omega (arith, len))
nine (x0 ∷ []) a b c d e f g h i len p0 p1 p2 p3 p4 p5 p6 p7 p8 = absurd (omega (arith, len))
nine (x0 ∷ x1 ∷ []) a b c d e f g h i len p0 p1 p2 p3 p4 p5 p6 p7 p8 = absurd (omega (arith, len))
nine (x0 ∷ x1 ∷ x2 ∷ []) a b c d e f g h i len p0 p1 p2 p3 p4 p5 p6 p7 p8 =
    absurd (omega (arith, len))
nine (x0 ∷ x1 ∷ x2 ∷ x3 ∷ []) a b c d e f g h i len p0 p1 p2 p3 p4 p5 p6 p7 p8 =
    absurd (omega (arith, len))
nine (x0 ∷ x1 ∷ x2 ∷ x3 ∷ x4 ∷ []) a b c d e f g h i len p0 p1 p2 p3 p4 p5 p6 p7 p8 =
    absurd (omega (arith, len))
nine (x0 ∷ x1 ∷ x2 ∷ x3 ∷ x4 ∷ x5 ∷ []) a b c d e f g h i len p0 p1 p2 p3 p4 p5 p6 p7 p8 =
    absurd (omega (arith, len))
nine (x0 ∷ x1 ∷ x2 ∷ x3 ∷ x4 ∷ x5 ∷ x6 ∷ []) a b c d e f g h i len p0 p1 p2 p3 p4 p5 p6 p7 p8 =
    absurd (omega (arith, len))
nine (x0 ∷ x1 ∷ x2 ∷ x3 ∷ x4 ∷ x5 ∷ x6 ∷ x7 ∷ []) a b c d e f g h i len p0 p1 p2 p3 p4 p5 p6 p7 p8 =
    absurd (omega (arith, len))
nine (x0 ∷ x1 ∷ x2 ∷ x3 ∷ x4 ∷ x5 ∷ x6 ∷ x7 ∷ x8 ∷ []) a b c d e f g h i len p0 p1 p2 p3 p4 p5 p6 p7
    p8 = rw (p0, p1, p2, p3, p4, p5, p6, p7, p8) refl
nine (x0 ∷ x1 ∷ x2 ∷ x3 ∷ x4 ∷ x5 ∷ x6 ∷ x7 ∷ x8 ∷ y ∷ ys) a b c d e f g h i len p0 p1 p2 p3 p4 p5
    p6 p7 p8 = absurd (omega (arith, len))

-- eight items that were taken from a list of eight are the list
pub eight : {A : Type 0} (xs : List A) (a b c d e f g h : A) → length xs ≡ 8
    → a ≡ slice_index_or xs 0 a → b ≡ slice_index_or xs 1 b → c ≡ slice_index_or xs 2 c
    → d ≡ slice_index_or xs 3 d → e ≡ slice_index_or xs 4 e → f ≡ slice_index_or xs 5 f
    → g ≡ slice_index_or xs 6 g → h ≡ slice_index_or xs 7 h
    → xs ≡ a ∷ b ∷ c ∷ d ∷ e ∷ f ∷ g ∷ h ∷ []
eight ([]) a b c d e f g h len p0 p1 p2 p3 p4 p5 p6 p7 = absurd (omega (arith, len))
eight (x0 ∷ []) a b c d e f g h len p0 p1 p2 p3 p4 p5 p6 p7 = absurd (omega (arith, len))
eight (x0 ∷ x1 ∷ []) a b c d e f g h len p0 p1 p2 p3 p4 p5 p6 p7 = absurd (omega (arith, len))
eight (x0 ∷ x1 ∷ x2 ∷ []) a b c d e f g h len p0 p1 p2 p3 p4 p5 p6 p7 = absurd (omega (arith, len))
eight (x0 ∷ x1 ∷ x2 ∷ x3 ∷ []) a b c d e f g h len p0 p1 p2 p3 p4 p5 p6 p7 =
    absurd (omega (arith, len))
eight (x0 ∷ x1 ∷ x2 ∷ x3 ∷ x4 ∷ []) a b c d e f g h len p0 p1 p2 p3 p4 p5 p6 p7 =
    absurd (omega (arith, len))
eight (x0 ∷ x1 ∷ x2 ∷ x3 ∷ x4 ∷ x5 ∷ []) a b c d e f g h len p0 p1 p2 p3 p4 p5 p6 p7 =
    absurd (omega (arith, len))
eight (x0 ∷ x1 ∷ x2 ∷ x3 ∷ x4 ∷ x5 ∷ x6 ∷ []) a b c d e f g h len p0 p1 p2 p3 p4 p5 p6 p7 =
    absurd (omega (arith, len))
eight (x0 ∷ x1 ∷ x2 ∷ x3 ∷ x4 ∷ x5 ∷ x6 ∷ x7 ∷ []) a b c d e f g h len p0 p1 p2 p3 p4 p5 p6 p7 =
    rw (p0, p1, p2, p3, p4, p5, p6, p7) refl
eight (x0 ∷ x1 ∷ x2 ∷ x3 ∷ x4 ∷ x5 ∷ x6 ∷ x7 ∷ y ∷ ys) a b c d e f g h len p0 p1 p2 p3 p4 p5 p6 p7 =
    absurd (omega (arith, len))

-- seven items that were taken from a list of seven are the list
pub seven : {A : Type 0} (xs : List A) (a b c d e f g : A) → length xs ≡ 7
    → a ≡ slice_index_or xs 0 a → b ≡ slice_index_or xs 1 b → c ≡ slice_index_or xs 2 c
    → d ≡ slice_index_or xs 3 d → e ≡ slice_index_or xs 4 e → f ≡ slice_index_or xs 5 f
    → g ≡ slice_index_or xs 6 g → xs ≡ a ∷ b ∷ c ∷ d ∷ e ∷ f ∷ g ∷ []
seven ([]) a b c d e f g len p0 p1 p2 p3 p4 p5 p6 = absurd (omega (arith, len))
seven (x0 ∷ []) a b c d e f g len p0 p1 p2 p3 p4 p5 p6 = absurd (omega (arith, len))
seven (x0 ∷ x1 ∷ []) a b c d e f g len p0 p1 p2 p3 p4 p5 p6 = absurd (omega (arith, len))
seven (x0 ∷ x1 ∷ x2 ∷ []) a b c d e f g len p0 p1 p2 p3 p4 p5 p6 = absurd (omega (arith, len))
seven (x0 ∷ x1 ∷ x2 ∷ x3 ∷ []) a b c d e f g len p0 p1 p2 p3 p4 p5 p6 = absurd (omega (arith, len))
seven (x0 ∷ x1 ∷ x2 ∷ x3 ∷ x4 ∷ []) a b c d e f g len p0 p1 p2 p3 p4 p5 p6 =
    absurd (omega (arith, len))
seven (x0 ∷ x1 ∷ x2 ∷ x3 ∷ x4 ∷ x5 ∷ []) a b c d e f g len p0 p1 p2 p3 p4 p5 p6 =
    absurd (omega (arith, len))
seven (x0 ∷ x1 ∷ x2 ∷ x3 ∷ x4 ∷ x5 ∷ x6 ∷ []) a b c d e f g len p0 p1 p2 p3 p4 p5 p6 =
    rw (p0, p1, p2, p3, p4, p5, p6) refl
seven (x0 ∷ x1 ∷ x2 ∷ x3 ∷ x4 ∷ x5 ∷ x6 ∷ y ∷ ys) a b c d e f g len p0 p1 p2 p3 p4 p5 p6 =
    absurd (omega (arith, len))

-- ---- the check of meta, whose nodes may stand in any order

-- the term of a node, over those at the places that it names
term_there : (nodes : List Node) (depth at : ℕ) (n : Node) → slice_get nodes at ≡ Some n
    → term_at nodes (suc depth) at ≡ node_term (term_at nodes depth) n
term_there nodes depth at n is = ap (node_term (term_at nodes depth))
    (get_or_from_slice_get nodes at n (node.Literal lent.Null) is)

-- two nodes that differ stand at two places
two_nodes : (nodes : List Node) (at l : ℕ) (n m : Node) → slice_get nodes at ≡ Some n
    → slice_get nodes l ≡ Some m → (n ≡ m → ⊥) → (k : ℕ) × (length nodes ≡ suc (suc k))
two_nodes ([]) at l n m here there apart = absurd (search rules)
two_nodes (x ∷ []) zero zero n m here there apart = let is : n ≡ m = cc in absurd (apart is)
two_nodes (x ∷ []) zero (suc l) n m here there apart = absurd (search rules)
two_nodes (x ∷ []) (suc at) l n m here there apart = absurd (search rules)
two_nodes (x ∷ y ∷ nodes) at l n m here there apart = (length nodes, refl)

pub check_made : (nodes : List Node) (at l r : ℕ)
    → slice_get nodes at ≡ Some (node.Binary (Compare Eq collation.Binary) l r)
    → slice_get nodes l ≡ Some (node.Column 1 0)
    → slice_get nodes r ≡ Some (node.Literal (lent.Int (pos 1)))
    → term_of nodes at ≡ op2 (Compare Eq collation.Binary) (col 1 0) (lit (value.Int (pos 1)))
check_made nodes at l r here left right =
    let many = two_nodes nodes at l _ _ here left (λ e. search rules) in
    let k = many.0 in
    subst (λ n. term_at nodes n at
    ≡ op2 (Compare Eq collation.Binary) (col 1 0) (lit (value.Int (pos 1)))) (sym many.1)
    (term_there nodes (suc k) at _ here ∙ rw (
      term_there nodes k l _ left,
      term_there nodes k r _ right,
    ) refl)

-- what a node is whose term is a column, or a number
column_node : (below : ℕ → Term) (n : Node) → node_term below n ≡ col 1 0 → n ≡ node.Column 1 0
column_node below (node.Literal v) e = absurd (search rules)
column_node below (node.Column s c) e = cc
column_node below (node.Unary op a) e = absurd (search rules)
column_node below (node.Binary op a b) e = absurd (search rules)
column_node below (node.Case t a b) e = absurd (search rules)

number_node : (below : ℕ → Term) (n : Node) → node_term below n ≡ lit (value.Int (pos 1))
    → n ≡ node.Literal (lent.Int (pos 1))
number_node below (node.Literal lent.Null) e = absurd (search rules)
number_node below (node.Literal (lent.Int m)) e = cc
number_node below (node.Literal (lent.Real x)) e = absurd (search rules)
number_node below (node.Literal (lent.Text t)) e = absurd (search rules)
number_node below (node.Literal (lent.Blob b)) e = absurd (search rules)
number_node below (node.Column s c) e = absurd (search rules)
number_node below (node.Unary op a) e = absurd (search rules)
number_node below (node.Binary op a b) e = absurd (search rules)
number_node below (node.Case t a b) e = absurd (search rules)

-- a place whose term isn't that of a null literal has a node
node_there : (nodes : List Node) (depth at : ℕ) (t : Term) → term_at nodes depth at ≡ t
    → (lit value.Null ≡ t → ⊥) → (n : Node) × (slice_get nodes at ≡ Some n) × (below : ℕ → Term)
    × (node_term below n ≡ t)
node_there nodes zero at t e some = absurd (some e)
node_there nodes (suc depth) at t e some = elim (slice_get_cases nodes at).1 [
  | inl found ↦ (
    found.0,
    found.2,
    term_at nodes depth,
    sym (term_there nodes depth at found.0 found.2) ∙ e,
  )
  | inr none ↦
      let is = sym (unwrap_or-slice_get nodes at (node.Literal lent.Null)) in
      let null = is ∙ ap (λ o. unwrap_or o (node.Literal lent.Null)) none.1 in
      absurd (some (sym (ap (node_term (term_at nodes depth)) null) ∙ e))
]

pub check_parts : (nodes : List Node) (at l r : ℕ)
    → slice_get nodes at ≡ Some (node.Binary (Compare Eq collation.Binary) l r)
    → term_of nodes at ≡ op2 (Compare Eq collation.Binary) (col 1 0) (lit (value.Int (pos 1)))
    → (slice_get nodes l ≡ Some (node.Column 1 0))
    × (slice_get nodes r ≡ Some (node.Literal (lent.Int (pos 1))))
check_parts ([]) at l r here e = absurd (search rules)
check_parts (x ∷ nodes) at l r here e =
    let is = sym (term_there (x ∷ nodes) (length nodes) at _ here) ∙ e in
    let left : term_at (x ∷ nodes) (length nodes) l ≡ col 1 0 = cc in
    let right : term_at (x ∷ nodes) (length nodes) r ≡ lit (value.Int (pos 1)) = cc in
    let a = node_there (x ∷ nodes) (length nodes) l _ left (λ e. search rules) in
    let b = node_there (x ∷ nodes) (length nodes) r _ right (λ e. search rules) in
    (a.1 ∙ ap Some (column_node a.2 a.0 a.3), b.1 ∙ ap Some (number_node b.2 b.0 b.3))

-- ---- which tables are an archive's

-- the same tables are an archive's too
pub archive_as : {s t : Schema} → s ≡ t → IsArchiveSchema t → IsArchiveSchema s
archive_as same has = (has.0, same ∙ has.1)

-- and the same rows list an archive's too
pub lists_archive : (objects : List Row) (s : Schema) → IsArchiveSchema s → Lists objects s
    → ListsArchive objects
lists_archive objects s has lists = (has.0, subst (Lists objects) has.1 lists)

-- ---- whose first table is meta

pub archive_has_meta : (s : Schema) → IsArchiveSchema s → HasMeta s
archive_has_meta s is = (_, ap (λ (x : Schema). x.tables) (is.1 ∙ written_out is.0))

pub first_has_meta : (s : Schema) → s ≡ schema1 → HasMeta s
first_has_meta s is = (_, ap (λ (x : Schema). x.tables) (is ∙ first_written_out))

pub beside_has_meta : (s : Schema) → s ≡ beside_schema → HasMeta s
beside_has_meta s is = (_, ap (λ (x : Schema). x.tables) (is ∙ beside_written_out))
