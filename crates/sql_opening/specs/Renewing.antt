-- A store of format 1, whose moments have no picoseconds: what it holds, and what its tables
-- become.
use Rattle.std.specs.Prelude.{◌≡◌, false, ℕ, ℤ, pos, List, [], ◌∷◌, ◌++◌, map, IsPermutation}
use Rattle.std.specs.List.{flat_map}
use Rattle.sqlite_value.specs.declared.value.Value.TheVariants.{Int, Blob as Bytes}
use Rattle.sqlite_value.specs.Order.{Row, column}
use Rattle.sqlite_trees.specs.Tree.{Trees}
use Rattle.sqlite_trees.specs.Objects.{catalog_tree}
use Rattle.sqlite_catalog.specs.Listing.{Lists}
use Rattle.records.specs.Lists.{sort_by}
use Rattle.records.specs.Records.{name_cmp}
use Rattle.records.specs.Contents.{Content}
use Rattle.archive.specs.Store.{IsLawfulContent}
use Rattle.sql_opening.specs.declared.migrate.Rows1.{Rows1}
use Rattle.sql_tables.specs.State.{shown_of}
use Rattle.sql_schema.specs.Tables.{schema1, archive_schema}
use Rattle.sql_tables.specs.Words.{cells}
use Rattle.sql_tables.specs.Derived.{AreKept, currents_of, vectors_of, vector_columns}
use Rattle.sql_tables.specs.Rows.{row_of, records_in, meta_cells}

-- the row of records2 that a row of records becomes: its moment has 0 picoseconds
abbrev pub columns1 : Row → Row
columns1 r =
    column r 1 ∷ column r 2 ∷ column r 3 ∷ column r 4 ∷ column r 5 ∷ Int (pos 0) ∷ column r 6
    ∷ column r 7 ∷ column r 8 ∷ []

-- the rows of records, as those of records2
abbrev pub cells1 : Trees → List Row
cells1 db = map columns1 (db 1)

-- a row of currents, as one of currents2
abbrev pub current1 : Row → Row
current1 r =
    column r 1 ∷ column r 2 ∷ Int (pos 0) ∷ column r 3 ∷ column r 4 ∷ column r 5 ∷ column r 6
    ∷ column r 7 ∷ []

-- the records in the tables, by name
abbrev pub content1_in : Trees → Content
content1_in db = sort_by name_cmp (flat_map records_in (cells1 db))

-- the row of meta: format 1, the archive's id, the replica's number
abbrev pub meta1_row : List ℕ → ℕ → Row
meta1_row id own = Int (pos 1) ∷ Int (pos 1) ∷ Bytes id ∷ Int (pos own) ∷ []

-- the tables of format 1 stand for a lawful content: current values and last numbers are those of
-- its records
pub record IsStored1 (id : List ℕ) (own : ℕ) (db : Trees) : Type 0 where
  pub content : Content
  pub lawful : IsLawfulContent content
  pub meta : meta_cells db ≡ meta1_row id own ∷ []
  pub records : IsPermutation (map row_of content) (cells1 db)
  pub currents : IsPermutation (currents_of (cells1 db)) (map current1 (db 4))
  pub vectors : IsPermutation (vectors_of (cells1 db)) (map vector_columns (db 6))

-- a store of format 1 of this archive and replica
abbrev pub IsStoreOf1 : List ℕ → ℕ → Trees → Type 0
IsStoreOf1 id own db = Lists (db catalog_tree) schema1 × IsStored1 id own db

-- its rows, which are those of a lawful content's records, of current values and of last numbers
pub record IsRead1 (db : Trees) (rows : Rows1) : Type 0 where
  pub content : Content
  pub lawful : IsLawfulContent content
  pub are : map row_of content ≡ map shown_of rows.records.items
  pub records : IsPermutation (cells1 db) rows.records.items
  pub currents : IsPermutation (map current1 (db 4)) rows.currents.items
  pub vectors : IsPermutation (map vector_columns (db 6)) rows.vectors.items

-- the tables are those of an archive of this id and replica, and hold these rows of records
pub record IsRenewed (id : List ℕ) (own : ℤ) (rows : List Row) (db : Trees) : Type 0 where
  pub meta : meta_cells db ≡ (Int (pos 1) ∷ Int (pos 2) ∷ Bytes id ∷ Int own ∷ []) ∷ []
  pub records : IsPermutation rows (cells (db 1))
  pub kept : AreKept db
  pub lists : Lists (db catalog_tree) (archive_schema false)

-- current values and last numbers of format 1 are those of its records, and the new tables hold
-- these
pub record IsTurned (id : List ℕ) (own : ℤ) (old new : Trees) : Type 0 where
  pub currents : IsPermutation (currents_of (cells1 old)) (map current1 (old 4))
  pub vectors : IsPermutation (vectors_of (cells1 old)) (map vector_columns (old 6))
  pub renewed : IsRenewed id own (cells1 old) new

-- records2 has these rows more
pub record PutsRecords (rows : List Row) (old new : Trees) : Type 0 where
  pub records : IsPermutation (rows ++ cells (old 1)) (cells (new 1))
  pub meta : new 0 ≡ old 0
  pub currents : new 4 ≡ old 4
  pub vectors : new 6 ≡ old 6
