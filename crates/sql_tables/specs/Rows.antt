-- The rows that stand for a content.
use Rattle.std.specs.Prelude.{◌≡◌, ℕ, pos, List, [], ◌∷◌, ◌++◌, map, Some, Result, Ok, Err, IsPermutation}
use Rattle.std.specs.List.{flat_map}
use Rattle.std.specs.Int.{w16, w64}
use Rattle.ua_binary.specs.Binary.{unsigned, signed, text, node_id}
use Rattle.ua_variant.specs.DataValue.{data_value}
use Rattle.sqlite_value.specs.declared.value.Value.TheVariants.{Int, Blob as Bytes}
use Rattle.sqlite_value.specs.Order.{Row, column, bytes}
use Rattle.sqlite_trees.specs.Objects.{number_in, catalog_tree}
use Rattle.sqlite_trees.specs.Tree.{Trees}
use Rattle.records.specs.Lists.{Has, sort_by}
use Rattle.records.specs.Records.{name_cmp}
use Rattle.records.specs.Contents.{Content}
use Rattle.records.specs.Spelling.{IsRecord, record_at}
use Rattle.records.specs.Moments.{ticks_of, pico_of}
use Rattle.ua_variant.specs.UpdateType.{update_number}
use Rattle.records.specs.declared.record.Record.{Record}
use Rattle.records.specs.declared.fault.RecordFault.{RecordFault}
use Rattle.archive.specs.Store.{IsLawfulContent}
use Rattle.sql_tables.specs.Words.{cells, cells_of, shown_of}
pub use Rattle.sql_tables.specs.Derived.{int_in}
use Rattle.sql_schema.specs.Tables.{ListsArchive}
use Rattle.sql_tables.specs.Derived.{AreKept}

-- ---- records

-- the row of a record in records2, its columns behind the row's own id
abbrev pub row_of : Record → Row
row_of r =
    cells_of (pos r.origin) (pos r.number) r.tick (node_id.canon r.node) (ticks_of r.time)
    (pos (pico_of r.time)) (pos (update_number r.asked)) r.user (data_value.canon r.value)

-- what a row spells: its columns as the fields of a record
abbrev pub spelled : Row → List ℕ
spelled c =
    ((2 ∷ [])
    ++
    ((number_in (column c 0) ∷ [])
    ++
    ((unsigned w64).canon (number_in (column c 1))
    ++ ((signed w64).canon (int_in (column c 2)) ++ (bytes (column c 3)
    ++
    (((signed w64).canon (int_in (column c 4)) ++ (unsigned w16).canon (number_in (column c 5)))
    ++
    ((number_in (column c 6) ∷ [])
    ++ text.canon (Some (bytes (column c 7)))))))))) ++ bytes (column c 8)

-- the record that was read, where one was
abbrev pub found : Result Record RecordFault → List Record
found (Ok r) = r ∷ []
found (Err e) = []

-- the record that a row stands for, if there is one
abbrev pub records_in : Row → List Record
records_in row = found (record_at (spelled row))

-- no record has this row
abbrev pub IsNoRecords : Row → Type 0
IsNoRecords row = (r : Record) → IsRecord r → shown_of row ≡ row_of r → ⊥

-- one of these rows is no record's
abbrev pub HasNoRecords : List Row → Type 0
HasNoRecords rows = (row : Row) × Has rows row × IsNoRecords row

-- the records in the tables, by name
abbrev pub content_in : Trees → Content
content_in db = sort_by name_cmp (flat_map records_in (cells (db 1)))

-- ---- the tables

-- the row of meta, which is its first: format 2, the archive's id, the replica's number
abbrev pub meta_row : List ℕ → ℕ → Row
meta_row id own = Int (pos 1) ∷ Int (pos 2) ∷ Bytes id ∷ Int (pos own) ∷ []

-- a row of meta by its columns, the rowid as the first of them
abbrev pub meta_columns : Row → Row
meta_columns r = column r 0 ∷ column r 2 ∷ column r 3 ∷ column r 4 ∷ []

-- the rows of meta by their columns; the key `one` is the rowid
abbrev pub meta_cells : Trees → List Row
meta_cells db = map meta_columns (db 0)

-- the rows of records2, the second table, are those of a content, each once
abbrev pub AreRecords : Content → Trees → Type 0
AreRecords R db = IsPermutation (map row_of R) (cells (db 1))

-- meta and records2 stand for a content
pub record StandFor (id : List ℕ) (own : ℕ) (R : Content) (db : Trees) : Type 0 where
  pub meta : meta_cells db ≡ meta_row id own ∷ []
  pub records : AreRecords R db

-- meta and records2 stand for a lawful content
pub record IsStored (id : List ℕ) (own : ℕ) (db : Trees) : Type 0 where
  pub content : Content
  pub lawful : IsLawfulContent content
  pub stands : StandFor id own content db

-- a store of this archive and replica, as an opening takes it: the tables of an archive, with the
-- index over live values or without it, and nothing else, stand for a lawful content
abbrev pub IsStoreOf : List ℕ → ℕ → Trees → Type 0
IsStoreOf id own db = ListsArchive (db catalog_tree) × IsStored id own db × AreKept db

-- records2 holds the rows of some lawful content
abbrev pub IsFilled : Trees → Type 0
IsFilled db = (R : Content) × IsLawfulContent R × AreRecords R db
