-- The tables of the archive.
use Rattle.std.specs.Prelude.{◌≡◌, true, false, [], ◌∷◌, ◌++◌, Some, None, codes, List, ℕ, pos, Bool}
use Rattle.sqlite_value.specs.declared.keys.Collation.TheVariants.{Binary}
use Rattle.sqlite_value.specs.declared.value.Value.TheVariants.{Null, Int}
use Rattle.sqlite_value.specs.Keys.{plain}
use Rattle.sqlite_schema.specs.declared.schema.Column.{Column}
use Rattle.sqlite_schema.specs.declared.schema.Table.{Table}
use Rattle.sqlite_schema.specs.declared.schema.Index.{Index}
use Rattle.sqlite_schema.specs.declared.schema.Schema.{Schema}
use Rattle.sqlite_schema.specs.declared.schema.Kind.{Kind}
use Rattle.sqlite_schema.specs.declared.schema.Kind.TheVariants.{Integer, Blob}
use Rattle.sqlite_sql.specs.declared.ops.BinaryOp.TheVariants.{Compare}
use Rattle.sqlite_sql.specs.declared.ops.CompareOp.TheVariants.{Eq}
use Rattle.sqlite_sql.specs.Term.{lit, col, op2}
use Rattle.sqlite_value.specs.Order.{Row}
use Rattle.sqlite_catalog.specs.Change.{created}
use Rattle.sqlite_catalog.specs.Listing.{Lists}

-- a column of this name and kind in a STRICT table; where it is needed it is NOT NULL
abbrev pub strict : List ℕ → Kind → Bool → Column
strict name kind needed =
    record {
      name = name;
      kind = kind;
      is_strict = true;
      not_null = needed;
      default = Null;
      collation = Binary;
    }

-- a table of these columns that has no key, no constraint and nothing computed, and no tree yet
abbrev pub bare : List ℕ → List Column → Table
bare name columns = record {
  name = name;
  tree = 0;
  columns = columns;
  key = None;
  primary = [];
  uniques = [];
  orders = [];
  checks = [];
  references = [];
  computed = [];
  stamps = record { places = []; terms = []; formats = [] };
  is_counted = false;
}

-- the one row that says whose store this is: its format, the archive and the replica
abbrev pub meta : Table
meta =
    record
    (bare (codes "meta")
    (strict (codes "one") Integer false ∷ strict (codes "format") Integer true
    ∷ strict (codes "archive") Blob true ∷ strict (codes "replica") Integer true ∷ [])) {
      key = Some 0;
      primary = 0 ∷ [];
      checks = op2 (Compare Eq Binary) (col 1 0) (lit (Int (pos 1))) ∷ [];
    }

-- the records. The key is origin and number; no two are equal in node, moment, tick and origin
abbrev pub records2 : Table
records2 =
    record
    (bare (codes "records2")
    (strict (codes "origin") Integer true ∷ strict (codes "number") Integer true
    ∷ strict (codes "tick") Integer true ∷ strict (codes "node") Blob true
    ∷ strict (codes "time") Integer true
    ∷ strict (codes "pico") Integer true ∷ strict (codes "asked") Integer true
    ∷ strict (codes "who") Blob true ∷ strict (codes "value") Blob true ∷ [])) {
      primary = 1 ∷ 2 ∷ [];
      uniques = (1 ∷ 2 ∷ []) ∷ (4 ∷ 5 ∷ 6 ∷ 3 ∷ 1 ∷ []) ∷ [];
      orders = plain ∷ plain ∷ [];
    }

-- the last record of each node and moment, and whether it is live and others stand there too
abbrev pub currents2 : Table
currents2 =
    record
    (bare (codes "currents2")
    (strict (codes "node") Blob true ∷ strict (codes "time") Integer true
    ∷ strict (codes "pico") Integer true ∷ strict (codes "tick") Integer true
    ∷ strict (codes "origin") Integer true ∷ strict (codes "live") Integer true
    ∷ strict (codes "extra") Integer true ∷ strict (codes "value") Blob true ∷ [])) {
      primary = 1 ∷ 2 ∷ 3 ∷ [];
      uniques = (1 ∷ 2 ∷ 3 ∷ []) ∷ [];
      orders = plain ∷ [];
    }

-- the number and tick of each origin's last record
abbrev pub vectors : Table
vectors =
    record
    (bare (codes "vectors")
    (strict (codes "origin") Integer false ∷ strict (codes "number") Integer true
    ∷ strict (codes "tick") Integer true ∷ [])) {
      key = Some 0;
      primary = 0 ∷ [];
    }

-- the records of a store of format 1, whose moments have no picoseconds
abbrev pub records1 : Table
records1 =
    record
    (bare (codes "records")
    (strict (codes "origin") Integer true ∷ strict (codes "number") Integer true
    ∷ strict (codes "tick") Integer true ∷ strict (codes "node") Blob true
    ∷ strict (codes "time") Integer true
    ∷ strict (codes "asked") Integer true ∷ strict (codes "who") Blob true
    ∷ strict (codes "value") Blob true ∷ [])) {
      primary = 1 ∷ 2 ∷ [];
      uniques = (1 ∷ 2 ∷ []) ∷ (4 ∷ 5 ∷ 3 ∷ 1 ∷ []) ∷ [];
      orders = plain ∷ plain ∷ [];
    }

-- its current values
abbrev pub currents1 : Table
currents1 =
    record
    (bare (codes "currents")
    (strict (codes "node") Blob true ∷ strict (codes "time") Integer true
    ∷ strict (codes "tick") Integer true
    ∷ strict (codes "origin") Integer true ∷ strict (codes "live") Integer true
    ∷ strict (codes "extra") Integer true ∷ strict (codes "value") Blob true ∷ [])) {
      primary = 1 ∷ 2 ∷ [];
      uniques = (1 ∷ 2 ∷ []) ∷ [];
      orders = plain ∷ [];
    }

-- no tables
abbrev pub no_schema : Schema
no_schema = record { tables = []; indexes = []; views = [] }

-- the tables of an archive as they are made, one after the other
abbrev pub with_meta : Schema
with_meta = created no_schema meta

-- and the records
abbrev pub with_records : Schema
with_records = created with_meta records2

-- and the current values
abbrev pub with_currents : Schema
with_currents = created with_records currents2

-- and the last records: all four
abbrev pub with_vectors : Schema
with_vectors = created with_currents vectors

-- an index of this name and tree, over these columns of the table of that tree: that of a key
abbrev pub index_of : List ℕ → ℕ → ℕ → List ℕ → Index
index_of name tree table columns =
    record
    { name = name; tree = tree; table = table; columns = columns; order = plain; is_unique = true }

-- the index of currents2 that has the live values of a node side by side: node, live, time, pico
abbrev pub live_index : Index
live_index =
    record (index_of (codes "currents2_live") 7 4 (1 ∷ 6 ∷ 2 ∷ 3 ∷ [])) { is_unique = false }

-- what stands behind the indexes of the keys: that index, or none
abbrev pub live_indexes : Bool → List Index
live_indexes true = live_index ∷ []
live_indexes false = []

-- the tables of an archive, with the index over live values or without it
abbrev pub archive_schema : Bool → Schema
archive_schema indexed =
    record with_vectors { indexes = with_vectors.indexes ++ live_indexes indexed }

-- they are the tables of an archive, with that index or without it, and nothing else
abbrev pub IsArchiveSchema : Schema → Type 0
IsArchiveSchema schema = (indexed : Bool) × (schema ≡ archive_schema indexed)

-- these rows of sqlite_schema list them
abbrev pub ListsArchive : List Row → Type 0
ListsArchive objects = (indexed : Bool) × Lists objects (archive_schema indexed)

-- the tables of a store of format 1 as they are made: `meta` and the records
abbrev pub with_records1 : Schema
with_records1 = created with_meta records1

-- and the current values
abbrev pub with_currents1 : Schema
with_currents1 = created with_records1 currents1

-- the tables of a store of format 1
abbrev pub schema1 : Schema
schema1 = created with_currents1 vectors

-- the tables with the trees that they get, and the indexes of their keys
abbrev pub first_table : Table
first_table = record meta { tree = 0 }

abbrev pub second_table : Table
second_table = record records2 { tree = 1 }

abbrev pub third_table : Table
third_table = record currents2 { tree = 4 }

abbrev pub fourth_table : Table
fourth_table = record vectors { tree = 6 }

abbrev pub first_index : Index
first_index = index_of (codes "sqlite_autoindex_records2_1") 2 1 (1 ∷ 2 ∷ [])

abbrev pub second_index : Index
second_index = index_of (codes "sqlite_autoindex_records2_2") 3 1 (4 ∷ 5 ∷ 6 ∷ 3 ∷ 1 ∷ [])

abbrev pub third_index : Index
third_index = index_of (codes "sqlite_autoindex_currents2_1") 5 4 (1 ∷ 2 ∷ 3 ∷ [])

abbrev pub key_indexes : List Index
key_indexes = first_index ∷ second_index ∷ third_index ∷ []

-- its records, with the tree that they get
abbrev pub second_table1 : Table
second_table1 = record records1 { tree = 1 }

-- and its current values, with theirs
abbrev pub third_table1 : Table
third_table1 = record currents1 { tree = 4 }

abbrev pub indexes1 : List Index
indexes1 =
    index_of (codes "sqlite_autoindex_records_1") 2 1 (1 ∷ 2 ∷ [])
    ∷ index_of (codes "sqlite_autoindex_records_2") 3 1 (4 ∷ 5 ∷ 3 ∷ 1 ∷ [])
    ∷ index_of (codes "sqlite_autoindex_currents_1") 5 4 (1 ∷ 2 ∷ []) ∷ []

-- the tables of an archive, and behind them those of records and current values of format 1
abbrev pub with_records_beside : Schema
with_records_beside = created (archive_schema false) records1

-- and the current values of format 1
abbrev pub beside_schema : Schema
beside_schema = created with_records_beside currents1

-- these with the trees that they get, and the indexes of their keys
abbrev pub records_beside : Table
records_beside = record records1 { tree = 7 }

abbrev pub currents_beside : Table
currents_beside = record currents1 { tree = 10 }

abbrev pub names_beside : Index
names_beside = index_of (codes "sqlite_autoindex_records_1") 8 7 (1 ∷ 2 ∷ [])

abbrev pub times_beside : Index
times_beside = index_of (codes "sqlite_autoindex_records_2") 9 7 (4 ∷ 5 ∷ 3 ∷ 1 ∷ [])

abbrev pub values_beside : Index
values_beside = index_of (codes "sqlite_autoindex_currents_1") 11 10 (1 ∷ 2 ∷ [])

abbrev pub indexes_beside : List Index
indexes_beside = names_beside ∷ times_beside ∷ values_beside ∷ []

-- the first of the tables is meta, as an archive has it, whatever stands behind it
abbrev pub HasMeta : Schema → Type 0
HasMeta schema = (rest : List Table) × (schema.tables ≡ first_table ∷ rest)
