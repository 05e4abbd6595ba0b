-- What clauses say of a connection, and of a call that changes it.
use Rattle.std.specs.Prelude.{◌≡◌, Result, OnOk}
use Rattle.sqlite_trees.specs.declared.store.Store.{Ghosts}
use Rattle.sqlite_trees.specs.Tree.{Trees}
use Rattle.sqlite_trees.specs.Objects.{catalog_tree}
use Rattle.sqlite_catalog.specs.Listing.{Lists}
use Rattle.sqlite_schema.specs.declared.schema.Schema.{Schema}
use Rattle.sqlite.specs.State.{State, HasCleanDisk, KeepsCommit, Survives}
use Rattle.sqlite.specs.Held.{Held, state}
use Rattle.records.specs.Contents.{Content}
use Rattle.sql_schema.specs.Tables.{ListsArchive}
use Rattle.sql_tables.specs.Rows.{content_in}
use Rattle.sql_tables.specs.State.{Idles, IdlesOn, Making, MakingArchive}

-- the connection sees such tables
abbrev pub Sees : (Trees → Type 0) → State → Type 0
Sees Are s = Are s.now.trees

-- the connection has the tables of this schema
abbrev pub HasSchema : Schema → State → Type 0
HasSchema schema s = s.now.schema ≡ schema

-- ---- of one connection

module _ {S : Type 0} (g : Ghosts S) (conn : Held S) where
  -- the tables that the connection sees
  abbrev pub tables_of : Trees
  tables_of = (state g conn).now.trees

  -- the content of the records in them
  abbrev pub content_of : Content
  content_of = content_in tables_of

  -- where its disk is clean, the connection is such
  abbrev pub WhereClean : (State → Type 0) → Type 0
  WhereClean Is = HasCleanDisk (state g conn) → Is (state g conn)

-- ---- of a call

module _ {S : Type 0} (g : Ghosts S) (old new : Held S) where
  -- a crash leaves what it could leave before the call, and the connection survives it
  abbrev pub CommitsNothing : Type 0
  CommitsNothing = Survives (state g old) (state g new) (λ _. ⊥)

  -- where the disk is clean, the last commit is what it was
  abbrev pub KeepsLastCommit : Type 0
  KeepsLastCommit = HasCleanDisk (state g new) → KeepsCommit (state g old) (state g new)

  -- in a transaction, the tables are those of this schema and were changed so; the last commit is
  -- what it was
  abbrev pub ChangesBy : Schema → (Trees → Trees → Type 0) → Type 0
  ChangesBy schema Change =
      Making schema (state g new) × ((state g new).committed ≡ (state g old).committed)
      × Change (tables_of g old) (tables_of g new)

  -- so it is where the disk is clean and the call went well
  abbrev pub Writes : {A E : Type 0} → Schema → Result A E → (Trees → Trees → Type 0) → Type 0
  Writes schema result Change = HasCleanDisk (state g new) → OnOk result (ChangesBy schema Change)

  -- and these tables are listed then
  abbrev pub WritesListed : {A E : Type 0} → Schema → Result A E → (Trees → Trees → Type 0)
      → Type 0
  WritesListed schema result Change =
      HasCleanDisk (state g new)
      → OnOk result
      (Making schema (state g new) × ((state g new).committed ≡ (state g old).committed)
      × Change (tables_of g old) (tables_of g new)
      × Lists (tables_of g new catalog_tree) schema)

  -- in a transaction, an archive's tables were changed so; with which index and what the last
  -- commit is, stays
  abbrev pub ChangesArchive : (Trees → Trees → Type 0) → Type 0
  ChangesArchive Change =
      MakingArchive (state g new) × ((state g new).now.schema ≡ (state g old).now.schema)
      × ((state g new).committed ≡ (state g old).committed)
      × Change (tables_of g old) (tables_of g new)

  -- so it is where the disk is clean and the call went well
  abbrev pub WritesArchive : {A E : Type 0} → Result A E → (Trees → Trees → Type 0) → Type 0
  WritesArchive result Change = HasCleanDisk (state g new) → OnOk result (ChangesArchive Change)

  -- and an archive's tables are listed then
  abbrev pub ListsAndWrites : {A E : Type 0} → Result A E → (Trees → Trees → Type 0) → Type 0
  ListsAndWrites result Change =
      HasCleanDisk (state g new)
      → OnOk result
      (MakingArchive (state g new) × ((state g new).now.schema ≡ (state g old).now.schema)
      × ((state g new).committed ≡ (state g old).committed)
      × Change (tables_of g old) (tables_of g new)
      × ListsArchive (tables_of g new catalog_tree))

  -- the tables are those of this schema then, whatever their rows
  abbrev pub MakesSchema : {A E : Type 0} → Schema → Result A E → Type 0
  MakesSchema schema result =
      HasCleanDisk (state g new)
      → OnOk result
      (Making schema (state g new) × ((state g new).committed ≡ (state g old).committed))

  -- where the disk is clean and the call went well, the connection idles, and its tables were
  -- changed so
  abbrev pub Commits : {A E : Type 0} → Result A E → (Trees → Trees → Type 0) → Type 0
  Commits result Change =
      HasCleanDisk (state g new)
      → OnOk result (Idles (state g new) × Change (tables_of g old) (tables_of g new))

  -- so it is of an archive's tables, with which index stays
  abbrev pub CommitsArchive : {A E : Type 0} → Result A E → (Trees → Trees → Type 0) → Type 0
  CommitsArchive result Change =
      HasCleanDisk (state g new)
      → OnOk result
      (IdlesOn (state g old) (state g new) × Change (tables_of g old) (tables_of g new))
