-- Tables of records and current values of format 1 that stand behind those of an archive and hold
-- no row: they are taken out.
use Rattle.std.specs.Prelude.{◌≡◌, false, ℕ, List, []}
use Rattle.sqlite_trees.specs.Tree.{Trees}
use Rattle.sqlite_trees.specs.Objects.{catalog_tree}
use Rattle.sqlite_catalog.specs.Listing.{Lists}
use Rattle.sql_schema.specs.Tables.{archive_schema, beside_schema}
use Rattle.sql_tables.specs.Derived.{AreKept}
use Rattle.sql_tables.specs.Rows.{IsStored}

-- they hold no row
pub record AreBare (db : Trees) : Type 0 where
  pub records : db 7 ≡ []
  pub currents : db 10 ≡ []

-- the rows of an archive's tables are what they were
pub record KeepsTables (old new : Trees) : Type 0 where
  pub meta : new 0 ≡ old 0
  pub records : new 1 ≡ old 1
  pub currents : new 4 ≡ old 4
  pub vectors : new 6 ≡ old 6

-- and no other table is left
pub record IsCleared (old new : Trees) : Type 0 where
  pub keeps : KeepsTables old new
  pub lists : Lists (new catalog_tree) (archive_schema false)

-- a store of this archive and replica with such tables, as an opening takes it
abbrev pub IsStoreBeside : List ℕ → ℕ → Trees → Type 0
IsStoreBeside id own db =
    Lists (db catalog_tree) beside_schema × AreBare db × IsStored id own db × AreKept db
