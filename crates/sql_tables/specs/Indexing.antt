-- The index over live values, which is made over the tables of an archive.
use Rattle.std.specs.Prelude.{◌≡◌, true, false, Result, IfErr, OnOk}
use Rattle.sqlite_trees.specs.Tree.{Trees}
use Rattle.sqlite_trees.specs.Objects.{catalog_tree}
use Rattle.sqlite_catalog.specs.Listing.{Lists}
use Rattle.sqlite.specs.State.{State, HasCleanDisk, Survives}
use Rattle.archive.specs.Store.{fault_in, IsOfOpening}
use Rattle.archive.specs.Listed.{is_broken}
use Rattle.archive.specs.declared.fault.StoreFault.{StoreFault}
use Rattle.sql_schema.specs.Tables.{archive_schema}
use Rattle.sql_tables.specs.Keeping.{KeepsTables}
use Rattle.sql_tables.specs.State.{Idles, KeepsState}

-- the rows of an archive's tables are what they were, and the index over live values is listed
pub record IsIndexed (old new : Trees) : Type 0 where
  pub keeps : KeepsTables old new
  pub lists : Lists (new catalog_tree) (archive_schema true)

-- behind Ok the index stands, and no row of a table has changed; behind a fault other than Broken
-- nothing has; a crash leaves what it could leave before, or the old rows with the index
pub record Indexes (old new : State) (result : Result Unit StoreFault) : Type 0 where
  pub made : HasCleanDisk new
      → OnOk result (Idles new × (new.now.schema ≡ archive_schema true)
      × KeepsTables old.now.trees new.now.trees)
  pub kept : HasCleanDisk new → is_broken (fault_in result) ≡ false
      → IfErr result (λ _. KeepsState old new)
  pub met : IfErr result (λ fault. IsOfOpening fault → ⊥)
  pub crash : Survives old new (IsIndexed old.now.trees)
