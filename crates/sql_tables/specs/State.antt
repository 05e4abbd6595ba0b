-- What a connection to an archive shows.
use Rattle.std.specs.Prelude.{◌≡◌, ◌⊎◌, ◌<◌, ◌-◌, ◌^◌, true, false, pos, length, List, ℕ, ℤ, [], ◌∷◌, filter, IsPermutation, IsSorted, IsSome, IsTrue, Result, IfOk, IfErr}
use Rattle.sqlite_disk.specs.Disk.{MoreFaults}
use Rattle.sqlite_value.specs.Order.{Row}
use Rattle.sqlite_trees.specs.Tree.{Trees}
use Rattle.sqlite_trees.specs.Objects.{catalog_tree}
use Rattle.sqlite_catalog.specs.Listing.{Lists}
use Rattle.sqlite.specs.State.{State, HasCleanDisk, Survives}
use Rattle.archive.specs.declared.fault.StoreFault.{StoreFault}
use Rattle.archive.specs.declared.fault.StoreFault.TheVariants.{Refused}
use Rattle.archive.specs.Store.{fault_in, IsOfOpening}
use Rattle.archive.specs.Listed.{is_broken}
use Rattle.sqlite_schema.specs.declared.schema.Schema.{Schema}
use Rattle.sqlite_value.specs.declared.value.Value.TheVariants.{Null, Int, Blob as Bytes}
use Rattle.sql_schema.specs.Tables.{archive_schema, IsArchiveSchema, ListsArchive, with_records}
pub use Rattle.sql_schema.specs.Tables.{HasMeta}
use Rattle.sql_tables.specs.Derived.{AreKept, AreNumbered}
use Rattle.sql_tables.specs.Rows.{IsFilled}
use Rattle.sql_tables.specs.Words.{cells, is_at, row_stamp_cmp}
pub use Rattle.sql_tables.specs.Words.{shown_of}

-- the connection has the tables of an archive
abbrev pub HasTables : State → Type 0
HasTables s = IsArchiveSchema s.now.schema

-- open, nothing pending, whatever the tables
pub record IsOpenAndIdle (s : State) : Type 0 where
  pub is_open : IsTrue s.is_open
  pub autocommit : s.in_transaction ≡ false
  pub settled : s.committed ≡ s.now

-- it rests, and sees what it saw
pub record Holds (old new : State) : Type 0 where
  pub rests : IsOpenAndIdle new
  pub same : new.now ≡ old.now

-- between the calls: open, nothing pending
pub record Idles (s : State) : Type 0 where
  pub is_open : IsTrue s.is_open
  pub autocommit : s.in_transaction ≡ false
  pub settled : s.committed ≡ s.now
  pub tables : HasTables s

-- it idles, and has the index over live values if it had it
pub record IdlesOn (old new : State) : Type 0 where
  pub idles : Idles new
  pub schema : new.now.schema ≡ old.now.schema

-- it idles, and sees what it saw
pub record KeepsState (old new : State) : Type 0 where
  pub idles : Idles new
  pub same : new.now ≡ old.now

-- the trees are the old ones with one row more in records2 and with the rows of currents2 and
-- vectors that follow, and list the tables of an archive
pub record Adds (row : Row) (old new : Trees) : Type 0 where
  pub records : IsPermutation (row ∷ cells (old 1)) (cells (new 1))
  pub meta : new 0 ≡ old 0
  pub kept : AreKept new
  pub lists : ListsArchive (new catalog_tree)

-- of all rows those of one node, time and picoseconds, by stamp
pub record IsStory (node : List ℕ) (time pico : ℤ) (all rows : List Row) : Type 0 where
  pub same : IsPermutation (filter (is_at node time pico) all) rows
  pub sorted : IsSorted row_stamp_cmp rows

abbrev pub AreAt : List ℕ → ℤ → ℤ → State → List Row → Type 0
AreAt node time pico s = IsStory node time pico (cells (s.now.trees 1))

-- the tables are being made, in a transaction
pub record Making (schema : Schema) (s : State) : Type 0 where
  pub inside : s.in_transaction ≡ true
  pub has : s.now.schema ≡ schema

-- an archive's tables are being changed, in a transaction
pub record MakingArchive (s : State) : Type 0 where
  pub inside : s.in_transaction ≡ true
  pub has : HasTables s

-- a call in a transaction, after which the last commit is as it was
pub record Makes (old new : State) (schema : Schema) (table : ℕ) : Type 0 where
  pub making : Making schema new
  pub empty : new.now.trees table ≡ []
  pub committed : new.committed ≡ old.committed

-- meta and records2 are what they were
pub record KeepsFirst (old new : Trees) : Type 0 where
  pub meta : new 0 ≡ old 0
  pub records : new 1 ≡ old 1

-- no table has a row
pub record AreEmpty (db : Trees) : Type 0 where
  pub meta : db 0 ≡ []
  pub records : db 1 ≡ []
  pub currents : db 4 ≡ []
  pub vectors : db 6 ≡ []

-- meta and records2 were made
pub record MakesFirst (old new : State) : Type 0 where
  pub making : Making with_records new
  pub meta : new.now.trees 0 ≡ []
  pub records : new.now.trees 1 ≡ []
  pub committed : new.committed ≡ old.committed

-- currents2 and vectors were made beside them
pub record MakesBeside (old new : State) : Type 0 where
  pub making : Making (archive_schema false) new
  pub first : KeepsFirst old.now.trees new.now.trees
  pub currents : new.now.trees 4 ≡ []
  pub vectors : new.now.trees 6 ≡ []
  pub committed : new.committed ≡ old.committed

-- a new archive of this id and replica: the tables of an archive, with the one row of meta
pub record IsNewArchive (id : List ℕ) (own : ℤ) (db : Trees) : Type 0 where
  pub meta : db 0 ≡ (Int (pos 1) ∷ Null ∷ Int (pos 2) ∷ Bytes id ∷ Int own ∷ []) ∷ []
  pub records : db 1 ≡ []
  pub currents : db 4 ≡ []
  pub vectors : db 6 ≡ []
  pub lists : Lists (db catalog_tree) (archive_schema false)

-- SQLite may refuse a query: its disk failed meanwhile, or a limit on steps is set
abbrev pub MayBeStopped : State → State → Type 0
MayBeStopped old new = MoreFaults old.faults new.faults ⊎ IsSome old.step_limit

-- Refused is told where SQLite may refuse, or for this reason of our own, and else never
abbrev pub RefusesFor : {A : Type 0} → Type 0 → State → State → Result A StoreFault → Type 0
RefusesFor Own old new result =
    HasCleanDisk new → IfErr result (λ fault. fault ≡ Refused → MayBeStopped old new ⊎ Own)

-- the rows are those of a lawful content and those that follow, none is numbered twice, and there
-- are few enough to be counted
pub record AreWhole (db : Trees) : Type 0 where
  pub filled : IsFilled db
  pub kept : AreKept db
  pub numbered : AreNumbered (db 1)
  pub few : length (db 1) < 2 ^ 64 - 1

-- what a crash may leave, and whether the store may be used, after a call that changes nothing; it
-- is refused where SQLite may refuse, or for this reason of our own
pub record LeavesUnchangedOr (Own : Type 0) {A : Type 0} (old new : State)
    (result : Result A StoreFault) (IsAnswer : A → Type 0) : Type 0 where
  pub answer : HasCleanDisk new → IfOk result IsAnswer
  pub kept : HasCleanDisk new → is_broken (fault_in result) ≡ false → KeepsState old new
  pub met : IfErr result (λ fault. IsOfOpening fault → ⊥)
  pub refused : RefusesFor Own old new result
  pub crash : Survives old new (λ _. ⊥)

-- the same, where our own reason is that the tables aren't whole
abbrev pub LeavesUnchanged : {A : Type 0} → State → State → Result A StoreFault → (A → Type 0)
    → Type 0
LeavesUnchanged old new result IsAnswer =
    LeavesUnchangedOr (AreWhole old.now.trees → ⊥) old new result IsAnswer

-- the same as the first, whatever the tables
pub record FoundOr (Own : Type 0) {A : Type 0} (old new : State) (result : Result A StoreFault)
    (IsAnswer : A → Type 0) : Type 0 where
  pub answer : HasCleanDisk new → IfOk result IsAnswer
  pub kept : HasCleanDisk new → is_broken (fault_in result) ≡ false → Holds old new
  pub met : IfErr result (λ fault. IsOfOpening fault → ⊥)
  pub refused : RefusesFor Own old new result
  pub crash : Survives old new (λ _. ⊥)

-- the same, where we have no reason of our own
abbrev pub Found : {A : Type 0} → State → State → Result A StoreFault → (A → Type 0) → Type 0
Found old new result IsAnswer = FoundOr ⊥ old new result IsAnswer

-- the rows of meta and of records2 stay, and those of currents2 and of vectors follow from them
pub record IsCompleted (old new : Trees) : Type 0 where
  pub meta : new 0 ≡ old 0
  pub records : new 1 ≡ old 1
  pub kept : AreKept new
  pub lists : Lists (new catalog_tree) (archive_schema false)
