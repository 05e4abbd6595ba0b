-- What the files of an archive hold.
use Rattle.std.specs.Prelude.{◌≡◌, ◌⊎◌, ℕ, pos, List, [], Result, Ok, Err}
use Rattle.sqlite_disk.specs.declared.Disk.{Ghosts}
use Rattle.sqlite_disk.specs.declared.Files.{Files}
use Rattle.sqlite_wal.specs.Recovery.{Image}
use Rattle.sqlite_wal.specs.Reads.{AreClean}
use Rattle.sqlite_trees.specs.Tree.{Trees}
use Rattle.sqlite_trees.specs.Objects.{catalog_tree}
use Rattle.sqlite_catalog.specs.Listing.{Lists}
use Rattle.sqlite.specs.State.{State}
use Rattle.sqlite.specs.Files.{HoldsDatabase, AreFoundIn, LeavesFiles}
use Rattle.sqlite.specs.Closing.{files_left}
use Rattle.sqlite.specs.declared.file.Leftover.{Leftover}
use Rattle.records.specs.Contents.{Content}
use Rattle.sqlite_schema.specs.declared.schema.Schema.{Schema}
use Rattle.sql_schema.specs.Tables.{HasMeta, no_schema, beside_schema}
use Rattle.sql_tables.specs.State.{IsNewArchive}
use Rattle.sql_opening.specs.Clearing.{AreBare, IsCleared, IsStoreBeside}
use Rattle.sql_opening.specs.Renewing.{cells1, content1_in, IsStoreOf1, IsRenewed}
use Rattle.archive.specs.declared.fault.StoreFault.{StoreFault}
use Rattle.sql_opening.specs.Opening.{checked_meta}
use Rattle.sql_tables.specs.Rows.{content_in, IsStoreOf, meta_cells}

-- what a closing gives back, whether it went well or not
abbrev pub given_back : {A : Type 0} → Result A A → A
given_back r = elim r [ Ok files ↦ files | Err files ↦ files ]

-- an opening finds these trees in the two files: the database that they hold, or none
pub record IsFound (image : Image) (db : Trees) : Type 0 where
  pub holds : (held : Trees) → HoldsDatabase image held → db ≡ held
  pub reads : AreFoundIn image db

-- a store of this archive and replica, as it is, of format 1, or with empty tables of format 1
-- behind its own, has this content in its tables
abbrev pub IsStoreWith : List ℕ → ℕ → Trees → Content → Type 0
IsStoreWith id own db R =
    (IsStoreOf id own db × (R ≡ content_in db))
    ⊎
    ((IsStoreOf1 id own db × (R ≡ content1_in db))
    ⊎ (IsStoreBeside id own db × (R ≡ content_in db)))

-- the content of a store: nothing where it has no tables; else it is one of this archive and
-- replica, and its content is what its tables hold
abbrev pub HoldsContent : List ℕ → ℕ → Trees → Content → Type 0
HoldsContent id own db R = (Lists (db catalog_tree) no_schema × (R ≡ [])) ⊎ IsStoreWith id own db R

-- the content that an archive of this id and replica goes on with where the two files hold this
pub record Resumes (image : Image) (id : List ℕ) (own : ℕ) (R : Content) : Type 0 where
  pub db : Trees
  pub found : IsFound image db
  pub tells : HoldsContent id own db R

-- whichever archive goes on with them, this is its content
abbrev pub ResumesOnly : Image → Content → Type 0
ResumesOnly image R = (id : List ℕ) (own : ℕ) (S : Content) → Resumes image id own S → S ≡ R

-- whichever archive goes on with them, it is with trees that are among these
abbrev pub ResumesAmong : Image → (Trees → Type 0) → Type 0
ResumesAmong image Among =
    (id : List ℕ) (own : ℕ) (R : Content) → Resumes image id own R
    → ∥ ((db : Trees) × Among db × HoldsContent id own db R) ∥₁

-- the files hold tables, the first of which is an archive's meta, and it says that they are another
-- archive's, or another replica's
pub record IsAnothers (image : Image) (id : List ℕ) (own : ℕ) (fault : StoreFault) : Type 0 where
  pub db : Trees
  pub found : IsFound image db
  pub schema : Schema
  pub lists : Lists (db catalog_tree) schema
  pub begins : HasMeta schema
  pub judged : checked_meta id own (meta_cells db) ≡ Err fault

-- what the engine leaves of files that it can't open
abbrev pub EngineLeaves : {D : Type 0} → (g : Ghosts D) → Files D → Files D → Type 0
EngineLeaves {D} g files left =
    (rest : Leftover D g) × ((left.log, left.db) ≡ files_left rest) × LeavesFiles files rest

-- the disks of the two files have returned what was written to them
abbrev pub HaveCleanDisks : {D : Type 0} → Ghosts D → Files D → Type 0
HaveCleanDisks g files = AreClean g files.log files.db

-- the two files hold a store of this archive and replica that a crash could leave
abbrev pub HoldsLeft : Image → State → List ℕ → ℕ → Type 0
HoldsLeft image s id own =
    ∥ ((db : Trees) × s.may_leave db × HoldsDatabase image db × IsStoreOf id own db) ∥₁

-- an archive's tables behind which empty ones of format 1 stood, which an opening took out
abbrev pub IsClearedOf : Trees → Trees → Type 0
IsClearedOf found db =
    Lists (found catalog_tree) beside_schema × AreBare found × IsCleared found db

-- what an opening that was refused leaves of what it found
abbrev pub IsLeftOf : List ℕ → ℕ → Trees → Trees → Type 0
IsLeftOf id own found db =
    (db ≡ found)
    ⊎ ((Lists (found catalog_tree) no_schema × IsNewArchive id (pos own) db)
    ⊎ ((IsStoreOf1 id own found × IsRenewed id (pos own) (cells1 found) db) ⊎ IsClearedOf found db))

-- the files hold the database that was found there; or, where that had no table, a new archive; or,
-- where it was a store of this archive and replica of format 1, the tables of an archive with the
-- same records; or an archive's tables without the empty ones of format 1 behind them
abbrev pub KeepsFound : Image → List ℕ → ℕ → Image → Type 0
KeepsFound image id own left =
    (found : Trees) × IsFound image found
    × ∥ ((db : Trees) × HoldsDatabase left db × IsLeftOf id own found db) ∥₁
