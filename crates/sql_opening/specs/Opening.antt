-- What a walk over the records of a store judges.
use Rattle.std.specs.Prelude.{◌≡◌, ◌⊎◌, Result, Ok, Err, IfOk, IfErr, OnOk, not, false, negsuc, ℕ, ◌-◌, ◌^◌, ◌≤◌, length, ◌++◌, IsSorted, ◌+◌, ◌==◌, nat_lt, pos, int_lt, Bool, true, ◌&&◌, if◌then◌else◌, List, [], ◌∷◌}
use Rattle.std.specs.Str.{bytes_eq}
use Rattle.sqlite_value.specs.Order.{Row, column}
use Rattle.sqlite_value.specs.declared.value.Value.{Value}
use Rattle.sqlite_value.specs.declared.value.Value.TheVariants.{Null, Int, Real, Text, Blob as Bytes}
use Rattle.sqlite.specs.State.{State, HasCleanDisk, Survives}
use Rattle.records.specs.declared.record.Record.{Record}
use Rattle.archive.specs.declared.fault.StoreFault.{StoreFault}
use Rattle.archive.specs.declared.fault.StoreFault.TheVariants.{WrongArchive, WrongReplica, Refused}
use Rattle.archive.specs.Store.{IsOfOpening}
use Rattle.std.specs.Prelude.{map, IsPermutation}
use Rattle.std.specs.List.{AllByRecursion}
use Rattle.records.specs.Spelling.{IsRecord}
use Rattle.sqlite_trees.specs.Tree.{Trees}
use Rattle.sql_opening.specs.declared.checking.Mark.{Mark}
use Rattle.sql_opening.specs.declared.checking.Walk.{Walk}
use Rattle.sql_opening.specs.declared.migrate.Rows1.{Rows1}
use Rattle.sql_opening.specs.Renewing.{cells1, meta1_row, IsRead1, IsStored1, IsRenewed}
use Rattle.sql_opening.specs.Clearing.{AreBare, IsCleared}
use Rattle.sql_tables.specs.Words.{cells, name_order}
use Rattle.sql_opening.specs.Latest.{Remembers}
use Rattle.sql_tables.specs.Derived.{AreKept}
use Rattle.sql_tables.specs.Rows.{IsStored, meta_cells, row_of}
use Rattle.sqlite.specs.Effect.{Database}
use Rattle.sql_schema.specs.Tables.{no_schema, schema1, IsArchiveSchema, beside_schema}
use Rattle.sql_tables.specs.State.{Holds, KeepsState, HasMeta, IsNewArchive, RefusesFor, AreWhole, shown_of}

abbrev pub mark_of : Record → Mark
mark_of r = record { origin = r.origin; number = r.number; tick = r.tick }

abbrev pub nowhere : Mark
nowhere = record { origin = 0; number = 0; tick = pos 0 }

-- the record is the first of a later origin, or the next of the same one, with a tick that rises
abbrev pub comes_next : Mark → Record → Bool
comes_next m r =
    if nat_lt m.origin r.origin then r.number == 1
    else (m.origin == r.origin) && (r.number == m.number + 1) && int_lt m.tick r.tick

abbrev pub are_in_turn : Mark → List Record → Bool
are_in_turn m [] = true
are_in_turn m (r ∷ rs) = comes_next m r && are_in_turn (mark_of r) rs

-- where a walk stands behind some records
abbrev pub mark_behind : Mark → List Record → Mark
mark_behind m [] = m
mark_behind m (r ∷ rs) = mark_behind (mark_of r) rs

-- these rows were gone over: they are those of records in turn, the last of which stands there, and
-- of which this is remembered
pub record HasWalked (rows : List Row) (walk : Walk) : Type 0 where
  pub items : List Record
  pub spelled : map row_of items ≡ map shown_of rows
  pub each : AllByRecursion IsRecord items
  pub turn : are_in_turn nowhere items ≡ true
  pub mark : walk.last ≡ mark_behind nowhere items
  pub remembered : Remembers items walk.latest.numbers walk.latest.tick

-- they aren't those of records in turn, or there are too many to be counted
abbrev pub AreOutOfTurn : List Row → Type 0
AreOutOfTurn rows =
    ((items : List Record) → map row_of items ≡ map shown_of rows → AllByRecursion IsRecord items
    → are_in_turn nowhere items ≡ true → ⊥) ⊎ (2 ^ 64 - 1 ≤ length rows)

-- the rows of records2, by name, begin with such
pub record BeginOutOfTurn (db : Trees) : Type 0 where
  pub rows : List Row
  pub rest : List Row
  pub all : IsPermutation (cells (db 1)) (rows ++ rest)
  pub named : IsSorted name_order (rows ++ rest)
  pub so : AreOutOfTurn rows

-- all rows of the tables were gone over
abbrev pub HasChecked : Trees → Walk → Type 0
HasChecked db walk = (rows : List Row) × IsPermutation (cells (db 1)) rows × HasWalked rows walk

-- ---- whose store it is

-- the value is this number
abbrev pub has_number : Value → ℕ → Bool
has_number Null n = false
has_number (Int (pos m)) n = m == n
has_number (Int (negsuc m)) n = false
has_number (Real x) n = false
has_number (Text t) n = false
has_number (Bytes b) n = false

-- the value is a blob of these bytes
abbrev pub has_bytes : Value → List ℕ → Bool
has_bytes Null bytes = false
has_bytes (Int m) bytes = false
has_bytes (Real x) bytes = false
has_bytes (Text t) bytes = false
has_bytes (Bytes b) bytes = bytes_eq b bytes

-- a row of meta is judged: the archive first, then the replica, then the format
abbrev pub judged_row : ℕ → List ℕ → ℕ → Row → Result Unit StoreFault
judged_row format id own r =
    if not (has_bytes (column r 2) id) then Err WrongArchive
    else if not (has_number (column r 3) own) then Err WrongReplica
    else if not (has_number (column r 0) 1 && has_number (column r 1) format) then Err Refused
    else Ok tt

-- another count of rows is no archive's
abbrev pub judged_as : ℕ → List ℕ → ℕ → List Row → Result Unit StoreFault
judged_as format id own [] = Err Refused
judged_as format id own (r ∷ []) = judged_row format id own r
judged_as format id own (r ∷ s ∷ rs) = Err Refused

-- as one of format 2
abbrev pub checked_meta : List ℕ → ℕ → List Row → Result Unit StoreFault
checked_meta = judged_as 2

-- nothing is said of why we refuse
abbrev pub AnyReason : Type 0
AnyReason = Unit {0}

-- our own reason to refuse an archive's tables: meta says so, or the rows of records2, by name,
-- begin with such that aren't those of records in turn
abbrev pub AreNoStores : List ℕ → ℕ → Trees → Type 0
AreNoStores id own db = (checked_meta id own (meta_cells db) ≡ Err Refused) ⊎ BeginOutOfTurn db

-- the same of all its tables: so it is, or they aren't whole
abbrev pub IsNoStore : List ℕ → ℕ → Trees → Type 0
IsNoStore id own db = AreNoStores id own db ⊎ (AreWhole db → ⊥)

-- what an opening makes of meta and records2: Ok only where they stand for a lawful content of this
-- archive and replica; WrongArchive and WrongReplica only as meta says; Refused where SQLite may
-- refuse, or for our own reason
pub record Opens {A : Type 0} (id : List ℕ) (own : ℕ) (old new : State) (IsAnswer : A → Type 0)
    (result : Result A StoreFault) : Type 0 where
  pub opened : HasCleanDisk new
      → IfOk result (λ a. Holds old new × IsStored id own old.now.trees × IsAnswer a)
  pub wrong : HasCleanDisk new
      → IfErr result
      (λ fault. IsOfOpening fault → checked_meta id own (meta_cells old.now.trees) ≡ Err fault)
  pub refused : RefusesFor (AreNoStores id own old.now.trees) old new result
  pub crash : Survives old new (λ _. ⊥)

-- what an opening makes of all tables of an archive
pub record OpensAll {A : Type 0} (id : List ℕ) (own : ℕ) (old new : State) (IsAnswer : A → Type 0)
    (result : Result A StoreFault) : Type 0 where
  pub opened : HasCleanDisk new
      → IfOk result
      (λ a. KeepsState old new × IsStored id own old.now.trees × AreKept old.now.trees × IsAnswer a)
  pub wrong : HasCleanDisk new
      → IfErr result
      (λ fault. IsOfOpening fault → checked_meta id own (meta_cells old.now.trees) ≡ Err fault)
  pub refused : RefusesFor (IsNoStore id own old.now.trees) old new result
  pub crash : Survives old new (λ _. ⊥)

-- what an opening makes of a store of format 1
pub record OpensV1 (id : List ℕ) (own : ℕ) (old new : State)
    (result : Result Rows1 StoreFault) : Type 0 where
  pub opened : HasCleanDisk new
      → IfOk result
      (λ rows. Holds old new × (meta_cells old.now.trees ≡ meta1_row id own ∷ [])
      × IsRead1 old.now.trees rows)
  pub wrong : HasCleanDisk new
      → IfErr result
      (λ fault. IsOfOpening fault → checked_meta id own (meta_cells old.now.trees) ≡ Err fault)
  pub crash : Survives old new (λ _. ⊥)

-- what an opening makes of tables of format 1 behind those of an archive, before they are taken out
pub record OpensBeside (id : List ℕ) (own : ℕ) (old new : State)
    (result : Result Unit StoreFault) : Type 0 where
  pub opened : HasCleanDisk new → OnOk result
      (Holds old new × (checked_meta id own (meta_cells old.now.trees) ≡ Ok tt)
      × AreBare old.now.trees)
  pub wrong : HasCleanDisk new → IfErr result
      (λ fault. IsOfOpening fault → checked_meta id own (meta_cells old.now.trees) ≡ Err fault)
  pub crash : Survives old new (λ _. ⊥)

-- new tables are made where there are none
abbrev pub IsMadeIn : List ℕ → ℕ → Database → Trees → Type 0
IsMadeIn id own old db = (old.schema ≡ no_schema) × IsNewArchive id (pos own) db

-- the tables of an archive are made of those of format 1 of this archive and replica
abbrev pub IsRenewedIn : List ℕ → ℕ → Database → Trees → Type 0
IsRenewedIn id own old db =
    (old.schema ≡ schema1) × IsStored1 id own old.trees
    × IsRenewed id (pos own) (cells1 old.trees) db

-- tables of format 1 that hold no row are taken out behind those of an archive of this archive and
-- replica
abbrev pub IsClearedIn : List ℕ → ℕ → Database → Trees → Type 0
IsClearedIn id own old db =
    (old.schema ≡ beside_schema) × AreBare old.trees
    × (checked_meta id own (meta_cells old.trees) ≡ Ok tt) × IsCleared old.trees db

-- what an opening commits
abbrev pub IsBegunIn : List ℕ → ℕ → Database → Trees → Type 0
IsBegunIn id own old db =
    (IsMadeIn id own old db ⊎ IsRenewedIn id own old db) ⊎ IsClearedIn id own old db

-- the tables that stood there are kept, all of them or all but empty ones of format 1
abbrev pub IsKeptIn : List ℕ → ℕ → Database → Database → Type 0
IsKeptIn id own old new =
    (IsArchiveSchema old.schema × (new ≡ old)) ⊎ IsClearedIn id own old new.trees

-- an archive begins with the tables that the opening made, or with those that stood there, which
-- are those of a lawful content of this archive and replica
abbrev pub Starts : List ℕ → ℕ → Database → Database → Type 0
Starts id own old new =
    (IsMadeIn id own old new.trees ⊎ IsRenewedIn id own old new.trees)
    ⊎ (IsStored id own old.trees × AreKept old.trees × IsKeptIn id own old new)

-- meta, the first of the tables, says that this is another archive's store, or another replica's
pub record IsRefused (id : List ℕ) (own : ℕ) (old : Database) (fault : StoreFault) : Type 0 where
  pub schema : HasMeta old.schema
  pub judged : checked_meta id own (meta_cells old.trees) ≡ Err fault
