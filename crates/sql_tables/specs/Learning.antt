-- What learning a record does to a connection.
use Rattle.std.specs.Prelude.{◌≡◌, ℕ, ◌+◌, nat_lt, ℤ, int_lt, int_le, if◌then◌else◌, List, [], ◌∷◌, pos, false, Bool, None, Result, Ok, Err, IfOk, IfErr, OnOk, unwrap_or}
use Rattle.sqlite_trees.specs.Tree.{Trees}
use Rattle.sqlite_value.specs.Order.{Row, column}
use Rattle.sqlite_trees.specs.Objects.{number_in, catalog_tree}
use Rattle.sqlite.specs.State.{State, HasCleanDisk, Survives}
use Rattle.stamp.specs.Limits.{greatest}
use Rattle.records.specs.Contents.{Content, Finding, vec, last_tick, finding, learned, Adds, Holds, Clash, Gap, TickTooFar, TickNotRising}
use Rattle.records.specs.declared.record.Record.{Record}
use Rattle.archive.specs.Store.{answer_to, store_fault_in, fault_in, IsOfOpening}
use Rattle.archive.specs.Listed.{is_broken}
use Rattle.archive.specs.declared.fault.StoreFault.{StoreFault}
use Rattle.archive.specs.declared.fault.LearnFault.{LearnFault}
use Rattle.archive.specs.declared.fault.LearnFault.TheVariants as refused
use Rattle.sql_schema.specs.Tables.{ListsArchive}
use Rattle.sql_tables.specs.Rows.{row_of, content_in, IsFilled}
use Rattle.sql_tables.specs.Derived.{AreKept, int_in}
use Rattle.sql_tables.specs.State as state

-- the last record of an origin tells its number and its tick
abbrev pub IsLast : Content → ℕ → ℕ × ℤ → Type 0
IsLast R origin last = (vec R origin ≡ last.0) × (last_tick R origin ≡ last.1)

-- the number and the tick in the first of some rows of vectors
abbrev pub end_of : List Row → ℕ × ℤ
end_of [] = (0, pos 0)
end_of (c ∷ cs) = (number_in (column c 1), int_in (column c 2))

-- what a record meets whose number is reached
abbrev pub reached : Bool → Finding
reached same = if same then Holds else Clash

abbrev pub is_added : Result Bool LearnFault → Bool
is_added (Ok added) = added
is_added (Err fault) = false

-- the call added the record
abbrev pub was_added : Result (Result Bool LearnFault) StoreFault → Bool
was_added (Ok told) = is_added told
was_added (Err fault) = false

-- what a record meets whose number isn't reached, by its origin's last number and tick
abbrev pub beyond : ℕ → ℤ → Record → Finding
beyond held last r =
    if nat_lt (held + 1) r.number then Gap held r.number else if int_lt (pos greatest) r.tick
    then TickTooFar else if int_le r.tick last then TickNotRising else Adds

-- the row of the record is written, and the rows that follow, in one commit
pub record Stored (old new : State) (r : Record) (result : Result Unit StoreFault) : Type 0 where
  pub added : HasCleanDisk new
      → OnOk result
      (state.IdlesOn old new × state.Adds (row_of r) old.now.trees new.now.trees)
  pub kept : HasCleanDisk new → is_broken (fault_in result) ≡ false
      → IfErr result (λ _. state.KeepsState old new)
  pub met : IfErr result (λ fault. IsOfOpening fault → ⊥)
  pub crash : Survives old new (state.Adds (row_of r) old.now.trees)

-- these are the old tables, with the record where it is added
pub record Follows (r : Record) (old new : Trees) : Type 0 where
  pub filled : IsFilled new
  pub kept : AreKept new
  pub content : content_in new ≡ unwrap_or (learned (content_in old) r) (content_in old)
  pub meta : new 0 ≡ old 0

-- a commit of the record, which may be added, leaves the old tables with it
abbrev pub IsCommitOf : Record → Trees → Trees → Type 0
IsCommitOf r old db =
    (finding (content_in old) r ≡ Adds) × Follows r old db × ListsArchive (db catalog_tree)

-- the record meets what it meets, and is stored where it is added
pub record Learned (old new : State) (r : Record)
    (result : Result (Result Bool LearnFault) StoreFault) : Type 0 where
  pub answered : HasCleanDisk new
      → IfOk result
      (λ told. (told ≡ answer_to (finding (content_in old.now.trees) r))
      × state.IdlesOn old new × Follows r old.now.trees new.now.trees)
  pub kept : HasCleanDisk new → is_broken (fault_in result) ≡ false
      → IfErr result (λ _. state.KeepsState old new)
  pub met : IfErr result (λ fault. IsOfOpening fault → ⊥)
  pub crash : Survives old new (IsCommitOf r old.now.trees)

-- a fault of the store as one of learning
abbrev pub flat : Result (Result Bool LearnFault) StoreFault → Result Bool LearnFault
flat (Ok told) = told
flat (Err fault) = Err (refused.Store fault)

-- what is told is no fault of the store
abbrev pub IsOwn : Result (Result Bool LearnFault) StoreFault → Type 0
IsOwn (Ok told) = store_fault_in told ≡ None
IsOwn (Err fault) = Unit {0}
