-- How an archive begins with tables behind which empty ones of format 1 were taken out.
use Rattle.std.proofs.Common.{◌≡◌, arith, ℕ, List, map, Ok, Err, Result, IfOk, IfErr, sym, ap, subst, ◌∙◌}
use Rattle.sqlite_trees.specs.Tree.{Trees}
use Rattle.sqlite_trees.specs.declared.store.Store.{Ghosts}
use Rattle.sqlite.specs.Effect.{Database}
use Rattle.sqlite.specs.Held.{Held, state}
use Rattle.sqlite.specs.State.{State, HasCleanDisk, Survives}
use Rattle.sqlite.proofs.StateLemmas.{survives_then}
use Rattle.archive.specs.declared.fault.StoreFault.{StoreFault}
use Rattle.sql_schema.specs.Tables.{beside_schema}
use Rattle.sql_tables.specs.Derived.{AreKept}
use Rattle.sql_tables.specs.Rows.{IsStored, meta_cells, meta_columns}
use Rattle.sql_archive.specs.Kept.{Kept}
use Rattle.sql_opening.specs.Clearing.{AreBare, IsCleared}
use Rattle.sql_opening.specs.Opening.{checked_meta, IsClearedIn}
use Rattle.sql_archive.proofs.FileLemmas.{stored_before, kept_before}

-- whose they are stays
pub own_before : (id : List ℕ) (own : ℕ) (old new : Trees) → IsCleared old new
    → checked_meta id own (meta_cells old) ≡ Ok tt → checked_meta id own (meta_cells new) ≡ Ok tt
own_before id own old new cleared is =
    ap (λ rows. checked_meta id own (map meta_columns rows)) cleared.keeps.meta ∙ is

module _ {S : Type 0} (g : Ghosts S) (old mid : State) (id : List ℕ) (own : ℕ)
    (facts : HasCleanDisk mid → (old.now.schema ≡ beside_schema) × AreBare old.now.trees
    × (checked_meta id own (meta_cells old.now.trees) ≡ Ok tt)) where
  as_cleared : (clean : HasCleanDisk mid) (db : Trees) → IsCleared old.now.trees db
      → IsClearedIn id own old.now db
  as_cleared clean db cleared = let f = facts clean in (f.0, f.1, f.2, cleared)

  -- where it fails
  pub crash_clear : (new : State) → Survives old mid (IsCleared old.now.trees)
      → Survives mid new (λ _. ⊥) → Survives old new (IsClearedIn id own old.now)
  crash_clear new one two = survives_then old mid new _ _ _
      (λ clean db made. as_cleared (omega (arith, two.clean, clean)) db made)
      (λ clean db none. absurd none) one two

  pub opened_clear : (r : Result (Kept S) (StoreFault × Held S))
      → Survives old mid (IsCleared old.now.trees)
      → IfOk r (λ a. Survives mid (state g a.conn) (λ _. ⊥))
      → IfOk r (λ a. Survives old (state g a.conn) (IsClearedIn id own old.now))
  opened_clear (Ok a) one two = crash_clear (state g a.conn) one two
  opened_clear (Err e) one two = tt

  pub left_clear : (r : Result (Kept S) (StoreFault × Held S))
      → Survives old mid (IsCleared old.now.trees)
      → IfErr r (λ e. Survives mid (state g e.1) (λ _. ⊥))
      → IfErr r (λ e. Survives old (state g e.1) (IsClearedIn id own old.now))
  left_clear (Ok a) one two = tt
  left_clear (Err e) one two = crash_clear (state g e.1) one two

  pub begun_cleared : (r : Result (Kept S) (StoreFault × Held S))
      → (HasCleanDisk mid → IsCleared old.now.trees mid.now.trees)
      → IfOk r (λ a. HasCleanDisk (state g a.conn) → (state g a.conn).now ≡ mid.now)
      → IfOk r (λ a. Survives mid (state g a.conn) (λ _. ⊥))
      → IfOk r (λ a. HasCleanDisk (state g a.conn)
      → IsClearedIn id own old.now (state g a.conn).now.trees)
  begun_cleared (Ok a) cleared same two = λ clean. let early : HasCleanDisk mid =
      omega (arith, two.clean, clean) in
      subst (IsClearedIn id own old.now) (sym (ap (λ (d : Database). d.trees) (same clean)))
      (as_cleared early mid.now.trees (cleared early))
  begun_cleared (Err e) cleared same two = tt

module _ {S : Type 0} (g : Ghosts S) (old mid : State) where
  pub stored_cleared : (id : List ℕ) (own : ℕ) (r : Result (Kept S) (StoreFault × Held S))
      → (HasCleanDisk mid → IsCleared old.now.trees mid.now.trees)
      → IfOk r (λ a. HasCleanDisk (state g a.conn) → IsStored id own mid.now.trees)
      → IfOk r (λ a. Survives mid (state g a.conn) (λ _. ⊥))
      → IfOk r (λ a. HasCleanDisk (state g a.conn) → IsStored id own old.now.trees)
  stored_cleared id own (Ok a) cleared stored two =
      λ clean. stored_before id own old.now.trees mid.now.trees
      (cleared (omega (arith, two.clean, clean))) (stored clean)
  stored_cleared id own (Err e) cleared stored two = tt

  pub kept_cleared : (r : Result (Kept S) (StoreFault × Held S))
      → (HasCleanDisk mid → IsCleared old.now.trees mid.now.trees)
      → IfOk r (λ a. HasCleanDisk (state g a.conn) → AreKept mid.now.trees)
      → IfOk r (λ a. Survives mid (state g a.conn) (λ _. ⊥))
      → IfOk r (λ a. HasCleanDisk (state g a.conn) → AreKept old.now.trees)
  kept_cleared (Ok a) cleared kept two =
      λ clean. kept_before old.now.trees mid.now.trees (cleared (omega (arith, two.clean, clean)))
      (kept clean)
  kept_cleared (Err e) cleared kept two = tt

  -- what holds of the tables behind a quiet step holds of those before it
  pub held_behind : (P Q : Trees → Type 0) (r : Result (Kept S) (StoreFault × Held S))
      → (HasCleanDisk mid → mid.now ≡ old.now) → IfOk r (λ a. Survives mid (state g a.conn) P)
      → IfOk r (λ a. HasCleanDisk (state g a.conn) → Q mid.now.trees)
      → IfOk r (λ a. HasCleanDisk (state g a.conn) → Q old.now.trees)
  held_behind P Q (Ok a) same two held =
      λ clean. subst (λ (d : Database). Q d.trees) (same (omega (arith, two.clean, clean)))
      (held clean)
  held_behind P Q (Err e) same two held = tt
