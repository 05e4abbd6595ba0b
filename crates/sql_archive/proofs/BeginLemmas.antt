-- How an archive begins with a store of format 1 that was brought to its own form.
use Rattle.std.proofs.Common.{◌≡◌, arith, ℕ, pos, List, [], ◌∷◌, Ok, Err, Result, IfOk, IfErr, sym, ap, subst}
use Rattle.sqlite_trees.specs.Tree.{Trees}
use Rattle.sqlite_trees.specs.declared.store.Store.{Ghosts}
use Rattle.sqlite.specs.Effect.{Database}
use Rattle.sqlite.specs.Held.{Held, state}
use Rattle.sqlite.specs.State.{State, HasCleanDisk, Survives}
use Rattle.sqlite.proofs.StateLemmas.{survives_then}
use Rattle.archive.specs.declared.fault.StoreFault.{StoreFault}
use Rattle.sql_opening.specs.declared.migrate.Rows1.{Rows1}
use Rattle.sql_schema.specs.Tables.{schema1}
use Rattle.sql_tables.specs.Rows.{meta_cells}
use Rattle.sql_archive.specs.Kept.{Kept}
use Rattle.sql_opening.specs.Opening.{IsRenewedIn}
use Rattle.sql_opening.specs.Renewing.{meta1_row, IsRead1, IsTurned}
use Rattle.sql_opening.proofs.RenewLemmas.{stored1}

-- ---- how an archive begins with it

module _ {S : Type 0} (g : Ghosts S) (old mid : State) (id : List ℕ) (own : ℕ) (rows : Rows1)
    (facts : HasCleanDisk mid → (old.now.schema ≡ schema1)
    × (meta_cells old.now.trees ≡ meta1_row id own ∷ []) × IsRead1 old.now.trees rows) where
  as_renewed : (clean : HasCleanDisk mid) (db : Trees) → IsTurned id (pos own) old.now.trees db
      → IsRenewedIn id own old.now db
  as_renewed clean db turned = let f = facts clean in
      (f.0, stored1 id own old.now.trees db rows f.1 f.2 turned, turned.renewed)

  -- where it fails
  pub crash_turned : (new : State) → Survives old mid (IsTurned id (pos own) old.now.trees)
      → Survives mid new (λ _. ⊥) → Survives old new (IsRenewedIn id own old.now)
  crash_turned new one two = survives_then old mid new _ _ _
      (λ clean db made. as_renewed (omega (arith, two.clean, clean)) db made)
      (λ clean db none. absurd none) one two

  pub opened_turned : (r : Result (Kept S) (StoreFault × Held S))
      → Survives old mid (IsTurned id (pos own) old.now.trees)
      → IfOk r (λ a. Survives mid (state g a.conn) (λ _. ⊥))
      → IfOk r (λ a. Survives old (state g a.conn) (IsRenewedIn id own old.now))
  opened_turned (Ok a) one two = survives_then old mid (state g a.conn) _ _ _
      (λ clean db made. as_renewed (omega (arith, two.clean, clean)) db made)
      (λ clean db none. absurd none) one two
  opened_turned (Err e) one two = tt

  pub left_turned : (r : Result (Kept S) (StoreFault × Held S))
      → Survives old mid (IsTurned id (pos own) old.now.trees)
      → IfErr r (λ e. Survives mid (state g e.1) (λ _. ⊥))
      → IfErr r (λ e. Survives old (state g e.1) (IsRenewedIn id own old.now))
  left_turned (Ok a) one two = tt
  left_turned (Err e) one two = survives_then old mid (state g e.1) _ _ _
      (λ clean db made. as_renewed (omega (arith, two.clean, clean)) db made)
      (λ clean db none. absurd none) one two

  pub begun_turned : (r : Result (Kept S) (StoreFault × Held S))
      → (HasCleanDisk mid → IsTurned id (pos own) old.now.trees mid.now.trees)
      → IfOk r (λ a. HasCleanDisk (state g a.conn) → (state g a.conn).now ≡ mid.now)
      → IfOk r (λ a. Survives mid (state g a.conn) (λ _. ⊥))
      → IfOk r (λ a. HasCleanDisk (state g a.conn)
      → IsRenewedIn id own old.now (state g a.conn).now.trees)
  begun_turned (Ok a) turned same two = λ clean. let early : HasCleanDisk mid =
      omega (arith, two.clean, clean) in
      subst (IsRenewedIn id own old.now) (sym (ap (λ (d : Database). d.trees) (same clean)))
      (as_renewed early mid.now.trees (turned early))
  begun_turned (Err e) turned same two = tt

module _ {S : Type 0} (g : Ghosts S) (old mid : State) (P : Database → Trees → Type 0)
    (same : HasCleanDisk mid → mid.now ≡ old.now) where
  -- what is made behind a quiet step is made of what stood before it
  pub opened_behind : (r : Result (Kept S) (StoreFault × Held S)) → Survives old mid (λ _. ⊥)
      → IfOk r (λ a. Survives mid (state g a.conn) (P mid.now))
      → IfOk r (λ a. Survives old (state g a.conn) (P old.now))
  opened_behind (Ok a) one two = survives_then old mid (state g a.conn) _ _ _
      (λ clean db none. absurd none) (λ clean db made.
      subst (λ d. P d db) (same (omega (arith, two.clean, clean))) made) one two
  opened_behind (Err e) one two = tt

  pub left_behind : (r : Result (Kept S) (StoreFault × Held S)) → Survives old mid (λ _. ⊥)
      → IfErr r (λ e. Survives mid (state g e.1) (P mid.now))
      → IfErr r (λ e. Survives old (state g e.1) (P old.now))
  left_behind (Ok a) one two = tt
  left_behind (Err e) one two = survives_then old mid (state g e.1) _ _ _
      (λ clean db none. absurd none) (λ clean db made.
      subst (λ d. P d db) (same (omega (arith, two.clean, clean))) made) one two

  pub begun_behind : (r : Result (Kept S) (StoreFault × Held S))
      → IfOk r (λ a. Survives mid (state g a.conn) (P mid.now))
      → IfOk r (λ a. HasCleanDisk (state g a.conn) → P mid.now (state g a.conn).now.trees)
      → IfOk r (λ a. HasCleanDisk (state g a.conn) → P old.now (state g a.conn).now.trees)
  begun_behind (Ok a) two made = λ clean.
      subst (λ d. P d (state g a.conn).now.trees) (same (omega (arith, two.clean, clean)))
      (made clean)
  begun_behind (Err e) two made = tt

-- what was made stands in the archive that is begun with it
pub made_then : {S : Type 0} (g : Ghosts S) (mid : State) (P : Trees → Type 0)
    (r : Result (Kept S) (StoreFault × Held S)) → (HasCleanDisk mid → P mid.now.trees)
    → IfOk r (λ a. HasCleanDisk (state g a.conn) → (state g a.conn).now ≡ mid.now)
    → IfOk r (λ a. Survives mid (state g a.conn) (λ _. ⊥))
    → IfOk r (λ a. HasCleanDisk (state g a.conn) → P (state g a.conn).now.trees)
made_then g mid P (Ok a) made same two = λ clean.
    let early : HasCleanDisk mid = omega (arith, two.clean, clean) in
    subst P (sym (ap (λ (d : Database). d.trees) (same clean))) (made early)
made_then g mid P (Err e) made same two = tt
