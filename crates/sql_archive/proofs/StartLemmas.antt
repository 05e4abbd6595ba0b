-- How an archive begins over a connection.
use Rattle.std.proofs.Common.{◌≡◌, inl, inr, ℕ, pos, List, Result, Ok, Err, IfOk, IfErr, sym, ◌∙◌, arith}
use Rattle.sqlite_trees.specs.declared.store.Store.{Ghosts}
use Rattle.sqlite_trees.specs.Tree.{Trees}
use Rattle.sqlite.specs.Held.{Held, state}
use Rattle.sqlite.specs.State.{State, HasCleanDisk, Survives}
use Rattle.sqlite.proofs.StateLemmas.{survives_then, survives_weaker}
use Rattle.archive.specs.declared.fault.StoreFault.{StoreFault}
use Rattle.archive.specs.Store.{IsOfOpening}
use Rattle.sql_schema.specs.Tables.{no_schema, IsArchiveSchema}
use Rattle.sql_tables.specs.Rows.{meta_cells, IsStored}
use Rattle.sql_tables.specs.Derived.{AreKept}
use Rattle.sql_tables.specs.State.{IsNewArchive, HasMeta}
use Rattle.sql_opening.specs.Opening.{checked_meta, Starts, IsBegunIn, IsRenewedIn, IsClearedIn, IsRefused}
use Rattle.sql_archive.specs.Kept.{Kept}
use Rattle.sql_opening.proofs.OpenLemmas.{new_is_own}
use Rattle.sql_tables.proofs.AskLemmas.{survives_itself}

module _ {S : Type 0} (g : Ghosts S) (old mid : State)
    (result : Result (Kept S) (StoreFault × Held S)) where
  -- with tables that are its own no opening is wrong
  pub never_another : (id : List ℕ) (own : ℕ) → (HasCleanDisk mid
      → checked_meta id own (meta_cells mid.now.trees) ≡ Ok tt)
      → IfErr result (λ e. HasCleanDisk (state g e.1) → IsOfOpening e.0
      → checked_meta id own (meta_cells mid.now.trees) ≡ Err e.0)
      → IfErr result (λ e. Survives mid (state g e.1) (λ _. ⊥))
      → IfErr result (λ e. HasCleanDisk (state g e.1) → IsOfOpening e.0 → ⊥)
  never_another id own owns = go result
    where
      other : (f : StoreFault) → ◌≡◌ {A = Result Unit StoreFault} (Ok tt) (Err f) → ⊥
      other f e = let no = e in cc

      go : (r : Result (Kept S) (StoreFault × Held S))
          → IfErr r (λ e. HasCleanDisk (state g e.1) → IsOfOpening e.0
          → checked_meta id own (meta_cells mid.now.trees) ≡ Err e.0)
          → IfErr r (λ e. Survives mid (state g e.1) (λ _. ⊥))
          → IfErr r (λ e. HasCleanDisk (state g e.1) → IsOfOpening e.0 → ⊥)
      go (Ok a) wrong left = tt
      go (Err e) wrong left = λ clean of.
          other e.0 (sym (owns (omega (arith, left.clean, clean))) ∙ wrong clean of)

  -- as with those that were just made
  pub never_wrong : (id : List ℕ) (own : ℕ) → (HasCleanDisk mid
      → IsNewArchive id (pos own) mid.now.trees)
      → IfErr result (λ e. HasCleanDisk (state g e.1) → IsOfOpening e.0
      → checked_meta id own (meta_cells mid.now.trees) ≡ Err e.0)
      → IfErr result (λ e. Survives mid (state g e.1) (λ _. ⊥))
      → IfErr result (λ e. HasCleanDisk (state g e.1) → IsOfOpening e.0 → ⊥)
  never_wrong id own new = never_another id own (λ clean.
      new_is_own id own mid.now.trees (new clean))

  -- what a crash leaves behind a step and a quiet one is what it leaves behind the step
  pub opened_then : (P : Trees → Type 0) → Survives old mid P
      → IfOk result (λ a. Survives mid (state g a.conn) (λ _. ⊥))
      → IfOk result (λ a. Survives old (state g a.conn) P)
  opened_then P one = go result
    where
      go : (r : Result (Kept S) (StoreFault × Held S))
          → IfOk r (λ a. Survives mid (state g a.conn) (λ _. ⊥))
          → IfOk r (λ a. Survives old (state g a.conn) P)
      go (Ok a) two = survives_then old mid (state g a.conn) _ _ _ (λ clean db p. p)
          (λ clean db none. absurd none) one two
      go (Err e) two = tt

  pub left_then : (P : Trees → Type 0) → Survives old mid P
      → IfErr result (λ e. Survives mid (state g e.1) (λ _. ⊥))
      → IfErr result (λ e. Survives old (state g e.1) P)
  left_then P one = go result
    where
      go : (r : Result (Kept S) (StoreFault × Held S))
          → IfErr r (λ e. Survives mid (state g e.1) (λ _. ⊥))
          → IfErr r (λ e. Survives old (state g e.1) P)
      go (Ok a) two = tt
      go (Err e) two = survives_then old mid (state g e.1) _ _ _ (λ clean db p. p)
          (λ clean db none. absurd none) one two

-- what never comes comes as meta says
pub never_comes : {S : Type 0} (g : Ghosts S) (told : Result Unit StoreFault)
    (r : Result (Kept S) (StoreFault × Held S))
    → IfErr r (λ e. HasCleanDisk (state g e.1) → IsOfOpening e.0 → ⊥)
    → IfErr r (λ e. HasCleanDisk (state g e.1) → IsOfOpening e.0 → told ≡ Err e.0)
never_comes g told (Ok a) none = tt
never_comes g told (Err e) none = λ clean of. absurd (none clean of)

pub any_err : {A E : Type 0} (r : Result A E) (P : E → Type 0) → ((e : E) → P e) → IfErr r P
any_err (Ok a) P h = tt
any_err (Err e) P h = h e

pub err_then : {A E : Type 0} (r : Result A E) (P Q : E → Type 0) → ((e : E) → P e → Q e)
    → IfErr r P → IfErr r Q
err_then (Ok a) P Q f h = tt
err_then (Err e) P Q f h = f e h

-- a quiet step is one that may commit
pub widened : (a b : State) (P : Trees → Type 0) → Survives a b (λ _. ⊥) → Survives a b P
widened a b P one = survives_then a a b (λ _. ⊥) (λ _. ⊥) P (λ clean db none. absurd none)
    (λ clean db none. absurd none) (survives_itself a) one

module _ {S : Type 0} (g : Ghosts S) (old : State) where
  pub opened_quiet : (P : Trees → Type 0) (r : Result (Kept S) (StoreFault × Held S))
      → IfOk r (λ a. Survives old (state g a.conn) (λ _. ⊥))
      → IfOk r (λ a. Survives old (state g a.conn) P)
  opened_quiet P (Ok a) one = widened old (state g a.conn) P one
  opened_quiet P (Err e) one = tt

  pub left_quiet : (P : Trees → Type 0) (r : Result (Kept S) (StoreFault × Held S))
      → IfErr r (λ e. Survives old (state g e.1) (λ _. ⊥))
      → IfErr r (λ e. Survives old (state g e.1) P)
  left_quiet P (Ok a) one = tt
  left_quiet P (Err e) one = widened old (state g e.1) P one

  -- and so is one that makes tables where there are none
  pub opened_new : (id : List ℕ) (own : ℕ) (r : Result (Kept S) (StoreFault × Held S))
      → old.now.schema ≡ no_schema
      → IfOk r (λ a. Survives old (state g a.conn) (IsNewArchive id (pos own)))
      → IfOk r (λ a. Survives old (state g a.conn) (IsBegunIn id own old.now))
  opened_new id own (Ok a) none one =
      survives_weaker old (state g a.conn) _ _ (λ clean db new. inl (inl (none, new))) one
  opened_new id own (Err e) none one = tt

  pub left_new : (id : List ℕ) (own : ℕ) (r : Result (Kept S) (StoreFault × Held S))
      → old.now.schema ≡ no_schema
      → IfErr r (λ e. Survives old (state g e.1) (IsNewArchive id (pos own)))
      → IfErr r (λ e. Survives old (state g e.1) (IsBegunIn id own old.now))
  left_new id own (Ok a) none one = tt
  left_new id own (Err e) none one =
      survives_weaker old (state g e.1) _ _ (λ clean db new. inl (inl (none, new))) one

  -- how it begins: with new tables, or with those that stood there
  pub started_new : (id : List ℕ) (own : ℕ) (r : Result (Kept S) (StoreFault × Held S))
      → old.now.schema ≡ no_schema → IfOk r (λ a. HasCleanDisk (state g a.conn)
      → IsNewArchive id (pos own) (state g a.conn).now.trees)
      → IfOk r (λ a. HasCleanDisk (state g a.conn) → Starts id own old.now (state g a.conn).now)
  started_new id own (Ok a) none made = λ clean. inl (inl (none, made clean))
  started_new id own (Err e) none made = tt

  pub started_old : (id : List ℕ) (own : ℕ) (r : Result (Kept S) (StoreFault × Held S))
      → IsArchiveSchema old.now.schema → IfOk r (λ a. HasCleanDisk (state g a.conn)
      → IsStored id own old.now.trees)
      → IfOk r (λ a. HasCleanDisk (state g a.conn) → AreKept old.now.trees)
      → IfOk r (λ a. HasCleanDisk (state g a.conn) → (state g a.conn).now ≡ old.now)
      → IfOk r (λ a. HasCleanDisk (state g a.conn) → Starts id own old.now (state g a.conn).now)
  started_old id own (Ok a) has stored kept same =
      λ clean. inr (stored clean, kept clean, inl (has, same clean))
  started_old id own (Err e) has stored kept same = tt

  pub refused_by : (id : List ℕ) (own : ℕ) (r : Result (Kept S) (StoreFault × Held S))
      → HasMeta old.now.schema
      → IfErr r (λ e. HasCleanDisk (state g e.1) → IsOfOpening e.0
      → checked_meta id own (meta_cells old.now.trees) ≡ Err e.0)
      → IfErr r (λ e. HasCleanDisk (state g e.1) → IsOfOpening e.0 → IsRefused id own old.now e.0)
  refused_by id own (Ok a) has wrong = tt
  refused_by id own (Err e) has wrong = λ clean of. record { schema = has; judged = wrong clean of }

  -- and with those of a store of format 1
  pub started_renewed : (id : List ℕ) (own : ℕ) (r : Result (Kept S) (StoreFault × Held S))
      → IfOk r (λ a. HasCleanDisk (state g a.conn)
      → IsRenewedIn id own old.now (state g a.conn).now.trees)
      → IfOk r (λ a. HasCleanDisk (state g a.conn) → Starts id own old.now (state g a.conn).now)
  started_renewed id own (Ok a) made = λ clean. inl (inr (made clean))
  started_renewed id own (Err e) made = tt

  pub opened_renewed : (id : List ℕ) (own : ℕ) (r : Result (Kept S) (StoreFault × Held S))
      → IfOk r (λ a. Survives old (state g a.conn) (IsRenewedIn id own old.now))
      → IfOk r (λ a. Survives old (state g a.conn) (IsBegunIn id own old.now))
  opened_renewed id own (Ok a) one =
      survives_weaker old (state g a.conn) _ _ (λ clean db made. inl (inr made)) one
  opened_renewed id own (Err e) one = tt

  pub left_renewed : (id : List ℕ) (own : ℕ) (r : Result (Kept S) (StoreFault × Held S))
      → IfErr r (λ e. Survives old (state g e.1) (IsRenewedIn id own old.now))
      → IfErr r (λ e. Survives old (state g e.1) (IsBegunIn id own old.now))
  left_renewed id own (Ok a) one = tt
  left_renewed id own (Err e) one =
      survives_weaker old (state g e.1) _ _ (λ clean db made. inl (inr made)) one

  -- and with those that are left once empty ones were taken out behind them
  pub started_cleared : (id : List ℕ) (own : ℕ) (r : Result (Kept S) (StoreFault × Held S))
      → IfOk r (λ a. HasCleanDisk (state g a.conn)
      → IsClearedIn id own old.now (state g a.conn).now.trees)
      → IfOk r (λ a. HasCleanDisk (state g a.conn) → IsStored id own old.now.trees)
      → IfOk r (λ a. HasCleanDisk (state g a.conn) → AreKept old.now.trees)
      → IfOk r (λ a. HasCleanDisk (state g a.conn) → Starts id own old.now (state g a.conn).now)
  started_cleared id own (Ok a) made stored kept =
      λ clean. inr (stored clean, kept clean, inr (made clean))
  started_cleared id own (Err e) made stored kept = tt

  pub opened_cleared : (id : List ℕ) (own : ℕ) (r : Result (Kept S) (StoreFault × Held S))
      → IfOk r (λ a. Survives old (state g a.conn) (IsClearedIn id own old.now))
      → IfOk r (λ a. Survives old (state g a.conn) (IsBegunIn id own old.now))
  opened_cleared id own (Ok a) one =
      survives_weaker old (state g a.conn) _ _ (λ clean db made. inr made) one
  opened_cleared id own (Err e) one = tt

  pub left_cleared : (id : List ℕ) (own : ℕ) (r : Result (Kept S) (StoreFault × Held S))
      → IfErr r (λ e. Survives old (state g e.1) (IsClearedIn id own old.now))
      → IfErr r (λ e. Survives old (state g e.1) (IsBegunIn id own old.now))
  left_cleared id own (Ok a) one = tt
  left_cleared id own (Err e) one =
      survives_weaker old (state g e.1) _ _ (λ clean db made. inr made) one
