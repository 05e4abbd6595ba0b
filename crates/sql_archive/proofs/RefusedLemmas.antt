-- Queries of an archive in a database are refused for a reason: `refused` of each query.
use Rattle.std.proofs.Common.{◌≡◌, ◌∙◌, Result, sym, subst}
use Rattle.sqlite.specs.Held.{state}
use Rattle.sqlite_trees.specs.declared.store.Store.{Ghosts}
use Rattle.archive.specs.declared.fault.StoreFault.{StoreFault}
use Rattle.archive.specs.declared.fault.StoreFault.TheVariants.{Broken, Refused}
use Rattle.sql_tables.specs.State.{LeavesUnchanged}
use Rattle.sql_archive.specs.Kept.{Kept, RefusesRightly}

-- Broken is no refusal
pub broken_not_refused : (fault : StoreFault) → fault ≡ Broken → fault ≡ Refused → ⊥
broken_not_refused fault broken refused =
    absurd (let same : ◌≡◌ {A = StoreFault} Broken Refused = sym broken ∙ refused in cc)

module _ {S A : Type 0} (g : Ghosts S) where
  -- a query is refused as what it calls is
  pub right_as_below : (Is : A → Type 0) (a b old : Kept S) (below told : Result A StoreFault)
      → a ≡ old → told ≡ below
      → LeavesUnchanged (state g a.conn) (state g b.conn) below Is
      → RefusesRightly g old b told
  right_as_below Is a b old below told is same left =
      subst (λ k. RefusesRightly g k b told) is
      (subst (λ r. RefusesRightly g a b r) (sym same) left.refused)
