-- How an archive begins over a connection.
use Rattle.std.specs.Prelude.{◌≡◌, ℕ, List, false}
use Rattle.sqlite_trees.specs.declared.store.Store.{Ghosts}
use Rattle.sqlite_trees.specs.Tree.{Trees}
use Rattle.sqlite.specs.Effect.{Database}
use Rattle.sqlite.specs.State.{Survives}
use Rattle.sqlite.specs.Held.{Held, state}
use Rattle.sql_archive.specs.Kept.{Kept}

-- an archive of this id and replica that has met no fault
abbrev pub IsBegun : {S : Type 0} → List ℕ → ℕ → Kept S → Type 0
IsBegun id own a = (a.id ≡ id) × (a.number ≡ own) × (a.faults ≡ 0) × (a.broken ≡ false)

-- a crash leaves what it could leave before the call, or what that commits of the database
abbrev pub MayCommit : {S : Type 0} → Ghosts S → Held S → Held S → (Database → Trees → Type 0)
    → Type 0
MayCommit g old new Commits = Survives (state g old) (state g new) (Commits (state g old).now)
