-- What answers may do to the world that connections share.
use Rattle.std.specs.Prelude.{◌≡◌, List}
use Rattle.records.specs.Contents.{Content, IsWithin}
use Rattle.archive.specs.declared.fault.StoreFault.{StoreFault}
use Rattle.archive.specs.Store.{Store, CountsFaults, IsLeft}
use Rattle.conversation.specs.declared.world.World.{World}

-- each fault of the store is counted; and on an honest disk whatever a crash may leave now has all
-- of something that it might have left before, and perhaps more
pub record OnlyGrows (old new : Store) : Type 0 where
  pub faults : List StoreFault
  pub passes : CountsFaults old new faults
  pub grows : new.honest → (S : Content) → IsLeft new S
      → (R : Content) × IsLeft old R × IsWithin R S

-- what the server is set to stays, and what its archive holds only grows
abbrev pub Moves : {A C L : Type 0} → (A → Store) → World A C L → World A C L → Type 0
Moves state v w =
    (w.server.settings ≡ v.server.settings)
    × OnlyGrows (state v.server.replica.archive) (state w.server.replica.archive)
