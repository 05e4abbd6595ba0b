-- Either of two archives.
use Rattle.either.specs.declared.Either.{Either}
use Rattle.either.specs.declared.Either.TheVariants.{Left, Right}
use Rattle.archive.specs.Store.{Store}

-- what the one that is there is
abbrev pub store_of : {L R : Type 0} → (L → Store) → (R → Store) → Either L R → Store
store_of left right (Left archive) = left archive
store_of left right (Right archive) = right archive
