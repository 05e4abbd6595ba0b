use Rattle.std.proofs.Common.{drop, map, ◌++◌}
use Rattle.ua_space.specs.Space.{OfFolder, OfVariable}
use Rattle.ua_space.specs.Index.{Lists}
use Rattle.ua_space.proofs.index.add_folders.Given as goal

abbrev pub invariant-loop-i : goal.invariant-loop-i
invariant-loop-i l = Lists l.layout (map OfFolder (drop l.i l.layout.folders)
    ++ map OfVariable l.layout.variables) l.places
