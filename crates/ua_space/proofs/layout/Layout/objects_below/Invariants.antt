use Rattle.std.proofs.Common.{◌≡◌, take, map, true}
use Rattle.ua_space.specs.Space.{OfFolder}
use Rattle.ua_space.specs.References.{link_of}
use Rattle.ua_space.proofs.ReferencesParts.{organizes}
use Rattle.ua_space.proofs.layout.Layout.objects_below.Given as goal

abbrev pub invariant-loop-folder : goal.invariant-loop-folder
invariant-loop-folder l = map link_of l.links.items
    ≡ map (organizes true) (map OfFolder (take l.folder-index l.self.folders))
