use Rattle.std.proofs.Common.{◌≡◌, ◌++◌, drop}
use Rattle.std.specs.List.{flat_map}
use Rattle.ua_space.specs.Space.{OfFolder}
use Rattle.settings_check.specs.Nodes.{variables_below, variables_in_folders}
use Rattle.settings_check.proofs.nodes.put_foldered.Given as goal

abbrev pub invariant-loop-folder : goal.invariant-loop-folder
invariant-loop-folder l = record {
  appends : l.out.items ++ flat_map (λ folder. variables_below l.space (OfFolder folder))
      (drop l.folder-index l.space.folders) ≡ l.initial.out.items ++ variables_in_folders l.space;
}
