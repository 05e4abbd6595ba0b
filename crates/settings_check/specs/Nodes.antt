-- The variables of a space, as a client finds them.
use Rattle.std.specs.Prelude.{List, ◌++◌, map, filter}
use Rattle.std.specs.List.{flat_map}
use Rattle.ua_binary.specs.declared.values.NodeId.{NodeId}
use Rattle.ua_binary.specs.declared.values.NodeId.TheVariants.{Named}
use Rattle.ua_space.specs.declared.layout.Layout.{Layout}
use Rattle.ua_space.specs.Space.{Node, Objects, OfFolder}
use Rattle.ua_space.specs.References.{holds}

-- the ids of the variables that hang below a node, in the order of the settings
abbrev pub variables_below : Layout → Node → List NodeId
variables_below space node = map (λ v. Named 1 v.id) (filter (holds node) space.variables)

-- the ids of those that hang in a folder
abbrev pub variables_in_folders : Layout → List NodeId
variables_in_folders space =
    flat_map (λ folder. variables_below space (OfFolder folder)) space.folders

-- the ids of the variables: first those in no folder, then folder by folder
abbrev pub variable_ids : Layout → List NodeId
variable_ids space = variables_below space Objects ++ variables_in_folders space
