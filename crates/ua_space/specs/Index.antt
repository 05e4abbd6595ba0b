-- Where the folders and variables of a layout stand, by their ids.
use Rattle.std.specs.Prelude.{◌≡◌, ◌++◌, ℕ, Bool, List, map, find, nat_eq, Option, option_map, String}
use Rattle.std.specs.Cmp.Lexicographic.{pointwise}
use Rattle.std.specs.List.{slice_get}
use Rattle.std.specs.Option.{option_and_then}
use Rattle.std.specs.HashMap.{HashMap, get_by_text}
use Rattle.ua_binary.specs.declared.values.NodeId.TheVariants.{Named}
use Rattle.ua_space.specs.declared.index.Place.{Place}
use Rattle.ua_space.specs.declared.index.Place.TheVariants as place
use Rattle.ua_space.specs.declared.layout.Layout.{Layout}
use Rattle.ua_binary.specs.declared.values.NodeId.{NodeId}
use Rattle.ua_space.specs.declared.node.Folder.{Folder}
use Rattle.ua_space.specs.declared.node.Variable.{Variable}
use Rattle.ua_space.specs.Space.{Node, OfFolder, OfVariable, is_same_id}
use Rattle.ua_space.specs.Nodes.{id_of}

-- the folders and variables
abbrev pub planned_nodes : Layout → List Node
planned_nodes space = map OfFolder space.folders ++ map OfVariable space.variables

-- the node of this id among these
abbrev pub node_in : List Node → NodeId → Option Node
node_in some id = find (λ node. is_same_id (id_of node) id) some

abbrev pub has_folder_id : List ℕ → Folder → Bool
has_folder_id id folder = pointwise nat_eq folder.id id

abbrev pub has_variable_id : List ℕ → Variable → Bool
has_variable_id id variable = pointwise nat_eq variable.id id

-- what stands at a place
abbrev pub at_place : Layout → Place → Option Node
at_place space (place.Folder i) = option_map OfFolder (slice_get space.folders i)
at_place space (place.Variable i) = option_map OfVariable (slice_get space.variables i)

-- what stands at the place that is kept for an id
abbrev pub kept_at : {A S : Type 0} → Layout → HashMap (String A) Place S → List ℕ → Option Node
kept_at space places id = option_and_then (at_place space) (get_by_text places id)

-- it is the node of that id among these, whatever the id
abbrev pub Lists : {A S : Type 0} → Layout → List Node → HashMap (String A) Place S → Type 0
Lists space some places = (id : List ℕ) → kept_at space places id ≡ node_in some (Named 1 id)

-- among the variables
abbrev pub ListsVariables : {A S : Type 0} → Layout → HashMap (String A) Place S → Type 0
ListsVariables space = Lists space (map OfVariable space.variables)

-- among the folders and variables
abbrev pub IsIndexOf : {A S : Type 0} → Layout → HashMap (String A) Place S → Type 0
IsIndexOf space = Lists space (planned_nodes space)
