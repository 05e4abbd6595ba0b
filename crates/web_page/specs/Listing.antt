-- The variables of settings, as the page lists them.
use Rattle.std.specs.Prelude.{ℕ, List, [], ◌++◌, map, filter, unwrap_or, Option, None, Some}
use Rattle.std.specs.List.{flat_map}
use Rattle.ua_binary.specs.declared.values.NodeId.{NodeId}
use Rattle.ua_binary.specs.declared.values.NodeId.TheVariants.{Named}
use Rattle.ua_services.specs.declared.browsing.ReferenceDescription.{ReferenceDescription}
use Rattle.ua_space.specs.declared.layout.Layout.{Layout}
use Rattle.ua_space.specs.declared.node.Variable.{Variable}
use Rattle.ua_space.specs.Space.{Node, Objects, OfFolder}
use Rattle.ua_space.specs.References.{holds}
use Rattle.web_page.specs.declared.listing.Listed.{Listed}

-- a variable as it is listed, in the folder of this name or in none
abbrev pub listed_under : Option (List ℕ) → Variable → Listed
listed_under folder variable =
    record { folder = folder; name = variable.name; node = Named 1 variable.id }

-- the variables that hang below a node, in the order of the settings
abbrev pub listed_below : Layout → Option (List ℕ) → Node → List Listed
listed_below space folder node = map (listed_under folder) (filter (holds node) space.variables)

-- those that hang in a folder, folder by folder
abbrev pub listed_in_folders : Layout → List Listed
listed_in_folders space =
    flat_map (λ folder. listed_below space (Some folder.name) (OfFolder folder)) space.folders

-- all of them: first those in no folder
abbrev pub listed_variables : Layout → List Listed
listed_variables space = listed_below space None Objects ++ listed_in_folders space

-- ---- by what a browse tells

-- the node that a reference leads to, as it is listed in a folder
abbrev pub told_in : Option (List ℕ) → ReferenceDescription → Listed
told_in folder r =
    record { folder = folder; name = unwrap_or r.display_name.text []; node = r.node_id }

-- the id and the name that a reference tells
abbrev pub named : ReferenceDescription → NodeId × Option (List ℕ)
named r = (r.node_id, r.display_name.text)
