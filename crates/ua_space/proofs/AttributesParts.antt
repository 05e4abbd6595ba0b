-- Names for parts of the definitions in specs/Attributes, for the lemmas on these parts.
use Rattle.std.specs.Prelude.{ℕ, List, pos, [], ◌∷◌}
use Rattle.ua_services.specs.Browsing.{class_number}
use Rattle.ua_space.specs.Space.{Node, browse_name_of, display_name_of}
use Rattle.ua_space.specs.Nodes.{id_of, class_of}
use Rattle.ua_variant.specs.declared.value.Scalar.TheVariants as scalar
use Rattle.ua_space.specs.declared.attributes.Answered.{Answered}
use Rattle.ua_space.specs.Attributes.{one}

-- of all nodes (5.2): NodeId, NodeClass, BrowseName, DisplayName
abbrev pub common_attributes : Node → List (ℕ × Answered)
common_attributes node = (1, one (scalar.NodeId (id_of node)))
    ∷ (2, one (scalar.Int32 (pos (class_number (class_of node)))))
    ∷ (3, one (scalar.QualifiedName (browse_name_of node)))
    ∷ (4, one (scalar.LocalizedText (display_name_of node))) ∷ []
