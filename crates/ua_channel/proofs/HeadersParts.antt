-- Names for parts of the definitions in specs/Headers, for the lemmas on these parts.
use Rattle.std.specs.Prelude.{Bool, false, ◌&&◌, ◌==◌}
use Rattle.ua_binary.specs.declared.values.NodeId.{NodeId}
use Rattle.ua_binary.specs.declared.values.NodeId.TheVariants.{Numeric}

-- the type id of an OpenSecureChannel request
abbrev pub is_opening : NodeId → Bool
is_opening v = elim v [ Numeric namespace id ↦ namespace == 0 && id == 446 | _ ↦ false ]
