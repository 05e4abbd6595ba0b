-- What a space is asked to hold, and what makes it one.
use Rattle.std.specs.Prelude.{◌+◌, ℕ, Bool, false, not, ◌||◌, List, [], ◌∷◌, ◌++◌, length, map, codes, nat_eq, nat_lt, Option, is_some, unwrap_or, Result, Ok, Err, if◌then◌else◌}
use Rattle.std.specs.List.{list_any, list_all}
use Rattle.std.specs.Map.{lookup}
use Rattle.std.specs.Cmp.Lexicographic.{pointwise}
use Rattle.ua_space.specs.declared.fault.BuildFault.{BuildFault}
use Rattle.ua_space.specs.declared.fault.BuildFault.TheVariants.{DuplicateNode, BadType, TooMany}
use Rattle.ua_space.specs.declared.node.Folder.{Folder}
use Rattle.ua_space.specs.declared.node.Variable.{Variable}
use Rattle.ua_space.specs.declared.layout.Layout.{Layout}

-- the number of the type of this name, of those that a variable may have (Part 6, 5.1.2), where
-- there is one
unfoldable pub type_number : List ℕ → Option ℕ
type_number name = lookup (pointwise nat_eq name)
    ((codes "Boolean", 1) ∷ (codes "SByte", 2) ∷ (codes "Byte", 3) ∷ (codes "Int16", 4)
    ∷ (codes "UInt16", 5) ∷ (codes "Int32", 6) ∷ (codes "UInt32", 7) ∷ (codes "Int64", 8)
    ∷ (codes "UInt64", 9)
    ∷ (codes "Float", 10) ∷ (codes "Double", 11) ∷ (codes "String", 12) ∷ (codes "DateTime", 13)
    ∷ (codes "Guid", 14) ∷ (codes "ByteString", 15) ∷ [])

-- a variable that is asked for: the id of its folder is none for one in Objects
abbrev pub Entry : Type 0
Entry =
    record
    { id : List ℕ; name : List ℕ; type_name : List ℕ; array : Bool; folder : Option (List ℕ) }

-- the variable of an entry of the settings
abbrev pub variable_for : Entry → Variable
variable_for entry =
    record {
      id = entry.id;
      name = entry.name;
      folder = entry.folder;
      value_type =
          record { number = unwrap_or (type_number entry.type_name) 0; array = entry.array };
    }

-- two of them are equal
abbrev pub have_equal : List (List ℕ) → Bool
have_equal [] = false
have_equal (id ∷ ids) = list_any (pointwise nat_eq id) ids || have_equal ids

-- the space of a namespace, folders and variables, or the first of the faults TooMany, BadType and
-- DuplicateNode
abbrev pub planned : List ℕ → List Folder → List Entry → Result Layout BuildFault
planned namespace folders entries =
    if nat_lt 1000 (length folders + length entries) then Err TooMany
    else if not (list_all (λ entry. is_some (type_number entry.type_name)) entries) then Err BadType
    else if have_equal (map (λ folder. folder.id) folders ++ map (λ entry. entry.id) entries)
    then Err DuplicateNode
    else Ok
    (record { namespace = namespace; folders = folders; variables = map variable_for entries })
