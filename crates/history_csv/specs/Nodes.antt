-- How a node id is written as text and read again (Part 6, 5.3.1.10).
use Rattle.std.specs.Prelude.{ℕ, ◌==◌, List, [], ◌∷◌, ◌++◌, codes, Option, Some, None, Ok, Err, if◌then◌else◌}
use Rattle.std.specs.Fmt.{decimal}
use Rattle.std.specs.Option.{option_map}
use Rattle.std.specs.Str.{bytes_eq}
use Rattle.base64.specs.Engines.{standard}
use Rattle.base64.specs.GeneralPurpose.{decode_of, encode_of}
use Rattle.ua_binary.specs.declared.values.NodeId.{NodeId}
use Rattle.ua_binary.specs.declared.values.NodeId.TheVariants.{Numeric, Named, Global, Opaque}
use Rattle.ua_binary.specs.declared.values.Guid.{Guid}
use Rattle.ua_variant.specs.declared.value.Scalar.{Scalar}
use Rattle.ua_variant.specs.declared.value.Scalar.TheVariants.{Guid as GuidValue}
use Rattle.history_text.specs.Guids.{guid_in, guid_text}
use Rattle.history_text.specs.Numbers.{unsigned_in}
use Rattle.history_text.specs.Times.{◌>>=◌}

-- ---- reading

-- what stands before the first of this letter, and behind it, where there is one
abbrev pub split : (letter : ℕ) → List ℕ → Option (List ℕ × List ℕ)
split letter [] = None
split letter (x ∷ rest) =
    if x == letter then Some ([], rest)
    else option_map (λ parts. (x ∷ parts.0, parts.1)) (split letter rest)

-- the Guid of a value, if it is one
abbrev pub guid_of : Scalar → Option Guid
guid_of value = elim value [ GuidValue guid ↦ Some guid | _ ↦ None ]

-- the bytes that base64 writes
abbrev pub opaque_in : List ℕ → Option (List ℕ)
opaque_in text = elim (decode_of standard text) [ Ok bytes ↦ Some bytes | Err _ ↦ None ]

-- the node of a namespace whose id, of this kind, a text says
abbrev pub id_in : (namespace : ℕ) → (kind text : List ℕ) → Option NodeId
id_in namespace kind text =
    if bytes_eq kind (codes "i") then option_map (Numeric namespace) (unsigned_in 32 text)
    else if bytes_eq kind (codes "s") then Some (Named namespace text)
    else if bytes_eq kind (codes "g") then option_map (Global namespace) (guid_in text)
    else if bytes_eq kind (codes "b") then option_map (Opaque namespace) (opaque_in text)
    else None

-- the node that a text says: the number of its namespace, a semicolon, a kind, an equals sign, an
-- id
abbrev pub placed_in : List ℕ → Option NodeId
placed_in text = do
  (number, rest) ← split 59 text
  namespace ← unsigned_in 16 number
  (kind, id) ← split 61 rest
  id_in namespace kind id

-- the node that a text says, of namespace 0 where it names none
abbrev pub node_in : List ℕ → Option NodeId
node_in text = do
  (kind, rest) ← split 61 text
  if bytes_eq kind (codes "ns") then placed_in rest else id_in 0 kind rest

-- ---- writing

-- a namespace in front of an id: nothing for namespace 0
abbrev pub namespace_text : ℕ → List ℕ
namespace_text namespace =
    if namespace == 0 then [] else codes "ns=" ++ decimal namespace ++ 59 ∷ []

-- the text of a node id
abbrev pub node_text : NodeId → List ℕ
node_text node =
    elim node [
      | Numeric namespace id ↦ namespace_text namespace ++ codes "i=" ++ decimal id
      | Named namespace name ↦ namespace_text namespace ++ codes "s=" ++ name
      | Global namespace id ↦ namespace_text namespace ++ codes "g=" ++ guid_text id
      | Opaque namespace id ↦ namespace_text namespace ++ codes "b=" ++ encode_of standard id
    ]
