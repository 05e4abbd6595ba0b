-- How many bytes the spelling that is written has, and what that tells of the value.
use Rattle.std.proofs.Common.{◌≡◌, ℕ, ◌+◌, ◌-◌, ◌<◌, ◌≤◌, ◌^◌, pos, List, [], ◌∷◌, length, map, Option, Some, None, refl, ap, ◌∙◌, arith}
use Rattle.std.proofs.lemmas.List.{length-append}
use Rattle.std.proofs.lemmas.List.Concat.{flat_map-cons}
use Rattle.std.proofs.lemmas.List.Elements.{All-nil, All-cons, recursion_from_All}
use Rattle.std.specs.List.{All, AllByRecursion, flat_map}
use Rattle.std.specs.Int.{w32}
use Rattle.ua_binary.specs.declared.fault.BinaryFault.{BinaryFault}
use Rattle.ua_binary.specs.declared.values.Guid.{Guid}
use Rattle.ua_binary.specs.declared.values.NodeId.{NodeId}
use Rattle.ua_binary.specs.declared.values.NodeId.TheVariants.{Numeric, Named, Global, Opaque}
use Rattle.ua_binary.specs.declared.values.QualifiedName.{QualifiedName}
use Rattle.ua_binary.specs.declared.values.LocalizedText.{LocalizedText}
use Rattle.ua_binary.specs.declared.values.Body.{Body}
use Rattle.ua_binary.specs.declared.values.Body.TheVariants.{Absent, Binary, Xml}
use Rattle.ua_binary.specs.declared.values.ExtensionObject.{ExtensionObject}
use Rattle.ua_binary.specs.Format.{Format}
use Rattle.ua_binary.specs.Binary.{unsigned, signed, byte_string, IsCounted, text, guid, node_id, IsShortNode, qualified, localized, IsShortLocalized, body, IsBody, extension, array}

-- ---- lengths

pub count_length : (n : ℕ) → length ((signed w32).canon (pos n)) ≡ 4
unfolding signed unsigned
count_length n = refl

pub byte_string_length : (b : List ℕ) → length (byte_string.canon (Some b)) ≡ 4 + length b
unfolding byte_string
byte_string_length b = omega (
  arith,
  length-append ((signed w32).canon (pos (length b))) b,
  count_length (length b),
)

pub no_byte_string_length : length (byte_string.canon None) ≡ 4
unfolding byte_string signed unsigned
no_byte_string_length = refl

pub text_length : (b : List ℕ) → length (text.canon (Some b)) ≡ 4 + length b
unfolding text
text_length b = byte_string_length b

pub no_text_length : length (text.canon None) ≡ 4
unfolding text
no_text_length = no_byte_string_length

pub guid_length : (g : Guid) → length (guid.canon g) ≡ 8 + length g.last
unfolding guid unsigned
guid_length g = omega arith

pub array_length : {E A : Type 0} (told : BinaryFault → E) (f : Format E A) (vs : List A)
    → length ((array told f).canon vs) ≡ 4 + length (flat_map f.canon vs)
unfolding array
array_length told f vs = omega (
  arith,
  length-append ((signed w32).canon (pos (length vs))) (flat_map f.canon vs),
  count_length (length vs),
)

pub ruleset sizes = (
  count_length,
  byte_string_length,
  no_byte_string_length,
  text_length,
  no_text_length,
  guid_length,
  array_length,
  length-append,
)

-- ---- what has few bytes is few enough to be counted

pub byte_string_short : (v : Option (List ℕ)) → length (byte_string.canon v) < 2 ^ 31 → IsCounted v
byte_string_short None h = tt
byte_string_short (Some b) h = omega (arith, h, byte_string_length b)

pub text_short : (v : Option (List ℕ)) → length (text.canon v) < 2 ^ 31 → IsCounted v
text_short None h = tt
text_short (Some b) h = omega (arith, h, text_length b)

named_length : (ns : ℕ) (name : List ℕ) → length (node_id.canon (Named ns name)) ≡ 7 + length name
unfolding node_id unsigned
named_length ns name = omega (arith, text_length name)

opaque_length : (ns : ℕ) (id : List ℕ) → length (node_id.canon (Opaque ns id)) ≡ 7 + length id
unfolding node_id unsigned
opaque_length ns id = omega (arith, byte_string_length id)

pub node_short : (v : NodeId) → length (node_id.canon v) < 2 ^ 31 → IsShortNode v
node_short (Numeric ns id) h = tt
node_short (Named ns name) h = omega (arith, h, named_length ns name)
node_short (Global ns id) h = tt
node_short (Opaque ns id) h = omega (arith, h, opaque_length ns id)

pub qualified_short : (v : QualifiedName) → length (qualified.canon v) < 2 ^ 31 → IsCounted v.name
unfolding qualified unsigned
qualified_short v h = text_short v.name (omega (arith, h))

localized_parts : (l t : Option (List ℕ)) → let v : LocalizedText =
    record { locale = l; text = t } in length (localized.canon v) < 2 ^ 31
    → IsCounted l × IsCounted t
unfolding localized
localized_parts None None h = (tt, tt)
localized_parts None (Some t) h = (tt, omega (arith, h, text_length t))
localized_parts (Some l) None h = (
  omega
      (arith, h, text_length l, length-append (text.canon (Some l)) []),
  tt,
)
localized_parts (Some l) (Some t) h = let both =
    length-append (text.canon (Some l)) (text.canon (Some t)) in
    (omega (arith, h, text_length l, both), omega (arith, h, text_length t, both))

pub localized_short : (v : LocalizedText) → length (localized.canon v) < 2 ^ 31 → IsShortLocalized v
localized_short v h = localized_parts v.locale v.text h

body_short : (b : Body) → length (body.canon b) < 2 ^ 31 → IsBody b
body_short Absent h = tt
body_short (Binary b) h = omega (arith, h, byte_string_length b)
body_short (Xml b) h = omega (arith, h, byte_string_length b)

pub extension_short : (v : ExtensionObject) → length (extension.canon v) < 2 ^ 31
    → IsShortNode v.type_id × IsBody v.body
unfolding extension
extension_short v h =
    let both = length-append (node_id.canon v.type_id) (body.canon v.body) in
    (node_short v.type_id (omega (arith, h, both)), body_short v.body (omega (arith, h, both)))

pub ruleset short = (
  byte_string_short,
  text_short,
  node_short,
  qualified_short,
  localized_short,
  extension_short,
)

-- a byte at least is written of it
abbrev pub IsSome : {E A V : Type 0} → (V → A) → Format E A → V → Type 0
IsSome view f v = 0 < length (f.canon (view v))

-- it can be counted where few bytes are written of it
abbrev pub IsShort : {E A V : Type 0} → (V → Type 0) → (V → A) → Format E A → V → Type 0
IsShort P view f v = length (f.canon (view v)) < 2 ^ 31 → P v

items_short : {E A V : Type 0} (P : V → Type 0) (view : V → A) (f : Format E A) (vs : List V)
    → AllByRecursion (IsSome view f) vs → AllByRecursion (IsShort P view f) vs
    → length (flat_map f.canon (map view vs)) < 2 ^ 31
    → (length vs ≤ length (flat_map f.canon (map view vs))) × All P vs
items_short P view f [] some short h = (omega arith, All-nil P)
items_short P view f (v ∷ vs) some short h =
    let both : length (flat_map f.canon (map view (v ∷ vs)))
    ≡ length (f.canon (view v)) + length (flat_map f.canon (map view vs)) =
    ap length (flat_map-cons f.canon (view v) (map view vs))
    ∙ length-append (f.canon (view v)) (flat_map f.canon (map view vs)) in
    let rest = items_short P view f vs some.1 short.1 (omega (arith, h, both)) in
    (omega (arith, both, rest.0, some.0), All-cons P v vs (short.0 (omega (arith, h, both))) rest.1)

pub array_short : {E A V : Type 0} (told : BinaryFault → E) (P : V → Type 0) (view : V → A)
    (f : Format E A) (vs : List V) → All (IsSome view f) vs → All (IsShort P view f) vs
    → length ((array told f).canon (map view vs)) < 2 ^ 31 → (length vs < 2 ^ 31) × All P vs
array_short told P view f vs some short h =
    let len = array_length told f (map view vs) in
    let each = items_short P view f vs (recursion_from_All (IsSome view f) vs some)
    (recursion_from_All (IsShort P view f) vs short) (omega (arith, h, len)) in
    (omega (arith, h, len, each.0), each.1)
