-- What is written has a spelling: enumerations, and arrays of what has one.
use Rattle.std.proofs.Common.{◌≡◌, ℕ, ◌<◌, ◌^◌, ◌+◌, ℤ, pos, List, [], ◌∷◌, ◌++◌, length, map, Bool, Option, None, Result, Ok, Err, IfOk, refl, arith}
use Rattle.std.proofs.lemmas.Int.{ints}
use Rattle.std.proofs.lemmas.List.Elements.{recursion_from_All}
use Rattle.std.proofs.lemmas.List.{length-map, length-append, map-id}
use Rattle.std.specs.List.{All, AllByRecursion}
use Rattle.std.specs.Int.{w32, w64}
use Rattle.std.specs.Int.RustNames.{FitsSigned}
use Rattle.ua_binary.specs.Format.{Format}
use Rattle.ua_binary.specs.Binary.{unsigned, signed, boolean, ticks, status, text, IsText, localized, IsLocalized, qualified, IsQualified, node_id, IsNodeId}
use Rattle.ua_binary.specs.declared.values.LocalizedText.{LocalizedText}
use Rattle.ua_binary.specs.declared.values.NodeId.{NodeId}
use Rattle.ua_binary.specs.declared.values.QualifiedName.{QualifiedName}
use Rattle.ua_binary.specs.declared.values.Ticks.{Ticks}
use Rattle.ua_variant.specs.UpdateType.{update_number}
use Rattle.ua_services.specs.History.{HistoryFields, IsHistoryRead, history_read_result}
use Rattle.ua_variant.specs.declared.update_type.HistoryUpdateType.{HistoryUpdateType}
use Rattle.ua_variant.specs.declared.update_type.HistoryUpdateType.TheVariants.{Insert, Replace, Update, Delete}
use Rattle.ua_services.specs.Browsing.{class_number, ReferenceFields, reference_description}
use Rattle.ua_services.specs.declared.browsing.NodeClass.{NodeClass}
use Rattle.ua_services.specs.declared.browsing.NodeClass.TheVariants.{Unspecified, Object, Variable, Method, ObjectType, VariableType, ReferenceType, DataType, View}
use Rattle.ua_binary.specs.declared.codes.Status.{Status}
use Rattle.ua_binary.proofs.Sizes.{byte_string_length, no_byte_string_length, text_length, no_text_length, array_length}
use Rattle.ua_variant.specs.DataValue.{data_value, IsDataValue}
use Rattle.ua_variant.specs.declared.data.DataValue.{DataValue}
use Rattle.ua_services.specs.Unkept.{many, AreFew}
use Rattle.ua_services.specs.Endpoints.{ApplicationFields, application_description, application_number, mode_number, token_number}
use Rattle.ua_services.specs.declared.endpoints.ApplicationType.{ApplicationType}
use Rattle.ua_services.specs.declared.endpoints.ApplicationType.TheVariants.{Server, Client, ClientAndServer, DiscoveryServer}
use Rattle.ua_services.specs.declared.endpoints.MessageSecurityMode.{MessageSecurityMode}
use Rattle.ua_services.specs.declared.endpoints.MessageSecurityMode.TheVariants as mode
use Rattle.ua_services.specs.declared.endpoints.UserTokenType.{UserTokenType}
use Rattle.ua_services.specs.declared.endpoints.UserTokenType.TheVariants.{Anonymous, UserName}

pub application_fits : (t : ApplicationType) → FitsSigned w32 (application_number t)
application_fits Server = omega (arith, ints)
application_fits Client = omega (arith, ints)
application_fits ClientAndServer = omega (arith, ints)
application_fits DiscoveryServer = omega (arith, ints)

pub mode_fits : (m : MessageSecurityMode) → FitsSigned w32 (mode_number m)
mode_fits mode.Invalid = omega (arith, ints)
mode_fits mode.None = omega (arith, ints)
mode_fits mode.Sign = omega (arith, ints)
mode_fits mode.SignAndEncrypt = omega (arith, ints)

pub token_fits : (t : UserTokenType) → FitsSigned w32 (token_number t)
token_fits Anonymous = omega (arith, ints)
token_fits UserName = omega (arith, ints)

each_fits : {A V : Type 0} (P : A → Type 0) (view : V → A) (vs : List V)
    → AllByRecursion (λ v. P (view v)) vs → AllByRecursion P (map view vs)
each_fits P view [] h = tt
each_fits P view (v ∷ vs) h = (h.0, each_fits P view vs h.1)

-- few enough items, each with a spelling
pub few_fit : {E A V : Type 0} (view : V → A) (f : Format E A) (vs : List V) → length vs < 2 ^ 31
    → All (λ v. f.Fits (view v)) vs → AreFew f (map view vs)
few_fit view f vs lt h = (
  omega (arith, lt, length-map vs view),
  each_fits f.Fits view vs (recursion_from_All (λ v. f.Fits (view v)) vs h),
)

-- few enough items, each of which may be written
pub written_few : {E F T A V : Type 0} (view : V → A) (f : Format E A) (vs : List V)
    (r : Result T F) → length vs < 2 ^ 31 → IfOk r (λ _. All (λ v. f.Fits (view v)) vs)
    → IfOk r (λ _. AreFew f (map view vs))
written_few view f vs (Ok v) lt h = few_fit view f vs lt h
written_few view f vs (Err e) lt h = tt

may_be : {V : Type 0} (P Q : V → Type 0) (vs : List V) → AllByRecursion (λ v. P v → Q v) vs
    → AllByRecursion P vs → AllByRecursion Q vs
may_be P Q [] h p = tt
may_be P Q (v ∷ vs) h p = (h.0 p.0, may_be P Q vs h.1 p.1)

pub may_fit : {E A V : Type 0} (P : V → Type 0) (view : V → A) (f : Format E A) (vs : List V)
    → All (λ v. P v → f.Fits (view v)) vs → length vs < 2 ^ 31 → All P vs → AreFew f (map view vs)
may_fit P view f vs h lt p =
    let each = may_be P (λ v. f.Fits (view v)) vs (recursion_from_All
    (λ v. P v → f.Fits (view v)) vs h) (recursion_from_All P vs p) in
    (omega (arith, lt, length-map vs view), each_fits f.Fits view vs each)

-- what a built-in type's writer promises of its value

pub text_is : (v : Option (List ℕ)) → text.Fits v → IsText v
unfolding text
text_is v h = h

pub localized_is : (v : LocalizedText) → localized.Fits v → IsLocalized v
unfolding localized
localized_is v h = h

pub node_is : (v : NodeId) → node_id.Fits v → IsNodeId v
unfolding node_id
node_is v h = h

pub u32_is : (n : ℕ) → (unsigned w32).Fits n → n < 2 ^ 32
unfolding unsigned
u32_is n h = h

pub status_is : (v : Status) → status.Fits v → v.0 < 2 ^ 32
unfolding status unsigned
status_is v h = h

pub qualified_is : (v : QualifiedName) → qualified.Fits v → IsQualified v
unfolding qualified
qualified_is v h = h

pub class_fits : (c : NodeClass) → FitsSigned w32 (pos (class_number c))
class_fits Unspecified = omega (arith, ints)
class_fits Object = omega (arith, ints)
class_fits Variable = omega (arith, ints)
class_fits Method = omega (arith, ints)
class_fits ObjectType = omega (arith, ints)
class_fits VariableType = omega (arith, ints)
class_fits ReferenceType = omega (arith, ints)
class_fits DataType = omega (arith, ints)
class_fits View = omega (arith, ints)

pub data_fits : (v : DataValue) → IsDataValue v → data_value.Fits v
unfolding data_value
data_fits v h = h

pub update_fits : (t : HistoryUpdateType) → FitsSigned w32 (pos (update_number t))
update_fits Insert = omega (arith, ints)
update_fits Replace = omega (arith, ints)
update_fits Update = omega (arith, ints)
update_fits Delete = omega (arith, ints)

pub ticks_is : (t : Ticks) → ticks.Fits t → FitsSigned w64 t.0
unfolding ticks
ticks_is t h = h

pub history_fits : (v : HistoryFields) → IsHistoryRead v → history_read_result.Fits v
unfolding history_read_result
history_fits v h = h

pub ruleset fits = (
  update_fits,
  ticks_is,
  qualified_is,
  class_fits,
  status_is,
  application_fits,
  mode_fits,
  token_fits,
  text_is,
  localized_is,
  node_is,
  u32_is,
)

-- what stands for itself
pub all_same : {A : Type 0} (l : List A) → map (λ x. x) l ≡ l
all_same l = map-id l

-- ---- lengths

pub number_length : (n : ℤ) → length ((signed w32).canon n) ≡ 4
unfolding signed unsigned
number_length n = refl

pub application_length : (v : ApplicationFields)
    → length (application_description.canon v)
    ≡ length (text.canon v.0) + (length (text.canon v.1.0)
    + (length (localized.canon v.1.1.0) + (12 + length ((many text).canon v.1.1.1.1))))
unfolding application_description
application_length v =
    let urls = (many text).canon v.1.1.1.1 in
    let more = text.canon None ++ (text.canon None ++ urls) in
    let kind = (signed w32).canon v.1.1.1.0 in
    omega (
      arith,
      number_length v.1.1.1.0,
      no_text_length,
      length-append (text.canon None) urls,
      length-append (text.canon None) (text.canon None ++ urls),
      length-append kind more,
      length-append (localized.canon v.1.1.0) (kind ++ more),
      length-append (text.canon v.1.0) (localized.canon v.1.1.0 ++ (kind ++ more)),
      length-append (text.canon v.0) (text.canon v.1.0
          ++ (localized.canon v.1.1.0 ++ (kind ++ more))),
    )

pub boolean_length : (b : Bool) → length (boolean.canon b) ≡ 1
unfolding boolean
boolean_length b = refl

pub reference_length : (v : ReferenceFields)
    → length (reference_description.canon v)
    ≡ length (node_id.canon v.0) + (5
    + (length (node_id.canon v.1.1.0) + (length (qualified.canon v.1.1.1.0)
    + (length (localized.canon v.1.1.1.1.0) + length (node_id.canon v.1.1.1.1.1.1)))))
unfolding reference_description
reference_length v =
    let last = node_id.canon v.1.1.1.1.1.1 in
    let kind = (signed w32).canon v.1.1.1.1.1.0 in
    let display = localized.canon v.1.1.1.1.0 in
    let name = qualified.canon v.1.1.1.0 in
    let node = node_id.canon v.1.1.0 in
    let way = boolean.canon v.1.0 in
    omega (
      arith,
      number_length v.1.1.1.1.1.0,
      boolean_length v.1.0,
      length-append kind last,
      length-append display (kind ++ last),
      length-append name (display ++ (kind ++ last)),
      length-append node (name ++ (display ++ (kind ++ last))),
      length-append way (node ++ (name ++ (display ++ (kind ++ last)))),
      length-append (node_id.canon v.0) (way ++ (node ++ (name ++ (display ++ (kind ++ last))))),
    )

pub ticks_length : (t : Ticks) → length (ticks.canon t) ≡ 8
unfolding ticks signed unsigned
ticks_length t = refl

pub ruleset lengths = (
  ticks_length,
  reference_length,
  boolean_length,
  application_length,
  byte_string_length,
  no_byte_string_length,
  text_length,
  no_text_length,
  array_length,
  length-append,
  number_length,
)
