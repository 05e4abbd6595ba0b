-- `==` of values is exact: it tells whether two are one.
use Rattle.std.proofs.Common.{rules, ◌≡◌, Bool, true, Some, None, eqb, true≢false, refl, sym, ap, ◌∙◌, subst, ◌&&◌}
use Rattle.std.specs.Bool.{Decides}
use Rattle.std.specs.Cmp.{IsEquivalence, booleans_Decides, signed_Decides, unsigned_Decides}
use Rattle.std.specs.Cmp.Lexicographic.{pointwise}
use Rattle.std.specs.Option.{option_eq}
use Rattle.std.proofs.lemmas.Bool.Decides.{Decides-and, Decides-like}
use Rattle.std.proofs.lemmas.Slice.Eq.{slice_eq-Decides}
use Rattle.ua_binary.specs.contracts.codes.StatusPartialEq as status
use Rattle.ua_binary.specs.contracts.values.TicksPartialEq as ticks
use Rattle.ua_binary.specs.contracts.values.GuidPartialEq as guid
use Rattle.ua_binary.specs.contracts.values.NodeIdPartialEq as node
use Rattle.ua_binary.specs.contracts.values.QualifiedNamePartialEq as qualified
use Rattle.ua_binary.specs.contracts.values.LocalizedTextPartialEq as localized
use Rattle.ua_variant.specs.declared.value.Array.{Array}
use Rattle.ua_variant.specs.declared.value.Array.TheVariants as many
use Rattle.ua_variant.specs.declared.value.Variant.{Variant}
use Rattle.ua_variant.specs.declared.value.Variant.TheVariants as any
use Rattle.ua_variant.proofs.DataValueParts.{data_of, parts_of}
use Rattle.ua_variant.specs.contracts.value.ScalarPartialEq as scalar
use Rattle.ua_variant.specs.contracts.value.ArrayPartialEq as array
use Rattle.ua_variant.specs.contracts.value.VariantPartialEq as variant
use Rattle.ua_variant.specs.contracts.value.ArrayEq.TheImpl.Laws as array_equal
use Rattle.ua_variant.specs.contracts.value.VariantEq.TheImpl.Laws as variant_equal
use Rattle.ua_variant.specs.contracts.data.DataValuePartialEq as whole

-- a test of being one that is right
abbrev pub IsExact : {A : Type 0} → (A → A → Bool) → Type 0
IsExact {A} E = (a b : A) → Decides (E a b) (a ≡ b)

-- the law of `Eq` has each found with itself, so it is enough that what is found is one
joins_one : {A : Type 0} {E : A → A → Bool} → IsEquivalence E → ((a b : A) → E a b ≡ true → a ≡ b)
    → IsExact E
joins_one {E = E} law only a b = (only a b, λ e. subst (λ c. E a c ≡ true) e (law.refl a))

pub lists : {A : Type 0} {E : A → A → Bool} → IsExact E → IsExact (pointwise E)
lists exact a b = slice_eq-Decides exact a b _ refl

pub options : {A : Type 0} {E : A → A → Bool} → IsExact E → IsExact (option_eq E)
options exact None None = (λ _. refl, λ _. refl)
options exact (Some a) (Some b) = Decides-like _ (ap Some) (λ e. search rules) (exact a b)
options exact None (Some b) = search rules
options exact (Some a) None = search rules

-- two parts, one after the other
pub pairs : {A B : Type 0} {E : A → A → Bool} {F : B → B → Bool} → IsExact E → IsExact F
    → IsExact (λ (p q : A × B). E p.0 q.0 && F p.1 q.1)
pairs left right p q = Decides-like _ (λ e i. (e.0 i, e.1 i))
    (λ e. (ap (λ x. x.0) e, ap (λ x. x.1) e)) (Decides-and _ _ (left p.0 q.0) (right p.1 q.1))

-- a structure has the test of its parts
pub through : {A B : Type 0} {E : B → B → Bool} (parts : A → B) (whole : B → A)
    → ((a : A) → whole (parts a) ≡ a) → IsExact E → IsExact (λ a b. E (parts a) (parts b))
through parts whole back exact a b =
    Decides-like _ (λ e. sym (back a) ∙ ap whole e ∙ back b) (ap parts) (exact (parts a) (parts b))

blocks : IsExact (pointwise eqb)
blocks = lists unsigned_Decides

texts : IsExact (option_eq (pointwise eqb))
texts = options blocks

statuses : IsExact (status.TheImpl.eq-value).it
statuses a b = search rules

moments : IsExact (ticks.TheImpl.eq-value).it
moments a b = search rules

guids : IsExact (guid.TheImpl.eq-value).it
guids a b = search rules

pub nodes : IsExact (node.TheImpl.eq-value).it
nodes a b = search rules

qualified_names : IsExact (qualified.TheImpl.eq-value).it
qualified_names a b = search rules

localized_texts : IsExact (localized.TheImpl.eq-value).it
localized_texts a b = search rules

abbrev equal_arrays : Array → Array → Bool
equal_arrays = (array.TheImpl.eq-value).it

array_only : (a b : Array) → equal_arrays a b ≡ true → a ≡ b
array_only (many.Boolean a) (many.Boolean b) e = ap many.Boolean ((lists booleans_Decides a b).0 e)
array_only (many.SByte a) (many.SByte b) e = ap many.SByte ((lists signed_Decides a b).0 e)
array_only (many.Byte a) (many.Byte b) e = ap many.Byte ((lists unsigned_Decides a b).0 e)
array_only (many.Int16 a) (many.Int16 b) e = ap many.Int16 ((lists signed_Decides a b).0 e)
array_only (many.UInt16 a) (many.UInt16 b) e = ap many.UInt16 ((lists unsigned_Decides a b).0 e)
array_only (many.Int32 a) (many.Int32 b) e = ap many.Int32 ((lists signed_Decides a b).0 e)
array_only (many.UInt32 a) (many.UInt32 b) e = ap many.UInt32 ((lists unsigned_Decides a b).0 e)
array_only (many.Int64 a) (many.Int64 b) e = ap many.Int64 ((lists signed_Decides a b).0 e)
array_only (many.UInt64 a) (many.UInt64 b) e = ap many.UInt64 ((lists unsigned_Decides a b).0 e)
array_only (many.Float a) (many.Float b) e = ap many.Float ((lists blocks a b).0 e)
array_only (many.Double a) (many.Double b) e = ap many.Double ((lists blocks a b).0 e)
array_only (many.String a) (many.String b) e = ap many.String ((lists texts a b).0 e)
array_only (many.DateTime a) (many.DateTime b) e = ap many.DateTime ((lists moments a b).0 e)
array_only (many.Guid a) (many.Guid b) e = ap many.Guid ((lists guids a b).0 e)
array_only (many.ByteString a) (many.ByteString b) e = ap many.ByteString ((lists texts a b).0 e)
array_only (many.NodeId a) (many.NodeId b) e = ap many.NodeId ((lists nodes a b).0 e)
array_only (many.StatusCode a) (many.StatusCode b) e = ap many.StatusCode ((lists statuses a b).0 e)
array_only (many.QualifiedName a) (many.QualifiedName b) e =
    ap many.QualifiedName ((lists qualified_names a b).0 e)
array_only (many.LocalizedText a) (many.LocalizedText b) e =
    ap many.LocalizedText ((lists localized_texts a b).0 e)
array_only _ _ e = absurd (true≢false (sym e))

pub arrays : IsExact equal_arrays
arrays = joins_one array_equal.laws-law array_only

pub scalars : IsExact (scalar.TheImpl.eq-value).it
scalars a b = search rules

abbrev equal_variants : Variant → Variant → Bool
equal_variants = (variant.TheImpl.eq-value).it

variant_only : (a b : Variant) → equal_variants a b ≡ true → a ≡ b
variant_only any.Null any.Null e = refl
variant_only (any.Scalar a) (any.Scalar b) e = ap any.Scalar ((scalars a b).0 e)
variant_only (any.Array a) (any.Array b) e = ap any.Array ((arrays a b).0 e)
variant_only _ _ e = absurd (true≢false (sym e))

pub variants : IsExact equal_variants
variants = joins_one variant_equal.laws-law variant_only

pub data_values : IsExact (whole.TheImpl.eq-value).it
data_values = through parts_of data_of (λ _. refl)
    (pairs (options variants) (pairs (options statuses) (pairs (options moments)
    (pairs (options unsigned_Decides) (pairs (options moments) (options unsigned_Decides))))))

pub ruleset exact = (scalars, arrays, variants, data_values)
