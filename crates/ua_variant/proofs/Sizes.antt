-- How many bytes values take, and which have a spelling.
use Rattle.std.proofs.Common.{◌≡◌, ℕ, suc, ◌+◌, ◌<◌, ◌^◌, List, [], ◌∷◌, ◌++◌, length, is_some, ap, ◌∙◌, arith}
use Rattle.std.specs.List.{All, AllByRecursion}
use Rattle.std.proofs.lemmas.List.{length-append}
use Rattle.std.proofs.lemmas.List.Elements.{recursion_from_All}
use Rattle.ua_binary.specs.Format.{flagged}
use Rattle.ua_binary.specs.Binary.{ticks, status}
use Rattle.ua_variant.specs.Scalar.{scalar, scalar_number}
use Rattle.ua_variant.specs.Values.{values, array_number}
use Rattle.ua_variant.specs.Variant.{variant}
use Rattle.ua_variant.specs.DataValue.{picoseconds, data_value}
use Rattle.ua_variant.specs.declared.value.Scalar.{Scalar as One}
use Rattle.ua_variant.specs.declared.value.Array.{Array as Many}
use Rattle.ua_variant.specs.declared.value.Variant.TheVariants.{Null, Scalar, Array}
use Rattle.ua_variant.specs.declared.data.DataValue.{DataValue}
use Rattle.ua_variant.proofs.Canons.{canon_null, canon_scalar, canon_array}
use Rattle.ua_variant.proofs.Masks.{canon_data}

-- ---- lengths

pub null_length : length (variant.canon Null) ≡ 1
null_length = ap length canon_null

pub scalar_length : (v : One) → length (variant.canon (Scalar v))
    ≡ 1 + length ((scalar (scalar_number v)).canon v)
scalar_length v = omega (arith, ap length (canon_scalar v))

pub array_length : (v : Many) → length (variant.canon (Array v))
    ≡ 1 + length ((values (array_number v)).canon v)
array_length v = omega (arith, ap length (canon_array v))

six : (a b c d e f : List ℕ) → length (a ++ (b ++ (c ++ (d ++ (e ++ f)))))
    ≡ length a + (length b + (length c + (length d + (length e + length f))))
six a b c d e f = omega (
  arith,
  length-append a (b ++ (c ++ (d ++ (e ++ f)))),
  length-append b (c ++ (d ++ (e ++ f))),
  length-append c (d ++ (e ++ f)),
  length-append d (e ++ f),
  length-append e f,
)

pub data_length : (v : DataValue) → length (data_value.canon v)
    ≡ 1 + (length ((flagged (is_some v.value) variant).canon v.value)
    + (length ((flagged (is_some v.status) status).canon v.status)
    + (length ((flagged (is_some v.source_time) ticks).canon v.source_time)
    + (length ((flagged (is_some v.source_pico) picoseconds).canon v.source_pico)
    + (length ((flagged (is_some v.server_time) ticks).canon v.server_time)
    + length ((flagged (is_some v.server_pico) picoseconds).canon v.server_pico))))))
data_length v =
    ap length (canon_data v) ∙ ap suc (six ((flagged (is_some v.value) variant).canon v.value)
    ((flagged (is_some v.status) status).canon v.status)
    ((flagged (is_some v.source_time) ticks).canon v.source_time)
    ((flagged (is_some v.source_pico) picoseconds).canon v.source_pico)
    ((flagged (is_some v.server_time) ticks).canon v.server_time)
    ((flagged (is_some v.server_pico) picoseconds).canon v.server_pico)) ∙ omega arith

pub ruleset lengths = (null_length, scalar_length, array_length, data_length)

-- ---- what has a spelling

each_fits : {A : Type 0} (P Q : A → Type 0) (l : List A) → AllByRecursion (λ v. P v → Q v) l
    → AllByRecursion P l → AllByRecursion Q l
each_fits P Q [] f h = tt
each_fits P Q (v ∷ l) f h = (f.0 h.0, each_fits P Q l f.1 h.1)

-- few enough items, each of which may be counted
pub counted_fit : {A : Type 0} (P Q : A → Type 0) (l : List A) → All (λ v. P v → Q v) l
    → (length l < 2 ^ 31) × All (λ v. P v) l → (length l < 2 ^ 31) × AllByRecursion Q l
counted_fit P Q l f h = (
  h.0,
  each_fits P Q l (recursion_from_All (λ v. P v → Q v) l f)
      (recursion_from_All P l h.1),
)

pub ruleset values_fit = counted_fit
