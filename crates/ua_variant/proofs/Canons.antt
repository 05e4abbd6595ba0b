-- What is written of each kind of value.
use Rattle.std.proofs.Common.{◌≡◌, ℕ, ◌+◌, ◌-◌, false, ltb, ◌==◌, ◌++◌, refl, arith}
use Rattle.std.proofs.lemmas.Bool.{ne_eqb, le-ltb}
use Rattle.ua_binary.specs.Format.{byte}
use Rattle.ua_variant.specs.Scalar.{scalar, scalar_number}
use Rattle.ua_variant.specs.Values.{values, array_number}
use Rattle.ua_variant.specs.Variant.{variant}
use Rattle.ua_variant.proofs.VariantParts.{variant_form}
use Rattle.ua_variant.specs.declared.value.Scalar.{Scalar as One}
use Rattle.ua_variant.specs.declared.value.Array.{Array as Many}
use Rattle.ua_variant.specs.declared.value.Variant.TheVariants.{Null, Scalar, Array}
use Rattle.ua_variant.proofs.Types.{IsNumber, type_of, type_of_values}

pub canon_null : variant.canon Null ≡ byte.canon 0
unfolding variant
canon_null = refl

scalar_chosen : (n : ℕ) (v : One) → IsNumber n
    → (variant_form n).canon (Scalar v) ≡ (scalar n).canon v
scalar_chosen n v t = rw (t.some, t.small, t.known) refl

pub canon_scalar : (v : One) → variant.canon (Scalar v)
    ≡ byte.canon (scalar_number v) ++ (scalar (scalar_number v)).canon v
unfolding variant
canon_scalar v = rw (scalar_chosen (scalar_number v) v (type_of v)) refl

array_chosen : (n : ℕ) (v : Many) → IsNumber n
    → (variant_form (128 + n)).canon (Array v) ≡ (values n).canon v
array_chosen n v t =
    let a : (128 + n == 0) ≡ false = ne_eqb (128 + n) 0 (λ e. omega (arith, e)) in
    let b : ltb (128 + n) 128 ≡ false = le-ltb (128 + n) 128 (omega arith) in
    let c : 128 + n - 128 ≡ n = omega arith in
    rw (a, b, c, t.known) refl

pub canon_array : (v : Many) → variant.canon (Array v)
    ≡ byte.canon (128 + array_number v) ++ (values (array_number v)).canon v
unfolding variant
canon_array v = rw (array_chosen (array_number v) v (type_of_values v)) refl

pub ruleset canons = (canon_null, canon_scalar, canon_array)
