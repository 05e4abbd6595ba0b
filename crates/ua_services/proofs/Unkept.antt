-- Formats with fields that aren't kept are lawful.
use Rattle.std.proofs.Common.{negsuc, List, [], Ok, refl, subst, arith}
use Rattle.std.specs.Int.{w32}
use Rattle.ua_binary.specs.declared.fault.BinaryFault.{BinaryFault}
use Rattle.ua_binary.specs.declared.fault.BinaryFault.TheVariants.{BadEncodingByte}
use Rattle.ua_binary.specs.Format.{Format, IsLawful}
use Rattle.ua_binary.specs.Binary.{unsigned, signed, array}
use Rattle.ua_binary.proofs.Combined.{bind_ok, ok_is, Found, exactly_lawful, byte_lawful, then_lawful, standing_lawful, passing_lawful, fitting_lawful, raised_lawful}
use Rattle.ua_binary.proofs.Elements.{IsItemLawful}
use Rattle.ua_binary.proofs.Lawful.{i32_lawful, byte_string_lawful, array_of_items}
use Rattle.ua_binary.proofs.Spelled.{inside_lawful}
use Rattle.ua_services.specs.Unkept.{unkept, ◌▹◌, ◌◃◌, many, AreFew, unkept_array, null}
use Rattle.ua_variant.specs.declared.fault.VariantFault.{VariantFault}
use Rattle.ua_variant.specs.declared.fault.VariantFault.TheVariants as variant
use Rattle.ua_variant.specs.Raise.{variant_fault}
use Rattle.ua_services.specs.Structure.{binary_body, structure, structure_with_values}

pub unkept_lawful : {E A : Type 0} (a : A) {f : Format E A} → IsLawful f → IsLawful (unkept a f)
unkept_lawful a p = fitting_lawful _ (λ v h. (h, refl)) (standing_lawful (λ _. tt) (λ _. a) p)

pub past_lawful : {E A : Type 0} {u : Format E (Unit {0})} {f : Format E A} → IsLawful u
    → IsLawful f → IsLawful (u ▹ f)
past_lawful p q = fitting_lawful _ (λ v h. (h, refl)) (standing_lawful _ _ (then_lawful p q))

pub closed_lawful : {E A : Type 0} {f : Format E A} {u : Format E (Unit {0})} → IsLawful f
    → IsLawful u → IsLawful (f ◃ u)
closed_lawful p q = fitting_lawful _ (λ v h. (h, refl)) (standing_lawful _ _ (then_lawful p q))

pub many_lawful : {A : Type 0} {f : Format BinaryFault A} → IsItemLawful f → IsLawful (many f)
many_lawful p = array_of_items (λ e. e) p

pub array_fits : {E A : Type 0} (told : BinaryFault → E) (f : Format E A) (vs : List A)
    → AreFew f vs → (array told f).Fits vs
unfolding array signed
array_fits told f vs h = (omega (arith, h.0), (h.1, refl))

pub many_fits : {A : Type 0} (f : Format BinaryFault A) (vs : List A) → AreFew f vs
    → (many f).Fits vs
many_fits f vs h = array_fits (λ e. e) f vs h

null_spelled : {A : Type 0} (f : Format BinaryFault A)
    → (many f).Spells ((signed w32).canon (negsuc 0)) []
unfolding array signed unsigned
null_spelled f = (
  (signed w32).canon (negsuc 0),
  [],
  negsuc 0,
  refl,
  i32_lawful.written (negsuc 0) (omega arith),
  (refl, refl),
)

pub unkept_array_lawful : {A : Type 0} {f : Format BinaryFault A} → IsItemLawful f
    → IsLawful (unkept_array f)
unkept_array_lawful {f} p =
    let q : IsLawful (many f) = many_lawful p in
    record {
      found = λ bytes v rest e.
          let a = bind_ok ((many f).read bytes) (λ a. Ok (tt, a.1)) (v, rest) e in
          let x = q.found bytes a.0.0 a.0.1 a.1 in
          subst (Found (unkept_array f) bytes) (ok_is (tt, a.0.1) (v, rest) a.2)
          (x.0, x.1, (a.0.0, x.2));
      only = λ front v rest s. rw (q.only front s.0 rest s.1) refl;
      written = λ v h. ([], null_spelled f);
    }

pub null_lawful : IsLawful null
null_lawful = exactly_lawful _ _

binary_body_lawful : IsLawful binary_body
unfolding binary_body
binary_body_lawful = standing_lawful _ _ (then_lawful
    (passing_lawful _ BadEncodingByte byte_lawful) byte_string_lawful)

pub structure_lawful : {A : Type 0} {f : Format BinaryFault A} → IsLawful f → IsLawful (structure f)
structure_lawful p = inside_lawful BadEncodingByte binary_body_lawful p

pub structure_with_values_lawful : {A : Type 0} {f : Format VariantFault A} → IsLawful f
    → IsLawful (structure_with_values f)
structure_with_values_lawful p = inside_lawful variant.BadEncodingByte
    (raised_lawful variant_fault binary_body_lawful) p
