-- What is spelled is few enough to be counted, whatever its numbers are: so what was read may be
-- written.
use Rattle.std.proofs.Common.{◌≡◌, ℕ, zero, suc, ◌<◌, ◌^◌, ℤ, pos, negsuc, Bool, true, false, cond, ltb, List, [], ◌∷◌, length, Option, Some, None, IfSome, Ok, refl, sym, subst, arith, ◌==◌, not}
use Rattle.std.proofs.lemmas.Bool.{ltb-true}
use Rattle.std.proofs.lemmas.List.Elements.{All-nil, All-cons}
use Rattle.std.specs.List.{All}
use Rattle.std.specs.Option.{option_flatten}
use Rattle.std.specs.Int.{w16, w32, cast_signed}
use Rattle.std.specs.Prelude.{bit_and, unwrap_or}
use Rattle.ua_binary.specs.declared.fault.BinaryFault.{BinaryFault}
use Rattle.ua_binary.specs.declared.fault.BinaryFault.TheVariants.{BadLength, BadUtf8, BadEncodingByte}
use Rattle.ua_binary.specs.declared.values.NodeId.TheVariants.{Numeric, Named, Global, Opaque}
use Rattle.ua_binary.specs.Format.{IsLawful, Format, nothing, no_format, byte, block, ◌▸◌, chosen, headed, standing_for, passing, flagged, fitting, raised, ItemsSpelled, items}
use Rattle.ua_binary.specs.Binary.{unsigned, signed, IsCounted, byte_string, text, IsText, guid, node_form, node_form_of, IsNodeId, IsShortNode, node_id, localized, IsLocalized, IsShortLocalized, qualified, IsQualified, array}
use Rattle.ua_binary.proofs.BinaryParts.{is_text, named_parts, opaque_parts, two_byte_node, four_byte_node, numeric_node, global_node, localized_fields, counted_items, count_of, counted, localized_mask}

-- each value that has a spelling is so
pub record SpellsOnly {E A : Type 0} (f : Format E A) (P : A → Type 0) : Type 0 where
  pub holds : (bytes : List ℕ) (v : A) → f.Spells bytes v → P v

-- ---- what formats are put together of

pub any_only : {E A : Type 0} (f : Format E A) → SpellsOnly f (λ _. Unit {0})
any_only f = record { holds = λ bytes v s. tt }

pub nothing_only : {E A : Type 0} {P : A → Type 0} (a : A) → P a → SpellsOnly (nothing {E = E} a) P
nothing_only {P = P} a h = record { holds = λ bytes v s. subst P (sym s.1) h }

pub refused_only : {E A : Type 0} {P : A → Type 0} (e : E) → SpellsOnly (no_format {A = A} e) P
refused_only e = record { holds = λ bytes v s. absurd s }

pub then_only : {E A B : Type 0} {f : Format E A} {g : Format E B} {P : A → Type 0} {Q : B → Type 0}
    → SpellsOnly f P → SpellsOnly g Q → SpellsOnly (f ▸ g) (λ v. P v.0 × Q v.1)
then_only p q = record { holds = λ bytes v s. (p.holds s.0 v.0 s.3, q.holds s.1 v.1 s.4) }

pub headed_only : {E A B : Type 0} {Q : A → Type 0} {P : B → Type 0}
    (head_of : B → A) {f : Format E A} (g : A → Format E B) → SpellsOnly f Q
    → ((a : A) → Q a → SpellsOnly (g a) P) → SpellsOnly (headed head_of f g) P
headed_only head_of g p q = record {
  holds =
      λ bytes v s. (q s.2 (p.holds s.0 s.2 s.4)).holds s.1 v s.5;
}

pub standing_only : {E A B : Type 0} {Q : A → Type 0} {P : B → Type 0} (to : A → B)
    (from : B → A) {f : Format E A} → SpellsOnly f Q → ((u : A) → Q u → P (to u))
    → SpellsOnly (standing_for to from f) P
standing_only {P = P} to from p h = record {
  holds =
      λ bytes v s. subst P (sym s.2) (h s.0 (p.holds bytes s.0 s.1));
}

pub passing_only : {E A : Type 0} {P : A → Type 0} (t : A → Bool) (e : E) {f : Format E A}
    → SpellsOnly f P → SpellsOnly (passing t e f) P
passing_only t e p = record { holds = λ bytes v s. p.holds bytes v s.0 }

pub flagged_only : {E A : Type 0} {P : A → Type 0} (b : Bool) {f : Format E A} → SpellsOnly f P
    → SpellsOnly (flagged b f) (λ v. IfSome v P)
flagged_only {P = P} true p = record {
  holds =
      λ bytes v s. subst (λ v. IfSome v P) (sym s.2) (p.holds bytes s.0 s.1);
}
flagged_only {P = P} false p = record { holds = λ bytes v s. subst (λ v. IfSome v P) (sym s.1) tt }

pub chosen_only : {E A : Type 0} {P : A → Type 0} (b : Bool) {f g : Format E A} → SpellsOnly f P
    → SpellsOnly g P → SpellsOnly (chosen b f g) P
chosen_only true p q = p
chosen_only false p q = q

pub fitting_only : {E A : Type 0} {P : A → Type 0} (Q : A → Type 0) {f : Format E A}
    → SpellsOnly f P → SpellsOnly (fitting Q f) P
fitting_only Q p = record { holds = p.holds }

pub raised_only : {E F A : Type 0} {P : A → Type 0} (h : E → F) {f : Format E A} → SpellsOnly f P
    → SpellsOnly (raised h f) P
raised_only h p = record { holds = p.holds }

each_only : {E A : Type 0} (P : A → Type 0) (f : Format E A) → SpellsOnly f P
    → (bytes : List ℕ) (vs : List A) → ItemsSpelled f.Spells bytes vs → All P vs
each_only P f p bytes [] s = All-nil P
each_only P f p bytes (v ∷ vs) s = All-cons P v vs (p.holds s.0 v s.3) (each_only P f p s.1 vs s.4)

-- few enough items
abbrev pub IsFew : {A : Type 0} → (A → Type 0) → List A → Type 0
IsFew P vs = (length vs < 2 ^ 31) × All P vs

items_only : {E A : Type 0} {P : A → Type 0} (n : ℕ) {f : Format E A} → n < 2 ^ 31 → SpellsOnly f P
    → SpellsOnly (items n f) (IsFew P)
items_only {P = P} n {f} lt p = record {
  holds =
      λ bytes vs s. (omega (arith, s.1, lt), each_only P f p bytes vs s.0);
}

-- ---- counts

-- a count that isn't negative is below 2^31
abbrev IsCount : ℤ → Type 0
IsCount (pos n) = n < 2 ^ 31
IsCount (negsuc n) = Unit {0}

count_below : (b : Bool) (n m : ℕ) → (b ≡ true → n < 2 ^ 31) → IsCount (cond b (pos n) (negsuc m))
count_below true n m h = h refl
count_below false n m h = tt

is_count : (n : ℕ) → IsCount (cast_signed w32 n)
is_count n = count_below (ltb n (2 ^ 31)) n _ (λ e. ltb-true n (2 ^ 31) e)

count_only : SpellsOnly (signed w32) IsCount
unfolding signed
count_only = fitting_only _ (standing_only _ _ (any_only (unsigned w32)) (λ n _. is_count n))

-- ---- bytes and texts

block_only : (n : ℕ) → n < 2 ^ 31 → SpellsOnly (block n) (λ bytes. length bytes < 2 ^ 31)
block_only n lt = record { holds = λ bytes v s. omega (arith, s.1, lt) }

counted_only : (n : ℤ) → IsCount n → SpellsOnly (counted n) IsCounted
counted_only (pos n) lt = flagged_only true (block_only n lt)
counted_only (negsuc zero) lt = nothing_only None tt
counted_only (negsuc (suc n)) lt = refused_only BadLength

pub byte_string_only : SpellsOnly byte_string IsCounted
unfolding byte_string
byte_string_only = fitting_only IsCounted (headed_only count_of counted count_only counted_only)

pub text_only : SpellsOnly text IsCounted
unfolding text
text_only = fitting_only IsText (passing_only is_text BadUtf8 byte_string_only)

-- ---- structures

-- an empty one for none
or_empty : (v : Option (List ℕ)) → IsCounted v → length (unwrap_or v []) < 2 ^ 31
or_empty None h = omega arith
or_empty (Some bytes) h = h

two_byte_only : SpellsOnly two_byte_node IsShortNode
two_byte_only = standing_only (λ id. Numeric 0 id) _ (any_only byte) (λ _ _. tt)

four_byte_only : SpellsOnly four_byte_node IsShortNode
four_byte_only = standing_only (λ p. Numeric p.0 p.1) _ (any_only (byte ▸ unsigned w16)) (λ _ _. tt)

numeric_only : SpellsOnly numeric_node IsShortNode
numeric_only = standing_only (λ p. Numeric p.0 p.1) _ (any_only (unsigned w16 ▸ unsigned w32))
    (λ _ _. tt)

named_only : SpellsOnly (standing_for (λ p. Named p.0 (unwrap_or p.1 [])) named_parts
    (unsigned w16 ▸ text)) IsShortNode
named_only = standing_only (λ p. Named p.0 (unwrap_or p.1 [])) _
    (then_only (any_only (unsigned w16)) text_only) (λ p h. or_empty p.1 h.1)

global_only : SpellsOnly global_node IsShortNode
global_only = standing_only (λ p. Global p.0 p.1) _ (any_only (unsigned w16 ▸ guid)) (λ _ _. tt)

opaque_only : SpellsOnly (standing_for (λ p. Opaque p.0 (unwrap_or p.1 [])) opaque_parts
    (unsigned w16 ▸ byte_string)) IsShortNode
opaque_only = standing_only (λ p. Opaque p.0 (unwrap_or p.1 [])) _
    (then_only (any_only (unsigned w16)) byte_string_only) (λ p h. or_empty p.1 h.1)

node_form_only : (form : ℕ) → SpellsOnly (node_form form) IsShortNode
node_form_only form =
    chosen_only (form == 0) two_byte_only (
    chosen_only (form == 1) four_byte_only (
    chosen_only (form == 2) numeric_only (
    chosen_only (form == 3) named_only (
    chosen_only (form == 4) global_only (
    chosen_only (form == 5) opaque_only
    (refused_only BadEncodingByte))))))

pub node_id_only : SpellsOnly node_id IsShortNode
unfolding node_id
node_id_only = fitting_only IsNodeId (headed_only node_form_of node_form (any_only byte)
    (λ form _. node_form_only form))

flat_counted : (v : Option (Option (List ℕ))) → IfSome v IsCounted → IsCounted (option_flatten v)
flat_counted None h = tt
flat_counted (Some v) h = h

localized_fields_only : (mask : ℕ) → SpellsOnly (localized_fields mask) IsShortLocalized
localized_fields_only mask = chosen_only (ltb 3 mask) (refused_only BadEncodingByte)
    (standing_only _ _ (then_only (flagged_only (not (bit_and mask 1 == 0)) text_only)
    (flagged_only (not (bit_and mask 2 == 0)) text_only))
    (λ u h. (flat_counted u.0 h.0, flat_counted u.1 h.1)))

pub localized_only : SpellsOnly localized IsShortLocalized
unfolding localized
localized_only = fitting_only IsLocalized (headed_only localized_mask localized_fields
    (any_only byte) (λ mask _. localized_fields_only mask))

pub qualified_only : SpellsOnly qualified (λ v. IsCounted v.name)
unfolding qualified
qualified_only = fitting_only IsQualified (standing_only _ _
    (then_only (any_only (unsigned w16)) text_only) (λ u h. h.1))

-- ---- arrays

counted_items_only : {E A : Type 0} {P : A → Type 0} (told : BinaryFault → E) {f : Format E A}
    → SpellsOnly f P → (n : ℤ) → IsCount n → SpellsOnly (counted_items told f n) (IsFew P)
counted_items_only told p (pos n) lt = record { holds = (items_only n lt p).holds }
counted_items_only {P = P} told p (negsuc zero) lt = nothing_only [] (omega arith, All-nil P)
counted_items_only told p (negsuc (suc n)) lt = refused_only (told BadLength)

pub array_only : {E A : Type 0} {P : A → Type 0} (told : BinaryFault → E) {f : Format E A}
    → SpellsOnly f P → SpellsOnly (array told f) (IsFew P)
unfolding array
array_only told {f} p = headed_only _ (counted_items told f) (raised_only told count_only)
    (counted_items_only told p)

-- ---- what is read

pub read_only : {E A : Type 0} {f : Format E A} {P : A → Type 0} → IsLawful f → SpellsOnly f P
    → (bytes : List ℕ) (v : A) (rest : List ℕ) → f.read bytes ≡ Ok (v, rest) → P v
read_only p q bytes v rest e = q.holds _ v (p.found bytes v rest e).2
