-- What may stand in an array: an item takes a byte at least, so that no count passes the bytes
-- left.
use Rattle.std.proofs.Common.{◌≡◌, ℕ, ◌<◌, Bool, true, false, List, [], ◌∷◌, length, Err, sym, ◌∙◌, arith}
use Rattle.std.proofs.lemmas.List.{length-append}
use Rattle.ua_binary.specs.Format.{Format, IsLawful, no_format, ◌▸◌, chosen, headed, standing_for, passing, fitting, raised}
use Rattle.ua_binary.proofs.Combined.{IsNonEmpty, refused_lawful, then_lawful, headed_lawful, standing_lawful, passing_lawful, fitting_lawful, raised_lawful}

-- a lawful format of items
pub record IsItemLawful {E A : Type 0} (f : Format E A) : Type 0 where
  pub lawful : IsLawful f
  pub some : IsNonEmpty f

positive : {E A : Type 0} {f : Format E A} {e : E} → IsLawful f → f.read [] ≡ Err e
    → (bytes : List ℕ) (v : A) → f.Spells bytes v → 0 < length bytes
positive p e [] v s = let wrong = sym e ∙ p.only [] v [] s in absurd cc
positive p e (b ∷ bytes) v s = omega arith

-- where no byte is there, nothing is read
pub item : {E A : Type 0} {f : Format E A} {e : E} → IsLawful f → f.read [] ≡ Err e → IsItemLawful f
item p e = record { lawful = p; some = record { some = positive p e } }

pub refused_item : {E A : Type 0} (e : E) → IsItemLawful (no_format {A = A} e)
refused_item e = record {
  lawful = refused_lawful e;
  some =
      record { some = λ bytes v s. absurd s };
}

pub standing_item : {E A B : Type 0} (to : A → B) (from : B → A) {f : Format E A} → IsItemLawful f
    → IsItemLawful (standing_for to from f)
standing_item to from p = record {
  lawful = standing_lawful to from p.lawful;
  some =
      record { some = λ bytes v s. p.some.some bytes s.0 s.1 };
}

pub chosen_item : {E A : Type 0} (b : Bool) {f g : Format E A} → IsItemLawful f → IsItemLawful g
    → IsItemLawful (chosen b f g)
chosen_item true p q = p
chosen_item false p q = q

pub passing_item : {E A : Type 0} (t : A → Bool) (e : E) {f : Format E A} → IsItemLawful f
    → IsItemLawful (passing t e f)
passing_item t e p = record {
  lawful = passing_lawful t e p.lawful;
  some =
      record { some = λ bytes v s. p.some.some bytes v s.0 };
}

pub fitting_item : {E A : Type 0} (P : A → Type 0) {f : Format E A} → ((v : A) → P v → f.Fits v)
    → IsItemLawful f → IsItemLawful (fitting P f)
fitting_item P h p = record {
  lawful = fitting_lawful P h p.lawful;
  some =
      record { some = p.some.some };
}

pub raised_item : {E F A : Type 0} (h : E → F) {f : Format E A} → IsItemLawful f
    → IsItemLawful (raised h f)
raised_item h p = record { lawful = raised_lawful h p.lawful; some = record { some = p.some.some } }

-- a structure takes a byte where its first part does
pub then_item : {E A B : Type 0} {f : Format E A} {g : Format E B} → IsItemLawful f → IsLawful g
    → IsItemLawful (f ▸ g)
then_item p q = record {
  lawful = then_lawful p.lawful q;
  some = record {
    some = λ bytes v s.
        rw (s.2) (omega (arith, length-append s.0 s.1, p.some.some s.0 v.0 s.3));
  };
}

pub headed_item : {E A B : Type 0} (head_of : B → A) {f : Format E A} (g : A → Format E B)
    → IsItemLawful f → ((a : A) → IsLawful (g a)) → IsItemLawful (headed head_of f g)
headed_item head_of g p q = record {
  lawful = headed_lawful head_of g p.lawful q;
  some = record {
    some = λ bytes v s.
        rw (s.3) (omega (arith, length-append s.0 s.1, p.some.some s.0 s.2 s.4));
  };
}
