-- Fields that are read by their grammar and not kept.
use Rattle.std.specs.Prelude.{◌≡◌, ℕ, ◌<◌, ◌≤◌, ◌^◌, negsuc, List, length, take, Ok}
use Rattle.std.specs.List.{AllByRecursion}
use Rattle.std.specs.Int.{w32}
use Rattle.ua_binary.specs.declared.fault.BinaryFault.{BinaryFault}
use Rattle.ua_binary.specs.declared.fault.BinaryFault.TheVariants.{BadEncodingByte}
use Rattle.ua_binary.specs.Format.{◌>>=◌, Reading, Format, exactly, ◌▸◌, standing_for, fitting}
use Rattle.ua_binary.specs.Binary.{signed, array}

-- a field whose value isn't kept; where it is written, it is this one
abbrev pub unkept : {E A : Type 0} → A → Format E A → Format E (Unit {0})
unkept a f = fitting (λ _. f.Fits a) (standing_for (λ _. tt) (λ _. a) f)

-- such a field, and what follows it
infixr 6 ◌▹◌
abbrev pub ◌▹◌ : {E A : Type 0} → Format E (Unit {0}) → Format E A → Format E A
u ▹ f = fitting (λ v. u.Fits tt × f.Fits v) (standing_for (λ p. p.1) (λ v. (tt, v)) (u ▸ f))

-- what stands before such a field, and the field
infixr 7 ◌◃◌
abbrev pub ◌◃◌ : {E A : Type 0} → Format E A → Format E (Unit {0}) → Format E A
f ◃ u = fitting (λ v. f.Fits v × u.Fits tt) (standing_for (λ p. p.0) (λ v. (v, tt)) (f ▸ u))

-- an array
abbrev pub many : {A : Type 0} → Format BinaryFault A → Format BinaryFault (List A)
many f = array (λ e. e) f

-- few enough to be counted, each with a spelling
abbrev pub AreFew : {E A : Type 0} → Format E A → List A → Type 0
AreFew f vs = (length vs < 2 ^ 31) × AllByRecursion f.Fits vs

-- the first so many items of an array, each of which is read
unfoldable pub first_items_of : {E A : Type 0} → ℕ → (BinaryFault → E) → Format E A
    → Format E (List A)
first_items_of most told f = record {
  Spells = λ bytes vs. (all : List _) × (array told f).Spells bytes all × (vs ≡ take most all);
  read = λ bytes. (array told f).read bytes >>= λ a. Ok (take most a.0, a.1);
  canon = (array told f).canon;
  Fits = λ vs. (length vs ≤ most) × (array told f).Fits vs;
}

-- of what was read, the first so many items: what a reader keeps by itself
abbrev pub first_items : {E A : Type 0} → ℕ → Reading E (List A) → Reading E (List A)
first_items most r = r >>= λ a. Ok (take most a.0, a.1)

-- an array that isn't kept; a null one is written
abbrev pub unkept_array : {A : Type 0} → Format BinaryFault A → Format BinaryFault (Unit {0})
unkept_array f = record {
  Spells = λ bytes _. (vs : _) × (many f).Spells bytes vs;
  read = λ bytes. (many f).read bytes >>= λ a. Ok (tt, a.1);
  canon = λ _. (signed w32).canon (negsuc 0);
  Fits = λ _. Unit {0};
}

-- a null array, as the one of diagnostics always is
abbrev pub null : Format BinaryFault (Unit {0})
null = exactly BadEncodingByte ((signed w32).canon (negsuc 0))
