-- What the first record of a text is.
use Rattle.std.proofs.Common.{◌≡◌, ◌∙◌, ℕ, true, false, Bool, IsTrue, ◌↔◌, codes, List, [], ◌∷◌, length, Option, Some, None, refl, sym, ap, arith}
use Rattle.csv.specs.Machine.{next_record}
use Rattle.csv.specs.Reading.{default_config, strip_bom, Reached}
use Rattle.csv.specs.Records.{field_at}
use Rattle.csv.specs.declared.parser.State.{State}
use Rattle.csv.specs.declared.parser.State.TheVariants.{StartRecord}
use Rattle.history_csv.specs.Rows.{value_names}
use Rattle.history_import.specs.Imports.{HasFirstRecords, HasRecords, HasNoHeader}

-- four fields are known by their places
pub header-is : (fields : List (List ℕ)) → length fields ≡ 4
    → field_at fields 0 ≡ field_at value_names 0 → field_at fields 1 ≡ field_at value_names 1
    → field_at fields 2 ≡ field_at value_names 2 → field_at fields 3 ≡ field_at value_names 3
    → fields ≡ value_names
unfolding field_at
header-is (x ∷ y ∷ z ∷ w ∷ []) long p q r s = cc
header-is [] long p q r s = absurd (omega (arith, long))
header-is (x ∷ []) long p q r s = absurd (omega (arith, long))
header-is (x ∷ y ∷ []) long p q r s = absurd (omega (arith, long))
header-is (x ∷ y ∷ z ∷ []) long p q r s = absurd (omega (arith, long))
header-is (x ∷ y ∷ z ∷ w ∷ v ∷ l) long p q r s = absurd (omega (arith, long))

-- a row that lacks one of them isn't the header
pub isnt-header : (fields : List (List ℕ)) (i : ℕ) (name : List ℕ) (has : Bool)
    → field_at value_names i ≡ Some name → (IsTrue has ↔ (field_at fields i ≡ Some name))
    → has ≡ false → (fields ≡ value_names → ⊥)
isnt-header fields i name has at tells lacks = λ e.
    let there : has ≡ true = tells.1 (ap (λ f. field_at f i) e ∙ at) in
    absurd cc

-- the header's names
pub names-are : (field_at value_names 0 ≡ Some (codes "node"))
    × (field_at value_names 1 ≡ Some (codes "time"))
    × (field_at value_names 2 ≡ Some (codes "value"))
    × (field_at value_names 3 ≡ Some (codes "status"))
unfolding field_at
names-are = (refl, refl, refl, refl)

-- a text of CSV has one first record
reached-first : (text a b : List ℕ) (s t : State) (f g : List (List ℕ))
    → Reached default_config StartRecord text (f ∷ []) s a
    → Reached default_config StartRecord text (g ∷ []) t b → f ≡ g
unfolding Reached
reached-first text a b s t f g p q =
    let same : Some p.0 ≡ Some q.0 = sym p.1 ∙ q.1 in
    let is : p.0 ≡ q.0 = cc in
    p.2 ∙ (ap (λ r. r.0) is ∙ sym q.2)

-- a text without records has no first one
reached-none : (text a : List ℕ) (s : State) (f : List (List ℕ)) (t : State) (b : List ℕ)
    → Reached default_config StartRecord text [] s a → next_record default_config s [] [] a ≡ None
    → Reached default_config StartRecord text (f ∷ []) t b → ⊥
unfolding Reached
reached-none text a s f t b p none q =
    let there : next_record default_config s [] [] a ≡ Some q.0 = rw (← p.0, ← p.1) q.1 in
    absurd cc

-- one whose first record is another doesn't begin by the header
pub no-header : (known : Option (List ℕ)) (fields : List (List ℕ)) → (fields ≡ value_names → ⊥)
    → HasFirstRecords known (fields ∷ []) → HasNoHeader known
no-header None fields other first = tt
no-header (Some text) fields other (s, rest, first) = λ header.
    other (reached-first (strip_bom text) rest header.1 s header.0 fields value_names first
    header.2)

-- an empty one doesn't
pub no-records : (known : Option (List ℕ)) → HasRecords known [] → HasNoHeader known
no-records None ends = tt
no-records (Some text) (s, rest, reached, none) = λ header.
    reached-none (strip_bom text) rest s value_names header.0 header.1 reached none header.2
