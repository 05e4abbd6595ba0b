-- Rows that show no value.
use Rattle.std.proofs.Common.{rules, ◌≡◌, ◌⊎◌, inl, inr, ℕ, ℤ, pos, ◌<◌, List, length, get_or, Err, Ok, refl, sym, ap, ◌∙◌, arith}
use Rattle.sqlite_value.specs.declared.value.Value.TheVariants.{Int, Blob}
use Rattle.sqlite_value.specs.Order.{Row, column, bytes}
use Rattle.sqlite_trees.specs.Objects.{number_in}
use Rattle.ua_variant.specs.DataValue.{data_value}
use Rattle.ua_variant.specs.declared.fault.VariantFault.{VariantFault}
use Rattle.ua_variant.specs.declared.fault.VariantFault.TheVariants as value
use Rattle.records.specs.Fault.{value_fault}
use Rattle.records.specs.declared.fault.RecordFault.{RecordFault}
use Rattle.records.specs.declared.fault.RecordFault.TheVariants.{Binary, BadField, NotCanonical, OutOfMemory}
use Rattle.archive.specs.Fault.{of_record}
use Rattle.archive.specs.Store.{IsOfOpening}
use Rattle.sql_tables.proofs.UnreadLemmas.{has_at}
use Rattle.sql_reading.specs.Readable.{IsReadable, HasUnreadable}

pub no_time : (c : Row) → ((n : ℤ) → column c 0 ≡ Int n → ⊥) → IsReadable c → ⊥
no_time c none it = none it.time.0 it.time.1

pub no_pico : (c : Row) → ((n : ℕ) → n < 65536 → column c 1 ≡ Int (pos n) → ⊥) → IsReadable c → ⊥
no_pico c none it = none it.pico.0 (omega (arith, it.pico.2)) it.pico.1

pub no_moment : (c : Row) (n : ℕ) → number_in (column c 1) ≡ n → 9999 < n → IsReadable c → ⊥
no_moment c n is far it =
    let same : it.pico.0 ≡ n = sym (ap number_in it.pico.1) ∙ is in
    absurd (omega (arith, same, far, it.pico.2))

pub no_extra : (c : Row) → ((n : ℤ) → column c 2 ≡ Int n → ⊥) → IsReadable c → ⊥
no_extra c none it = none it.extra.0 it.extra.1

pub no_bytes : (c : Row) → ((b : List ℕ) → column c 3 ≡ Blob b → ⊥) → IsReadable c → ⊥
no_bytes c none it = none it.bytes it.spelled

no_value : (c : Row) (b : List ℕ) (e : VariantFault) → column c 3 ≡ Blob b
    → data_value.read b ≡ Err e → IsReadable c → ⊥
no_value c b e is fails it =
    let same : it.bytes ≡ b = ap bytes (sym it.spelled ∙ is) in
    let both : Ok it.value.0 ≡ Err e =
    sym it.value.1 ∙ ap data_value.read same ∙ fails in absurd (search rules)

pub no_value_by : (c : Row) (b : List ℕ) (e : VariantFault) → column c 3 ≡ Blob b
    → ((e ≡ value.OutOfMemory → ⊥) → data_value.read b ≡ Err e)
    → (value_fault e ≡ OutOfMemory) ⊎ (IsReadable c → ⊥)
no_value_by c b value.OutOfMemory is fails = inl refl
no_value_by c b e is fails = inr (no_value c b e is (fails (λ same. search rules)))

-- one of some rows isn't read
pub has_unreadable : (rows : List Row) (i : ℕ) (c : Row) (e : RecordFault) → i < length rows
    → c ≡ get_or rows i c → (e ≡ OutOfMemory) ⊎ (IsReadable c → ⊥)
    → (e ≡ OutOfMemory) ⊎ HasUnreadable rows
has_unreadable rows i c e within is (inl memory) = inl memory
has_unreadable rows i c e within is (inr none) = inr (c, rw is (has_at rows i c within), none)

-- a fault of a record is told as no refusal of an opening
pub never_opening : (e : RecordFault) → IsOfOpening (of_record e) → ⊥
never_opening Binary (inl is) = absurd (let no = is in cc)
never_opening Binary (inr is) = absurd (let no = is in cc)
never_opening BadField (inl is) = absurd (let no = is in cc)
never_opening BadField (inr is) = absurd (let no = is in cc)
never_opening NotCanonical (inl is) = absurd (let no = is in cc)
never_opening NotCanonical (inr is) = absurd (let no = is in cc)
never_opening OutOfMemory (inl is) = absurd (let no = is in cc)
never_opening OutOfMemory (inr is) = absurd (let no = is in cc)
