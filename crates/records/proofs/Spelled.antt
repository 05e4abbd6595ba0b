-- The spelling of records is lawful.
use Rattle.std.proofs.Common.{◌≡◌, ℕ, ◌≤◌, ◌<◌, ◌^◌, ℤ, pos, ◌≤ℤ◌, int_le, Bool, true, false, cond, nat_le, List, [], length, nat_lt, Option, Some, None, unwrap_or, Result, Ok, Err, refl, sym, subst, arith, ◌&&◌}
use Rattle.std.specs.Str.{bytes_eq}
use Rattle.std.specs.Int.{w64}
use Rattle.std.specs.Int.RustNames.{FitsSigned}
use Rattle.std.proofs.lemmas.Slice.Eq.{bytes_eq-Decides}
use Rattle.std.proofs.lemmas.Bool.{ltb-false, le-ltb, leb-true, le-leb, and_from, and_parts, true≢false}
use Rattle.std.proofs.lemmas.Int.{ints}
use Rattle.stamp.specs.Limits.{greatest}
use Rattle.ua_binary.specs.Format.{IsLawful, ◌▸◌, standing_for, passing, raised, whole}
use Rattle.ua_binary.specs.Binary.{IsCounted, node_id, text}
use Rattle.ua_binary.proofs.Combined.{bind_ok, passed_ok, byte_lawful, then_lawful, standing_lawful, passing_lawful, canonical_lawful, fitting_lawful, raised_lawful}
use Rattle.ua_binary.proofs.Lawful.{u16_lawful, u64_lawful, i64_lawful, node_id_lawful, text_lawful}
use Rattle.ua_binary.proofs.Spelled.{whole_found, whole_only}
use Rattle.ua_binary.proofs.Counted.{SpellsOnly, any_only, then_only, standing_only, passing_only, raised_only, text_only, node_id_only, read_only}
use Rattle.ua_variant.proofs.Masks.{data_value_lawful}
use Rattle.ua_variant.proofs.Short.{data_value_only}
use Rattle.records.specs.declared.record.Record.{Record}
use Rattle.ua_variant.specs.declared.update_type.HistoryUpdateType.{HistoryUpdateType}
use Rattle.ua_variant.specs.declared.update_type.HistoryUpdateType.TheVariants.{Insert, Replace, Update, Delete}
use Rattle.records.specs.declared.fault.RecordFault.TheVariants.{Binary, BadField, NotCanonical}
use Rattle.records.specs.Fault.{binary_fault}
use Rattle.records.specs.Moments.{ticks_of, pico_of, ticks_again, whole_again, pico_within}
use Rattle.ua_variant.specs.UpdateType.{update_number}
use Rattle.records.specs.Fields.{version, origin, number, tick, ticks, pico, node, asked, user, value, parts_of}
use Rattle.records.specs.Spelling.{time, is_value_for, front, fields, longest, IsLawfulRecord, IsRecord, HasSpelledParts, record_form, record_at, IsShortRecord}
use Rattle.records.proofs.FieldLaws.{IsTick, record_of, is_user, asked_of_number}

-- ---- the fields

time_lawful : IsLawful time
unfolding time
time_lawful = standing_lawful _ _ (then_lawful (passing_lawful _ _ (raised_lawful _ i64_lawful))
    (passing_lawful _ _ (raised_lawful _ u16_lawful)))

front_lawful : IsLawful front
front_lawful =
    then_lawful (passing_lawful _ _ (raised_lawful _ byte_lawful)) (
    then_lawful (passing_lawful _ _ (raised_lawful _ byte_lawful)) (
    then_lawful (passing_lawful _ _ (raised_lawful _ u64_lawful)) (
    then_lawful (passing_lawful _ _ (raised_lawful _ i64_lawful)) (
    then_lawful (raised_lawful _ node_id_lawful) (
    then_lawful time_lawful (
    then_lawful (standing_lawful _ _ (passing_lawful _ _ (raised_lawful _ byte_lawful)))
    (standing_lawful _ _ (passing_lawful _ _ (raised_lawful _ text_lawful)))))))))

pub fields_lawful : IsLawful fields
unfolding fields
fields_lawful = passing_lawful _ _ (standing_lawful record_of parts_of
    (then_lawful front_lawful (raised_lawful _ data_value_lawful)))

-- ---- what has a spelling

asked_again : (a : HistoryUpdateType)
    → (((update_number a < 2 ^ 8) × ((nat_le 1 (update_number a) && nat_le (update_number a) 4)
    ≡ true)) × (a ≡ asked_of_number (update_number a)))
asked_again Insert = ((omega arith, refl), refl)
asked_again Replace = ((omega arith, refl), refl)
asked_again Update = ((omega arith, refl), refl)
asked_again Delete = ((omega arith, refl), refl)

one_to : (n most : ℕ) → 1 ≤ n → n ≤ most → (nat_le 1 n && nat_le n most) ≡ true
one_to n most a b = and_from _ _ (le-leb 1 n a) (le-leb n most b)

at_least_one : (t : ℤ) → pos 1 ≤ℤ t → int_le (pos 1) t ≡ true
at_least_one t h = grind (arith, ints)

below_greatest : (t : ℤ) → t ≤ℤ pos greatest → int_le t (pos greatest) ≡ true
below_greatest t h = grind (arith, ints)

tick_fits : (t : ℤ) → IsTick t → FitsSigned w64 t
    × ((int_le (pos 1) t && int_le t (pos greatest)) ≡ true)
tick_fits t h = (
  omega (arith, ints, h.0, h.1),
  and_from _ _ (at_least_one t h.0) (below_greatest t h.1),
)

abbrev later_front : Record → ℤ × (HistoryUpdateType × List ℕ)
later_front r = (r.time, (r.asked, r.user))

time_fits : (t : ℤ) → pos 1 ≤ℤ ticks_of t → FitsSigned w64 (ticks_of t) → time.Fits t
unfolding time Rattle.ua_binary.specs.Binary.signed Rattle.ua_binary.specs.Binary.unsigned
time_fits t h fits =
    let small = pico_within t in (
      ((fits, at_least_one (ticks_of t) h), (omega (arith, small), le-leb (pico_of t) 9999 small)),
      sym (whole_again t),
    )

later_fits : (r : Record) → IsLawfulRecord r → (time ▸ asked ▸ user).Fits (later_front r)
unfolding Rattle.ua_binary.specs.Binary.text
later_fits r l = (
  time_fits r.time l.time.0 l.time.1,
  (
    asked_again r.asked,
    (((omega (arith, l.user.0), l.user.1), le-leb (length r.user) 256 l.user.0), refl),
  ),
)

front_fits : (r : Record) → IsRecord r → front.Fits (parts_of r).0
unfolding Rattle.ua_binary.specs.Binary.unsigned Rattle.ua_binary.specs.Binary.signed
    Rattle.ua_binary.specs.Binary.node_id
front_fits r h =
    let l : IsLawfulRecord r = h.0 in (
      (omega arith, refl),
      (
        (omega (arith, l.origin.1), one_to r.origin 64 l.origin.0 l.origin.1),
        (
          (omega (arith, l.number.1), one_to r.number greatest l.number.0 l.number.1),
          (tick_fits r.tick h.1, (l.node, later_fits r l)),
        ),
      ),
    )

record_fits : (r : Record) → IsRecord r
    → fields.Fits r × (nat_le (length (fields.canon r)) longest ≡ true)
unfolding fields Rattle.ua_variant.specs.DataValue.data_value
record_fits r h = ((((front_fits r h, h.0.value), refl), h.0.suits), le-leb _ _ h.0.size)

pub record_lawful : IsLawful record_form
unfolding record_form
record_lawful = fitting_lawful IsRecord record_fits
    (canonical_lawful NotCanonical (passing_lawful _ BadField fields_lawful))

-- ---- all of the bytes

passed_by : {E A : Type 0} (b : Bool) (d : E) (r : Result A E) (y : A) → cond b (Err d) r ≡ Ok y
    → (b ≡ false) × (r ≡ Ok y)
passed_by true d r y e = absurd cc
passed_by false d r y e = (refl, e)

pub record_found : (bytes : List ℕ) (r : Record) → record_at bytes ≡ Ok r
    → record_form.Spells bytes r
unfolding record_form
record_found bytes r h =
    let a = bind_ok (whole Binary fields bytes) (λ r.
    cond (nat_lt longest (length bytes)) (Err BadField)
    (cond (bytes_eq bytes (fields.canon r)) (Ok r) (Err NotCanonical))) r h in
    let b = passed_by (nat_lt longest (length bytes)) BadField
    (cond (bytes_eq bytes (fields.canon a.0)) (Ok a.0) (Err NotCanonical)) r a.2 in
    let g = passed_ok (bytes_eq bytes (fields.canon a.0)) NotCanonical a.0 r b.1 in
    let short = ltb-false _ _ b.0 in
    let same = (bytes_eq-Decides bytes (fields.canon a.0)).0 g.0 in
    subst (λ q. (fields.Spells bytes q × (nat_le (length (fields.canon q)) longest ≡ true))
    × (bytes ≡ fields.canon q)) g.1 (
      (
        whole_found Binary fields_lawful bytes a.0 a.1,
        subst (λ b. nat_le (length b) longest ≡ true) same (le-leb _ _ short),
      ),
      same,
    )

pub record_only : (bytes : List ℕ) (r : Record) → record_form.Spells bytes r
    → record_at bytes ≡ Ok r
unfolding record_form
record_only bytes r s =
    let small : nat_lt longest (length bytes) ≡ false =
    le-ltb _ _ (subst (λ b. length b ≤ longest) (sym s.1) (leb-true _ _ s.0.1)) in
    let same : bytes_eq bytes (fields.canon r) ≡ true =
    (bytes_eq-Decides bytes (fields.canon r)).1 s.1 in
    rw (whole_only Binary fields_lawful bytes r s.0.0, small, same) refl

-- ---- what was read may be written

or_empty : (v : Option (List ℕ)) → IsCounted v → length (unwrap_or v []) < 2 ^ 31
or_empty None h = omega arith
or_empty (Some bytes) h = h

fields_only : SpellsOnly fields IsShortRecord
unfolding fields
fields_only = passing_only _ _ (standing_only record_of parts_of (then_only (
    then_only (any_only version) (
    then_only (any_only origin) (
    then_only (any_only number) (
    then_only (any_only tick) (
    then_only (raised_only _ node_id_only) (
    then_only (any_only time) (
    then_only (any_only asked)
    (standing_only {P = λ name. length name < 2 ^ 31} (λ name. unwrap_or name []) Some
    (passing_only is_user BadField (raised_only _ text_only))
    (λ name h. or_empty name h)))))))))
    (raised_only _ data_value_only)) (λ u h. (h.0.1.1.1.1.0, h.0.1.1.1.1.1.1.1, h.1)))

pub short_record : (bytes : List ℕ) (r : Record) (rest : List ℕ) → fields.read bytes ≡ Ok (r, rest)
    → IsShortRecord r
short_record bytes r rest e = read_only fields_lawful fields_only bytes r rest e

pub record_short : (r : Record) → IsRecord r → IsShortRecord r
record_short r h = fields_only.holds (fields.canon r) r
    (fields_lawful.written r (record_fits r h).0)

-- ---- what was read is a record

-- what the tests tell
abbrev IsTested : Record → Type 0
IsTested r = ((1 ≤ r.number) × (r.number ≤ greatest))
    × (IsTick r.tick × ((pos 1 ≤ℤ ticks_of r.time) × (length r.user ≤ 256)))

from_one : (n most : ℕ) → (nat_le 1 n && nat_le n most) ≡ true → (1 ≤ n) × (n ≤ most)
from_one n most e = let parts = and_parts _ _ e in (leb-true _ _ parts.0, leb-true _ _ parts.1)

is_positive : (t : ℤ) → int_le (pos 1) t ≡ true → pos 1 ≤ℤ t
is_positive t e = grind (arith, ints)

is_below : (t : ℤ) → int_le t (pos greatest) ≡ true → t ≤ℤ pos greatest
is_below t e = grind (arith, ints)

from_tick : (t : ℤ) → (int_le (pos 1) t && int_le t (pos greatest)) ≡ true → IsTick t
from_tick t e = let parts = and_parts _ _ e in (is_positive t parts.0, is_below t parts.1)

short_user : (name : Option (List ℕ)) → is_user name ≡ true → length (unwrap_or name []) ≤ 256
short_user None e = absurd (true≢false (sym e))
short_user (Some name) e = leb-true _ _ e

number_tested : SpellsOnly number (λ n. (1 ≤ n) × (n ≤ greatest))
number_tested = record { holds = λ bytes n s. from_one n greatest s.1 }

tick_tested : SpellsOnly tick IsTick
tick_tested = record { holds = λ bytes t s. from_tick t s.1 }

ticks_tested : SpellsOnly ticks (λ t. pos 1 ≤ℤ t)
ticks_tested = record { holds = λ bytes t s. is_positive t s.1 }

pico_tested : SpellsOnly pico (λ n. n ≤ 9999)
pico_tested = record { holds = λ bytes n s. leb-true n 9999 s.1 }

time_tested : SpellsOnly time (λ t. pos 1 ≤ℤ ticks_of t)
unfolding time
time_tested = standing_only _ _ (then_only ticks_tested pico_tested)
    (λ u h. subst (λ t. pos 1 ≤ℤ t) (sym (ticks_again u.0 u.1 h.1)) h.0)

user_passed : SpellsOnly (passing is_user BadField (raised binary_fault text))
    (λ name. is_user name ≡ true)
user_passed = record { holds = λ bytes name s. s.1 }

user_tested : SpellsOnly user (λ name. length name ≤ 256)
user_tested = standing_only (λ name. unwrap_or name []) Some user_passed short_user

tested_only : SpellsOnly (standing_for record_of parts_of (front ▸ value)) IsTested
tested_only = standing_only record_of parts_of (then_only (
    then_only (any_only version) (
    then_only (any_only origin) (
    then_only number_tested (
    then_only tick_tested (
    then_only (any_only node) (
    then_only time_tested (
    then_only (any_only asked)
    user_tested)))))))
    (any_only value)) (λ u h. (h.0.1.1.0, (h.0.1.1.1.0, (h.0.1.1.1.1.1.0, h.0.1.1.1.1.1.1.1))))

fields_tested : (bytes : List ℕ) (r : Record) → fields.Spells bytes r
    → IsTested r × (is_value_for r.asked r.value ≡ true)
unfolding fields
fields_tested bytes r s = (tested_only.holds bytes r s.0, s.1)

pub record_read : (bytes : List ℕ) (r : Record) → record_at bytes ≡ Ok r → HasSpelledParts r
    → IsRecord r
unfolding record_form
record_read bytes r e parts =
    let s = record_found bytes r e in
    let t = fields_tested bytes r s.0.0 in (
      record {
        origin = parts.origin;
        number = t.0.0;
        node = parts.node;
        time = (t.0.1.1.0, parts.time);
        user = (t.0.1.1.1, parts.user);
        value = parts.value;
        suits = t.1;
        size = leb-true _ _ s.0.1;
      },
      t.0.1.0,
    )

pub ruleset spelled = (record_lawful, record_found, record_only)
