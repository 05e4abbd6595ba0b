-- Data values: the mask that is written names what is there, and the format is lawful.
use Rattle.std.proofs.Common.{◌≡◌, ◌∙◌, ℕ, ◌+◌, ◌<◌, ◌≤◌, ◌^◌, min, Bool, true, false, not, ltb, ◌&&◌, ◌++◌, [], Option, Some, None, IfSome, is_some, refl, ap, append-nil, arith}
use Rattle.std.proofs.lemmas.Bool.{ltb-true, le-ltb}
use Rattle.ua_binary.specs.Format.{Format, IsLawful, byte, flagged}
use Rattle.ua_binary.specs.Binary.{unsigned, ticks, status}
use Rattle.ua_binary.proofs.Combined.{refused_lawful, byte_lawful, then_lawful, chosen_lawful, headed_lawful, standing_lawful, flagged_lawful, fitting_lawful, raised_lawful}
use Rattle.ua_binary.proofs.Lawful.{u16_lawful, ticks_lawful, status_lawful}
use Rattle.ua_binary.specs.declared.values.Ticks.{Ticks}
use Rattle.ua_variant.specs.declared.data.DataValue.{DataValue}
use Rattle.ua_variant.specs.declared.value.Variant.{Variant}
use Rattle.ua_variant.specs.declared.fault.VariantFault.TheVariants.{BadEncodingByte}
use Rattle.ua_variant.specs.Raise.{variant_fault}
use Rattle.ua_variant.specs.Variant.{variant}
use Rattle.ua_variant.specs.DataValue.{mask_bit, IsPicoseconds, picoseconds, has, data_mask, IsDataValue, data_value}
use Rattle.ua_variant.specs.StampFields.{stamps}
use Rattle.ua_variant.proofs.DataValueParts.{data_of, parts_of, data_fields}
use Rattle.ua_variant.proofs.Lawful.{variant_lawful}

-- ---- masks, all of them tried

both_hold : (a b : Bool) → (a && b) ≡ true → (a ≡ true) × (b ≡ true)
both_hold true b e = (refl, e)
both_hold false b e = absurd cc

same : Bool → Bool → Bool
same true b = b
same false b = not b

same_is : (a b : Bool) → same a b ≡ true → a ≡ b
unfolding same
same_is true true e = refl
same_is true false e = absurd cc
same_is false true e = absurd cc
same_is false false e = refl

each : (Bool → Bool) → Bool
each p = p true && p false

of_each : (p : Bool → Bool) → each p ≡ true → (b : Bool) → p b ≡ true
unfolding each
of_each p e true = (both_hold (p true) (p false) e).0
of_each p e false = (both_hold (p true) (p false) e).1

abbrev mask_of : Bool → Bool → Bool → Bool → Bool → Bool → ℕ
mask_of a b c d e f = mask_bit a 1 + mask_bit b 2 + mask_bit c 4 + mask_bit d 16 + mask_bit e 8
    + mask_bit f 32

-- the mask is small, and each bit is set where it is there
tried : ℕ → Bool → Bool → Bool → Bool → Bool → Bool → Bool
tried m a b c d e f = ltb m 64 && (same (has m 1) a
    && (same (has m 2) b && (same (has m 4) c
    && (same (has m 16) d && (same (has m 8) e && same (has m 32) f)))))

all_tried : each (λ a. each (λ b. each
    (λ c. each (λ d. each (λ e. each (λ f. tried (mask_of a b c d e f) a b c d e f)))))) ≡ true
unfolding each tried same
all_tried = refl

is_tried : (a b c d e f : Bool) → tried (mask_of a b c d e f) a b c d e f ≡ true
is_tried a b c d e f = of_each _ (of_each _
    (of_each _ (of_each _ (of_each _ (of_each _ all_tried a) b) c) d) e) f

record IsMask (m : ℕ) (a b c d e f : Bool) : Type 0 where
  small : m < 64
  value : has m 1 ≡ a
  status : has m 2 ≡ b
  source_time : has m 4 ≡ c
  source_pico : has m 16 ≡ d
  server_time : has m 8 ≡ e
  server_pico : has m 32 ≡ f

told : (m : ℕ) (a b c d e f : Bool) → tried m a b c d e f ≡ true → IsMask m a b c d e f
unfolding tried
told m a b c d e f t =
    let t1 = both_hold _ _ t in
    let t2 = both_hold _ _ t1.1 in
    let t3 = both_hold _ _ t2.1 in
    let t4 = both_hold _ _ t3.1 in
    let t5 = both_hold _ _ t4.1 in
    let t6 = both_hold _ _ t5.1 in
    record {
      small = ltb-true m 64 t1.0;
      value = same_is _ _ t2.0;
      status = same_is _ _ t3.0;
      source_time = same_is _ _ t4.0;
      source_pico = same_is _ _ t5.0;
      server_time = same_is _ _ t6.0;
      server_pico = same_is _ _ t6.1;
    }

mask_told : (v : DataValue) → IsMask (data_mask v) (is_some v.value) (is_some v.status)
    (is_some v.source_time) (is_some v.source_pico) (is_some v.server_time) (is_some v.server_pico)
mask_told v = told (data_mask v) _ _ _ _ _ _ (is_tried (is_some v.value) (is_some v.status)
    (is_some v.source_time) (is_some v.source_pico) (is_some v.server_time) (is_some v.server_pico))

-- ---- what is written

fields_canon : (m : ℕ) (v : DataValue) → m < 64
    → (data_fields m).canon v ≡ (flagged (is_some v.value) variant).canon v.value
    ++ ((flagged (is_some v.status) status).canon v.status
    ++ ((flagged (is_some v.source_time) ticks).canon v.source_time
    ++ ((flagged (is_some v.source_pico) picoseconds).canon v.source_pico
    ++ ((flagged (is_some v.server_time) ticks).canon v.server_time
    ++ (flagged (is_some v.server_pico) picoseconds).canon v.server_pico))))
fields_canon m v lt = let e : ltb 63 m ≡ false = le-ltb 63 m (omega (arith, lt)) in rw e refl

pub canon_data : (v : DataValue) → data_value.canon v
    ≡ byte.canon (data_mask v) ++ ((flagged (is_some v.value) variant).canon v.value
    ++ ((flagged (is_some v.status) status).canon v.status
    ++ ((flagged (is_some v.source_time) ticks).canon v.source_time
    ++ ((flagged (is_some v.source_pico) picoseconds).canon v.source_pico
    ++ ((flagged (is_some v.server_time) ticks).canon v.server_time
    ++ (flagged (is_some v.server_pico) picoseconds).canon v.server_pico)))))
unfolding data_value
canon_data v = rw (fields_canon (data_mask v) v (mask_told v).small) refl

-- a value with its moments alone
pub canon_timed : (value : Variant) (source server : Option Ticks)
    → data_value.canon
    (record {
      value = Some value;
      status = None;
      source_time = source;
      source_pico =
          None;
      server_time = server;
      server_pico = None;
    })
    ≡ byte.canon (1 + mask_bit (is_some source) 4 + mask_bit (is_some server) 8)
    ++ (variant.canon value ++ ((flagged (is_some source) ticks).canon source
    ++ (flagged (is_some server) ticks).canon server))
canon_timed value source server =
    let S = (flagged (is_some source) ticks).canon source in
    let T = (flagged (is_some server) ticks).canon server in
    let v : DataValue = record {
      value = Some value;
      status = None;
      source_time =
          source;
      source_pico = None;
      server_time = server;
      server_pico = None;
    } in
    let mask : data_mask v ≡ 1 + mask_bit (is_some source) 4 + mask_bit (is_some server) 8 =
    omega arith in
    canon_data v
    ∙ (ap (λ m. byte.canon m ++ (variant.canon value ++ (S ++ (T ++ [])))) mask
    ∙ ap (λ l. byte.canon (1 + mask_bit (is_some source) 4 + mask_bit (is_some server) 8)
    ++ (variant.canon value ++ (S ++ l))) (append-nil T))

-- ---- the law

least : (n : ℕ) → n ≤ 9999 → n ≡ min n 9999
least n le = omega arith

pub picoseconds_lawful : IsLawful picoseconds
unfolding picoseconds unsigned
picoseconds_lawful = fitting_lawful IsPicoseconds (λ n le. (omega (arith, le), least n le))
    (standing_lawful _ _ u16_lawful)

stamps_lawful : (m : ℕ) → IsLawful (stamps m)
stamps_lawful m = then_lawful (flagged_lawful _ status_lawful)
    (then_lawful (flagged_lawful _ ticks_lawful) (then_lawful (flagged_lawful _ picoseconds_lawful)
    (then_lawful (flagged_lawful _ ticks_lawful) (flagged_lawful _ picoseconds_lawful))))

data_fields_lawful : (m : ℕ) → IsLawful (data_fields m)
data_fields_lawful m = chosen_lawful (ltb 63 m) (refused_lawful BadEncodingByte)
    (standing_lawful data_of parts_of (then_lawful (flagged_lawful _ variant_lawful)
    (raised_lawful variant_fault (stamps_lawful m))))

optional_fits : {E A : Type 0} (f : Format E A) (v : Option A) → IfSome v f.Fits
    → (flagged (is_some v) f).Fits v
optional_fits f None h = refl
optional_fits f (Some u) h = h

fields_fit : (m : ℕ) (v : DataValue)
    → IsMask m (is_some v.value) (is_some v.status) (is_some v.source_time) (is_some v.source_pico)
    (is_some v.server_time) (is_some v.server_pico) → IsDataValue v → (data_fields m).Fits v
unfolding variant status ticks picoseconds
fields_fit m v k h =
    let e : ltb 63 m ≡ false = le-ltb 63 m (omega (arith, k.small)) in
    rw (e, k.value, k.status, k.source_time, k.source_pico, k.server_time, k.server_pico) (
      (
        optional_fits variant v.value h.0,
        (
          optional_fits status v.status h.1,
          (
            optional_fits ticks v.source_time h.2,
            (
              optional_fits picoseconds v.source_pico h.3,
              (
                optional_fits ticks v.server_time h.4,
                optional_fits picoseconds v.server_pico h.5,
              ),
            ),
          ),
        ),
      ),
      refl,
    )

data_fits : (v : DataValue) → IsDataValue v
    → (data_mask v < 2 ^ 8) × (data_fields (data_mask v)).Fits v
data_fits v h = let k = mask_told v in (omega (arith, k.small), fields_fit (data_mask v) v k h)

pub data_value_lawful : IsLawful data_value
unfolding data_value
data_value_lawful = fitting_lawful IsDataValue data_fits
    (headed_lawful data_mask data_fields
    (raised_lawful variant_fault byte_lawful) data_fields_lawful)

pub ruleset lawful = (variant_lawful, picoseconds_lawful, data_value_lawful)
