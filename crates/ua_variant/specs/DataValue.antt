-- Data values: a value with its status and its moments (Part 6, 5.2.2.17).
use Rattle.std.specs.Prelude.{ℕ, ◌+◌, ◌<◌, ◌≤◌, ◌^◌, Bool, not, nat_lt, min, ◌==◌, IfSome, is_some, bit_and, if◌then◌else◌, Option}
use Rattle.std.specs.Int.{w16, w64}
use Rattle.std.specs.Int.RustNames.{FitsSigned}
use Rattle.ua_binary.specs.Format.{Format, no_format, byte, ◌▸◌, chosen, headed, standing_for, flagged, fitting}
use Rattle.ua_binary.specs.Binary.{unsigned, ticks, status}
use Rattle.ua_binary.specs.declared.fault.BinaryFault.{BinaryFault}
use Rattle.ua_variant.specs.declared.fault.VariantFault.{VariantFault}
use Rattle.ua_variant.specs.declared.fault.VariantFault.TheVariants.{BadEncodingByte}
use Rattle.ua_variant.specs.Variant.{raise, variant, IsVariant, IsShortVariant}
use Rattle.ua_variant.specs.declared.data.DataValue.{DataValue}
use Rattle.ua_binary.specs.declared.codes.Status.{Status}
use Rattle.ua_binary.specs.declared.values.Ticks.{Ticks}
use Rattle.ua_variant.specs.declared.value.Variant.{Variant}

-- picoseconds in tens, below a tick
abbrev pub IsPicoseconds : ℕ → Type 0
IsPicoseconds n = n ≤ 9999

-- steps of 10 ps, less than 100 ns in all; of more, the most is meant
unfoldable pub picoseconds : Format BinaryFault ℕ
picoseconds = fitting IsPicoseconds (standing_for (λ n. min n 9999) (λ n. n) (unsigned w16))

-- a bit of a mask
abbrev pub has : ℕ → ℕ → Bool
has mask bit = not (bit_and mask bit == 0)

-- what a bit adds to a mask
abbrev pub mask_bit : Bool → ℕ → ℕ
mask_bit there bit = if there then bit else 0

-- the mask that is written
abbrev pub data_mask : DataValue → ℕ
data_mask v =
    mask_bit (is_some v.value) 1 + mask_bit (is_some v.status) 2
    + mask_bit (is_some v.source_time) 4 + mask_bit (is_some v.source_pico) 16
    + mask_bit (is_some v.server_time) 8 + mask_bit (is_some v.server_pico) 32

-- what has a spelling
abbrev pub IsDataValue : DataValue → Type 0
IsDataValue v =
    IfSome v.value IsVariant × IfSome v.status (λ c. c.0 < 2 ^ 32)
    × IfSome v.source_time (λ t. FitsSigned w64 t.0) × IfSome v.source_pico IsPicoseconds
    × IfSome v.server_time (λ t. FitsSigned w64 t.0) × IfSome v.server_pico IsPicoseconds

-- the fields of a data value in the order in which they are spelled, each where the mask names it
abbrev pub DataFields : Type 0
DataFields =
    Option Variant × (Option Status × (Option Ticks × (Option ℕ × (Option Ticks × Option ℕ))))

-- a data value by its fields
abbrev pub data_value_of : DataFields → DataValue
data_value_of (value, (status, (source_time, (source_pico, (server_time, server_pico))))) =
    record {
      value = value;
      status = status;
      source_time = source_time;
      source_pico = source_pico;
      server_time = server_time;
      server_pico = server_pico;
    }

-- its fields
abbrev pub data_fields : DataValue → DataFields
data_fields v =
    (v.value, (v.status, (v.source_time, (v.source_pico, (v.server_time, v.server_pico)))))

-- what a mask names, in this order
abbrev pub data_parts : ℕ → Format VariantFault DataFields
data_parts mask =
    flagged (has mask 1) variant ▸ raise (
    flagged (has mask 2) status ▸ flagged (has mask 4) ticks ▸ flagged (has mask 16) picoseconds
    ▸ flagged (has mask 8) ticks ▸ flagged (has mask 32) picoseconds)

-- a mask, and what it names; another bit has no meaning
unfoldable pub data_value : Format VariantFault DataValue
data_value =
    fitting IsDataValue (headed data_mask (raise byte) (λ mask.
    chosen (nat_lt 63 mask) (no_format BadEncodingByte)
    (standing_for data_value_of data_fields (data_parts mask))))

-- what a writer asks
abbrev pub IsShortData : DataValue → Type 0
IsShortData v =
    IfSome v.value IsShortVariant × IfSome v.source_pico IsPicoseconds
    × IfSome v.server_pico IsPicoseconds
