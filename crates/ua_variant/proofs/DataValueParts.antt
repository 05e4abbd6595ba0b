-- Names for parts of the definitions in specs/DataValue, for the lemmas on these parts.
use Rattle.std.specs.Prelude.{ℕ, nat_lt, Option}
use Rattle.ua_binary.specs.Format.{Format, no_format, ◌▸◌, chosen, standing_for, flagged}
use Rattle.ua_variant.specs.declared.fault.VariantFault.{VariantFault}
use Rattle.ua_variant.specs.declared.fault.VariantFault.TheVariants.{BadEncodingByte}
use Rattle.ua_variant.specs.Variant.{raise, variant}
use Rattle.ua_variant.specs.declared.data.DataValue.{DataValue}
use Rattle.ua_variant.specs.declared.value.Variant.{Variant}
use Rattle.ua_variant.specs.DataValue.{has}
use Rattle.ua_variant.specs.StampFields.{StampFields, stamps}

abbrev pub data_of : Option Variant × StampFields → DataValue
data_of p = record {
  value = p.0;
  status = p.1.0;
  source_time = p.1.1.0;
  source_pico =
      p.1.1.1.0;
  server_time = p.1.1.1.1.0;
  server_pico = p.1.1.1.1.1;
}

abbrev pub parts_of : DataValue → Option Variant × StampFields
parts_of v = (v.value, (v.status, (v.source_time, (v.source_pico, (v.server_time, v.server_pico)))))

-- those that the mask names, the value first; another bit has no meaning
abbrev pub data_fields : ℕ → Format VariantFault DataValue
data_fields mask = chosen (nat_lt 63 mask) (no_format BadEncodingByte)
    (standing_for data_of parts_of (flagged (has mask 1) variant ▸ raise (stamps mask)))
