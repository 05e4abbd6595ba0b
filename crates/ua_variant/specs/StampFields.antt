-- What a data value has but its value, as its reader reads it.
use Rattle.std.specs.Prelude.{ℕ, Option}
use Rattle.ua_binary.specs.Format.{Format, ◌▸◌, flagged}
use Rattle.ua_binary.specs.Binary.{ticks, status}
use Rattle.ua_binary.specs.declared.fault.BinaryFault.{BinaryFault}
use Rattle.ua_binary.specs.declared.values.Ticks.{Ticks}
use Rattle.ua_binary.specs.declared.codes.Status.{Status}
use Rattle.ua_variant.specs.declared.data.Stamps.{Stamps}
use Rattle.ua_variant.specs.DataValue.{has, picoseconds}

-- all but the value
abbrev pub StampFields : Type 0
StampFields = Option Status × (Option Ticks × (Option ℕ × (Option Ticks × Option ℕ)))

abbrev pub stamps_of : Stamps → StampFields
stamps_of s = (s.status, (s.source_time, (s.source_pico, (s.server_time, s.server_pico))))

-- those behind the value that a mask names, in this order
abbrev pub stamps : ℕ → Format BinaryFault StampFields
stamps mask =
    flagged (has mask 2) status ▸ flagged (has mask 4) ticks ▸ flagged (has mask 16) picoseconds
    ▸ flagged (has mask 8) ticks ▸ flagged (has mask 32) picoseconds
