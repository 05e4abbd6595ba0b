-- What a fault is called outside.
use Rattle.std.specs.Prelude.{ℕ}
use Rattle.ua_settings.specs.declared.fault.SettingsFault.{SettingsFault}
use Rattle.ua_settings.specs.declared.fault.SettingsFault.TheVariants.{NotToml, MissingKey, BadValue, UnknownKey, Space, OutOfMemory}

-- the number that the program prints for refused settings
abbrev pub settings_fault_number : SettingsFault → ℕ
settings_fault_number fault =
    elim fault [
      | NotToml ↦ 1
      | MissingKey ↦ 2
      | BadValue ↦ 3
      | UnknownKey ↦ 4
      | Space fault ↦ 5
      | OutOfMemory ↦ 6
    ]
