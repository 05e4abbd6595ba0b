-- What the command `check` tells.
use Rattle.std.specs.Prelude.{◌≡◌, ℕ, Bool, true, false, List, Option, Result, Ok, Err}
use Rattle.std.specs.Result.{result_map_both}
use Rattle.counted_io.specs.declared.fault.ServeFault.TheVariants as serve
use Rattle.archive.specs.Store.{Store}
use Rattle.ua_settings.specs.Settings.{SettingsValues}
use Rattle.settings_check.specs.Checks.{check_lines, PrintsLines}
use Rattle.settings_check.specs.Stored.{PrintsStore}
use Rattle.settings_check.specs.declared.fault.CheckFault.{CheckFault}
use Rattle.settings_check.specs.declared.fault.CheckFault.TheVariants as check
use Rattle.ua_server.specs.declared.program.ProgramFault.{ProgramFault}
use Rattle.ua_server.specs.declared.program.ProgramFault.TheVariants as program

-- what the fault of a check is called by the program
abbrev pub check_fault : CheckFault → ProgramFault
check_fault fault =
    elim fault [
      | check.Store fault ↦ program.Store fault
      | check.Write ↦ program.Connection serve.Write
      | check.OutOfMemory ↦ program.Connection serve.OutOfMemory
    ]

-- what an archive holds of the settings' variables was told, or a first part of it; the archive
-- stays as it is
abbrev pub TellsArchive : SettingsValues → Store → Store → (before after : Option (List ℕ))
    → Result (Unit {0}) ProgramFault → Type 0
TellsArchive settings old new before after result =
    (told : Result (Unit {0}) CheckFault) × PrintsStore settings.space old new before after told
    × (result ≡ result_map_both (λ done. done) check_fault told)

-- after the settings: where this is asked for, what the archive holds was told; else nothing
abbrev pub TellsBehind : {A : Type 0} → (A → Store) → SettingsValues → (store : Bool)
    → (first last : A) → (before after : Option (List ℕ)) → Result (Unit {0}) ProgramFault → Type 0
TellsBehind held settings store first last before after result =
    elim store [
      | true ↦ TellsArchive settings (held first) (held last) before after result
      | false ↦ (result ≡ Ok tt) × (last ≡ first) × (after ≡ before)
    ]

-- what settings say was told, and then what is after them; or a first part of the settings
abbrev pub TellsCheck : {A : Type 0} → (A → Store) → SettingsValues → (store : Bool)
    → (first last : A) → (before after : Option (List ℕ)) → Result (Unit {0}) ProgramFault → Type 0
TellsCheck held settings store first last before after result =
    (told : Result (Unit {0}) CheckFault) × (between : Option (List ℕ))
    × PrintsLines (check_lines settings) before between told × elim told [
      | Ok done ↦ TellsBehind held settings store first last between after result
      | Err fault ↦ (result ≡ Err (check_fault fault)) × (last ≡ first) × (after ≡ between)
    ]
