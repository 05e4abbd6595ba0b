-- What is printed of settings.
use Rattle.std.specs.Prelude.{List, ℕ, [], ◌++◌, Option, Result, Ok, Err}
use Rattle.std.specs.Io.KnownBytes.{Appends}
use Rattle.counted_io.specs.Bytes.{AppendsPart}
use Rattle.ua_settings.specs.Settings.{SettingsValues}
use Rattle.settings_check.specs.declared.fault.CheckFault.{CheckFault}
use Rattle.settings_check.specs.declared.fault.CheckFault.TheVariants.{Store, Write, OutOfMemory}
use Rattle.settings_check.specs.Texts.{text_of}
use Rattle.settings_check.specs.Facts.{settings_facts}
use Rattle.settings_check.specs.Warnings.{warnings}

-- the lines that tell people what settings say, and where they are unwise
abbrev pub check_lines : SettingsValues → List (List ℕ)
check_lines s = settings_facts s ++ warnings s

-- these lines were printed, or a first part of them where a write failed, or nothing where memory
-- was wanting; there is no other fault
abbrev pub PrintsLines : List (List ℕ) → (before after : Option (List ℕ))
    → Result (Unit {0}) CheckFault → Type 0
PrintsLines lines before after result =
    elim result [
      | Ok done ↦ Appends before after (text_of lines)
      | Err Write ↦ AppendsPart before after (text_of lines)
      | Err OutOfMemory ↦ Appends before after []
      | Err (Store why) ↦ ⊥
    ]
