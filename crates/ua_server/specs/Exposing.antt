-- Strict settings: which files of theirs others than their owner may have a hand in.
use Rattle.std.specs.Prelude.{◌≡◌, ◌⊎◌, ◌&&◌, ◌||◌, ◌==◌, ◌++◌, ℕ, Bool, true, false, not, bit_and, List, [], ◌∷◌, codes, Option, None, Some, IfSome, Result, Ok, Err}
use Rattle.std.specs.List.{AllByRecursion}
use Rattle.std.specs.Option.{option_map_or}
use Rattle.std.specs.Fmt.Cut.{cut_to}
use Rattle.std.specs.Path.{path_with_file_name}
use Rattle.std.specs.Result.{result_map_both}
use Rattle.toml.specs.Parse.{parse_document}
use Rattle.ua_settings.specs.declared.fault.SettingsFault.TheVariants.{BadValue, OutOfMemory}
use Rattle.ua_settings.specs.Reading.{holds_password, password_paths}
use Rattle.ua_settings.specs.Settings.{SettingsValues}
use Rattle.ua_server.specs.Host.{Machine}
use Rattle.ua_server.specs.declared.program.ProgramFault.{ProgramFault}
use Rattle.ua_server.specs.declared.program.ProgramFault.TheVariants.{Settings}

-- others than its owner may write a file of this mode: its group, or all
abbrev pub others_write : ℕ → Bool
others_write mode = not (bit_and mode 18 == 0)

-- all may read a file of this mode
abbrev pub all_read : ℕ → Bool
all_read mode = not (bit_and mode 4 == 0)

-- a file of this mode is exposed: others may write it, or all may read the password that it has; so
-- is one whose mode can't be told
abbrev pub is_exposed : (has_password : Bool) → Option ℕ → Bool
is_exposed has_password mode =
    option_map_or (λ bits. others_write bits || (has_password && all_read bits)) mode true

-- whether the file at a path is exposed, by its mode
abbrev pub Exposes : {H A L R W I : Type 0} → Machine H A L R W I → H → (path : List ℕ)
    → (has_password exposed : Bool) → Type 0
Exposes machine host path has_password exposed =
    (mode : Option ℕ) × machine.modes host path mode × (exposed ≡ is_exposed has_password mode)

-- whether the password file of this path beside the settings' is exposed, by its mode
abbrev pub ExposesBeside : {H A L R W I : Type 0} → Machine H A L R W I → H → (settings : List ℕ)
    → (exposed : Bool) → (path : List ℕ) → Type 0
ExposesBeside machine host settings exposed path =
    Exposes machine host (path_with_file_name settings path) true exposed

-- the first of these password files that is exposed; None where none is
abbrev pub IsFirstBeside : {H A L R W I : Type 0} → Machine H A L R W I → H → (settings : List ℕ)
    → (paths : List (List ℕ)) → Option (List ℕ) → Type 0
IsFirstBeside machine host settings paths None =
    AllByRecursion (ExposesBeside machine host settings false) paths
IsFirstBeside machine host settings paths (Some path) =
    (before after : List (List ℕ)) × (paths ≡ before ++ path ∷ after)
    × AllByRecursion (ExposesBeside machine host settings false) before
    × ExposesBeside machine host settings true path

-- the first file that is exposed of the settings of this path and text: their own, or else a
-- password file of theirs; None where none is
abbrev pub IsFirstExposed : {H A L R W I : Type 0} → Machine H A L R W I → H → (path text : List ℕ)
    → Option (List ℕ) → Type 0
IsFirstExposed machine host path text found =
    (exposed : Bool) × Exposes machine host path (holds_password (parse_document text)) exposed
    × elim exposed [
      | true ↦ found ≡ Some path
      | false ↦ IsFirstBeside machine host path (password_paths (parse_document text)) found
    ]

-- what tells of an exposed file: the key that wants it otherwise, and its path as it was given or
-- as the settings spell it, in at most 180 bytes; or no place, as where memory is wanting
abbrev pub IsExposedFault : (file : List ℕ) → ProgramFault → Type 0
IsExposedFault file fault =
    (place : Option (List ℕ)) × (fault ≡ Settings BadValue place)
    × IfSome place (λ told. told ≡ cut_to 180 (codes "[server] strict, " ++ file))

-- no file of the settings of this path and text is exposed; or the first is told that is, or memory
-- was wanting
abbrev pub JudgesFiles : {H A L R W I : Type 0} → Machine H A L R W I → H → (path text : List ℕ)
    → Result (Unit {0}) ProgramFault → Type 0
JudgesFiles machine host path text (Ok done) = IsFirstExposed machine host path text None
JudgesFiles machine host path text (Err fault) =
    (fault ≡ Settings OutOfMemory None)
    ⊎ ((file : List ℕ) × IsFirstExposed machine host path text (Some file)
    × IsExposedFault file fault)

-- the same, where the settings are strict; else no file is judged
abbrev pub JudgesStrict : {H A L R W I : Type 0} → Machine H A L R W I → H → (path text : List ℕ)
    → (strict : Bool) → Result (Unit {0}) ProgramFault → Type 0
JudgesStrict machine host path text true judged = JudgesFiles machine host path text judged
JudgesStrict machine host path text false judged = judged ≡ Ok tt

-- settings are taken, unless one of their files is judged to be exposed
abbrev pub IsTaken : {H A L R W I : Type 0} → Machine H A L R W I → H → (path text : List ℕ)
    → SettingsValues → Result SettingsValues ProgramFault → Type 0
IsTaken machine host path text settings result =
    (judged : Result (Unit {0}) ProgramFault)
    × JudgesStrict machine host path text settings.is_strict judged
    × (result ≡ result_map_both (λ done. settings) (λ fault. fault) judged)
