-- What is told on standard error of a server that begins.
use Rattle.std.specs.Prelude.{◌≡◌, ℕ, zero, suc, ◌+◌, ◌-◌, ◌^◌, min, Bool, true, false, List, ◌++◌, codes, Option, None, Some, option_map, Result, Ok, Err}
use Rattle.uuid.specs.Text.{hyphenated_text, lower}
use Rattle.stamp.specs.Numbers.{number_of}
use Rattle.records.specs.Contents.{vec}
use Rattle.archive.specs.Store.{Store, Asks}
use Rattle.archive.specs.declared.fault.StoreFault.{StoreFault}
use Rattle.ua_settings.specs.Settings.{SettingsValues}
use Rattle.event_lines.specs.Lines.{start_text, doors_text, browsers_text}
use Rattle.ua_server.specs.declared.log.ErrorLog.{ErrorLog}
use Rattle.ua_server.specs.Telling.{Known, Readings}
use Rattle.ua_server.specs.Logging.{LogsTimed, LogsWhere}
use Rattle.ua_server.specs.Listening.{listen_at}

-- the program's version
abbrev pub program_version : List ℕ
program_version = codes "0.1.0"

-- the address where browsers come to, as the settings spell it
abbrev pub browsers_at : SettingsValues → Option (List ℕ)
browsers_at settings = option_map (λ web. web.listen) settings.web

-- where a server of these settings listens, as they spell it
abbrev pub places_text : SettingsValues → List ℕ
places_text settings =
    doors_text settings.listen (listen_at settings) ++ browsers_text (browsers_at settings)

-- how many records these numbers are of, of the first replicas together; the count stops at
-- 2^64 - 1
abbrev pub records_of : (replicas : ℕ) → (numbers : ℕ → ℕ) → ℕ
records_of zero numbers = 0
records_of (suc n) numbers = min (records_of n numbers + numbers (suc n)) (2 ^ 64 - 1)

-- how many records are held, where an archive told its numbers
abbrev pub records_told : Result (List ℕ) StoreFault → Option ℕ
records_told told =
    elim told [ Ok numbers ↦ Some (records_of 64 (number_of numbers)) | Err met ↦ None ]

-- an archive told how many records it holds, or met a fault of its store; it isn't asked where
-- events aren't told
abbrev pub CountsRecords : {A : Type 0} → (A → Store) → (asked : Bool) → (old new : A)
    → (records : Option ℕ) → Type 0
CountsRecords state true old new records =
    (told : Result (List ℕ) StoreFault)
    × Asks (state old) (state new) told
    (λ numbers. (replica : ℕ) → number_of numbers replica ≡ vec (state old).content replica)
    × (records ≡ records_told told)
CountsRecords state false old new records = (new ≡ old) × (records ≡ None)

-- what is said of a server of these settings that begins, where so many records are held
abbrev pub begin_text : SettingsValues → (records : Option ℕ) → List ℕ
begin_text settings records =
    start_text program_version (hyphenated_text lower settings.archive) settings.replica
    (places_text settings) records

-- where events are told, the line was written that a server of these settings begins, where so many
-- records are held
abbrev pub LogsStart : {E C : Type 0} → Known E → Readings C → SettingsValues
    → (records : Option ℕ) → (old new : ErrorLog E C) → Type 0
LogsStart contents gave settings records old new =
    LogsWhere old new (LogsTimed contents gave (begin_text settings records) old new)
