-- What the command `import` does.
use Rattle.std.specs.Prelude.{◌≡◌, ◌==◌, ◌||◌, is_some, ℕ, ℤ, if◌then◌else◌, List, [], ◌∷◌, Option, None, Some, Result, Ok, Err}
use Rattle.counted_io.specs.declared.fault.ServeFault.TheVariants as serve
use Rattle.archive.specs.Store.{Store}
use Rattle.ua_settings.specs.Settings.{SettingsValues}
use Rattle.history_import.specs.Rows.{may_write}
use Rattle.history_import.specs.Imports.{Imports}
use Rattle.history_import.specs.declared.asked.Import.{Import}
use Rattle.history_import.specs.declared.asked.Perform.{Perform}
use Rattle.history_import.specs.declared.asked.Perform.TheVariants as perform
use Rattle.history_import.specs.declared.counts.Counts.{Counts}
use Rattle.history_import.specs.declared.fault.ImportFault.{ImportFault}
use Rattle.history_import.specs.declared.fault.ImportFault.TheVariants.{Header, Read, Write, OutOfMemory}
use Rattle.remote_import.specs.declared.fault.RemoteFault.{RemoteFault}
use Rattle.remote_import.specs.declared.fault.RemoteFault.TheVariants as remote
use Rattle.remote_import.specs.declared.fault.RemoteFault.TheVariants.{Rows}
use Rattle.command_line.specs.declared.line.ImportWords.{ImportWords}
use Rattle.command_line.specs.declared.line.PerformWord.{PerformWord}
use Rattle.command_line.specs.declared.line.PerformWord.TheVariants as word
use Rattle.ua_server.specs.Telling.{Readings}
use Rattle.ua_server.specs.declared.program.ProgramFault.{ProgramFault}
use Rattle.ua_server.specs.declared.program.ProgramFault.TheVariants.{BadUser, NoStore, NoHeader, UnreadRows, RowsRefused, Connection, Server}

-- what rows are to do, by its word
abbrev pub perform_of : PerformWord → Perform
perform_of asked =
    elim asked [
      | word.Insert ↦ perform.Insert
      | word.Replace ↦ perform.Replace
      | word.Update ↦ perform.Update
    ]

-- the import that the words of a line ask for, at this reading of the clock
abbrev pub import_of : ImportWords → ℤ → Import
import_of words reading = record {
  user = words.user;
  perform = perform_of words.perform;
  reading = record { 0 = reading };
}

-- what the fault of an import is called by the program
abbrev pub import_fault : ImportFault → ProgramFault
import_fault fault =
    elim fault [
      | Header ↦ NoHeader
      | Read ↦ UnreadRows
      | Write ↦ Connection serve.Write
      | OutOfMemory ↦ Connection serve.OutOfMemory
    ]

-- how an import came to its end, as the program tells it: rows that were refused are a fault
abbrev pub counts_told : Counts → Result (Unit {0}) ProgramFault
counts_told counts = if counts.refused == 0 then Ok tt else Err (RowsRefused counts.refused)

-- how an import ended, as the program tells it
abbrev pub import_told : Result Counts ImportFault → Result (Unit {0}) ProgramFault
import_told (Ok counts) = counts_told counts
import_told (Err why) = Err (import_fault why)

-- what the fault of an import into a running server is called by the program
abbrev pub remote_fault : RemoteFault → ProgramFault
remote_fault fault = elim fault [ Rows why ↦ import_fault why | remote.Server why ↦ Server why ]

-- how an import into a running server ends
abbrev pub RemoteEnd : Type 0
RemoteEnd = Result Counts RemoteFault

-- the same, as the program tells it
abbrev pub remote_told : RemoteEnd → Result (Unit {0}) ProgramFault
remote_told (Ok counts) = counts_told counts
remote_told (Err why) = Err (remote_fault why)

-- what rows are written over: the archive, what is unread of the input and written to the output,
-- as far as that is known, and the clock
abbrev pub Importing : (A C : Type 0) → Type 0
Importing A C =
    record { archive : A; unread : Option (List ℕ); written : Option (List ℕ); clock : C }

-- the rows of the input were written at one reading of the clock, and how that ended is told
abbrev pub WritesRows : {A C : Type 0} → (A → Store) → Readings C → SettingsValues → ImportWords
    → (old new : Importing A C) → Result (Unit {0}) ProgramFault → Type 0
WritesRows held gave settings words old new result =
    (reading : ℤ) × gave old.clock (reading ∷ []) new.clock × (ended : Result Counts ImportFault)
    × Imports settings (import_of words reading) (held old.archive) (held new.archive) old.unread
    old.written new.written ended
    × (result ≡ import_told ended)

-- why an import by these words has nowhere to write to: neither do they name a running server, nor
-- the settings a store that would keep what is written
abbrev pub place_refusal : SettingsValues → ImportWords → Option ProgramFault
place_refusal settings words =
    if is_some words.server || is_some settings.store then None else Some NoStore

-- why an import is refused as a whole: its user isn't one who may write, or it has nowhere to
-- write to
abbrev pub import_refusal : SettingsValues → ImportWords → Option ProgramFault
import_refusal settings words =
    if may_write settings.users words.user.now then place_refusal settings words else Some BadUser
