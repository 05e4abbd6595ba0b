-- What is told of a server that begins.
use Rattle.std.proofs.Common.{◌≡◌, ℕ, List, ◌++◌, refl, subst}
use Rattle.std.specs.Prelude.{Option}
use Rattle.uuid.specs.Text.{hyphenated_text, lower}
use Rattle.archive.specs.Store.{Store}
use Rattle.ua_settings.specs.Settings.{SettingsValues}
use Rattle.event_lines.specs.Lines.{start_text, doors_text, browsers_text}
use Rattle.ua_server.specs.declared.log.ErrorLog.{ErrorLog}
use Rattle.ua_server.specs.Telling.{Known, Readings}
use Rattle.ua_server.specs.Listening.{listen_at}
use Rattle.ua_server.specs.Starting.{program_version, browsers_at, begin_text, CountsRecords, LogsStart}

-- its text, from its parts
pub begun : (settings : SettingsValues) (id : List ℕ) (number : ℕ) (clients : List ℕ)
    (peers browsers : Option (List ℕ)) (records : Option ℕ) → id ≡ hyphenated_text lower settings.archive
    → number ≡ settings.replica → clients ≡ settings.listen → peers ≡ listen_at settings
    → browsers ≡ browsers_at settings
    → start_text program_version id number (doors_text clients peers ++ browsers_text browsers)
    records ≡ begin_text settings records
begun settings id number clients peers browsers records is_id is_number is_clients is_peers is_browsers =
    rw is_id (rw is_number (rw is_clients (rw is_peers (rw is_browsers refl))))

-- that it begins was told by a log of which another name is known
pub from-fresh : {E C : Type 0} (contents : Known E) (gave : Readings C)
    (settings : SettingsValues) (records : Option ℕ) (fresh old new : ErrorLog E C) → old ≡ fresh
    → LogsStart contents gave settings records old new
    → LogsStart contents gave settings records fresh new
from-fresh {E} {C} contents gave settings records fresh old new same starts =
    subst (λ (log : ErrorLog E C). LogsStart contents gave settings records log new) same starts

-- records were counted where a log, of which another name is known, tells events
pub counts-by : {A E C : Type 0} (state : A → Store) (v w : A) (records : Option ℕ)
    (log fresh : ErrorLog E C) → log ≡ fresh → CountsRecords state log.events v w records
    → CountsRecords state fresh.events v w records
counts-by {A} {E} {C} state v w records log fresh same counts =
    subst (λ (l : ErrorLog E C). CountsRecords state l.events v w records) same counts
