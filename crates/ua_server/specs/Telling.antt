-- What a run of the program tells on standard error, its exit status, and the line of a call of a
-- peer.
use Rattle.std.specs.Prelude.{◌≡◌, ◌≢◌, ◌<◌, ◌≤◌, slice_get, slice_set, replicate, ℕ, ◌-◌, ◌==◌, nat_lt, pos, Bool, true, false, ℤ, List, [], ◌∷◌, ◌++◌, Option, None, Some, Result, Ok, Err, ◌⊎◌, codes, if◌then◌else◌}
use Rattle.std.specs.Fmt.{decimal}
use Rattle.std.specs.Global.{Global}
use Rattle.std.specs.Option.{option_map_or}
use Rattle.std.specs.Result.{result_err}
use Rattle.std.specs.Io.KnownBytes.{Appends}
use Rattle.counted_io.specs.Fault.{serve_fault_number as connection_number}
use Rattle.ua_server.specs.declared.program.ProgramFault.{ProgramFault}
use Rattle.ua_server.specs.declared.program.ProgramFault.TheVariants.{Line, File, Settings, Store, BadHex, Address, DoorAddress, DoorNetwork, PeerAddress, WebAddress, StoreBroken, Connection, Call, Exchange, Peer, NumberTwice, BadOption, NoText, BadUser, NoStore, NoRows, NoHeader, UnreadRows, RowsRefused, Server}
use Rattle.ua_peers.specs.declared.calling.Synced.{Synced}
use Rattle.command_line.specs.Line.{line_text_of}
use Rattle.ua_client.specs.declared.fault.ClientFault.{ClientFault}
use Rattle.ua_client.specs.declared.fault.ClientFault.TheVariants as client
use Rattle.counted_io.specs.Bytes.{AppendsPart, counted}
use Rattle.counted_io.specs.Tally.{Tally}
use Rattle.exchange.specs.Fault.{exchange_number}
use Rattle.archive.specs.Fault.{store_number}
use Rattle.ua_settings.specs.Fault.{settings_fault_number as settings_number}
use Rattle.ua_server.specs.declared.hexed.HexFault.{HexFault}
use Rattle.ua_server.specs.declared.dumps.DumpFault.{DumpFault}
use Rattle.ua_peers.specs.declared.calling.SyncFault.{SyncFault}
use Rattle.counted_io.specs.declared.fault.ServeFault.{ServeFault}
use Rattle.counted_io.specs.declared.fault.ServeFault.TheVariants.{Write, OutOfMemory}
use Rattle.ua_server.specs.declared.log.ErrorLog.{ErrorLog}
use Rattle.ua_server.specs.declared.recent.Recent.{Recent}
use Rattle.ua_server.specs.declared.hexed.HexFault.TheVariants as hexed
use Rattle.ua_server.specs.declared.dumps.DumpFault.TheVariants as dump
use Rattle.ua_server.specs.declared.histories.OptionFault.{OptionFault}
use Rattle.ua_server.specs.declared.histories.OptionFault.TheVariants as asked
use Rattle.history_report.specs.declared.fault.ReportFault.{ReportFault}
use Rattle.history_report.specs.declared.fault.ReportFault.TheVariants as report
use Rattle.ua_peers.specs.declared.calling.SyncFault.TheVariants as sync
use Rattle.ua_server.specs.declared.program.ProgramFault.TheVariants as program

-- the exit status that tells a fault: 2 where what was given is wrong, 3 of the store, 1 else
abbrev pub fault_status : ProgramFault → ℕ
fault_status (Line fault) = 2
fault_status File = 2
fault_status (Settings fault place) = 2
fault_status (Store fault) = 3
fault_status StoreBroken = 3
fault_status BadHex = 2
fault_status (BadOption fault) = 2
fault_status BadUser = 2
fault_status NoStore = 2
fault_status NoRows = 2
fault_status NoHeader = 2
fault_status fault = 1

-- the exit status of a run
abbrev pub exit_status : Result (Unit {0}) ProgramFault → ℕ
exit_status result = elim result [ Ok done ↦ 0 | Err fault ↦ fault_status fault ]

-- what is said of an option of `history` whose text says nothing of its kind
abbrev pub option_text : OptionFault → List ℕ
option_text asked.Node = codes "--node: want a node id, as ns=1;s=Temperature"
option_text asked.From = codes "--from: want a time, as 2026-03-01T12:00:00Z"
option_text asked.To = codes "--to: want a time, as 2026-03-01T12:00:00Z"

-- the number of a fault of a running server: that of a connection's, or the code by which the
-- server refused
abbrev pub server_number : ClientFault → Option ℕ
server_number (client.Connection fault) = Some (connection_number fault)
server_number (client.Refused status) = Some status.0
server_number fault = None

-- what is said of a running server that didn't do what it was asked
abbrev pub server_words : ClientFault → List ℕ
server_words (client.Connection fault) = codes "connection to the server ended"
server_words (client.Refused status) = codes "import ended: the server refused it"
server_words client.Format = codes "import ended: what came from the server is no answer"
server_words client.Closed = codes "import ended: the server closed the connection"
server_words client.TooLarge = codes "import ended: a request is too long"
server_words client.OutOfMemory = codes "import ended: out of memory"

-- what is said of a fault
abbrev pub words_of : ProgramFault → List ℕ
words_of (Line fault) = line_text_of fault
words_of File = codes "settings file can't be read"
words_of (Settings fault place) = codes "settings refused"
words_of (Store fault) = codes "store refused"
words_of BadHex = codes "bad hex"
words_of Address = codes "address refused"
words_of DoorAddress = codes "door's address refused"
words_of (DoorNetwork number) = codes "door's network refused"
words_of (PeerAddress number) = codes "peer's address refused"
words_of WebAddress = codes "page's address refused"
words_of StoreBroken = codes "store broken"
words_of (Connection fault) = codes "connection ended"
words_of (Call fault) = codes "connection ended"
words_of (Exchange fault) = codes "exchange ended"
words_of (Peer number) = codes "exchange ended"
words_of (NumberTwice number) = codes "a number was given to two records"
words_of (BadOption fault) = option_text fault
words_of NoText = codes "history ended: a value of a type that has no text"
words_of BadUser = codes "--user: want a user of the settings who may write"
words_of NoStore = codes "import refused: the settings name no store"
words_of NoRows = codes "rows refused: the file can't be opened"
words_of NoHeader = codes "rows refused: want the header node,time,value,status"
words_of UnreadRows = codes "import ended: the rows can't be read"
words_of (RowsRefused number) = codes "rows refused"
words_of (Server fault) = server_words fault

-- its number, if it has one; a peer may give any, a peer's address has that of its table, a network
-- that of its place in the list, and rows are counted
abbrev pub number_told : ProgramFault → Option ℕ
number_told (Settings fault place) = Some (settings_number fault)
number_told (Store fault) = Some (store_number fault)
number_told (DoorNetwork number) = Some number
number_told (PeerAddress number) = Some number
number_told (RowsRefused number) = Some number
number_told (Connection fault) = Some (connection_number fault)
number_told (Call fault) = Some (connection_number fault)
number_told (Exchange fault) = Some (exchange_number fault)
number_told (Peer number) = Some number
number_told (NumberTwice number) = Some number
number_told (Server fault) = server_number fault
number_told fault = None

-- words, and a number in brackets after them
abbrev pub numbered : List ℕ → ℕ → List ℕ
numbered words n = words ++ codes " (" ++ decimal n ++ codes ")"

-- the text that tells a fault: its words, and its number, if it has one
abbrev pub fault_text : ProgramFault → List ℕ
fault_text fault =
    elim (number_told fault) [ None ↦ words_of fault | Some n ↦ numbered (words_of fault) n ]

-- the line that tells how many records a call of a peer moved
abbrev pub synced_line : Synced → List ℕ
synced_line synced =
    codes "learned "
    ++ (decimal synced.learned ++ (codes " sent " ++ (decimal synced.sent ++ 10 ∷ [])))

-- a line of the program's
abbrev pub told_line : List ℕ → List ℕ
told_line text = codes "uahist: " ++ (text ++ 10 ∷ [])

-- what standard error has of a fault: a line, and a second one where settings are refused
abbrev pub error_lines : ProgramFault → List ℕ
error_lines fault =
    told_line (fault_text fault)
    ++ (elim fault [ Settings cause (Some place) ↦ told_line place | _ ↦ [] ])

-- the whole line was written, or a first part of it, and one call more failed
abbrev pub LogsLine : {W : Type 0} → (W → Option (List ℕ)) → Tally W → Tally W → List ℕ → Type 0
LogsLine contents old new line =
    (Appends (contents old.inner) (contents new.inner) line × (new.faults ≡ old.faults))
    ⊎
    (AppendsPart (contents old.inner) (contents new.inner) line × (new.faults ≡ counted old.faults))

-- what stands in what a writer writes to; None where that isn't known
abbrev pub Known : Type 0 → Type 0
Known E = E → Option (List ℕ)

-- how a clock goes from one state to another and gives readings
abbrev pub Readings : Type 0 → Type 1
Readings C = C → List ℤ → C → Type 0

-- none of what anybody may bring about was told yet
abbrev pub none_recent : Recent
none_recent = record { since = pos 0; lines = 0; left_out = 0 }

-- standard error, of which nothing was told yet of connections, with a clock for the lines of
-- events, where these are told
abbrev pub fresh_log : {E C : Type 0} → Global → (events : Bool) → C → Tally E → ErrorLog E C
fresh_log alloc events clock errors = record {
  errors = errors;
  told_at = None;
  missed = 0;
  calls = replicate 64 None;
  clashes = replicate 64 None;
  longest = 0;
  alloc = alloc;
  events = events;
  clock = clock;
  recent = none_recent;
  is_break_told = false;
  is_cause_told = false;
}

-- it was told by its lines that a connection ended by this fault
abbrev pub LogsFault : {E C : Type 0} → Known E → ErrorLog E C → ServeFault → ErrorLog E C → Type 0
LogsFault contents old fault new =
    (new ≡ record old { errors = new.errors })
    × LogsLine contents old.errors new.errors (error_lines (Connection fault))

-- it was told less than a second ago that a connection failed before it could be used
abbrev pub is_quiet : {E C : Type 0} → ErrorLog E C → (now : ℕ) → Bool
is_quiet log now = option_map_or (λ told_at. nat_lt (now - told_at) 1000) log.told_at false

-- what tells that a connection failed, and so many before it of which nothing was told
abbrev pub failed_text : ℕ → List ℕ
failed_text missed =
    codes "connection ended (1), and " ++ (decimal missed ++ codes " before it")

-- the line that tells that a connection failed before it could be used
abbrev pub failed_line : ℕ → List ℕ
failed_line missed =
    told_line (if missed == 0 then codes "connection ended (1)" else failed_text missed)

-- a connection failed before it could be used: it was counted, where that was told less than a
-- second ago of another, and else told, with how many were counted
abbrev pub LogsFailed : {E C : Type 0} → Known E → ErrorLog E C → (now : ℕ) → ErrorLog E C → Type 0
LogsFailed contents old now new =
    ((is_quiet old now ≡ true) × (new ≡ record old { missed = counted old.missed }))
    ⊎ ((is_quiet old now ≡ false)
    × (new ≡ record old { errors = new.errors; told_at = Some now; missed = 0 })
    × LogsLine contents old.errors new.errors (failed_line old.missed))

-- what the program calls the fault of a dialog with a peer that it called
abbrev pub sync_fault : SyncFault → ProgramFault
sync_fault v =
    elim v [
      | sync.Connection fault ↦ program.Call fault
      | sync.Exchange fault ↦ program.Exchange fault
      | sync.Peer number ↦ program.Peer number
    ]

-- what tells how a call of a peer ended: its fault, or that it came to its end, where the last one
-- hadn't
abbrev pub outcome_text : Option SyncFault → List ℕ
outcome_text fault =
    elim fault [ None ↦ codes "works again" | Some fault ↦ fault_text (sync_fault fault) ]

-- the rest of a line after a peer's address
abbrev pub behind_peer : List ℕ → List ℕ
behind_peer text = codes ": " ++ (text ++ 10 ∷ [])

-- a peer's address, and the rest of the line
abbrev pub behind_name : List ℕ → List ℕ → List ℕ
behind_name address text = address ++ behind_peer text

-- the line that tells a text of the peer at an address
abbrev pub call_lines : List ℕ → List ℕ → List ℕ
call_lines address text = codes "uahist: peer " ++ behind_name address text

-- of the first 64 peers this is kept of their last call
abbrev pub KeepsLast : {A : Type 0} → (old new : List A) → (callee : ℕ) → A → Type 0
KeepsLast old new callee last =
    (callee < 64 → new ≡ slice_set old callee last) × (64 ≤ callee → new ≡ old)

-- how a call of a peer ended: as the last one, and nothing is told; or otherwise, which is told and
-- kept; of the peers after the 64th it is told each time
abbrev pub LogsCall : {E C : Type 0} → Known E → ErrorLog E C → (callee : ℕ) → (address : List ℕ)
    → Result (Unit {0}) SyncFault → ErrorLog E C → Type 0
LogsCall contents old callee address outcome new = let fault = result_err outcome in
    ((slice_get old.calls callee ≡ Some fault) × (new ≡ old))
    ⊎ ((slice_get old.calls callee ≢ Some fault)
    × (new ≡ record old { errors = new.errors; calls = new.calls })
    × KeepsLast old.calls new.calls callee fault
    × LogsLine contents old.errors new.errors (call_lines address (outcome_text fault)))

-- what tells how many milliseconds a turn of a connection took
abbrev pub turn_text : ℕ → List ℕ
turn_text milliseconds = codes "a turn took " ++ (decimal milliseconds ++ codes " ms")

-- how long the longest turn so far took: no longer than the last that was to be told, and nothing
-- is; or longer, which is told, if it can be written, and kept
abbrev pub LogsTurn : {E C : Type 0} → Known E → ErrorLog E C → (longest : ℕ) → ErrorLog E C
    → Type 0
LogsTurn contents old longest new =
    ((longest ≤ old.longest) × (new ≡ old))
    ⊎ ((old.longest < longest) × (new ≡ record old { errors = new.errors; longest = longest })
    × LogsLine contents old.errors new.errors (told_line (turn_text longest)))

-- the second line of a fault, if it has one
abbrev pub place_line : Option (List ℕ) → List ℕ
place_line given = elim given [ None ↦ [] | Some place ↦ told_line place ]

-- what a fault of a connection is called by the program
abbrev pub fault_of : HexFault → ProgramFault
fault_of v = elim v [ hexed.BadHex ↦ BadHex | hexed.Serve fault ↦ Connection fault ]

-- what a dump's is called
abbrev pub dump_fault : DumpFault → ProgramFault
dump_fault fault =
    elim fault [
      | dump.Store fault ↦ program.Store fault
      | dump.Write ↦ Connection Write
      | dump.OutOfMemory ↦ Connection OutOfMemory
    ]

-- what a report's is called
abbrev pub report_fault : ReportFault → ProgramFault
report_fault fault =
    elim fault [
      | report.Store fault ↦ program.Store fault
      | report.NoText ↦ NoText
      | report.Write ↦ Connection Write
      | report.OutOfMemory ↦ Connection OutOfMemory
    ]
