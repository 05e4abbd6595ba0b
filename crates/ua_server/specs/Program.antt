-- What a run of the program does.
use Rattle.std.specs.Prelude.{◌≡◌, ℕ, ℤ, List, [], ◌∷◌, Option, None, Some, IfSome, is_some, option_copied, Result, Ok, Err, IfOk, Bool, true, false, ◌⊎◌, if◌then◌else◌}
use Rattle.std.specs.Result.{result_map_both}
use Rattle.std.specs.Io.KnownBytes.{Appends}
use Rattle.std.specs.declared.net.socket_addr.SocketAddr.{SocketAddr}
use Rattle.std.specs.Fmt.Cut.{cut_to}
use Rattle.toml.specs.Data.{Members}
use Rattle.toml.specs.Parse.{parse_document}
use Rattle.counted_io.specs.declared.fault.ServeFault.TheVariants.{Write, OutOfMemory}
use Rattle.ua_server.specs.declared.hexed.HexFault.{HexFault}
use Rattle.ua_server.specs.declared.program.ProgramFault.{ProgramFault}
use Rattle.ua_server.specs.declared.program.ProgramFault.TheVariants.{Line, File, Settings, Address, NoRows, Connection}
use Rattle.ua_server.specs.declared.program.ProgramFault.TheVariants as program
use Rattle.ua_server.specs.declared.dumps.DumpFault.{DumpFault}
use Rattle.counted_io.specs.Bytes.{AppendsPart}
use Rattle.counted_io.specs.Tally.{Tally}
use Rattle.ua_settings.specs.declared.fault.SettingsFault.{SettingsFault}
use Rattle.ua_settings.specs.declared.fault.SettingsFault.TheVariants as refused
use Rattle.ua_settings.specs.Settings.{SettingsValues, bare}
use Rattle.ua_settings.specs.declared.place.Place.{Place}
use Rattle.ua_settings.specs.Place.{IsPlaceOf, place_text}
use Rattle.ua_settings.specs.Reading.{IsReadOrStarved, password_paths}
use Rattle.ua_settings.specs.declared.password.PasswordLine.{PasswordLine}
use Rattle.ua_server.specs.Passwords.{ReadsPasswords}
use Rattle.ua_server.specs.Exposing.{IsTaken}
use Rattle.archive.specs.declared.fault.StoreFault.{StoreFault}
use Rattle.archive.specs.Store.{Store}
use Rattle.archive.specs.Beginning.{HoldsNothing}
use Rattle.ua_connection.specs.Environments.{Environment}
use Rattle.ua_server.specs.Single.{AnswersAt}
use Rattle.ua_server.specs.Dumping.{Dumps}
use Rattle.peer_check.specs.declared.comparing.Extent.{Extent}
use Rattle.ua_server.specs.Calls.{compared_before, Exchanges, PrintsClash}
use Rattle.ua_server.specs.declared.calls.CallFault.{CallFault}
use Rattle.ua_server.specs.declared.calls.CallFault.TheVariants as call
use Rattle.ua_server.specs.Telling.{Known, synced_line, fault_of, dump_fault, sync_fault, Readings}
use Rattle.ua_peers.specs.declared.calling.Synced.{Synced}
use Rattle.ua_peers.specs.declared.calling.SyncFault.{SyncFault}
use Rattle.ua_peers.specs.declared.calling.SyncFault.TheVariants as sync
use Rattle.std.specs.Net.Grammar.{IsSocketText}
use Rattle.std.specs.Borrow.{Bor}
use Rattle.ua_server.specs.Network.{Counts, Serving}
use Rattle.ua_server.specs.Serving.{ServesMany}
use Rattle.conversation.specs.declared.door.Door.{Door}
use Rattle.ua_server.specs.declared.listening.Listening.{Listening}
use Rattle.ua_server.specs.Listening.{IsListening, HasNoAddress, door_fault}
use Rattle.ua_server.specs.Host.{Machine, KnownMachine, store_terms}
use Rattle.clap.specs.Words.{Row, Text, subcommand_of}
use Rattle.clap.specs.Takes.{takes}
use Rattle.clap.specs.Faults.{fault_of as fault_kinds}
use Rattle.clap.specs.declared.error.ErrorKind.{ErrorKind}
use Rattle.command_line.specs.declared.line.Line.{Line as CommandLine}
use Rattle.command_line.specs.declared.line.Line.TheVariants.{Answer, Serve, Dump, Sync, History, Import, Check}
use Rattle.command_line.specs.declared.line.HistoryWords.{HistoryWords}
use Rattle.command_line.specs.declared.line.SyncWords.{SyncWords}
use Rattle.command_line.specs.declared.line.ImportWords.{ImportWords}
use Rattle.ua_server.specs.Histories.{PrintsHistory}
use Rattle.ua_server.specs.Importing.{Importing, WritesRows, RemoteEnd, import_of, import_refusal, remote_told}
use Rattle.remote_import.specs.Imports.{ImportsOver}
use Rattle.ua_server.specs.Checking.{TellsCheck}
use Rattle.ua_server.specs.declared.program.StoreUse.{StoreUse}
use Rattle.ua_server.specs.declared.program.StoreUse.TheVariants.{Leaves, Opens, Makes}
use Rattle.ua_session.specs.Users.{IsUserName}
use Rattle.command_line.specs.declared.line.LineFault.TheVariants.{Words, OutOfMemory as NoMemory}
use Rattle.command_line.specs.Line.{AsksForText, IsLine, MayAskForText, uahist}

-- ---- settings

-- the text of where a document is refused, in at most 180 bytes
abbrev pub TellsPlace : List PasswordLine → Option Members → List ℕ → Type 0
TellsPlace lines document told =
    (place : Place) × IsPlaceOf lines document place × (told ≡ cut_to 180 (place_text place))

-- the settings that a text gives, where password files say this, or want of memory; a refusal may
-- tell its place, want of memory not
abbrev pub IsSetIn : List PasswordLine → List ℕ → Result SettingsValues ProgramFault → Type 0
IsSetIn lines text result =
    (read : Result SettingsValues SettingsFault) × (place : Option (List ℕ))
    × IsReadOrStarved lines (parse_document text) read
    × IfSome place
    (λ told. TellsPlace lines (parse_document text) told × (read ≡ Err refused.OutOfMemory → ⊥))
    × (result ≡ result_map_both (λ settings. settings) (λ fault. Settings fault place) read)

-- the settings of a text, by how the password files that it names were read
abbrev pub IsSetBy : List ℕ → Result (Option (List PasswordLine)) (Unit {0})
    → Result SettingsValues ProgramFault → Type 0
IsSetBy text (Ok (Some lines)) result = IsSetIn lines text result
IsSetBy text (Ok None) result = result ≡ Err File
IsSetBy text (Err starved) result = result ≡ Err (Settings refused.OutOfMemory None)

-- what tells where a text is refused by this fault; want of memory has no place
abbrev pub IsFaultPlace : List PasswordLine → List ℕ → SettingsFault → Option (List ℕ) → Type 0
IsFaultPlace lines text fault place = IfSome place
    (λ told. TellsPlace lines (parse_document text) told × (fault ≡ refused.OutOfMemory → ⊥))

-- the settings of a run without a file, or memory for them was wanting
abbrev pub IsBare : Result SettingsValues ProgramFault → Type 0
IsBare result =
    elim result [ Ok settings ↦ settings ≡ bare | Err (Line NoMemory) ↦ Unit {0} | Err fault ↦ ⊥ ]

-- settings are taken by the rights of their files, or were refused before
abbrev pub IsTakenOrRefused : {H A L R W I : Type 0} → Machine H A L R W I → H
    → (path text : List ℕ) → (set result : Result SettingsValues ProgramFault) → Type 0
IsTakenOrRefused machine host path text (Ok settings) result =
    IsTaken machine host path text settings result
IsTakenOrRefused machine host path text (Err fault) result = result ≡ Err fault

-- the settings that the text of the file at this path gives, once the password files that it names
-- were read and, where they are strict, no file of theirs is exposed; or memory for the paths was
-- wanting before
abbrev pub SetsBy : {H A L R W I : Type 0} → Machine H A L R W I → (path text : List ℕ)
    → Result SettingsValues ProgramFault → (old new : H) → Type 0
SetsBy machine path text result old new =
    ((result ≡ Err (Settings refused.OutOfMemory None)) × (new ≡ old))
    ⊎ ((read : Result (Option (List PasswordLine)) (Unit {0}))
    × ReadsPasswords machine path (password_paths (parse_document text)) read old new
    × (set : Result SettingsValues ProgramFault) × IsSetBy text read set
    × IsTakenOrRefused machine new path text set result)

-- The settings of a server that is given this path. Without a path they are those without a file,
-- and no file is read. A file that can't be read is the fault File.
abbrev pub SettingsAt : {H A L R W I : Type 0} → Machine H A L R W I → Option (List ℕ)
    → Result SettingsValues ProgramFault → (old new : H) → Type 0
SettingsAt machine None result old new = IsBare result × (new ≡ old)
SettingsAt {H} machine (Some path) result old new =
    (text : Option (List ℕ)) × (between : H) × machine.reads old path text between
    × elim text [
      | None ↦ (result ≡ Err File) × (new ≡ between)
      | Some known ↦ SetsBy machine path known result between new
    ]

-- an archive in memory that holds nothing, or why there is none; no file is opened
abbrev pub OpensNothing : {H A : Type 0} → (A → Store) → SettingsValues → Result A StoreFault
    → (old new : H) → Type 0
OpensNothing held settings opening old new =
    IfOk opening (λ first. HoldsNothing settings.archive settings.replica (held first))
    × (new ≡ old)

-- the archive of the store at a path; for a command that leaves it alone, or that makes none where
-- none stands there, one in memory that holds nothing
abbrev pub OpensStore : {H A L R W I : Type 0} → Machine H A L R W I → (A → Store) → StoreUse
    → SettingsValues → (path : List ℕ) → Result A StoreFault → (old new : H) → Type 0
OpensStore machine held uses settings path opening old new =
    let opens = machine.opens old path (store_terms settings) opening new in
    let opens_nothing = OpensNothing held settings opening old new in
    elim uses [
      | Leaves ↦ opens_nothing
      | Opens ↦ (machine.stands old path true × opens)
          ⊎ (machine.stands old path false × opens_nothing)
      | Makes ↦ opens
    ]

-- the archive of the settings, or why it can't be opened: that of their store, or one in memory
-- that holds nothing where they name none
abbrev pub OpensArchive : {H A L R W I : Type 0} → Machine H A L R W I → (A → Store) → StoreUse
    → SettingsValues → Option (List ℕ) → Result A StoreFault → (old new : H) → Type 0
OpensArchive machine held uses settings path opening old new =
    elim path [
      | None ↦ OpensNothing held settings opening old new
      | Some path ↦ OpensStore machine held uses settings path opening old new
    ]

-- settings with their archive, or why that can't be opened; where a command is refused by them,
-- nothing is opened
abbrev pub OpensUnless : {H A L R W I : Type 0} → Machine H A L R W I → (A → Store) → StoreUse
    → Option ProgramFault → SettingsValues → Result (SettingsValues × A) ProgramFault
    → (old new : H) → Type 0
OpensUnless {H} {A} machine held uses refusal settings result old new =
    elim refusal [
      | Some fault ↦ (result ≡ Err fault) × (new ≡ old)
      | None ↦ (opening : Result A StoreFault)
          × OpensArchive machine held uses settings settings.store opening old new
          × (result ≡ result_map_both (λ archive. (settings, archive)) program.Store opening)
    ]

-- the settings that a path gives, with their archive; or why the settings, the command or the
-- archive is refused
abbrev pub OpensBy : {H A L R W I : Type 0} → Machine H A L R W I → (A → Store) → StoreUse
    → (refused_by : SettingsValues → Option ProgramFault) → Option (List ℕ)
    → Result (SettingsValues × A) ProgramFault → (old new : H) → Type 0
OpensBy {H} {A} machine held uses refused_by path result old new =
    (settings : Result SettingsValues ProgramFault) × (between : H)
    × SettingsAt machine path settings old between × elim settings [
      | Ok known ↦ OpensUnless machine held uses (refused_by known) known result between new
      | Err fault ↦ (result ≡ Err fault) × (new ≡ between)
    ]

-- ---- the network

-- the text is no address, and nothing was asked for; or nothing was had at it
abbrev pub IsUnreachable : {H T : Type 0} → (SocketAddr → Option T → H → Type 0) → List ℕ
    → (old new : H) → Type 0
IsUnreachable had text old new =
    (((address : SocketAddr) → IsSocketText text address → ⊥) × (new ≡ old))
    ⊎ ((address : SocketAddr) × IsSocketText text address × had address None new)

-- connections were served that came to the addresses of the settings, to their end, or until the
-- store broke and was not, or could not be, opened anew
abbrev pub ListensAt : {C E : Type 0} → (known : KnownMachine) → Readings C → Known E
    → SettingsValues → ℕ → (old new : Serving known.Host known.Archive C E)
    → Result (Unit {0}) ProgramFault → Type 0
ListensAt known gave told settings count old new result =
    (listening : Listening) × IsListening settings listening
    × (source : known.Source) × (listened : known.Host)
    × known.machine.listens old.host listening (Ok source) listened
    × ServesMany known gave told settings count source (record old { host = listened }) new result

-- an address of the settings can't be listened at, as this fault tells
abbrev pub IsRefusedPlace : (known : KnownMachine) → SettingsValues → ProgramFault
    → (old new : known.Host) → Type 0
IsRefusedPlace known settings fault old new =
    (listening : Listening) × IsListening settings listening × (door : Door)
    × known.machine.listens old listening (Err door) new × (fault ≡ door_fault door)

-- an address of the settings is none, and nothing was asked for, or it can't be listened at, as
-- this fault tells; the archive, the clock and standard error stay
abbrev pub FindsNoPlace : {C E : Type 0} → (known : KnownMachine) → SettingsValues → ProgramFault
    → (old new : Serving known.Host known.Archive C E) → Type 0
FindsNoPlace known settings fault old new =
    ((HasNoAddress settings fault × (new.host ≡ old.host))
    ⊎ IsRefusedPlace known settings fault old.host new.host)
    × (new ≡ record old { host = new.host })

-- no connection was served: memory was wanting before, or nothing is had at an address
abbrev pub ListensNowhere : {C E : Type 0} → (known : KnownMachine) → SettingsValues
    → ProgramFault → (old new : Serving known.Host known.Archive C E) → Type 0
ListensNowhere known settings (Connection OutOfMemory) old new = new ≡ old
ListensNowhere known settings fault old new = FindsNoPlace known settings fault old new

-- the same; or none was served, and why not
abbrev pub Listens : {C E : Type 0} → (known : KnownMachine) → Readings C → Known E
    → SettingsValues → ℕ → (old new : Serving known.Host known.Archive C E)
    → Result (Unit {0}) ProgramFault → Type 0
Listens known gave told settings count old new result =
    ListensAt known gave told settings count old new result
    ⊎ ((fault : ProgramFault) × (result ≡ Err fault)
    × ListensNowhere known settings fault old new)

-- of a dialog that came to its end the line was printed, a first part of it where the writer
-- failed, nothing where memory for it was wanting; of another one nothing was printed, and its
-- fault is told
abbrev pub PrintsSynced : (old written : Option (List ℕ)) → Result Synced SyncFault
    → Result (Unit {0}) ProgramFault → Type 0
PrintsSynced old written (Ok synced) (Ok done) = Appends old written (synced_line synced)
PrintsSynced old written (Ok synced) (Err (Connection Write)) =
    AppendsPart old written (synced_line synced)
PrintsSynced old written (Ok synced) (Err fault) =
    (fault ≡ Connection OutOfMemory) × (written ≡ old)
PrintsSynced old written (Err cause) result = (result ≡ Err (sync_fault cause)) × (written ≡ old)

-- Of a call that came to its end the line was printed, and of another one its fault is told; of two
-- records of one number these were printed.
abbrev pub PrintsCall : (old written : Option (List ℕ)) → Result Synced CallFault
    → Result (Unit {0}) ProgramFault → Type 0
PrintsCall old written ending result = elim ending [
  | Ok synced ↦ PrintsSynced old written (Ok synced) result
  | Err (call.Sync cause) ↦ PrintsSynced old written (Err cause) result
  | Err (call.Clash clash) ↦ PrintsClash clash old written
      × (result ≡ Err (program.NumberTwice clash.brought.number))
]

-- what a peer is called over: the machine, the archive, and what is written to the output
abbrev pub Calling : (H A : Type 0) → Type 0
Calling H A = record { host : H; archive : A; written : Option (List ℕ) }

-- a peer was called to exchange records over a connection, which was given back
abbrev pub ExchangesOver : (known : KnownMachine) → (compared : Option Extent) → known.Reader
    → known.Writer → (old new : Calling known.Host known.Archive) → Result Synced CallFault → Type 0
ExchangesOver known compared reader writer old new ending =
    Counts (λ fault. ending ≡ Err (call.Sync (sync.Connection fault)))
    (λ read wrote. known.machine.parts old.host read wrote new.host
    × Exchanges known.held compared old.archive new.archive (known.unread reader)
    (known.unread read.inner) (known.written writer) (known.written wrote.inner) ending)

-- the peer at an address was called, as the initiator of a dialog, and what came of it is printed,
-- or its fault told
abbrev pub CallsAt : (known : KnownMachine) → (compared : Option Extent) → SocketAddr
    → (old new : Calling known.Host known.Archive) → Result (Unit {0}) ProgramFault → Type 0
CallsAt known compared address old new result =
    (reader : known.Reader) × (writer : known.Writer) × (between : known.Host)
    × known.machine.calls old.host address (Some (reader, writer)) between
    × (ending : Result Synced CallFault) × PrintsCall old.written new.written ending result
    × ExchangesOver known compared reader writer (record old { host = between }) new ending

-- The peer at an address was called, and what came of it printed, or its fault told; or the text is
-- no address, or no connection was had: the result is Address, and the archive and the output stay.
abbrev pub CallsPeer : (known : KnownMachine) → (compared : Option Extent) → List ℕ
    → (old new : Calling known.Host known.Archive) → Result (Unit {0}) ProgramFault → Type 0
CallsPeer known compared text old new result =
    (IsUnreachable (known.machine.calls old.host) text old.host new.host × (result ≡ Err Address)
    × (new ≡ record old { host = new.host }))
    ⊎ ((address : SocketAddr) × IsSocketText text address
    × CallsAt known compared address old new result)

-- ---- what each command does over the archive of its settings; what it doesn't name stays as it
-- was

-- what stands around a run: what is unread of the input and written to the output, as far as that
-- is known, the machine, the clock, and standard error
abbrev pub Scene : (H C E : Type 0) → Type 0
Scene H C E =
    record {
      unread : Option (List ℕ);
      written : Option (List ℕ);
      host : H;
      clock : C;
      errors : Tally E;
    }

-- the scene of these five
abbrev pub scene_of : {H C E : Type 0} → (unread written : Option (List ℕ)) → H → C → Tally E
    → Scene H C E
scene_of unread written host clock errors = record {
  unread = unread;
  written = written;
  host = host;
  clock = clock;
  errors = errors;
}

-- `answer`: the input is answered on the output
abbrev pub DoesAnswering : {H C E : Type 0} → Readings C → SettingsValues → Bool → Option ℤ
    → (first last : Store) → (old new : Scene H C E) → Result (Unit {0}) ProgramFault → Type 0
DoesAnswering gave settings hex now first last old new result =
    (new ≡ record old { unread = new.unread; written = new.written; clock = new.clock })
    × ((used : Environment) × gave old.clock used.readings new.clock
    × (answered : Result (Unit {0}) HexFault) × AnswersAt settings first last hex now old.unread
    new.unread old.written new.written used answered
    × (result ≡ result_map_both (λ done. done) fault_of answered))

-- `serve`: connections are served that come to the addresses of the settings, and their peers are
-- called
abbrev pub DoesServing : {C E : Type 0} → (known : KnownMachine) → Readings C → Known E
    → SettingsValues → ℕ → (first last : known.Archive) → (old new : Scene known.Host C E)
    → Result (Unit {0}) ProgramFault → Type 0
DoesServing known gave told settings count first last old new result =
    (new ≡ record old { host = new.host; clock = new.clock; errors = new.errors })
    × Listens known gave told settings count
    (record { host = old.host; archive = first; clock = old.clock; errors = old.errors })
    (record { host = new.host; archive = last; clock = new.clock; errors = new.errors }) result

-- `dump`: the archive is printed, or why it can't be
abbrev pub DoesDumping : {H C E : Type 0} → (first last : Store) → (old new : Scene H C E)
    → Result (Unit {0}) ProgramFault → Type 0
DoesDumping first last old new result =
    (new ≡ record old { written = new.written })
    × ((dumped : Result (Unit {0}) DumpFault) × Dumps first last old.written new.written dumped
    × (result ≡ result_map_both (λ done. done) dump_fault dumped))

-- `sync`: a peer is called
abbrev pub DoesSyncing : {C E : Type 0} → (known : KnownMachine) → SyncWords
    → (first last : known.Archive) → (old new : Scene known.Host C E)
    → Result (Unit {0}) ProgramFault → Type 0
DoesSyncing known asked first last old new result =
    (new ≡ record old { host = new.host; written = new.written })
    × CallsPeer known (compared_before asked) asked.peer.now
    (record { host = old.host; archive = first; written = old.written })
    (record { host = new.host; archive = last; written = new.written }) result

-- `history`: the history that its words ask for is printed, or why it isn't is told
abbrev pub DoesHistory : {C E : Type 0} → (known : KnownMachine) → HistoryWords
    → (first last : known.Archive) → (old new : Scene known.Host C E)
    → Result (Unit {0}) ProgramFault → Type 0
DoesHistory known words first last old new result =
    (new ≡ record old { written = new.written })
    × PrintsHistory known.held words first last old.written new.written result

-- what an import is done over, of what stands around a run
abbrev pub importing_in : {A H C E : Type 0} → A → Scene H C E → Importing A C
importing_in archive scene = record {
  archive = archive;
  unread = scene.unread;
  written = scene.written;
  clock = scene.clock;
}

-- the rows of the input are written into the archive
abbrev pub ImportsHere : {C E : Type 0} → (known : KnownMachine) → Readings C → SettingsValues
    → ImportWords → (first last : known.Archive) → (old new : Scene known.Host C E)
    → Result (Unit {0}) ProgramFault → Type 0
ImportsHere known gave settings words first last old new result =
    (new ≡ record old { unread = new.unread; written = new.written; clock = new.clock })
    × WritesRows known.held gave settings words (importing_in first old) (importing_in last new)
    result

-- the rows of the input were brought to the server at an address, at one reading of the clock, over
-- a connection, which was given back with any counts of its failed calls
pub record BringsRowsTo {C E : Type 0} (known : KnownMachine) (gave : Readings C)
    (settings : SettingsValues) (words : ImportWords) (address : SocketAddr)
    (old new : Scene known.Host C E) (result : Result (Unit {0}) ProgramFault) : Type 0 where
  pub reader : known.Reader
  pub writer : known.Writer
  pub between : known.Host
  pub calls : known.machine.calls old.host address (Some (reader, writer)) between
  pub reading : ℤ
  pub gives : gave old.clock (reading ∷ []) new.clock
  pub read : Tally known.Reader
  pub wrote : Tally known.Writer
  pub parts : known.machine.parts between read wrote new.host
  pub ended : RemoteEnd
  pub imports : ImportsOver settings (import_of words reading) old.unread
      (record { unread = known.unread reader; sent = known.written writer })
      (record { unread = known.unread read.inner; sent = known.written wrote.inner })
      old.written new.written ended
  pub told : result ≡ remote_told ended

-- the rows of the input were brought to the server at the text of an address; or nothing is had
-- there, or the text is no address, and nothing was read or told
abbrev pub ImportsThere : {C E : Type 0} → (known : KnownMachine) → Readings C → SettingsValues
    → ImportWords → (address : List ℕ) → (old new : Scene known.Host C E)
    → Result (Unit {0}) ProgramFault → Type 0
ImportsThere known gave settings words text old new result =
    (IsUnreachable (known.machine.calls old.host) text old.host new.host × (result ≡ Err Address)
    × (new ≡ record old { host = new.host }))
    ⊎ ((address : SocketAddr) × IsSocketText text address
    × BringsRowsTo known gave settings words address old new result)

-- the rows of the input are written into the archive, or brought to the running server at this
-- address, if one is named, and then the archive and standard error stay
abbrev pub ImportsTo : {C E : Type 0} → (known : KnownMachine) → (server : Option (Bor (List ℕ)))
    → Readings C → SettingsValues → ImportWords → (first last : known.Archive)
    → (old new : Scene known.Host C E) → Result (Unit {0}) ProgramFault → Type 0
ImportsTo known None gave settings words first last old new result =
    ImportsHere known gave settings words first last old new result
ImportsTo known (Some address) gave settings words first last old new result =
    (last ≡ first) × (new.errors ≡ old.errors)
    × ImportsThere known gave settings words address.now old new result

-- the file at a path was opened, and its rows are written to where the words say, as those of the
-- input would be, which stays unread
pub record ImportsFile {C E : Type 0} (known : KnownMachine) (gave : Readings C)
    (settings : SettingsValues) (words : ImportWords) (path : List ℕ) (first last : known.Archive)
    (old new : Scene known.Host C E) (result : Result (Unit {0}) ProgramFault) : Type 0 where
  pub rows : known.Rows
  pub opened : known.Host
  pub opens : known.machine.opens_rows old.host path (Some rows) opened
  pub rest : known.Rows
  pub imports : ImportsTo known words.server gave settings words first last
      (record old { unread = known.rows rows; host = opened })
      (record new { unread = known.rows rest }) result
  pub input : new.unread ≡ old.unread

-- the file at a path can't be opened, and nothing else was done
abbrev pub FindsNoRows : {C E : Type 0} → (known : KnownMachine) → (path : List ℕ)
    → (first last : known.Archive) → (old new : Scene known.Host C E)
    → Result (Unit {0}) ProgramFault → Type 0
FindsNoRows known path first last old new result =
    known.machine.opens_rows old.host path None new.host × (last ≡ first)
    × (new ≡ record old { host = new.host }) × (result ≡ Err NoRows)

-- the rows of the input, or of the file at this path, if one is named, are written to where the
-- words say; or that file can't be opened
abbrev pub ImportsFrom : {C E : Type 0} → (known : KnownMachine) → (file : Option (Bor (List ℕ)))
    → Readings C → SettingsValues → ImportWords → (first last : known.Archive)
    → (old new : Scene known.Host C E) → Result (Unit {0}) ProgramFault → Type 0
ImportsFrom known None gave settings words first last old new result =
    ImportsTo known words.server gave settings words first last old new result
ImportsFrom known (Some path) gave settings words first last old new result =
    FindsNoRows known path.now first last old new result
    ⊎ ImportsFile known gave settings words path.now first last old new result

-- `import`: the rows of the file that its words name, or of the input, are written to where they
-- say
abbrev pub DoesImporting : {C E : Type 0} → (known : KnownMachine) → Readings C → SettingsValues
    → ImportWords → (first last : known.Archive) → (old new : Scene known.Host C E)
    → Result (Unit {0}) ProgramFault → Type 0
DoesImporting known gave settings words first last old new result =
    ImportsFrom known words.file gave settings words first last old new result

-- `check`: what the settings say is told, and what the archive holds where that is asked for
abbrev pub DoesChecking : {C E : Type 0} → (known : KnownMachine) → SettingsValues → (store : Bool)
    → (first last : known.Archive) → (old new : Scene known.Host C E)
    → Result (Unit {0}) ProgramFault → Type 0
DoesChecking known settings store first last old new result =
    (new ≡ record old { written = new.written })
    × TellsCheck known.held settings store first last old.written new.written result

-- the path of a command's settings
abbrev pub settings_path : CommandLine → Option (List ℕ)
settings_path line =
    elim line [
      | Answer path hex now ↦ option_copied path
      | Serve path count ↦ Some path.now
      | Dump path ↦ Some path.now
      | Sync path asked ↦ Some path.now
      | History path words ↦ Some path.now
      | Import path words ↦ Some path.now
      | Check path store ↦ Some path.now
    ]

-- what a command does with its store: those that only print make none, and one that only tells of
-- the settings, or brings rows to a running server, leaves it alone
abbrev pub store_use : CommandLine → StoreUse
store_use line =
    elim line [
      | Dump path ↦ Opens
      | History path words ↦ Opens
      | Check path store ↦ if store then Opens else Leaves
      | Import path words ↦ if is_some words.server then Leaves else Makes
      | _ ↦ Makes
    ]

-- why a command is refused by its settings, before their store is opened
abbrev pub line_refusal : CommandLine → SettingsValues → Option ProgramFault
line_refusal line settings =
    elim line [ Import path words ↦ import_refusal settings words | _ ↦ None ]

-- a command that writes in a user's name has one that a user may have
abbrev pub HasUserName : CommandLine → Type 0
HasUserName line = elim line [ Import path words ↦ IsUserName words.user.now | _ ↦ Unit {0} ]

-- a command is done over the archive of its settings
abbrev pub DoesCommand : {C E : Type 0} → (known : KnownMachine) → Readings C → Known E
    → CommandLine → SettingsValues → (first last : known.Archive)
    → (old new : Scene known.Host C E) → Result (Unit {0}) ProgramFault → Type 0
DoesCommand known gave told line settings first last old new result =
    elim line [
      | Answer path hex now ↦
          DoesAnswering gave settings hex now (known.held first) (known.held last) old new result
      | Serve path count ↦ DoesServing known gave told settings count first last old new result
      | Dump path ↦ DoesDumping (known.held first) (known.held last) old new result
      | Sync path asked ↦ DoesSyncing known asked first last old new result
      | History path words ↦ DoesHistory known words first last old new result
      | Import path words ↦ DoesImporting known gave settings words first last old new result
      | Check path store ↦ DoesChecking known settings store first last old new result
    ]

-- a command is done over an archive, which is closed then
abbrev pub DoesAndCloses : {C E : Type 0} → (known : KnownMachine) → Readings C → Known E
    → CommandLine → SettingsValues → (first : known.Archive) → (old new : Scene known.Host C E)
    → Result (Unit {0}) ProgramFault → Type 0
DoesAndCloses known gave told line settings first old new result =
    (last : known.Archive) × (done : known.Host)
    × DoesCommand known gave told line settings first last old (record new { host = done }) result
    × known.machine.closes done last new.host

-- the settings of a line, and the archive that it is done over; or why they or it are refused
abbrev pub OpensFor : (known : KnownMachine) → CommandLine
    → Result (SettingsValues × known.Archive) ProgramFault → (old new : known.Host) → Type 0
OpensFor known line opening old new =
    OpensBy known.machine known.held (store_use line) (line_refusal line) (settings_path line)
    opening old new

-- a command is done over the archive of its settings; where the settings, the command or the
-- archive is refused, nothing else is done
abbrev pub DoesLine : {C E : Type 0} → (known : KnownMachine) → Readings C → Known E → CommandLine
    → (old new : Scene known.Host C E) → Result (Unit {0}) ProgramFault → Type 0
DoesLine known gave told line old new result =
    (opening : Result (SettingsValues × known.Archive) ProgramFault) × (opened : known.Host)
    × OpensFor known line opening old.host opened × elim opening [
      | Ok (settings, first) ↦ DoesAndCloses known gave told line settings first
          (record old { host = opened }) new result
      | Err fault ↦ (result ≡ Err fault) × (new ≡ record old { host = opened })
    ]

-- ---- a run

-- a text was printed, a first part of it where the writer failed
abbrev pub PrintsText : Option (List ℕ) → Option (List ℕ) → Result (Unit {0}) ProgramFault → Type 0
PrintsText old written (Ok done) = (text : List ℕ) × Appends old written text
PrintsText old written (Err fault) =
    (fault ≡ Connection Write) × ((text : List ℕ) × AppendsPart old written text)

-- a text was printed, and nothing else was done
abbrev pub Shows : {H C E : Type 0} → (old new : Scene H C E) → Result (Unit {0}) ProgramFault
    → Type 0
Shows old new result =
    (new ≡ record old { written = new.written }) × PrintsText old.written new.written result

-- what clap finds in a command line: its faults, whether it is taken, and its matches
abbrev pub Findings : Type 0
Findings =
    record { faults : List ErrorKind; taken : Bool; matches : Option (Text × List Row) }

-- what clap finds in these words
abbrev pub findings_in : List Text → Findings
findings_in words = record {
  faults = fault_kinds uahist words;
  taken = takes uahist words;
  matches = subcommand_of uahist words;
}

-- No help and no version is asked for, and clap refuses the line, or its matches give no command.
abbrev pub IsMistaken : Findings → Type 0
IsMistaken found =
    (found.taken ≡ true → (line : CommandLine) → IsLine found.matches line → ⊥)
    × (AsksForText found.faults → ⊥)

-- clap finds no fault, and the line that the matches give is done
abbrev pub DoesFound : {C E : Type 0} → Findings → (known : KnownMachine) → Readings C → Known E
    → (old new : Scene known.Host C E) → Result (Unit {0}) ProgramFault → Type 0
DoesFound found known gave told old new result =
    (found.faults ≡ [])
    × ((line : CommandLine) × IsLine found.matches line
    × DoesLine known gave told line old new result)

-- A run by what clap finds in its words. One that isn't refused does the line that the matches
-- give, or, only where help or the version may be asked for, prints some text. A refused line (for
-- its words, or for want of memory) does nothing.
abbrev pub Runs : {C E : Type 0} → Findings → (known : KnownMachine) → Readings C → Known E
    → (old new : Scene known.Host C E) → Result (Unit {0}) ProgramFault → Type 0
Runs found known gave told old new (Err (Line fault)) =
    (fault ≡ Words → IsMistaken found) × (new ≡ old)
Runs found known gave told old new result =
    DoesFound found known gave told old new result
    ⊎ (MayAskForText found.faults × Shows old new result)
