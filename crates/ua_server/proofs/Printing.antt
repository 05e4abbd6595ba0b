-- What a command does, for the clauses of run, do_line and do_command (program.rt).
use Rattle.std.proofs.Common.{◌≡◌, ℕ, ℤ, List, [], Some, None, Ok, Err, refl, subst, ap, sym, ◌∙◌, inl, inr}
use Rattle.std.specs.Result.{result_map_both}
use Rattle.std.specs.Borrow.{Bor}
use Rattle.std.specs.Prelude.{Bool, true, false, ◌==◌, ◌||◌, is_some, if◌then◌else◌, Option, Result, option_copied, ok_or}
use Rattle.ua_server.specs.declared.hexed.HexFault.{HexFault}
use Rattle.ua_server.specs.declared.hexed.HexFault.TheVariants as hexed
use Rattle.ua_server.specs.declared.program.ProgramFault.{ProgramFault}
use Rattle.ua_server.specs.declared.program.ProgramFault.TheVariants.{Line, File, Settings, BadHex, Address, DoorAddress, DoorNetwork, PeerAddress, Connection, BadOption, NoText, BadUser, NoStore, NoHeader, UnreadRows, RowsRefused}
use Rattle.ua_server.specs.declared.program.ProgramFault.TheVariants as program
use Rattle.ua_peers.specs.declared.calling.Synced.{Synced}
use Rattle.ua_server.specs.declared.calls.CallFault.{CallFault}
use Rattle.ua_server.specs.declared.calls.CallFault.TheVariants as call
use Rattle.ua_peers.specs.declared.calling.SyncFault.{SyncFault}
use Rattle.ua_peers.specs.declared.calling.SyncFault.TheVariants as sync
use Rattle.ua_server.specs.declared.dumps.DumpFault.{DumpFault}
use Rattle.ua_server.specs.declared.dumps.DumpFault.TheVariants as dump
use Rattle.ua_binary.specs.Format.{◌>>=◌}
use Rattle.ua_binary.specs.declared.values.NodeId.{NodeId}
use Rattle.history_csv.specs.Nodes.{node_in}
use Rattle.history_csv.specs.Rows.{moment_in}
use Rattle.history_report.specs.declared.report.Report.{Report}
use Rattle.history_report.specs.declared.fault.ReportFault.{ReportFault}
use Rattle.history_report.specs.declared.fault.ReportFault.TheVariants as report
use Rattle.ua_server.specs.declared.histories.OptionFault.{OptionFault}
use Rattle.ua_server.specs.declared.histories.OptionFault.TheVariants.{Node, From, To}
use Rattle.ua_server.specs.Histories.{form_asked, moment_asked, report_asked, PrintsHistory}
use Rattle.command_line.specs.declared.line.Line.TheVariants.{Answer, Serve, Dump, Sync, History, Import, Check}
use Rattle.command_line.specs.declared.line.HistoryWords.{HistoryWords}
use Rattle.history_import.specs.declared.counts.Counts.{Counts}
use Rattle.history_import.specs.declared.fault.ImportFault.{ImportFault}
use Rattle.history_import.specs.declared.fault.ImportFault.TheVariants as rows
use Rattle.history_import.specs.Rows.{may_write}
use Rattle.ua_server.specs.Importing.{import_refusal, import_told, remote_told}
use Rattle.remote_import.specs.declared.fault.RemoteFault.{RemoteFault}
use Rattle.remote_import.specs.declared.fault.RemoteFault.TheVariants as remote
use Rattle.command_line.specs.declared.line.ImportWords.{ImportWords}
use Rattle.settings_check.specs.declared.fault.CheckFault.{CheckFault}
use Rattle.settings_check.specs.declared.fault.CheckFault.TheVariants as check
use Rattle.ua_server.specs.Checking.{check_fault, TellsBehind, TellsCheck}
use Rattle.command_line.specs.declared.line.Line.{Line as CommandLine}
use Rattle.command_line.specs.declared.line.LineFault.{LineFault}
use Rattle.command_line.specs.declared.line.LineFault.TheVariants.{Words, OutOfMemory as NoMemory}
use Rattle.command_line.specs.Line.{IsLine, MayAskForText}
use Rattle.ua_settings.specs.Settings.{SettingsValues}
use Rattle.archive.specs.Store.{Store}
use Rattle.ua_server.specs.Exposing.{IsTaken, JudgesStrict}
use Rattle.ua_server.specs.Host.{Machine, KnownMachine}
use Rattle.conversation.specs.declared.door.Door.TheVariants.{Both, Clients, Peers, Browsers}
use Rattle.archive.specs.declared.fault.StoreFault.{StoreFault}
use Rattle.multiplex.specs.declared.limits.Limits.{Limits}
use Rattle.ua_server.specs.declared.reopening.Successor.{Successor}
use Rattle.ua_server.specs.Network.{Serving}
use Rattle.ua_server.specs.Reopening.{Stage}
use Rattle.ua_server.specs.Serving.{ServesOn, FollowsRun, run_result}
use Rattle.peer_check.specs.declared.comparing.Extent.{Extent}
use Rattle.ua_server.specs.Calls.{compared_before}
use Rattle.ua_server.specs.Program.{SettingsAt, FindsNoPlace, Listens, ListensNowhere, OpensBy, CallsPeer, Calling, ImportsTo, ImportsFrom, Scene, PrintsCall, PrintsSynced, Shows, Findings, IsMistaken, DoesCommand, DoesLine, Runs, OpensUnless, line_refusal, settings_path, store_use}
use Rattle.ua_server.specs.declared.program.StoreUse.{StoreUse}
use Rattle.ua_server.specs.Telling.{Known, dump_fault, fault_of, report_fault, Readings}
use Rattle.ua_server.proofs.ProgramParts.{IsUnbegun}

-- no file is judged as a line
unjudged : {H A L R W I : Type 0} (machine : Machine H A L R W I) (host : H) (path text : List ℕ)
    (strict : Bool) (fault : LineFault) (why : ProgramFault)
    → JudgesStrict machine host path text strict (Err why) → why ≡ Line fault → ⊥
unjudged machine host path text true fault why (inl starved) is = cc
unjudged machine host path text true fault why (inr (file, first, (place, told, cut))) is = cc
unjudged machine host path text false fault why judged is = cc

-- settings aren't refused as a line for a file that is exposed
untaken : {H A L R W I : Type 0} (machine : Machine H A L R W I) (host : H) (path text : List ℕ)
    (settings : SettingsValues) (fault : LineFault)
    → IsTaken machine host path text settings (Err (Line fault)) → ⊥
untaken machine host path text settings fault (Ok done, judges, same) = cc
untaken machine host path text settings fault (Err why, judges, same) =
    unjudged machine host path text settings.is_strict fault why judges cc

-- settings are refused as a line where memory for those without a file was wanting
unset : {H A L R W I : Type 0} (machine : Machine H A L R W I) (path : Option (List ℕ))
    (fault : LineFault) (old new : H) → SettingsAt machine path (Err (Line fault)) old new
    → IsUnbegun fault × (new ≡ old)
unset machine None fault old new so = so
unset machine (Some path) fault old new (None, between, read, (so, same)) = absurd cc
unset machine (Some path) fault old new (Some text, between, read, inl (so, same)) = absurd cc
unset machine (Some path) fault old new (
  Some text,
  between,
  read,
  inr (Ok (Some lines), reads, Ok settings, set, taken),
) = absurd (untaken machine new path text settings fault taken)
unset machine (Some path) fault old new (
  Some text,
  between,
  read,
  inr (Ok (Some lines), reads, Err cause, (Ok settings, place, starved, told, same), refused),
) = absurd cc
unset machine (Some path) fault old new (
  Some text,
  between,
  read,
  inr (Ok (Some lines), reads, Err cause, (Err why, place, starved, told, same), refused),
) = absurd cc
unset machine (Some path) fault old new (
  Some text,
  between,
  read,
  inr (Ok None, reads, Ok settings, same, taken),
) = absurd cc
unset machine (Some path) fault old new (
  Some text,
  between,
  read,
  inr (Ok None, reads, Err cause, same, refused),
) = absurd cc
unset machine (Some path) fault old new (
  Some text,
  between,
  read,
  inr (Err e, reads, Ok settings, same, taken),
) = absurd cc
unset machine (Some path) fault old new (
  Some text,
  between,
  read,
  inr (Err e, reads, Err cause, same, refused),
) = absurd cc

-- a command is refused by its settings, or its archive can't be opened, not as such a line
unopened-with : {H A L R W I : Type 0} (machine : Machine H A L R W I) (held : A → Store)
    (uses : StoreUse) (refusal : Option ProgramFault) (settings : SettingsValues)
    (fault : LineFault) (old new : H)
    → ((why : ProgramFault) → refusal ≡ Some why → why ≡ Line fault → ⊥)
    → OpensUnless machine held uses refusal settings (Err (Line fault)) old new → ⊥
unopened-with machine held uses (Some why) settings fault old new never (is, stays) =
    let same : why ≡ Line fault = cc in never why refl same
unopened-with machine held uses None settings fault old new never (Ok archive, opens, is) =
    absurd cc
unopened-with machine held uses None settings fault old new never (Err cause, opens, is) =
    absurd cc

-- and then nothing was opened
unopened : {H A L R W I : Type 0} (machine : Machine H A L R W I) (held : A → Store)
    (uses : StoreUse) (refused_by : SettingsValues → Option ProgramFault)
    (path : Option (List ℕ)) (fault : LineFault) (old new : H)
    → ((settings : SettingsValues) (why : ProgramFault) → refused_by settings ≡ Some why
    → why ≡ Line fault → ⊥)
    → OpensBy machine held uses refused_by path (Err (Line fault)) old new
    → IsUnbegun fault × (new ≡ old)
unopened machine held uses refused_by path fault old new never (Ok known, between, set, opens) =
    absurd (unopened-with machine held uses (refused_by known) known fault between new (never known)
    opens)
unopened machine held uses refused_by path fault old new never
    (Err cause, between, set, (same, stays)) =
    let is : cause ≡ Line fault = cc in
    let u =
    unset machine path fault old between
    (subst (λ f. SettingsAt machine path (Err f) old between) is set) in
    (u.0, stays ∙ u.1)

answered-line : (answered : Result (Unit {0}) HexFault) (line : LineFault)
    → Err (Line line) ≡ result_map_both (λ done. done) fault_of answered → ⊥
answered-line (Ok done) line same = cc
answered-line (Err hexed.BadHex) line same = cc
answered-line (Err (hexed.Serve cause)) line same = cc

dumped-line : (dumped : Result (Unit {0}) DumpFault) (line : LineFault)
    → Err (Line line) ≡ result_map_both (λ done. done) dump_fault dumped → ⊥
dumped-line (Ok done) line same = cc
dumped-line (Err (dump.Store fault)) line same = cc
dumped-line (Err dump.Write) line same = cc
dumped-line (Err dump.OutOfMemory) line same = cc

reported-line : (printed : Result (Unit {0}) ReportFault) (line : LineFault)
    → Err (Line line) ≡ result_map_both (λ done. done) report_fault printed → ⊥
reported-line (Ok done) line same = cc
reported-line (Err (report.Store fault)) line same = cc
reported-line (Err report.NoText) line same = cc
reported-line (Err report.Write) line same = cc
reported-line (Err report.OutOfMemory) line same = cc

-- words that ask for no history aren't told as a refused line
found-line : (fault : OptionFault) (found : Option ℤ) (line : LineFault)
    → (ok_or found (BadOption fault) >>= λ time. Ok (Some time)) ≡ Err (Line line) → ⊥
found-line fault None line same = cc
found-line fault (Some time) line same = cc

moment-line : (fault : OptionFault) (given : Option (List ℕ)) (line : LineFault)
    → moment_asked fault given ≡ Err (Line line) → ⊥
moment-line fault None line same = cc
moment-line fault (Some text) line same = found-line fault (moment_in text) line same

-- what three answers give
abbrev answer_of : Option NodeId → (from to : Result (Option ℤ) ProgramFault) → HistoryWords
    → Result Report ProgramFault
answer_of node from to words = do
  n ← ok_or node (BadOption Node)
  f ← from
  t ← to
  Ok (record {
    node = n;
    from = f;
    to = t;
    changes = words.changes;
    form = form_asked words;
    next = None;
  })

words-line : (node : Option NodeId) (from to : Result (Option ℤ) ProgramFault)
    (words : HistoryWords) (line : LineFault) → (from ≡ Err (Line line) → ⊥)
    → (to ≡ Err (Line line) → ⊥) → answer_of node from to words ≡ Err (Line line) → ⊥
words-line None from to words line first second same = cc
words-line (Some n) (Err e) to words line first second same = first cc
words-line (Some n) (Ok f) (Err e) words line first second same = second cc
words-line (Some n) (Ok f) (Ok t) words line first second same = cc

asked-line : (words : HistoryWords) (line : LineFault) → report_asked words ≡ Err (Line line) → ⊥
asked-line words line same =
    let from = option_copied words.from in
    let to = option_copied words.to in
    words-line (node_in words.node.now) (moment_asked From from) (moment_asked To to) words line
    (moment-line From from line) (moment-line To to line) same

history-line : {A : Type 0} (held : A → Store) (words : HistoryWords) (first last : A)
    (before after : Option (List ℕ)) (line : LineFault)
    → PrintsHistory held words first last before after (Err (Line line)) → ⊥
history-line held words first last before after line (Err fault, inl asked, (is, same_archive, stays)) =
    let same : fault ≡ Line line = cc in asked-line words line (sym asked ∙ ap Err same)
history-line held words first last before after line (Err fault, inr starved, (is, same_archive, stays)) =
    absurd cc
history-line held words first last before after line (Ok asked, answered, (printed, prints, is)) =
    reported-line printed line is

-- rows that were refused aren't told as a refused line, nor is an import that ended
counted-line : (none : Bool) (number : ℕ) (line : LineFault)
    → ◌≡◌ {A = Result (Unit {0}) ProgramFault} (Err (Line line))
    (if none then Ok tt else Err (RowsRefused number)) → ⊥
counted-line true number line same = cc
counted-line false number line same = cc

imported-line : (ended : Result Counts ImportFault) (line : LineFault)
    → Err (Line line) ≡ import_told ended → ⊥
imported-line (Ok counts) line same = counted-line (counts.refused == 0) counts.refused line same
imported-line (Err rows.Header) line same = cc
imported-line (Err rows.Read) line same = cc
imported-line (Err rows.Write) line same = cc
imported-line (Err rows.OutOfMemory) line same = cc

-- nor is one into a running server
remote-line : (ended : Result Counts RemoteFault) (line : LineFault)
    → Err (Line line) ≡ remote_told ended → ⊥
remote-line (Ok counts) line same = counted-line (counts.refused == 0) counts.refused line same
remote-line (Err (remote.Rows rows.Header)) line same = cc
remote-line (Err (remote.Rows rows.Read)) line same = cc
remote-line (Err (remote.Rows rows.Write)) line same = cc
remote-line (Err (remote.Rows rows.OutOfMemory)) line same = cc
remote-line (Err (remote.Server fault)) line same = cc

-- nor is an import that is refused as a whole
placed-line : (has : Bool) (fault : ProgramFault) (line : LineFault)
    → (if has then None else Some NoStore) ≡ Some fault → fault ≡ Line line → ⊥
placed-line true fault line is same = cc
placed-line false fault line is same =
    let both : Some NoStore ≡ Some (Line line) = is ∙ ap Some same in cc

judged-line : (may has : Bool) (fault : ProgramFault) (line : LineFault)
    → (if may then (if has then None else Some NoStore) else Some BadUser) ≡ Some fault
    → fault ≡ Line line → ⊥
judged-line true has fault line is same = placed-line has fault line is same
judged-line false has fault line is same =
    let both : Some BadUser ≡ Some (Line line) = is ∙ ap Some same in cc

whole-line : (settings : SettingsValues) (words : ImportWords) (fault : ProgramFault)
    (line : LineFault) → import_refusal settings words ≡ Some fault → fault ≡ Line line → ⊥
whole-line settings words fault line is same =
    judged-line (may_write settings.users words.user.now)
    (is_some words.server || is_some settings.store) fault line is same

-- a command that its settings refuse isn't told so
refused-line : (line : CommandLine) (settings : SettingsValues) (why : ProgramFault)
    (fault : LineFault) → line_refusal line settings ≡ Some why → why ≡ Line fault → ⊥
refused-line (Import path words) settings why fault is same =
    whole-line settings words why fault is same
refused-line _ settings why fault is same = absurd cc

-- nor is a check
checked-line : (told : Result (Unit {0}) CheckFault) (line : LineFault)
    → Err (Line line) ≡ result_map_both (λ done. done) check_fault told → ⊥
checked-line (Ok done) line same = cc
checked-line (Err (check.Store fault)) line same = cc
checked-line (Err check.Write) line same = cc
checked-line (Err check.OutOfMemory) line same = cc

behind-line : {A : Type 0} (held : A → Store) (settings : SettingsValues) (store : Bool)
    (first last : A) (before after : Option (List ℕ)) (line : LineFault)
    → TellsBehind held settings store first last before after (Err (Line line)) → ⊥
behind-line held settings true first last before after line (told, prints, is) =
    checked-line told line is
behind-line held settings false first last before after line (is, stays, kept) = absurd cc

told-line : {A : Type 0} (held : A → Store) (settings : SettingsValues) (store : Bool)
    (first last : A) (before after : Option (List ℕ)) (line : LineFault)
    → TellsCheck held settings store first last before after (Err (Line line)) → ⊥
told-line held settings store first last before after line (Ok done, between, prints, behind) =
    behind-line held settings store first last between after line behind
told-line held settings store first last before after line
    (Err fault, between, prints, (is, stays, kept)) = checked-line (Err fault) line is

synced-line : (old written : Option (List ℕ)) (synced : Result Synced SyncFault) (line : LineFault)
    → PrintsSynced old written synced (Err (Line line)) → ⊥
synced-line old written (Ok synced) line prints = let same = prints.0 in cc
synced-line old written (Err (sync.Connection fault)) line prints = let same = prints.0 in cc
synced-line old written (Err (sync.Exchange fault)) line prints = let same = prints.0 in cc
synced-line old written (Err (sync.Peer number)) line prints = let same = prints.0 in cc

call-line : (old written : Option (List ℕ)) (ending : Result Synced CallFault) (line : LineFault)
    → PrintsCall old written ending (Err (Line line)) → ⊥
call-line old written (Ok synced) line prints = synced-line old written (Ok synced) line prints
call-line old written (Err (call.Sync cause)) line prints =
    synced-line old written (Err cause) line prints
call-line old written (Err (call.Clash clash)) line prints = let same = prints.1 in cc

called-line : (known : KnownMachine) (compared : Option Extent) (text : List ℕ)
    (old new : Calling known.Host known.Archive) (line : LineFault)
    → CallsPeer known compared text old new (Err (Line line)) → ⊥
called-line known compared text old new line (inl (unheard, is, stays)) = absurd cc
called-line known compared text old new line
    (inr (address, spells, (reader, writer, between, called, ending, prints, over))) =
    call-line old.written new.written ending line prints

-- that nothing is listened at isn't told as a refused line
unheard-line : {C E : Type 0} (known : KnownMachine) (settings : SettingsValues)
    (old new : Serving known.Host known.Archive C E) (line : LineFault)
    → FindsNoPlace known settings (Line line) old new → ⊥
unheard-line known settings old new line (inl (none, same), stays) = none
unheard-line known settings old new line (inr (listening, is, Both, listens, e), stays) =
    absurd cc
unheard-line known settings old new line (inr (listening, is, Clients, listens, e), stays) =
    absurd cc
unheard-line known settings old new line (inr (listening, is, Peers, listens, e), stays) =
    absurd cc
unheard-line known settings old new line (inr (listening, is, Browsers, listens, e), stays) =
    absurd cc

-- nor is an import, wherever it is to
brought-line : {C E : Type 0} (known : KnownMachine) (server : Option (Bor (List ℕ)))
    (gave : Readings C) (settings : SettingsValues) (words : ImportWords)
    (first last : known.Archive) (old new : Scene known.Host C E) (line : LineFault)
    → ImportsTo known server gave settings words first last old new (Err (Line line)) → ⊥
brought-line known None gave settings words first last old new line
    (same, (reading, given, ended, imports, is)) = imported-line ended line is
brought-line known (Some text) gave settings words first last old new line
    (kept, errors, inl (unheard, is, stays)) = absurd cc
brought-line known (Some text) gave settings words first last old new line
    (kept, errors, inr (address, spells, brings)) = remote-line brings.ended line brings.told

-- nor is one whose rows are a file's
from-line : {C E : Type 0} (known : KnownMachine) (file : Option (Bor (List ℕ)))
    (gave : Readings C) (settings : SettingsValues) (words : ImportWords)
    (first last : known.Archive) (old new : Scene known.Host C E) (line : LineFault)
    → ImportsFrom known file gave settings words first last old new (Err (Line line)) → ⊥
from-line known None gave settings words first last old new line does =
    brought-line known words.server gave settings words first last old new line does
from-line known (Some path) gave settings words first last old new line
    (inl (opens, same, stays, is)) = absurd cc
from-line known (Some path) gave settings words first last old new line (inr from) =
    brought-line known words.server gave settings words first last
    (record old { unread = known.rows from.rows; host = from.opened })
    (record new { unread = known.rows from.rest }) line from.imports

-- what comes of a run of connections isn't a refused line
run-line : (broken : Bool) (line : LineFault) → Err (Line line) ≡ run_result broken → ⊥
run-line true line is = absurd cc
run-line false line is = absurd cc

-- nor is what comes of it over a store that was opened anew, or wasn't
on-line : {C E : Type 0} (known : KnownMachine) (gave : Readings C) (told : Known E)
    (limits : Limits) (old new : Stage known C E) (reopening : Result (Unit {0}) StoreFault)
    (line : LineFault) → ServesOn known gave told limits old new reopening (Err (Line line)) → ⊥
on-line known gave told limits old new (Ok done) line (accepted, broken, run, same, is) =
    run-line broken line is
on-line known gave told limits old new (Err cause) line (same, is) = absurd cc

-- nor what follows a run
follows-line : {C E : Type 0} (known : KnownMachine) (gave : Readings C) (told : Known E)
    (limits : Limits) (broken : Bool) (file : Option Successor) (old new : Stage known C E)
    (line : LineFault)
    → FollowsRun known gave told limits broken file old new (Err (Line line)) → ⊥
follows-line known gave told limits true (Some file) old new line
    (middle, reopening, reopens, on) =
    on-line known gave told limits middle new reopening line on
follows-line known gave told limits true None old new line (same, is) = run-line true line is
follows-line known gave told limits false (Some file) old new line (same, is) =
    run-line false line is
follows-line known gave told limits false None old new line (same, is) = run-line false line is

-- no serving ends as a refused line
served-line : {C E : Type 0} (known : KnownMachine) (gave : Readings C) (told : Known E)
    (settings : SettingsValues) (count : ℕ) (old new : Serving known.Host known.Archive C E)
    (line : LineFault)
    → Listens known gave told settings count old new (Err (Line line)) → ⊥
served-line known gave told settings count old new line
    (inl (listening, is, source, listened, had, serves)) =
    follows-line known gave told _ _ _ _ _ line serves.served.follows
served-line known gave told settings count old new line (inr (cause, is, nowhere)) =
    let same : cause ≡ Line line = cc in
    unheard-line known settings old new line
    (subst (λ (f : ProgramFault). ListensNowhere known settings f old new) same nowhere)

-- no command ends as a refused line
never-line : {C E : Type 0} (known : KnownMachine) (gave : Readings C) (told : Known E)
    (line : CommandLine) (settings : SettingsValues) (first last : known.Archive)
    (old new : Scene known.Host C E) (fault : LineFault)
    → DoesCommand known gave told line settings first last old new (Err (Line fault)) → ⊥
never-line known gave told (Answer path hex now) settings first last old new fault
    (same, (used, given, answered, answers, is)) = answered-line answered fault is
never-line known gave told (Serve path count) settings first last old new fault (same, so) =
    served-line known gave told settings count
    (record { host = old.host; archive = first; clock = old.clock; errors = old.errors })
    (record { host = new.host; archive = last; clock = new.clock; errors = new.errors }) fault so
never-line known gave told (Dump path) settings first last old new fault
    (same, (dumped, dumps, is)) = dumped-line dumped fault is
never-line known gave told (Sync path asked) settings first last old new fault (same, so) =
    called-line known (compared_before asked) asked.peer.now
    (record { host = old.host; archive = first; written = old.written })
    (record { host = new.host; archive = last; written = new.written }) fault so
never-line known gave told (History path words) settings first last old new fault (same, so) =
    history-line known.held words first last old.written new.written fault so
never-line known gave told (Import path words) settings first last old new fault does =
    from-line known words.file gave settings words first last old new fault does
never-line known gave told (Check path store) settings first last old new fault (same, so) =
    told-line known.held settings store first last old.written new.written fault so

-- a line that ends as a refused one: its settings were refused so, and nothing was done
by-line : {C E : Type 0} (known : KnownMachine) (gave : Readings C) (told : Known E)
    (line : CommandLine) (old new : Scene known.Host C E) (fault : LineFault)
    → DoesLine known gave told line old new (Err (Line fault)) → IsUnbegun fault × (new ≡ old)
by-line known gave told line old new fault
    (Ok (settings, first), opened, opens, (last, done, does, closes)) =
    absurd (never-line known gave told line settings first last (record old { host = opened })
    (record new { host = done }) fault does)
by-line {C} {E} known gave told line old new fault (Err cause, opened, opens, (same, stays)) =
    let is : cause ≡ Line fault = cc in
    let P : ProgramFault → Type 0 = λ f.
    OpensBy known.machine known.held (store_use line) (line_refusal line) (settings_path line)
    (Err f) old.host opened in
    let u =
    unopened known.machine known.held (store_use line) (line_refusal line) (settings_path line) fault
    old.host opened (λ settings why. refused-line line settings why fault) (subst P is opens) in
    let at : known.Host → Scene known.Host C E = λ host. record old { host = host } in
    (u.0, stays ∙ ap at u.1)

-- memory for the server was wanting, so nothing is said of the words
only-memory : (found : Findings) (fault : LineFault) → IsUnbegun fault → fault ≡ Words
    → IsMistaken found
only-memory found Words so = absurd so
only-memory found NoMemory so = λ words. absurd cc

-- a command that a line names
pub line-done : {C E : Type 0} (found : Findings) (known : KnownMachine) (gave : Readings C)
    (told : Known E) (line : CommandLine) (old new : Scene known.Host C E)
    (result : Result (Unit {0}) ProgramFault) → found.faults ≡ [] → IsLine found.matches line
    → DoesLine known gave told line old new result → Runs found known gave told old new result
line-done found known gave told line old new (Ok done) free is so = inl (free, (line, is, so))
line-done found known gave told line old new (Err (Line fault)) free is so =
    let b = by-line known gave told line old new fault so in
    (only-memory found fault b.0, b.1)
line-done found known gave told line old new (Err _) free is so = inl (free, (line, is, so))

-- a text that was asked for was printed, and nothing else was done
pub text-shown : {C E : Type 0} (found : Findings) (known : KnownMachine) (gave : Readings C)
    (told : Known E) (old new : Scene known.Host C E) (result : Result (Unit {0}) ProgramFault)
    → MayAskForText found.faults → Shows old new result → Runs found known gave told old new result
text-shown found known gave told old new (Ok done) may so = inr (may, so)
text-shown found known gave told old new (Err (Line fault)) may so =
    let is = so.1.0 in absurd cc
text-shown found known gave told old new (Err (Connection fault)) may so = inr (may, so)
text-shown found known gave told old new (Err _) may so = let is = so.1.0 in absurd cc

pub ruleset lines = (line-done, text-shown)
