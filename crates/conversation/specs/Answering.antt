-- What stands first on a connection, and what it is answered.
use Rattle.std.specs.Prelude.{◌≡◌, ◌⊎◌, ℕ, ℤ, Bool, true, false, List, [], ◌∷◌, Option, None, Some, Result, Ok, Err}
use Rattle.std.specs.Option.{option_map}
use Rattle.std.specs.Result.{result_map_both}
use Rattle.archive.specs.Store.{Store}
use Rattle.exchange.specs.Ahead.{first_records, LearnsAhead}
use Rattle.exchange.specs.Dialogs.{DialogState, party_of, TellsFault}
use Rattle.exchange.specs.declared.message.State.{State}
use Rattle.exchange.specs.Frames.{frame_header}
use Rattle.archive.specs.declared.fault.StoreFault.{StoreFault}
use Rattle.exchange.specs.declared.fault.ExchangeFault.{ExchangeFault}
use Rattle.counted_io.specs.declared.fault.ServeFault.{ServeFault}
use Rattle.counted_io.specs.declared.fault.ServeFault.TheVariants.{OutOfMemory}
use Rattle.ua_connection.specs.Environments.{Environment}
use Rattle.ua_connection.specs.Client.{Ending as ClientEnding}
use Rattle.ua_connection.specs.Turns.{ConnectionState, Advances, NeedsBytes}
use Rattle.peer_check.specs.declared.comparing.Clash.{Clash}
use Rattle.ua_peers.specs.Peers.{TalksOnce, ended_as, is_silent}
use Rattle.ua_peers.specs.declared.peers.PeerEnded.{PeerEnded}
use Rattle.conversation.specs.declared.ended.Ended.TheVariants as ended
use Rattle.conversation.specs.declared.other_end.PeerDialog.{PeerDialog}
use Rattle.conversation.specs.declared.other_end.OtherEnd.{OtherEnd}
use Rattle.conversation.specs.declared.other_end.OtherEnd.TheVariants.{Client, Peer, Browser, Stranger, Over}
use Rattle.conversation.specs.declared.world.World.{World}
use Rattle.conversation.specs.Admitting.{IsTimed, is_own_asked, AsksOwn, restoring_with, restoring_behind, restoring_unless, own_bound, IsAdmitted, Refuses, TellsAhead}
use Rattle.conversation.specs.Comparing.{compares_first, ComparesFirst, comparing_fault, LogsClash, FindsNone}
use Rattle.multiplex.specs.declared.stay.Party.{Party}
use Rattle.multiplex.specs.declared.stay.Stay.{Stay}
use Rattle.conversation.specs.Events.{Telling, Denied, audited_by, LogsAudit}
use Rattle.conversation.specs.Logins.{after_audit, after_step, is_denied, unheld}
use Rattle.conversation.specs.OtherEnds.{ConversationEnding, none_moved, peer_at, unless_over}
use Rattle.std.specs.declared.alloc.AllocError.{AllocError}
use Rattle.web_page.specs.Calls.{Overview}
use Rattle.web_connection.specs.declared.step.WebStep.{WebStep}
use Rattle.web_connection.specs.declared.step.WebStep.TheVariants.{Ended, Denied as WebDenied}
use Rattle.web_connection.specs.Answers.{WebState, AnswersWeb, NeedsRequest}

-- nothing whole stands first; with a stranger it is over, so nothing is waited for
abbrev pub IsIncomplete : OtherEnd → Type 0
IsIncomplete other = elim other [
  | Client link ↦ NeedsBytes link
  | Peer peer ↦ frame_header peer.frames.waiting ≡ Ok None
  | Browser web ↦ NeedsRequest web
  | Stranger ↦ ⊥
  | _ ↦ Unit {0}
]

-- how a client's connection ended, as that of any connection
abbrev pub client_ending : Option ClientEnding → Option ConversationEnding
client_ending = option_map (result_map_both ended.Client (λ fault. fault))

-- how a peer's dialog ended, as the end of any connection
abbrev pub peer_ending : Option (Result PeerEnded ServeFault) → Option ConversationEnding
peer_ending = option_map (result_map_both ended.Peer (λ fault. fault))

-- what stood first on a client's connection was answered, by one step over an archive; what the
-- server is set to stays, and what was done in a session is told
pub record AnswersClient {A C L : Type 0} (state : A → Store) (gave : C → List ℤ → C → Type 0)
    (told : Telling L) (stay : Stay) (v : World A C L) (link : ConnectionState) (made : List ℕ)
    (ending : Option ConversationEnding) (w : World A C L) (next : OtherEnd) : Type 0 where
  pub used : Environment
  pub ends : Option ClientEnding
  pub later : ConnectionState
  pub settings : w.server.settings ≡ v.server.settings
  pub clock : gave v.clock used.readings w.clock
  pub log : LogsAudit told stay (audited_by link.client.sessions later.client.sessions) v.log w.log
  pub logins : w.logins ≡ after_audit v.server.settings.logins stay v.now
      (audited_by link.client.sessions later.client.sessions) v.logins
  pub from : w.from ≡ v.from
  pub now : w.now ≡ v.now
  pub calls : w.calls ≡ v.calls
  pub connections : w.connections ≡ v.connections
  pub restoring : w.restoring
      ≡ restoring_unless v.restoring (audited_by link.client.sessions later.client.sessions)
  pub advances : Advances v.server.settings (state v.server.replica.archive)
      (state w.server.replica.archive) link used made ends later
  pub ended_so : ending ≡ client_ending ends
  pub leaves : next ≡ unless_over ending (Client later)

-- what was said to a peer is written and its dialog goes on or ends; or memory for that is wanting
abbrev pub Tells : List ℕ → Option (Result PeerEnded ServeFault) → (made : List ℕ)
    → Option ConversationEnding → Type 0
Tells said ends made ending =
    ((made ≡ said) × (ending ≡ peer_ending ends))
    ⊎ ((made ≡ []) × (ending ≡ Some (Err OutOfMemory)))

-- a turn of a peer's connection at this time: the clock is read where the settings need the time,
-- no answer to a login is held back any more, and all else but the archive stays as it was
pub record StaysAtPeer {A C L : Type 0} (gave : C → List ℤ → C → Type 0) (time : ℤ)
    (v w : World A C L) : Type 0 where
  pub readings : List ℤ
  pub clock : gave v.clock readings w.clock
  pub timed : IsTimed v.server.settings readings time
  pub settings : w.server.settings ≡ v.server.settings
  pub log : w.log ≡ v.log
  pub logins : w.logins ≡ unheld v.logins
  pub from : w.from ≡ v.from
  pub now : w.now ≡ v.now
  pub calls : w.calls ≡ v.calls
  pub connections : w.connections ≡ v.connections

-- the records of the frame that stands first are taken at this time; where the settings want it,
-- the archive was asked before how many records of its own number it holds, and whether these are
-- taken back from now on is kept
pub record TakesFirst {A C L : Type 0} (state : A → Store) (time : ℤ) (waiting : List ℕ)
    (v w : World A C L) (between : A) : Type 0 where
  pub held : Option ℕ
  pub asks : AsksOwn state (is_own_asked v.server.settings waiting) v.server.replica.archive between
      (Ok held)
  pub admitted : IsAdmitted v.server.settings time
      (own_bound (restoring_with v.restoring held) (state between).own held)
      (party_of (state between)) waiting
  pub restoring : w.restoring ≡ restoring_with v.restoring held

-- the frame that stood first in a peer's dialog, if it was whole, and no other one was answered
-- over an archive, since its records are taken
pub record AnswersPeer {A C L : Type 0} (state : A → Store) (gave : C → List ℤ → C → Type 0)
    (v : World A C L) (peer : PeerDialog) (made : List ℕ) (ending : Option ConversationEnding)
    (w : World A C L) (next : OtherEnd) : Type 0 where
  pub time : ℤ
  pub between : A
  pub said : List ℕ
  pub rest : List ℕ
  pub ends : Option (Result PeerEnded ServeFault)
  pub last : DialogState
  pub stays : StaysAtPeer gave time v w
  pub takes : TakesFirst state time peer.frames.waiting v w between
  pub once : TalksOnce peer.dialog (state between) (state w.server.replica.archive)
      peer.frames.waiting said rest ends last
  pub tells : Tells said ends made ending
  pub leaves : next ≡ unless_over ending (Peer (peer_at last rest))

-- the records of the frame that stood first in a peer's dialog aren't taken, or memory to tell that
-- was wanting, or the archive met a fault as it was asked: the peer is told, the connection is
-- over, and what is held stays
pub record RefusesPeer {A C L : Type 0} (state : A → Store) (gave : C → List ℤ → C → Type 0)
    (v : World A C L) (peer : PeerDialog) (made : List ℕ) (ending : Option ConversationEnding)
    (w : World A C L) (next : OtherEnd) : Type 0 where
  pub time : ℤ
  pub asked : Result (Option ℕ) StoreFault
  pub said : List ℕ
  pub ends : Option (Result PeerEnded ServeFault)
  pub stays : StaysAtPeer gave time v w
  pub asks : AsksOwn state (is_own_asked v.server.settings peer.frames.waiting)
      v.server.replica.archive w.server.replica.archive asked
  pub restoring : w.restoring ≡ restoring_behind v.restoring asked
  pub refuses : Refuses v.server.settings time v.restoring
      (party_of (state w.server.replica.archive)) peer.frames.waiting asked said ends
  pub tells : Tells said ends made ending
  pub leaves : next ≡ unless_over ending (Peer peer)

-- some first records of the frame that stood first in a peer's dialog were learned before the frame
-- is answered, since the settings take all of its records: the frame stays, and nothing is said, or
-- why the next one wasn't learned, which ends the dialog
pub record LearnsFromPeer {A C L : Type 0} (state : A → Store) (gave : C → List ℤ → C → Type 0)
    (v : World A C L) (peer : PeerDialog) (made : List ℕ) (ending : Option ConversationEnding)
    (w : World A C L) (next : OtherEnd) : Type 0 where
  pub time : ℤ
  pub between : A
  pub result : Result (Option ℕ) ExchangeFault
  pub said : List ℕ
  pub ends : Option (Result PeerEnded ServeFault)
  pub last : DialogState
  pub stays : StaysAtPeer gave time v w
  pub takes : TakesFirst state time peer.frames.waiting v w between
  pub learns : LearnsAhead (state between) (state w.server.replica.archive) peer.dialog last
      (first_records (party_of (state between)) peer.dialog peer.frames.waiting) result
  pub told : TellsAhead result said ends
  pub tells : Tells said ends made ending
  pub leaves : next ≡ unless_over ending (Peer (peer_at last peer.frames.waiting))

-- over an archive the frame that stands first is answered, if it is whole, or some first records of
-- it are learned ahead of its turn, and it stays
abbrev pub MeetsFrame : (old new : Store) → PeerDialog → (said : List ℕ)
    → Option (Result PeerEnded ServeFault) → (next : PeerDialog) → Type 0
MeetsFrame old new peer said ends next =
    TalksOnce peer.dialog old new peer.frames.waiting said next.frames.waiting ends next.dialog
    ⊎ ((learned : Result (Option ℕ) ExchangeFault)
    × LearnsAhead old new peer.dialog next.dialog
    (first_records (party_of old) peer.dialog peer.frames.waiting) learned
    × TellsAhead learned said ends × (next.frames ≡ peer.frames))

-- what stood first in a peer's dialog was answered, or some first records of it were learned, or
-- they weren't taken
abbrev pub MeetsPeer : {A C L : Type 0} → (A → Store) → (C → List ℤ → C → Type 0) → World A C L
    → PeerDialog → (made : List ℕ) → Option ConversationEnding → World A C L → OtherEnd → Type 0
MeetsPeer state gave v peer made ending w next =
    AnswersPeer state gave v peer made ending w next
    ⊎ (LearnsFromPeer state gave v peer made ending w next
    ⊎ RefusesPeer state gave v peer made ending w next)

-- comparing the first frame of a call ended it, since a number was given to two records, or by a
-- fault: the peer is told, or memory for that was wanting, the log is told of the two records, and
-- what is held stays
pub record EndsByComparing {A C L : Type 0} (state : A → Store) (told : Telling L) (party : Party)
    (v : World A C L) (peer : PeerDialog) (made : List ℕ) (ending : Option ConversationEnding)
    (w : World A C L) (next : OtherEnd) : Type 0 where
  pub found : Result (Option Clash) ExchangeFault
  pub fault : ExchangeFault
  pub result : Result State ExchangeFault
  pub said : List ℕ
  pub compares : ComparesFirst state (compares_first v.server.settings party peer)
      peer.frames.waiting v.server.replica.archive w.server.replica.archive found
  pub why : comparing_fault found ≡ Some fault
  pub log : LogsClash told party found v.log w.log
  pub tells : TellsFault fault result [] said
  pub written : Tells said (ended_as None (is_silent said) result) made ending
  pub same : w ≡ record v {
    server = record v.server { replica = w.server.replica };
    log = w.log;
    logins = unheld v.logins;
  }
  pub leaves : next ≡ unless_over ending (Peer peer)

-- no number was found that was given twice, where such are looked for, and what stood first was met
-- over the world behind that; or comparing ended the call
abbrev pub MeetsCompared : {A C L : Type 0} → (A → Store) → (C → List ℤ → C → Type 0) → Telling L
    → Party → World A C L → PeerDialog → (made : List ℕ) → Option ConversationEnding
    → World A C L → OtherEnd → Type 0
MeetsCompared {A} {C} {L} state gave told party v peer made ending w next =
    ((between : World A C L) × FindsNone state party peer v between
    × MeetsPeer state gave between peer made ending w next)
    ⊎ EndsByComparing state told party v peer made ending w next

-- how a browser's connection ended by a step, as that of any connection
abbrev pub web_ending : Result WebStep AllocError → Option ConversationEnding
web_ending step = elim step [
  | Ok Ended ↦ Some (Ok ended.Browser)
  | Ok WebDenied ↦ Some (Ok ended.Browser)
  | Ok _ ↦ None
  | Err _ ↦ Some (Err OutOfMemory)
]

-- a log was told that a browser was denied what it asked for, if it was
abbrev pub LogsDenial : {L : Type 0} → Telling L → Stay → (denied : Bool) → L → L → Type 0
LogsDenial told stay true old new = told old (Denied stay) new
LogsDenial told stay false old new = new ≡ old

-- what pages tell of a server at this time
abbrev pub overview_at : {A C L : Type 0} → World A C L → (time : ℤ) → Overview
overview_at v time = record {
  settings = v.server.settings;
  calls = v.calls;
  connections = v.connections;
  now = time;
}

-- what stood first on a browser's connection was answered, by one step over an archive, which stays
-- as it is, by the last calls of peers, and by the time; that it was denied what it asked for is
-- told
pub record AnswersBrowser {A C L : Type 0} (state : A → Store) (gave : C → List ℤ → C → Type 0)
    (told : Telling L) (stay : Stay) (v : World A C L) (web : WebState) (made : List ℕ)
    (ending : Option ConversationEnding) (w : World A C L) (next : OtherEnd) : Type 0 where
  pub time : ℤ
  pub step : Result WebStep AllocError
  pub later : WebState
  pub settings : w.server.settings ≡ v.server.settings
  pub clock : gave v.clock (time ∷ []) w.clock
  pub log : LogsDenial told stay (is_denied step) v.log w.log
  pub logins : w.logins ≡ after_step v.server.settings.logins stay v.now step v.logins
  pub from : w.from ≡ v.from
  pub now : w.now ≡ v.now
  pub calls : w.calls ≡ v.calls
  pub connections : w.connections ≡ v.connections
  pub restoring : w.restoring ≡ v.restoring
  pub answers : AnswersWeb (overview_at v time) (state v.server.replica.archive)
      (state w.server.replica.archive) web made step later
  pub ended_so : ending ≡ web_ending step
  pub leaves : next ≡ unless_over ending (Browser later)

-- with a stranger it is over: nothing is said, and nothing changes
abbrev pub TurnsAway : {A C L : Type 0} → World A C L → (made : List ℕ)
    → Option ConversationEnding → World A C L → OtherEnd → Type 0
TurnsAway v made ending w new =
    (made ≡ []) × (ending ≡ Some (Ok ended.Stranger)) × (w ≡ v)
    × (new ≡ Over none_moved)

-- what stood first was answered over a world, if it was whole; a stranger is turned away, and where
-- nobody is known nothing is answered
abbrev pub AnswersFirst : {A C L : Type 0} → (A → Store) → (C → List ℤ → C → Type 0) → Telling L
    → Stay → World A C L → OtherEnd → (made : List ℕ) → Option ConversationEnding → World A C L
    → OtherEnd → Type 0
AnswersFirst state gave told stay v other made ending w new = elim other [
  | Client link ↦ AnswersClient state gave told stay v link made ending w new
  | Peer peer ↦ MeetsCompared state gave told stay.party v peer made ending w new
  | Browser web ↦ AnswersBrowser state gave told stay v web made ending w new
  | Stranger ↦ TurnsAway v made ending w new
  | same ↦ (made ≡ []) × (ending ≡ None) × (w ≡ v) × (new ≡ same)
]
