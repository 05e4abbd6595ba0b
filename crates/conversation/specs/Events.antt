-- What comes about on the connections of a server, of which its log is told.
use Rattle.std.specs.Prelude.{◌≡◌, ◌==◌, ℕ, List, Result, Option, None, Some, if◌then◌else◌}
use Rattle.multiplex.specs.declared.stay.Origin.{Origin}
use Rattle.multiplex.specs.declared.stay.Stay.{Stay}
use Rattle.ua_session.specs.Sessions.{SessionsState}
use Rattle.ua_session.specs.declared.audit.AuditEvent.{AuditEvent}
use Rattle.peer_check.specs.declared.comparing.Clash.{Clash}
use Rattle.ua_peers.specs.declared.calling.SyncFault.{SyncFault}
use Rattle.ua_peers.specs.declared.calling.Synced.{Synced}
use Rattle.conversation.specs.declared.log.Parting.{Parting}
use Rattle.conversation.specs.declared.world.World.{World}

-- what a log is told of
pub data LogEvent : Type 0 where
  -- a connection came from there
  Connected : Origin → LogEvent
  -- this was done in a session of a client, on a connection of which this is known
  Audited : Stay → AuditEvent → LogEvent
  -- a browser gave credentials that are no user's, on a connection of which this is known
  Denied : Stay → LogEvent
  -- a connection that came ended so
  Parted : Parting → LogEvent
  -- one failed at this time before it could be used
  AcceptFailed : (now : ℕ) → LogEvent
  -- a call of the peer of this number in the settings and of this address ended so, and so many
  -- records were moved
  CallEnded : (callee : ℕ) → (address : List ℕ) → Result (Unit {0}) SyncFault → Synced → LogEvent
  -- a call of the peer of this number in the settings found a number that was given to two records
  ClashFound : (callee : ℕ) → Clash → LogEvent
  -- the longest turn of a connection so far took so many milliseconds
  TurnTook : (longest : ℕ) → LogEvent

-- how a log goes from one state to another when it is told of an event
abbrev pub Telling : Type 0 → Type 1
Telling L = L → LogEvent → L → Type 0

-- the log alone changed: it was told of this
abbrev pub Logs : {A C L : Type 0} → Telling L → LogEvent → World A C L → World A C L → Type 0
Logs told event v w = (w ≡ record v { log = w.log }) × told v.log event w.log

-- what a step of a client did in its sessions, which were these before it and after it, if it did
-- something of which a log is told
abbrev pub audited_by : (old new : SessionsState) → Option AuditEvent
audited_by old new = if new.audits == old.audits then None else new.last_audit

-- a log was told what was done in a session, if something was
abbrev pub LogsAudit : {L : Type 0} → Telling L → Stay → Option AuditEvent → L → L → Type 0
LogsAudit told stay None old new = new ≡ old
LogsAudit told stay (Some event) old new = told old (Audited stay event) new
