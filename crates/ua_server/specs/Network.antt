-- Connections over a network, many at once.
use Rattle.std.specs.Prelude.{◌≡◌, ℕ, ◌*◌, ◌^◌, ◌-◌, Option, None, Some}
use Rattle.ua_settings.specs.Settings.{SettingsValues}
use Rattle.counted_io.specs.declared.fault.ServeFault.{ServeFault}
use Rattle.counted_io.specs.declared.fault.ServeFault.TheVariants.{Read, Write, OutOfMemory}
use Rattle.counted_io.specs.Tally.{Tally, HasCounted}
use Rattle.multiplex.specs.declared.limits.Limits.{Limits}
use Rattle.multiplex.specs.Turns.{Loop}
use Rattle.conversation.specs.declared.other_end.OtherEnd.{OtherEnd}
use Rattle.conversation.specs.declared.world.World.{World}
use Rattle.conversation.specs.OtherEnds.{ConversationEnding}
use Rattle.ua_server.specs.declared.log.ErrorLog.{ErrorLog}
use Rattle.ua_server.specs.declared.program.ProgramFault.{ProgramFault}
use Rattle.ua_server.specs.declared.program.ProgramFault.TheVariants.{Address, DoorAddress, DoorNetwork, PeerAddress, WebAddress, StoreBroken, Connection}
use Rattle.ua_server.specs.declared.program.ProgramFault.TheVariants as program
use Rattle.ua_server.specs.Host.{KnownMachine}

-- this was done with a connection, and its failed calls were counted: of each kind 1 where the
-- connection ended by that fault, and else 0
abbrev pub Counts : {R W : Type 0} → (ended_by : ServeFault → Type 0)
    → (done : Tally R → Tally W → Type 0) → Type 0
Counts {R} {W} ended_by done =
    (read : Tally R) × (wrote : Tally W) × HasCounted (ended_by Read) read
    × HasCounted (ended_by Write) wrote × done read wrote

-- what connections are served over that come to an address: the machine, the archive, the clock,
-- and standard error
abbrev pub Serving : (H A C E : Type 0) → Type 0
Serving H A C E = record { host : H; archive : A; clock : C; errors : Tally E }

-- what a machine and the world that connections share are for them
abbrev pub serving_of : {H A C E : Type 0} → H → World A C (ErrorLog E C) → Serving H A C E
serving_of host world = record {
  host = host;
  archive = world.server.replica.archive;
  clock = world.clock;
  errors = world.log.errors;
}

-- what a server of these settings takes at most, which accepts so many connections
abbrev pub limits_of : SettingsValues → ℕ → Limits
limits_of settings count = record {
  connections = Some count;
  accept_slots = settings.connections;
  waiting_bytes = settings.waiting * 1048576;
  rounds = 2 ^ 64 - 1;
}

-- how many refused logins are kept in mind at most: a thousand where logins are limited, else none
abbrev pub refusals_kept : (limit : Option ℕ) → ℕ
refusals_kept None = 0
refusals_kept (Some most) = 1000

-- the loop that serves connections over an archive of a machine
abbrev pub ServingLoop : KnownMachine → (C E : Type 0) → Type 0
ServingLoop known C E =
    Loop known.Source OtherEnd known.ClientReader known.ClientWriter
    (World known.Archive C (ErrorLog E C)) ConversationEnding

-- it serves over this archive and this clock
pub record IsAround {C E : Type 0} (known : KnownMachine)
    (around : Serving known.Host known.Archive C E) (loop : ServingLoop known C E) : Type 0 where
  pub archive : loop.world.server.replica.archive ≡ around.archive
  pub clock : loop.world.clock ≡ around.clock

-- nothing could be had at an address of the settings, or memory was wanting before; or the store
-- broke, or was refused when it was opened anew
abbrev pub IsServingFault : ProgramFault → Type 0
IsServingFault fault =
    elim fault [
      | Address ↦ Unit {0}
      | DoorAddress ↦ Unit {0}
      | DoorNetwork number ↦ Unit {0}
      | PeerAddress number ↦ Unit {0}
      | WebAddress ↦ Unit {0}
      | program.Store fault ↦ Unit {0}
      | StoreBroken ↦ Unit {0}
      | Connection OutOfMemory ↦ Unit {0}
      | _ ↦ ⊥
    ]
