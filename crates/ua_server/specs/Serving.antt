-- Serving from the first connection to the last, also over a store that is opened anew.
use Rattle.std.specs.Prelude.{◌≡◌, ℕ, ◌-◌, map, Option, Some, option_map, Bool, true, false, Result, Ok, Err}
use Rattle.archive.specs.declared.fault.StoreFault.{StoreFault}
use Rattle.multiplex.specs.declared.limits.Limits.{Limits}
use Rattle.multiplex.specs.Serving.{AreAllFree, HasServed}
use Rattle.conversation.specs.declared.world.World.{World}
use Rattle.conversation.specs.Closing.{TellsTurn}
use Rattle.conversation.specs.Logins.{no_refusals}
use Rattle.ua_settings.specs.Settings.{SettingsValues}
use Rattle.web_page.specs.Calls.{uncalled}
use Rattle.ua_server.specs.declared.log.ErrorLog.{ErrorLog}
use Rattle.ua_server.specs.declared.program.ProgramFault.{ProgramFault}
use Rattle.ua_server.specs.declared.program.ProgramFault.TheVariants.{Store, StoreBroken}
use Rattle.ua_server.specs.declared.reopening.Successor.{Successor}
use Rattle.ua_server.specs.Host.{KnownMachine}
use Rattle.ua_server.specs.Listening.{IsFrom, networks_at}
use Rattle.ua_server.specs.Logging.{logs_to}
use Rattle.ua_server.specs.Network.{Serving, ServingLoop, IsAround, limits_of, refusals_kept}
use Rattle.ua_server.specs.Reopening.{Stage, Reopens, successor_of}
use Rattle.ua_server.specs.Starting.{LogsStart, CountsRecords}
use Rattle.ua_server.specs.Telling.{Known, Readings, fresh_log}
use Rattle.ua_server.specs.Watching.{TellsBreak, conversations}

-- what is left of a server's limits once so many connections were accepted
abbrev pub limits_behind : Limits → (accepted : ℕ) → Limits
limits_behind limits accepted =
    record limits { connections = option_map (λ most. most - accepted) limits.connections }

-- connections were served, each in its turn, to the end of each, or till the store was broken and
-- the settings said that nobody is served then; so many were accepted; and then the longest turn,
-- as the loop measured it, was told where the settings want it told, and that the store broke where
-- that is news
pub record ServesRun {C E : Type 0} (known : KnownMachine) (gave : Readings C) (told : Known E)
    (limits : Limits) (old new : ServingLoop known C E) (accepted : ℕ) (broken : Bool)
    : Type 0 where
  pub last : ServingLoop known C E
  pub done : Bool
  pub longest : ℕ
  pub served : HasServed known.effects known.input known.output (conversations known.held gave told)
      limits old last accepted done broken
  pub turned : World known.Archive C (ErrorLog E C)
  pub tells : TellsTurn (logs_to told gave) last.world longest turned
  pub breaks : TellsBreak known.held gave told turned new.world
  pub others : new ≡ record last { world = new.world }

-- the result of the last run
abbrev pub run_result : (broken : Bool) → Result (Unit {0}) ProgramFault
run_result broken = elim broken [ true ↦ Err StoreBroken | false ↦ Ok tt ]

module _ {C E : Type 0} (known : KnownMachine) (gave : Readings C) (told : Known E) where
  -- over what took a store's place the connections that are open are served on, and no more are
  -- accepted than were left; where it was refused, none is served
  abbrev pub ServesOn : Limits → (old new : Stage known C E) → Result (Unit {0}) StoreFault
      → Result (Unit {0}) ProgramFault → Type 0
  ServesOn limits old new (Ok done) result =
      (accepted : ℕ) × (broken : Bool)
      × ServesRun known gave told limits old.loop new.loop accepted broken
      × (new.host ≡ old.host) × (result ≡ run_result broken)
  ServesOn limits old new (Err fault) result = (new ≡ old) × (result ≡ Err (Store fault))

  -- after a run that ended otherwise, or where nothing takes the store's place, nothing follows;
  -- where the store is broken, what takes its place is opened, and the connections served on
  abbrev pub FollowsRun : Limits → (broken : Bool) → Option Successor → (old new : Stage known C E)
      → Result (Unit {0}) ProgramFault → Type 0
  FollowsRun limits true (Some next) old new result =
      (middle : Stage known C E) × (reopening : Result (Unit {0}) StoreFault)
      × Reopens known told next old middle reopening
      × ServesOn limits middle new reopening result
  FollowsRun limits broken next old new result = (new ≡ old) × (result ≡ run_result broken)

  -- a run, and what followed it
  pub record ServesThrough (limits : Limits) (next : Option Successor) (old new : Stage known C E)
      (result : Result (Unit {0}) ProgramFault) : Type 0 where
    pub behind : ServingLoop known C E
    pub accepted : ℕ
    pub broken : Bool
    pub run : ServesRun known gave told limits old.loop behind accepted broken
    pub follows : FollowsRun (limits_behind limits accepted) broken next
        (record { host = old.host; loop = behind }) new result

  -- it was told that the server begins, and how many records it holds, where events are told;
  -- connections were served that came from a source, from when there was none
  pub record ServesMany (settings : SettingsValues) (count : ℕ) (source : known.Source)
      (old new : Serving known.Host known.Archive C E) (result : Result (Unit {0}) ProgramFault)
      : Type 0 where
    pub between : known.Archive
    pub records : Option ℕ
    pub first : ServingLoop known C E
    pub last : ServingLoop known C E
    pub counts : CountsRecords known.held settings.events old.archive between records
    pub begins : IsAround known (record old { archive = between }) first
    pub ends : IsAround known new last
    pub said : last.world.log.errors ≡ new.errors
    pub settings_are : first.world.server.settings ≡ settings
    pub from : first.source ≡ source
    pub starts : LogsStart told gave settings records
        (fresh_log first.world.server.alloc settings.events old.clock old.errors) first.world.log
    pub logins : first.world.logins ≡ no_refusals (refusals_kept settings.logins)
    pub calls : first.world.calls ≡ map uncalled settings.peers
    pub connections : first.world.connections ≡ 0
    pub restoring : first.world.restoring ≡ false
    pub peers_from : IsFrom (networks_at settings) first.world.from
    pub free : AreAllFree first.slots
    pub served : ServesThrough (limits_of settings count) (successor_of settings)
        (record { host = old.host; loop = first }) (record { host = new.host; loop = last }) result
