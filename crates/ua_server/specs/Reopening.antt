-- A store that broke, and what takes its place.
use Rattle.std.specs.Prelude.{◌≡◌, ◌⊎◌, Bool, true, false, List, ℕ, codes, Option, Some, None, option_and_then, Result, Ok, Err, IfOk}
use Rattle.std.specs.Result.{result_unwrap_or}
use Rattle.archive.specs.declared.fault.StoreFault.{StoreFault}
use Rattle.archive.specs.Beginning.{HoldsNothing}
use Rattle.archive.specs.Store.{Store}
use Rattle.conversation.specs.declared.world.World.{World}
use Rattle.ua_settings.specs.declared.after_break.AfterBreak.TheVariants.{GoOn, Stop, Reopen}
use Rattle.ua_settings.specs.Settings.{SettingsValues}
use Rattle.ua_server.specs.declared.log.ErrorLog.{ErrorLog}
use Rattle.ua_server.specs.declared.reopening.StoreFile.{StoreFile}
use Rattle.ua_server.specs.declared.reopening.Successor.{Successor}
use Rattle.ua_server.specs.declared.reopening.Successor.TheVariants.{File, Broken}
use Rattle.ua_server.specs.declared.host.StoreTerms.{StoreTerms}
use Rattle.ua_server.specs.Host.{Machine, KnownMachine, store_terms}
use Rattle.ua_server.specs.Network.{ServingLoop}
use Rattle.ua_server.specs.Telling.{Known, LogsLine, told_line}

-- the file at a path, as the store of these settings
abbrev pub file_at : SettingsValues → (path : List ℕ) → StoreFile
file_at settings path = record { path = path; terms = store_terms settings }

-- a broken archive, where events are told: they tell why the file broke that it was in
abbrev pub broken_where : (events : Bool) → StoreTerms → Option Successor
broken_where events terms = elim events [ true ↦ Some (Broken terms) | false ↦ None ]

-- what takes the place of the file at a path once it is broken: the file, opened anew, if the
-- settings say so; or, where it is served on, an archive that is broken
abbrev pub successor_at : SettingsValues → (path : List ℕ) → Option Successor
successor_at settings path =
    elim settings.after_break [
      | Reopen ↦ Some (File (file_at settings path))
      | GoOn ↦ broken_where settings.events (store_terms settings)
      | Stop ↦ None
    ]

-- what takes the place of a broken store, if anything does
abbrev pub successor_of : SettingsValues → Option Successor
successor_of settings = option_and_then (successor_at settings) settings.store

-- by which terms it is opened
abbrev pub terms_of : Successor → StoreTerms
terms_of next = elim next [ File file ↦ file.terms | Broken terms ↦ terms ]

-- what takes the place of a broken store was opened: of an archive that is broken it is known
abbrev pub OpensNext : {H A L R W I : Type 0} → Machine H A L R W I → (A → Store) → Successor
    → (old : H) → Result A StoreFault → (new : H) → Type 0
OpensNext machine held next old opening new = elim next [
  | File file ↦ machine.opens old file.path file.terms opening new
  | Broken terms ↦ machine.opens_broken old terms opening new
      × IfOk opening (λ archive. (held archive).broken ≡ true)
]

-- a machine, and an archive of it
abbrev pub Keeping : (H A : Type 0) → Type 0
Keeping H A = record { host : H; archive : A }

-- a broken archive was closed, and then what takes its place was opened; an archive in memory that
-- holds nothing took it meanwhile, and keeps it where that is refused
pub record OpensAnew (known : KnownMachine) (next : Successor)
    (old new : Keeping known.Host known.Archive) (opening : Result known.Archive StoreFault)
    : Type 0 where
  pub stand_in : known.Archive
  pub closed : known.Host
  pub empty : HoldsNothing (terms_of next).archive (terms_of next).replica (known.held stand_in)
  pub closes : known.machine.closes old.host old.archive closed
  pub opens : OpensNext known.machine known.held next closed opening new.host
  pub placed : new.archive ≡ result_unwrap_or opening stand_in

-- no archive in memory could be had to take the place of a broken one, and nothing was done
abbrev pub LacksStandIn : (known : KnownMachine) → Successor → StoreFault
    → (old new : Keeping known.Host known.Archive) → Type 0
LacksStandIn known next fault old new =
    known.machine.opens_in_memory old.host (terms_of next) (Err fault) × (new ≡ old)

-- what takes the place of a broken archive was opened; or it was refused, or nothing was done
abbrev pub TriesAnew : (known : KnownMachine) → Successor
    → (old new : Keeping known.Host known.Archive) → Result (Unit {0}) StoreFault → Type 0
TriesAnew known next old new (Ok done) =
    (archive : known.Archive) × OpensAnew known next old new (Ok archive)
TriesAnew known next old new (Err fault) =
    OpensAnew known next old new (Err fault) ⊎ LacksStandIn known next fault old new

-- what is told where a store was opened anew
abbrev pub reopened_text : List ℕ
reopened_text = codes "store broken, opened anew"

-- that a store was opened anew was told by a line; where an archive that is broken took its place,
-- it is kept in mind that it was told why it broke, as the machine did when it had closed the file
abbrev pub LogsSuccessor : {E C : Type 0} → Known E → Successor → (old new : ErrorLog E C) → Type 0
LogsSuccessor told next old new = elim next [
  | File file ↦ (new ≡ record old { errors = new.errors })
      × LogsLine told old.errors new.errors (told_line reopened_text)
  | Broken terms ↦ new ≡ record old { is_cause_told = true }
]

-- that was done; that what takes a store's place was refused is told at the run's end
abbrev pub LogsReopening : {E C : Type 0} → Known E → Successor → Result (Unit {0}) StoreFault
    → (old new : ErrorLog E C) → Type 0
LogsReopening told next (Ok done) old new = LogsSuccessor told next old new
LogsReopening told next (Err fault) old new = new ≡ old

-- a world with this archive and this log in place of its own
abbrev pub with_archive : {A C L : Type 0} → World A C L → A → L → World A C L
with_archive world archive log = record world {
  server = record world.server { replica = record world.server.replica { archive = archive } };
  log = log;
}

-- a machine, and the loop that serves over an archive of it
abbrev pub Stage : KnownMachine → (C E : Type 0) → Type 0
Stage known C E = record { host : known.Host; loop : ServingLoop known C E }

-- the archive of a stage, and its machine
abbrev pub keeping_of : {C E : Type 0} → (known : KnownMachine) → Stage known C E
    → Keeping known.Host known.Archive
keeping_of known stage =
    record { host = stage.host; archive = stage.loop.world.server.replica.archive }

-- between two turns what takes the place of a broken store was opened, and of a file that is told;
-- or it was refused, which is told at the run's end; each connection, and all else, stays
pub record Reopens {C E : Type 0} (known : KnownMachine) (told : Known E) (next : Successor)
    (old new : Stage known C E) (result : Result (Unit {0}) StoreFault) : Type 0 where
  pub tries : TriesAnew known next (keeping_of known old) (keeping_of known new) result
  pub tells : LogsReopening told next result old.loop.world.log new.loop.world.log
  pub others : new.loop ≡ record old.loop {
    world = with_archive old.loop.world new.loop.world.server.replica.archive
        new.loop.world.log;
  }
