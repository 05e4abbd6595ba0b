-- A run, and what follows it (`ServesThrough`).
use Rattle.std.proofs.Common.{◌≡◌, ℕ, Bool, true, false, Ok, Err, refl, sym, ap, subst}
use Rattle.std.specs.Prelude.{List, Option, None, Some, Result}
use Rattle.archive.specs.declared.fault.StoreFault.{StoreFault}
use Rattle.multiplex.specs.declared.limits.Limits.{Limits}
use Rattle.multiplex.specs.Slots.{Slot}
use Rattle.multiplex.specs.Turns.{state}
use Rattle.conversation.specs.declared.other_end.OtherEnd.{OtherEnd}
use Rattle.conversation.specs.declared.world.World.{World}
use Rattle.conversation.specs.OtherEnds.{ConversationEnding}
use Rattle.ua_server.specs.declared.log.ErrorLog.{ErrorLog}
use Rattle.ua_server.specs.declared.program.ProgramFault.{ProgramFault}
use Rattle.ua_server.specs.declared.program.ProgramFault.TheVariants.{Store}
use Rattle.ua_server.specs.declared.reopening.Successor.{Successor}
use Rattle.ua_server.specs.Host.{KnownMachine}
use Rattle.ua_server.specs.Network.{ServingLoop}
use Rattle.ua_server.specs.Reopening.{Stage, TriesAnew, LogsReopening, Reopens, with_archive}
use Rattle.ua_server.specs.Serving.{ServesRun, ServesThrough, FollowsRun, limits_behind, run_result}
use Rattle.ua_server.specs.Telling.{Known, Readings}

module _ {C E : Type 0} (known : KnownMachine) (gave : Readings C) (told : Known E)
    (limits : Limits) (file : Option Successor) (old : Stage known C E)
    (behind : ServingLoop known C E) (accepted : ℕ) (over : Bool)
    (run : ServesRun known gave told limits old.loop behind accepted over) where
  -- the stage behind the run
  abbrev pub here : Stage known C E
  here = record { host = old.host; loop = behind }

  -- so it was served, where this follows the run
  through : (broken : Bool) → over ≡ broken → (new : Stage known C E)
      → (result : Result (Unit {0}) ProgramFault)
      → FollowsRun known gave told (limits_behind limits accepted) broken file here new result
      → ServesThrough known gave told limits file old new result
  through broken is new result follows = record {
    behind = behind;
    accepted = accepted;
    broken = broken;
    run = subst (λ (b : Bool). ServesRun known gave told limits old.loop behind accepted b) is run;
    follows = follows;
  }

  -- to the end of each connection
  pub served-whole : over ≡ false → (result : Result (Unit {0}) ProgramFault)
      → result ≡ run_result false → ServesThrough known gave told limits file old here result
  served-whole is result ends = through false is here result (refl, ends)

  -- what follows a run over a store that broke, whose file is this
  follows-with : (given : Option Successor) → file ≡ given → (new : Stage known C E)
      → (result : Result (Unit {0}) ProgramFault)
      → FollowsRun known gave told (limits_behind limits accepted) true given here new result
      → FollowsRun known gave told (limits_behind limits accepted) true file here new result
  follows-with given same new result follows =
      subst (λ (f : Option Successor).
      FollowsRun known gave told (limits_behind limits accepted) true f here new result) (sym same)
      follows

  -- till the store broke, where no file is opened anew
  pub served-broken : over ≡ true → file ≡ None → (result : Result (Unit {0}) ProgramFault)
      → result ≡ run_result true → ServesThrough known gave told limits file old here result
  served-broken is none result ends =
      through true is here result (follows-with None none here result (refl, ends))

  module _ (given : Successor) (same : file ≡ Some given) (is : over ≡ true)
      (middle : Stage known C E) where
    -- till the store broke, whose file was refused
    pub served-refused : (fault : StoreFault) → Reopens known told given here middle (Err fault)
        → ServesThrough known gave told limits file old middle (Err (Store fault))
    served-refused fault reopens =
        through true is middle (Err (Store fault))
        (follows-with (Some given) same middle (Err (Store fault)) (
          middle,
          Err fault,
          reopens,
          (refl, refl),
        ))

    -- and on over the store that was opened anew
    pub served-on : (done : Unit {0}) → Reopens known told given here middle (Ok done)
        → (last : ServingLoop known C E) (more : ℕ) (again : Bool)
        → ServesRun known gave told (limits_behind limits accepted) middle.loop last more again
        → (result : Result (Unit {0}) ProgramFault) → result ≡ run_result again
        → ServesThrough known gave told limits file old (record { host = middle.host; loop = last })
        result
    served-on done reopens last more again second result ends =
        let new : Stage known C E = record { host = middle.host; loop = last } in
        through true is new result
        (follows-with (Some given) same new result (
          middle,
          Ok done,
          reopens,
          (more, again, second, refl, ends),
        ))

-- the store of a loop was opened anew, or refused, in the words of the world
pub reopened : {C E : Type 0} (known : KnownMachine) (told : Known E) (file : Successor)
    (host left : known.Host) (source : known.Source)
    (slots : List (Option (Slot OtherEnd known.ClientReader known.ClientWriter
    ConversationEnding)))
    (v w : World known.Archive C (ErrorLog E C)) (now : ℕ) (result : Result (Unit {0}) StoreFault)
    → TriesAnew known file (record { host = host; archive = v.server.replica.archive })
    (record { host = left; archive = w.server.replica.archive }) result
    → LogsReopening told file result v.log w.log
    → w ≡ with_archive v w.server.replica.archive w.log
    → Reopens known told file (record { host = host; loop = state source slots v now })
    (record { host = left; loop = state source slots w now }) result
reopened {C} {E} known told file host left source slots v w now result tries tells others =
    let at : World known.Archive C (ErrorLog E C) → ServingLoop known C E = λ world.
    state source slots world now in
    record { tries = tries; tells = tells; others = ap at others }
