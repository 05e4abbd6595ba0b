-- How a call of a peer begins.
use Rattle.std.specs.Prelude.{◌≡◌, ◌⊎◌, ℕ, ℤ, Bool, true, false, List, [], Option, None, Some, Result, Ok, Err}
use Rattle.archive.specs.Store.{Store}
use Rattle.exchange.specs.declared.fault.ExchangeFault.{ExchangeFault}
use Rattle.exchange.specs.declared.fault.ExchangeFault.TheVariants.{OutOfMemory}
use Rattle.exchange.specs.Dialogs.{Greets}
use Rattle.peer_check.specs.Beginning.{GreetsBefore}
use Rattle.ua_peers.specs.declared.calling.SyncFault.TheVariants.{Exchange}
use Rattle.ua_peers.specs.Calling.{calling}
use Rattle.conversation.specs.declared.other_end.OtherEnd.{OtherEnd}
use Rattle.conversation.specs.declared.other_end.OtherEnd.TheVariants.{Peer}
use Rattle.conversation.specs.declared.world.World.{World}
use Rattle.conversation.specs.OtherEnds.{none_moved, peer_at}
use Rattle.conversation.specs.Events.{Telling}
use Rattle.conversation.specs.Closing.{TellsCall}
use Rattle.conversation.specs.Comparing.{checks_callee}

-- the frame that asks was made, or a fault came: it asks for what the caller lacks, or, where the
-- call looks for numbers that were given twice, for the last record of each replica that it holds
-- too
abbrev pub GreetsPeer : (checks : Bool) → (old new : Store) → (frame : List ℕ)
    → Result (Unit {0}) ExchangeFault → Type 0
GreetsPeer false old new frame result = Greets old new [] frame result
GreetsPeer true old new frame result = GreetsBefore old new [] frame result

-- the frame that asks was made, and is to be written; or a fault came, or memory to keep the frame
-- was wanting, and nothing is
abbrev pub AsksPeer : (checks : Bool) → (old new : Store) → (made : List ℕ)
    → Result (Unit {0}) ExchangeFault → Type 0
AsksPeer checks old new made result =
    GreetsPeer checks old new made result
    ⊎ ((frame : List ℕ) × GreetsPeer checks old new frame (Ok tt) × (made ≡ [])
    × (result ≡ Err OutOfMemory))

-- a dialog is begun; or that it can't be is told, as the end of the call
abbrev pub BeginsBy : {A C L : Type 0} → (C → List ℤ → C → Type 0) → Telling L → (callee : ℕ)
    → World A C L → Option OtherEnd → World A C L → Result (Unit {0}) ExchangeFault → Type 0
BeginsBy gave told callee v other w (Ok done) =
    (other ≡ Some (Peer (peer_at calling []))) × (w ≡ v)
BeginsBy gave told callee v other w (Err fault) =
    (other ≡ None) × TellsCall gave told v callee (Err (Exchange fault)) none_moved w

-- a peer is called, as the initiator of a dialog, over an archive; where that can't be, it is told,
-- as the end of the call; what the server is set to stays, and to begin the clock isn't read
pub record StartsCall {A C L : Type 0} (state : A → Store) (gave : C → List ℤ → C → Type 0)
    (told : Telling L) (callee : ℕ) (v : World A C L) (made : List ℕ) (other : Option OtherEnd)
    (w : World A C L) : Type 0 where
  pub between : World A C L
  pub result : Result (Unit {0}) ExchangeFault
  pub settings : between.server.settings ≡ v.server.settings
  pub clock : between.clock ≡ v.clock
  pub log : between.log ≡ v.log
  pub from : between.from ≡ v.from
  pub now : between.now ≡ v.now
  pub logins : between.logins ≡ v.logins
  pub calls : between.calls ≡ v.calls
  pub connections : between.connections ≡ v.connections
  pub restoring : between.restoring ≡ v.restoring
  pub asks : AsksPeer (checks_callee v.server.settings callee) (state v.server.replica.archive)
      (state between.server.replica.archive) made result
  pub begins : BeginsBy gave told callee between other w result
