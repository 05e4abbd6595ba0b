-- A dialog with a peer that is called.
use Rattle.std.specs.Prelude.{◌≡◌, ◌⊎◌, ℕ, ◌-◌, List, [], length, true, false, Option, None, Result, Ok, Err, IfOk}
use Rattle.std.specs.Io.KnownBytes.{Appends, Consumes}
use Rattle.archive.specs.Store.{Store}
use Rattle.exchange.specs.declared.fault.ExchangeFault.{ExchangeFault}
use Rattle.exchange.specs.declared.fault.ExchangeFault.TheVariants.{Frame}
use Rattle.exchange.specs.declared.message.State.TheVariants.{Pulling}
use Rattle.exchange.specs.Dialogs.{asking_frame, DialogState, party_of, Greets, capped}
use Rattle.counted_io.specs.declared.fault.ServeFault.{ServeFault}
use Rattle.counted_io.specs.declared.fault.ServeFault.TheVariants.{Write}
use Rattle.ua_peers.specs.declared.peers.PeerEnded.{PeerEnded}
use Rattle.ua_peers.specs.declared.peers.PeerEnded.TheVariants as parted
use Rattle.ua_peers.specs.declared.calling.Synced.{Synced}
use Rattle.ua_peers.specs.declared.calling.SyncFault.{SyncFault}
use Rattle.ua_peers.specs.declared.calling.SyncFault.TheVariants.{Connection, Exchange, Peer}
use Rattle.counted_io.specs.Bytes.{AppendsPart}
use Rattle.ua_peers.specs.Peers.{MeetsTo}

-- the end that begins, once its first frame is written
abbrev pub calling : DialogState
calling = record { state = Pulling; taken = 0; code = None; started = true; learned = 0; sent = 0 }

-- what the end of the dialog is to the one that called, where its end stands so at last; an input
-- that is over before is a frame that can't be read
abbrev pub synced_by : DialogState → Result PeerEnded ServeFault → Result Synced SyncFault
synced_by last ending =
    elim ending [
      | Ok parted.EndOfInput ↦ Err (Exchange Frame)
      | Ok parted.Done ↦ Ok (record { learned = last.learned; sent = last.sent })
      | Ok (parted.Refused n) ↦ Err (Peer n)
      | Ok (parted.Failed fault) ↦ Err (Exchange fault)
      | Err fault ↦ Err (Connection fault)
    ]

-- the first frame was written, and the dialog went on behind it
pub record OpensDialog (old new : Store) (unread left before after : Option (List ℕ))
    (result : Result Synced SyncFault) : Type 0 where
  pub frame : List ℕ
  pub is : new.honest → frame ≡ asking_frame (party_of old) old.content
  pub between : Option (List ℕ)
  pub written : Appends before between frame
  pub ending : Result PeerEnded ServeFault
  pub last : DialogState
  pub told : result ≡ synced_by last ending
  pub meets : MeetsTo calling old new [] unread left between after ending last

-- the first frame could not be made, and nothing was read or written
abbrev pub CannotGreet : (old new : Store) → (unread left before after : Option (List ℕ))
    → Result Synced SyncFault → Type 0
CannotGreet old new unread left before after result = record {
  fault : ExchangeFault;
  told : result ≡ Err (Exchange fault);
  greets : Greets old new [] [] (Err fault);
  read : Consumes unread left [];
  written : Appends before after [];
}

-- a first part of it was written, and nothing was read
abbrev pub BreaksGreeting : (old new : Store) → (unread left before after : Option (List ℕ))
    → Result Synced SyncFault → Type 0
BreaksGreeting old new unread left before after result = record {
  frame : List ℕ;
  told : result ≡ Err (Connection Write);
  greets : Greets old new [] frame (Ok tt);
  read : Consumes unread left [];
  written : AppendsPart before after frame;
}

-- a peer was called so: the first frame could not be made, or wasn't written, or the dialog went on
-- behind it
abbrev pub Syncs : (old new : Store) → (unread left before after : Option (List ℕ))
    → Result Synced SyncFault → Type 0
Syncs old new unread left before after result =
    CannotGreet old new unread left before after result
    ⊎ (BreaksGreeting old new unread left before after result
    ⊎ OpensDialog old new unread left before after result)

-- a call that came to its end told how many records more are held
abbrev pub Adds : Store → Store → Result Synced SyncFault → Type 0
Adds old new result =
    new.honest → old.broken ≡ false
    → IfOk result (λ synced. synced.learned ≡ capped (length new.content - length old.content))
