-- Numbers that were given twice, which a call of a peer looks for where the settings say so.
use Rattle.std.specs.Prelude.{◌≡◌, ◌==◌, ◌&&◌, ℕ, Bool, true, false, not, List, Option, None, Some, Result, Ok, Err, slice_get}
use Rattle.std.specs.Option.{option_map_or}
use Rattle.archive.specs.Store.{Store}
use Rattle.exchange.specs.Dialogs.{party_of}
use Rattle.exchange.specs.declared.fault.ExchangeFault.{ExchangeFault}
use Rattle.exchange.specs.declared.fault.ExchangeFault.TheVariants.{GivenTwice}
use Rattle.multiplex.specs.declared.stay.Party.{Party}
use Rattle.multiplex.specs.declared.stay.Party.TheVariants.{Accepted, Called}
use Rattle.peer_check.specs.Beginning.{first_brought, Compares}
use Rattle.peer_check.specs.declared.comparing.Clash.{Clash}
use Rattle.ua_settings.specs.Settings.{SettingsValues}
use Rattle.conversation.specs.declared.other_end.PeerDialog.{PeerDialog}
use Rattle.conversation.specs.declared.world.World.{World}
use Rattle.conversation.specs.Events.{Telling, ClashFound}

-- calls of the peer of this number in the settings look for numbers that were given twice
abbrev pub checks_callee : SettingsValues → (callee : ℕ) → Bool
checks_callee settings callee =
    option_map_or (λ peer. peer.checks) (slice_get settings.peers callee) false

-- the records of the frame that stands first are compared: by a call that looks for such, while no
-- frame of it was taken and no record learned
abbrev pub compares_first : SettingsValues → Party → PeerDialog → Bool
compares_first settings party peer = elim party [
  | Called callee ↦
      checks_callee settings callee && (not peer.is_heard && (peer.dialog.learned == 0))
  | Accepted origin ↦ false
]

-- where they are, this was found; else the archive stays as it is
abbrev pub ComparesFirst : {A : Type 0} → (A → Store) → (compares : Bool) → (waiting : List ℕ)
    → (old new : A) → Result (Option Clash) ExchangeFault → Type 0
ComparesFirst state true waiting old new found =
    Compares state (first_brought (party_of (state old)) waiting) old new found
ComparesFirst state false waiting old new found = (new ≡ old) × (found ≡ Ok None)

-- why the call ends then, if it does: a number was given to two records, or this fault was met
abbrev pub comparing_fault : Result (Option Clash) ExchangeFault → Option ExchangeFault
comparing_fault found = elim found [
  | Ok None ↦ None
  | Ok (Some clash) ↦ Some GivenTwice
  | Err fault ↦ Some fault
]

-- a log was told of the two records that a call found, if it found any
abbrev pub LogsClash : {L : Type 0} → Telling L → Party → Result (Option Clash) ExchangeFault
    → L → L → Type 0
LogsClash told (Called callee) (Ok (Some clash)) old new = told old (ClashFound callee clash) new
LogsClash told party found old new = new ≡ old

-- a call compared the first frame, where it does, and found no such number: its archive may have
-- been asked, and all else stays
abbrev pub FindsNone : {A C L : Type 0} → (A → Store) → Party → PeerDialog
    → (v w : World A C L) → Type 0
FindsNone state party peer v w =
    (w ≡ record v { server = record v.server { replica = w.server.replica } })
    × ComparesFirst state (compares_first v.server.settings party peer) peer.frames.waiting
    v.server.replica.archive w.server.replica.archive (Ok None)
