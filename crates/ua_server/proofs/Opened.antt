-- What the clauses of an opening and of a call of a peer need (open_server, sync_over in program.rt).
use Rattle.std.proofs.Common.{◌≡◌, ℕ, List, Option, None, Err, subst, sym}
use Rattle.std.specs.Prelude.{Result}
use Rattle.counted_io.specs.declared.fault.ServeFault.TheVariants.{Read, Write}
use Rattle.ua_peers.specs.declared.calling.Synced.{Synced}
use Rattle.ua_peers.specs.declared.calling.SyncFault.TheVariants as sync
use Rattle.counted_io.specs.Bytes.{counted}
use Rattle.counted_io.specs.Tally.{Tally}
use Rattle.ua_server.specs.Host.{KnownMachine}
use Rattle.ua_server.proofs.Networks.{has-counted}
use Rattle.std.specs.Result.{result_map_both}
use Rattle.archive.specs.Store.{Store}
use Rattle.archive.specs.declared.fault.StoreFault.{StoreFault}
use Rattle.ua_settings.specs.Settings.{SettingsValues}
use Rattle.ua_server.specs.Host.{Machine}
use Rattle.ua_server.specs.Program.{OpensArchive, OpensUnless, ExchangesOver}
use Rattle.peer_check.specs.declared.comparing.Extent.{Extent}
use Rattle.ua_server.specs.Calls.{Exchanges}
use Rattle.ua_server.specs.declared.calls.CallFault.{CallFault}
use Rattle.ua_server.specs.declared.calls.CallFault.TheVariants as call
use Rattle.ua_server.specs.declared.program.ProgramFault.{ProgramFault}
use Rattle.ua_server.specs.declared.program.ProgramFault.TheVariants as program
use Rattle.ua_server.specs.declared.program.StoreUse.{StoreUse}

-- a command isn't refused by its settings, and their archive was opened, or can't be
pub opened-unrefused : {H A L R W I : Type 0} (machine : Machine H A L R W I) (held : A → Store)
    (uses : StoreUse) (refusal : Option ProgramFault) (settings : SettingsValues)
    (result : Result (SettingsValues × A) ProgramFault) (old new : H)
    (opening : Result A StoreFault) → refusal ≡ None
    → OpensArchive machine held uses settings settings.store opening old new
    → result ≡ result_map_both (λ archive. (settings, archive)) program.Store opening
    → OpensUnless machine held uses refusal settings result old new
opened-unrefused machine held uses refusal settings result old new opening none opens is =
    subst (λ why. OpensUnless machine held uses why settings result old new) (sym none)
    (opening, opens, is)

-- records were exchanged over a connection that had no failed call before
pub was-called : (known : KnownMachine) (compared : Option Extent) (first last : known.Archive) (reader : known.Reader)
    (writer : known.Writer) (reader_counted read : Tally known.Reader)
    (writer_counted wrote : Tally known.Writer) (between after : known.Host)
    (old now : Option (List ℕ)) (ending : Result Synced CallFault)
    → reader_counted ≡ record { inner = reader; faults = 0 }
    → writer_counted ≡ record { inner = writer; faults = 0 }
    → Exchanges known.held compared first last (known.unread reader_counted.inner)
    (known.unread read.inner) (known.written writer_counted.inner)
    (known.written wrote.inner) ending
    → (ending ≡ Err (call.Sync (sync.Connection Read)) → read.faults ≡ counted reader_counted.faults)
    → (ending ≡ Err (call.Sync (sync.Connection Write))
    → wrote.faults ≡ counted writer_counted.faults)
    → ((ending ≡ Err (call.Sync (sync.Connection Read)) → ⊥)
    → read.faults ≡ reader_counted.faults)
    → ((ending ≡ Err (call.Sync (sync.Connection Write)) → ⊥)
    → wrote.faults ≡ writer_counted.faults)
    → known.machine.parts between read wrote after
    → ExchangesOver known compared reader writer (record { host = between; archive = first; written = old })
    (record { host = after; archive = last; written = now }) ending
was-called
    known compared first last reader writer reader_counted read writer_counted wrote between after old now
    ending begins opens syncs read_failed write_failed all_read all_written given =
    let R : Tally known.Reader → Type 0 = λ r.
    Exchanges known.held compared first last (known.unread r.inner)
    (known.unread read.inner) (known.written writer) (known.written wrote.inner) ending in
    let W : Tally known.Writer → Type 0 = λ w.
    Exchanges known.held compared first last (known.unread reader_counted.inner)
    (known.unread read.inner) (known.written w.inner) (known.written wrote.inner) ending in (
      read,
      wrote,
      has-counted reader_counted read reader begins read_failed all_read,
      has-counted writer_counted wrote writer opens write_failed all_written,
      (given, subst R begins (subst W opens syncs)),
    )
