-- What a connection is answered, a client's or a peer's.
use Rattle.std.specs.Prelude.{◌≡◌, ℕ, ◌<◌, ◌≤◌, true, false, List, [], length, Option, Result, Err, ◌⊎◌}
use Rattle.std.specs.Result.{result_map_both}
use Rattle.std.specs.Io.KnownBytes.{Consumes, IsAtEnd}
use Rattle.archive.specs.Store.{Store, KeepsContent, CountsFaults}
use Rattle.conversation.specs.Doors.{clients_door, is_peers}
use Rattle.ua_settings.specs.Settings.{SettingsValues}
use Rattle.counted_io.specs.declared.fault.ServeFault.{ServeFault}
use Rattle.counted_io.specs.declared.fault.ServeFault.TheVariants.{Read}
use Rattle.ua_peers.specs.declared.peers.PeerEnded.{PeerEnded}
use Rattle.ua_peers.specs.declared.peers.PeerEnded.TheVariants as peer
use Rattle.ua_connection.specs.declared.outcome.Served.{Served as ClientServed}
use Rattle.ua_connection.specs.declared.outcome.Served.TheVariants as client
use Rattle.ua_connection.specs.Client.{Ending as ClientEnding}
use Rattle.ua_server.specs.declared.either.Served.{Served}
use Rattle.ua_server.specs.declared.either.Served.TheVariants.{EndOfInput, Closed, Refused, Exchanged}
use Rattle.exchange.specs.Fault.{exchange_number}
use Rattle.ua_connection.specs.Environments.{Environment}
use Rattle.ua_peers.specs.Peers.{MeetsBehind, responding}
use Rattle.ua_connection.specs.Serving.{ServesBehind}

-- how a client's connection ended, as that of any connection
abbrev pub end_of_client : ClientServed → Served
end_of_client served =
    elim served [
      | client.EndOfInput ↦ EndOfInput
      | client.Closed ↦ Closed
      | client.Refused code ↦ Refused code.0
    ]

-- how a dialog ended, as the end of any connection; a peer's number and that of a fault met here
-- look alike
abbrev pub end_of_peer : PeerEnded → Served
end_of_peer parted = elim parted [
  | peer.EndOfInput ↦ EndOfInput
  | peer.Done ↦ Exchanged
  | peer.Refused number ↦ Refused number
  | peer.Failed fault ↦ Refused (exchange_number fault)
]

-- how a connection ended, whosever it was
abbrev pub ConnectionEnding : Type 0
ConnectionEnding = Result Served ServeFault

-- a read failed before three bytes were there, nothing was written, and nothing done; nothing of
-- the environment was used
abbrev pub BreaksOff : (old new : Store) → (unread left before after : Option (List ℕ))
    → Environment → ConnectionEnding → Type 0
BreaksOff old new unread left before after used ending =
    (came : List ℕ) × (length came < 3) × Consumes unread left came × (after ≡ before)
    × KeepsContent old new × CountsFaults old new []
    × (used ≡ record { marks = []; readings = [] }) × (ending ≡ Err Read)

-- a dialog with a peer was had, as the end that answers, of which these first bytes were read
-- before; nothing of the environment was used
abbrev pub ServesPeer : (old new : Store) → List ℕ → (unread left before after : Option (List ℕ))
    → Environment → ConnectionEnding → Type 0
ServesPeer old new first unread left before after used ending =
    (parted : Result PeerEnded ServeFault)
    × (ending ≡ result_map_both end_of_peer (λ fault. fault) parted)
    × (used ≡ record { marks = []; readings = [] })
    × MeetsBehind responding old new first unread left before after parted

-- a client was served, of whom these first bytes were read before
abbrev pub ServesClient : SettingsValues → (old new : Store) → List ℕ
    → (unread left before after : Option (List ℕ)) → Environment → ConnectionEnding → Type 0
ServesClient settings old new first unread left before after used ending =
    (served : ClientEnding) × (ending ≡ result_map_both end_of_client (λ fault. fault) served)
    × ServesBehind settings old new first unread left before after used served

-- as its first letters say, a peer or a client was served; a client alone where the settings have a
-- door for peers
abbrev pub GoesAs : SettingsValues → (old new : Store) → List ℕ
    → (unread left before after : Option (List ℕ)) → Environment → ConnectionEnding → Type 0
GoesAs settings old new first unread left before after used ending =
    ((is_peers (clients_door settings) first ≡ true)
    × ServesPeer old new first unread left before after used ending)
    ⊎ ((is_peers (clients_door settings) first ≡ false)
    × ServesClient settings old new first unread left before after used ending)

-- A connection broke off; or three bytes were read, or all where there are fewer, and it went as
-- they say.
abbrev pub ServesEither : SettingsValues → (old new : Store)
    → (unread left before after : Option (List ℕ)) → Environment → ConnectionEnding → Type 0
ServesEither settings old new unread left before after used ending =
    BreaksOff old new unread left before after used ending
    ⊎ ((first : List ℕ) × (between : Option (List ℕ)) × Consumes unread between first
    × (length first ≤ 3) × (length first < 3 → IsAtEnd between)
    × GoesAs settings old new first between left before after used ending)
