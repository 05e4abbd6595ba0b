-- Names for parts of the definitions in specs/Either, for the lemmas on these parts.
use Rattle.std.specs.Prelude.{◌≡◌, ◌⊎◌, ℕ, ◌<◌, ◌≤◌, Bool, true, false, List, [], length, Option, Result}
use Rattle.std.specs.Result.{result_map_both}
use Rattle.std.specs.Io.KnownBytes.{Consumes, IsAtEnd}
use Rattle.archive.specs.Store.{Store}
use Rattle.ua_settings.specs.Settings.{SettingsValues}
use Rattle.counted_io.specs.declared.fault.ServeFault.{ServeFault}
use Rattle.ua_peers.specs.declared.peers.PeerEnded.{PeerEnded}
use Rattle.ua_peers.specs.Peers.{MeetsBehind, responding}
use Rattle.ua_connection.specs.Client.{Ending as ClientEnding}
use Rattle.ua_connection.specs.Environments.{Environment}
use Rattle.ua_connection.specs.Serving.{ServesBehind}
use Rattle.ua_server.specs.Either.{ConnectionEnding, end_of_client, end_of_peer}

-- three bytes were read, or all where there are fewer
abbrev pub AreFirst : (unread left : Option (List ℕ)) → List ℕ → Type 0
AreFirst unread left first = Consumes unread left first × (length first ≤ 3)
    × (length first < 3 → IsAtEnd left)

-- behind these bytes a dialog with a peer was had, as the end that answers; or a client was served
abbrev pub GoesAs : (peers : Bool) → SettingsValues → (old new : Store) → (first : List ℕ)
    → (unread left before after : Option (List ℕ)) → Environment → ConnectionEnding → Type 0
GoesAs peers settings old new first unread left before after used ending =
    ((peers ≡ true) × ((parted : Result PeerEnded ServeFault)
    × (ending ≡ result_map_both end_of_peer (λ fault. fault) parted)
    × (used ≡ record { marks = []; readings = [] })
    × MeetsBehind responding old new first unread left before after parted))
    ⊎ ((peers ≡ false) × ((served : ClientEnding)
    × (ending ≡ result_map_both end_of_client (λ fault. fault) served)
    × ServesBehind settings old new first unread left before after used served))
