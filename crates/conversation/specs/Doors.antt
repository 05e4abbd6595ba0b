-- Who is taken on a connection, by where it came to.
use Rattle.std.specs.Prelude.{ℕ, ◌==◌, Bool, true, false, not, ◌||◌, List, codes, Option, None, Some, if◌then◌else◌}
use Rattle.exchange.specs.Frames.{begins}
use Rattle.multiplex.specs.declared.stay.Origin.{Origin}
use Rattle.ua_settings.specs.Settings.{SettingsValues}
use Rattle.conversation.specs.declared.door.Door.{Door}
use Rattle.conversation.specs.declared.door.Door.TheVariants.{Both, Clients, Peers, Browsers}
use Rattle.conversation.specs.declared.networks.Network.{Network}
use Rattle.conversation.specs.Networks.{is_taken}

-- who is taken at the listener of this number
abbrev pub door_of_listener : ℕ → Door
door_of_listener listener =
    if listener == 1 then Clients else if listener == 2 then Peers
    else if listener == 3 then Browsers else Both

-- the number of the listener that takes these
abbrev pub listener_of : Door → ℕ
listener_of door = elim door [ Both ↦ 0 | Clients ↦ 1 | Peers ↦ 2 | Browsers ↦ 3 ]

-- who is taken at the address of `[server] listen`: clients alone where peers have an address of
-- their own, else peers too
abbrev pub clients_door : SettingsValues → Door
clients_door settings = elim settings.door [ None ↦ Both | Some address ↦ Clients ]

-- a connection that begins with these bytes is a peer's: where both are taken, by the letters of a
-- frame that asks or brings
abbrev pub is_peers : Door → List ℕ → Bool
is_peers door came = elim door [
  | Both ↦ begins came (codes "RXV") || begins came (codes "RXD")
  | Clients ↦ false
  | Peers ↦ true
  | Browsers ↦ false
]

-- a connection came to the door of peers from where none is taken
abbrev pub is_stranger : (from : Option (List Network)) → Origin → Bool
is_stranger from origin =
    elim (door_of_listener origin.listener) [
      | Peers ↦ not (is_taken from origin.address)
      | _ ↦ false
    ]
