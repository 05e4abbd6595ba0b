-- Where a server listens, from where it takes peers, and whom it calls, as its settings say.
use Rattle.std.specs.Prelude.{◌≡◌, ℕ, ◌+◌, List, [], ◌∷◌, Option, None, Some, option_map, option_and_then, slice_get, take}
use Rattle.std.specs.Net.Grammar.{IsSocketText}
use Rattle.std.specs.declared.net.socket_addr.SocketAddr.{SocketAddr}
use Rattle.ua_settings.specs.declared.peers.PeerCall.{PeerCall}
use Rattle.ua_settings.specs.declared.web.WebSettings.{WebSettings}
use Rattle.ua_settings.specs.Settings.{SettingsValues}
use Rattle.conversation.specs.Networks.{IsNetworkText, IsNoNetwork}
use Rattle.conversation.specs.declared.networks.Network.{Network}
use Rattle.conversation.specs.declared.door.Door.{Door}
use Rattle.conversation.specs.declared.door.Door.TheVariants.{Both, Clients, Peers, Browsers}
use Rattle.ua_server.specs.declared.listening.Callee.{Callee}
use Rattle.ua_server.specs.declared.listening.WebDoor.{WebDoor}
use Rattle.ua_server.specs.declared.listening.Listening.{Listening}
use Rattle.ua_server.specs.declared.program.ProgramFault.{ProgramFault}
use Rattle.ua_server.specs.declared.program.ProgramFault.TheVariants.{Address, DoorAddress, DoorNetwork, PeerAddress, WebAddress}

-- a text spells no address
abbrev pub IsNoAddress : List ℕ → Type 0
IsNoAddress text = (address : SocketAddr) → IsSocketText text address → ⊥

-- the address where peers alone come to, where the settings have one
abbrev pub IsDoorAddress : Option (List ℕ) → Option SocketAddr → Type 0
IsDoorAddress None address = address ≡ None
IsDoorAddress (Some text) (Some address) = IsSocketText text address
IsDoorAddress (Some text) None = ⊥

-- where browsers come to, and how many of their connections are taken at a time, where the settings
-- say
abbrev pub IsWebDoor : Option WebSettings → Option WebDoor → Type 0
IsWebDoor None door = door ≡ None
IsWebDoor (Some web) (Some door) =
    IsSocketText web.listen door.address × (door.connections ≡ web.connections)
IsWebDoor (Some web) None = ⊥

-- each of these peers, in order, with the address that its text spells
abbrev pub AreCallees : List PeerCall → List Callee → Type 0
AreCallees [] [] = Unit {0}
AreCallees (peer ∷ peers) (callee ∷ callees) =
    IsSocketText peer.address callee.address × (callee.every ≡ peer.every)
    × AreCallees peers callees
AreCallees peers callees = ⊥

-- the address where peers alone come to, as the settings spell it
abbrev pub listen_at : SettingsValues → Option (List ℕ)
listen_at settings = option_map (λ door. door.listen) settings.door

-- the networks from which peers are taken there, as the settings spell them
abbrev pub networks_at : SettingsValues → Option (List (List ℕ))
networks_at settings = option_and_then (λ door. door.from) settings.door

-- each of these networks, in order, as its text spells it
abbrev pub AreNetworks : List (List ℕ) → List Network → Type 0
AreNetworks [] [] = Unit {0}
AreNetworks (text ∷ texts) (network ∷ networks) =
    IsNetworkText text network × AreNetworks texts networks
AreNetworks texts networks = ⊥

-- from where peers are taken, where the settings say
abbrev pub IsFrom : Option (List (List ℕ)) → Option (List Network) → Type 0
IsFrom None from = from ≡ None
IsFrom (Some texts) (Some networks) = AreNetworks texts networks
IsFrom (Some texts) None = ⊥

-- where a server listens, from where it takes peers, where browsers come to, whom it calls, and how
-- many may come at a time
pub record IsListening (settings : SettingsValues) (listening : Listening) : Type 0 where
  pub clients : IsSocketText settings.listen listening.clients
  pub peers : IsDoorAddress (listen_at settings) listening.peers
  pub from : IsFrom (networks_at settings) listening.from
  pub browsers : IsWebDoor settings.web listening.browsers
  pub callees : AreCallees settings.peers listening.callees.items
  pub connections : listening.connections ≡ settings.connections

-- the first peer whose address is none has this number, from 1
abbrev pub IsWrongPeer : List PeerCall → (number : ℕ) → Type 0
IsWrongPeer peers number =
    (place : ℕ) × (peer : PeerCall) × (number ≡ place + 1) × (slice_get peers place ≡ Some peer)
    × IsNoAddress peer.address × ((before : List Callee) × AreCallees (take place peers) before)

-- the address where peers alone come to is none
abbrev pub IsNoDoor : Option (List ℕ) → Type 0
IsNoDoor None = ⊥
IsNoDoor (Some text) = IsNoAddress text

-- the address where browsers come to is none
abbrev pub IsNoWeb : Option WebSettings → Type 0
IsNoWeb None = ⊥
IsNoWeb (Some web) = IsNoAddress web.listen

-- the first network that is none has this number, from 1
abbrev pub IsWrongNetwork : List (List ℕ) → (number : ℕ) → Type 0
IsWrongNetwork texts number =
    (place : ℕ) × (text : List ℕ) × (number ≡ place + 1) × (slice_get texts place ≡ Some text)
    × IsNoNetwork text × ((before : List Network) × AreNetworks (take place texts) before)

-- a network from which peers are to be taken is none, as this fault tells
abbrev pub IsNoNetworkAt : Option (List (List ℕ)) → ProgramFault → Type 0
IsNoNetworkAt None fault = ⊥
IsNoNetworkAt (Some texts) fault =
    (number : ℕ) × (fault ≡ DoorNetwork number) × IsWrongNetwork texts number

-- the address where clients come to is one
abbrev pub HasListen : SettingsValues → Type 0
HasListen settings = (address : SocketAddr) × IsSocketText settings.listen address

-- the address where peers come to is one, if the settings have one
abbrev pub HasDoor : SettingsValues → Type 0
HasDoor settings = (door : Option SocketAddr) × IsDoorAddress (listen_at settings) door

-- the networks from which peers are taken are such, if the settings have some
abbrev pub HasFrom : SettingsValues → Type 0
HasFrom settings = (from : Option (List Network)) × IsFrom (networks_at settings) from

-- the addresses of the peers that are called are such
abbrev pub HasCallees : SettingsValues → Type 0
HasCallees settings = (callees : List Callee) × AreCallees settings.peers callees

-- the fault tells the first text of the settings that is to spell an address or a network and
-- spells none: where clients come to before where peers do, from where these are taken after it,
-- then the peers that are called, and then where browsers come to
abbrev pub HasNoAddress : SettingsValues → ProgramFault → Type 0
HasNoAddress settings fault = elim fault [
  | Address ↦ IsNoAddress settings.listen
  | DoorAddress ↦ HasListen settings × IsNoDoor (listen_at settings)
  | DoorNetwork number ↦ HasListen settings × HasDoor settings
      × IsNoNetworkAt (networks_at settings) (DoorNetwork number)
  | PeerAddress number ↦ HasListen settings × HasDoor settings × HasFrom settings
      × IsWrongPeer settings.peers number
  | WebAddress ↦ HasListen settings × HasDoor settings × HasFrom settings × HasCallees settings
      × IsNoWeb settings.web
  | _ ↦ ⊥
]

-- what is told where a door's address can't be listened at
abbrev pub door_fault : Door → ProgramFault
door_fault door = elim door [
  | Both ↦ Address
  | Clients ↦ Address
  | Peers ↦ DoorAddress
  | Browsers ↦ WebAddress
]
