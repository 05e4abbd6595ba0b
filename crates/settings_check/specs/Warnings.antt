-- Where settings are lawful and unwise, a warning a line.
use Rattle.std.specs.Prelude.{ℕ, Bool, true, false, not, ◌&&◌, ◌||◌, nat_eq, nat_lt, List, [], ◌∷◌, ◌++◌, length, codes, is_none, if◌then◌else◌}
use Rattle.std.specs.Option.{option_map_or}
use Rattle.std.specs.List.{list_any, flat_map}
use Rattle.std.specs.Cmp.Lexicographic.{pointwise}
use Rattle.ua_session.specs.Users.{Allowed}
use Rattle.ua_session.specs.declared.identity.Access.TheVariants.{Read, Write}
use Rattle.ua_settings.specs.declared.peers.PeerCall.{PeerCall}
use Rattle.ua_settings.specs.Settings.{SettingsValues}
use Rattle.history_report.specs.Tables.{legible}
use Rattle.settings_check.specs.Texts.{begins_with}

-- a warning of these words, where one is given
abbrev pub warned : (given : Bool) → List ℕ → List (List ℕ)
warned given words = if given then (codes "warning: " ++ words) ∷ [] else []

-- ---- what is asked

-- the address is one that this machine alone reaches
abbrev pub is_local : List ℕ → Bool
is_local address =
    begins_with address (codes "localhost") || begins_with address (codes "127.")
    || begins_with address (codes "[::1]")

-- the URL names such an address
abbrev pub is_local_url : List ℕ → Bool
is_local_url url =
    begins_with url (codes "opc.tcp://localhost") || begins_with url (codes "opc.tcp://127.")
    || begins_with url (codes "opc.tcp://[::1]")

-- who gives no name may write
abbrev pub anonymous_writes : Allowed → Bool
anonymous_writes users =
    users.anonymous && elim users.anonymous_access [ Write ↦ true | Read ↦ false ]

-- the address is one at which this server listens itself, for clients or for peers
abbrev pub is_own : SettingsValues → List ℕ → Bool
is_own s address =
    pointwise nat_eq address s.listen
    || option_map_or (λ door. pointwise nat_eq address door.listen) s.door false

-- ---- warnings

-- the URL isn't one of OPC UA over TCP
abbrev pub scheme_warning : SettingsValues → List (List ℕ)
scheme_warning s =
    warned (not (begins_with s.url (codes "opc.tcp://")))
    (codes "url doesn't begin with opc.tcp://, so clients can't use what they are told")

-- clients elsewhere are told a URL by which they reach themselves
abbrev pub local_warning : SettingsValues → List (List ℕ)
local_warning s =
    warned (is_local_url s.url && not (is_local s.listen))
    (codes "url names this machine alone, so clients elsewhere can't use what they are told")

-- nobody may write: there is no user with a name, and who gives none may not
abbrev pub nobody_warning : SettingsValues → List (List ℕ)
nobody_warning s =
    warned (not (nat_lt 0 (length s.users.named)) && not (anonymous_writes s.users))
    (codes "nobody may write: there are no users with a name, and others may not")

-- who gives no name may write
abbrev pub anonymous_warning : SettingsValues → List (List ℕ)
anonymous_warning s =
    warned (anonymous_writes s.users) (codes "who gives no name may write")

-- who reaches the address of clients can exchange records
abbrev pub door_warning : SettingsValues → List (List ℕ)
door_warning s =
    warned (is_none s.door && not (is_local s.listen))
    (codes "there is no [door], so whoever reaches the clients' address can exchange records")

-- browsers elsewhere send names and passwords as they are
abbrev pub web_warning : SettingsValues → List (List ℕ)
web_warning s =
    warned (nat_lt 0 (length s.users.named)
    && option_map_or (λ web. not (is_local web.listen)) s.web false)
    (codes "browsers send passwords unencrypted: have a proxy with TLS in front of [web]")

-- any number of passwords may be tried
abbrev pub logins_warning : SettingsValues → List (List ℕ)
logins_warning s =
    warned (nat_lt 0 (length s.users.named) && is_none s.logins)
    (codes "there is no [server] logins, so any number of passwords may be tried")

-- the store's path is taken from the folder in which the program is started
abbrev pub path_warning : SettingsValues → List (List ℕ)
path_warning s =
    warned (option_map_or (λ path. not (begins_with path (codes "/"))) s.store false)
    (codes "the store's path is relative: from another folder it makes a new, empty archive")

-- a peer has the address of one of those after it
abbrev pub repeated_warning : PeerCall → (behind : List PeerCall) → List (List ℕ)
repeated_warning peer behind =
    warned (list_any (λ other. pointwise nat_eq other.address peer.address) behind)
    (codes "two peers have the address " ++ legible peer.address)

-- a warning for each peer whose address one of those after it has
abbrev pub repeated_warnings : List PeerCall → List (List ℕ)
repeated_warnings [] = []
repeated_warnings (peer ∷ peers) = repeated_warning peer peers ++ repeated_warnings peers

-- the server calls itself
abbrev pub own_warning : SettingsValues → PeerCall → List (List ℕ)
own_warning s peer =
    warned (is_own s peer.address)
    (codes "a peer has this server's own address " ++ legible peer.address)

-- the same of each peer
abbrev pub own_warnings : SettingsValues → List PeerCall → List (List ℕ)
own_warnings s peers = flat_map (own_warning s) peers

-- where settings are lawful and unwise
abbrev pub warnings : SettingsValues → List (List ℕ)
warnings s =
    scheme_warning s ++ local_warning s ++ nobody_warning s ++ anonymous_warning s
    ++ door_warning s ++ web_warning s ++ logins_warning s ++ path_warning s
    ++ repeated_warnings s.peers ++ own_warnings s s.peers
