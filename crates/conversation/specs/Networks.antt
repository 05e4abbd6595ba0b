-- From where peers are taken.
use Rattle.std.specs.Prelude.{◌≡◌, ◌⊎◌, ℕ, ◌==◌, ◌<◌, ◌≤◌, ◌||◌, ◌-◌, ◌/◌, ◌^◌, nat_le, Bool, true, false, List, length, Option, None, Some}
use Rattle.std.specs.List.{list_any, position_or_len, before_first, after_first}
use Rattle.std.specs.Str.Parse.{IsNumeral, digits_value, without_leading_plus}
use Rattle.std.specs.Net.Addr.{ipv4_bits, ipv6_bits}
use Rattle.std.specs.Net.Grammar.{IsIpText}
use Rattle.std.specs.Net.Socket.{socket_ip}
use Rattle.std.specs.declared.net.ip_addr.IpAddr.{IpAddr}
use Rattle.std.specs.declared.net.ip_addr.IpAddr.TheVariants.{V4, V6}
use Rattle.std.specs.declared.net.socket_addr.SocketAddr.{SocketAddr}
use Rattle.conversation.specs.declared.networks.Network.{Network}

-- ---- how a network is spelled

-- how many bits an address has
abbrev pub width : IpAddr → ℕ
width address = elim address [ V4 a ↦ 32 | V6 a ↦ 128 ]

-- a slash
abbrev pub is_slash : ℕ → Bool
is_slash letter = letter == 47

-- a text writes this number, which is below 256, in decimal digits, perhaps after a plus
abbrev pub IsLengthText : List ℕ → ℕ → Type 0
IsLengthText text n =
    IsNumeral 10 (without_leading_plus text) × (n ≡ digits_value 10 (without_leading_plus text))
    × (n < 256)

-- a text writes no such number
abbrev pub IsNoLength : List ℕ → Type 0
IsNoLength text = (n : ℕ) → IsLengthText text n → ⊥

-- a text spells no address
abbrev pub IsNoIp : List ℕ → Type 0
IsNoIp text = (address : IpAddr) → IsIpText text address → ⊥

-- an address alone: the network has no other
abbrev pub IsOneAddress : List ℕ → Network → Type 0
IsOneAddress text network =
    (position_or_len is_slash text ≡ length text) × IsIpText text network.address
    × (network.length ≡ width network.address)

-- an address, a slash, and how many of its bits all have in common
abbrev pub HasLength : List ℕ → Network → Type 0
HasLength text network =
    (position_or_len is_slash text < length text)
    × IsIpText (before_first is_slash text) network.address
    × IsLengthText (after_first is_slash text) network.length
    × (network.length ≤ width network.address)

-- a text spells this network
abbrev pub IsNetworkText : List ℕ → Network → Type 0
IsNetworkText text network = IsOneAddress text network ⊎ HasLength text network

-- a text spells no network
abbrev pub IsNoNetwork : List ℕ → Type 0
IsNoNetwork text = (network : Network) → IsNetworkText text network → ⊥

-- ---- whose addresses are taken

-- two numbers of 128 bits are alike but for their last bits, of which there are so many
abbrev pub is_alike : (last one other : ℕ) → Bool
is_alike last one other = nat_le 128 last || one / 2 ^ last == other / 2 ^ last

-- the first bits of two addresses are the same, of which there are so many
abbrev pub begin_alike : (length : ℕ) → IpAddr → IpAddr → Bool
begin_alike length (V4 one) (V4 other) = is_alike (32 - length) (ipv4_bits one) (ipv4_bits other)
begin_alike length (V6 one) (V6 other) = is_alike (128 - length) (ipv6_bits one) (ipv6_bits other)
begin_alike length one other = false

-- an address begins with the bits that those of a network have in common
abbrev pub has_address : Network → IpAddr → Bool
has_address network address = begin_alike network.length network.address address

-- a peer is taken that comes from this address, where it is known: one of these networks has it, or
-- peers are taken from everywhere
abbrev pub is_taken : (from : Option (List Network)) → Option SocketAddr → Bool
is_taken None address = true
is_taken (Some networks) None = false
is_taken (Some networks) (Some address) =
    list_any (λ network. has_address network (socket_ip address)) networks
