-- How long the chunks are that are written.
use Rattle.std.proofs.Common.{◌≡◌, ℕ, ◌+◌, ◌++◌, pos, length, Some, refl}
use Rattle.ua_binary.specs.declared.values.NodeId.TheVariants.{Numeric}
use Rattle.ua_binary.specs.Binary.{unsigned, signed, text, byte_string, ticks, extension, node_id}
use Rattle.uacp.specs.declared.greeting.Hello.{Hello}
use Rattle.uacp.specs.Greeting.{hello}
use Rattle.ua_channel.specs.Headers.{policy_none, security_header, sequence_header, message_header, request_header, bare_header, open_request}

pub hello_size : (asked : Hello) → 8 + length (hello.canon asked) ≡ 32
unfolding hello unsigned signed text byte_string
hello_size asked = refl

pub ruleset greeting_size = (hello_size)

pub opening_length : (number request lifetime : ℕ)
    → 8 + length (security_header.canon (0, Some policy_none)
    ++ sequence_header.canon (number, request)
    ++ open_request.canon
    (record { handle = request; request_type = pos 0; mode = pos 1; lifetime = lifetime })) ≡ 132
unfolding policy_none security_header sequence_header open_request request_header unsigned signed
    text byte_string ticks extension node_id
opening_length number request lifetime = refl

pub ruleset opening_size = (opening_length)

pub closing_length : (token number request : ℕ)
    → 8 + length (message_header.canon
    (record { channel_id = 1; token = token; number = number; request_id = request })
    ++ node_id.canon (Numeric 0 452) ++ request_header.canon (bare_header request)) ≡ 57
unfolding message_header request_header unsigned signed text byte_string ticks extension node_id
closing_length token number request = refl

pub ruleset closing_size = (closing_length)
