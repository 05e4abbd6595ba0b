-- How long the chunks are that are written.
use Rattle.std.proofs.Common.{◌≡◌, ℕ, ◌+◌, List, ◌++◌, length, Some, refl, arith}
use Rattle.std.proofs.lemmas.List.{length-append}
use Rattle.ua_binary.specs.declared.values.Ticks.{Ticks}
use Rattle.ua_binary.specs.Binary.{unsigned, signed, text, byte_string, ticks, status, node_id}
use Rattle.ua_channel.specs.declared.taken.OpenRequest.{OpenRequest}
use Rattle.ua_channel.specs.Headers.{policy_none, security_header, sequence_header, message_header, response_header, open_response}
use Rattle.ua_channel.proofs.SendingParts.{lifetime_of}

pub message_size : (token number request : ℕ) (piece : List ℕ)
    → 8 + length (message_header.canon
    (record { channel_id = 1; token = token; number = number; request_id = request }) ++ piece)
    ≡ 24 + length piece
unfolding message_header unsigned
message_size token number request piece =
    omega (
      arith,
      length-append (message_header.canon
          (record { channel_id = 1; token = token; number = number; request_id = request })) piece,
    )

pub opened_size : (number : ℕ) (request : OpenRequest) (now : Ticks)
    → 8 + length (security_header.canon (1, Some policy_none)
    ++ sequence_header.canon (number, request.request_id)
    ++ open_response.canon (
      (now, (request.handle, record { 0 = 0 })),
      (request.token, (now, lifetime_of request.lifetime)),
    )) ≡ 135
unfolding policy_none security_header sequence_header open_response response_header unsigned signed
    text byte_string ticks status node_id
opened_size number request now = refl
