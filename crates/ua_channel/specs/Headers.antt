-- The headers of a channel's chunks (Part 6, 6.7.2), those of requests and responses (Part 4, 7.33
-- and 7.34), and the opening of a channel (Part 4, 5.6.2).
use Rattle.std.specs.Prelude.{◌+◌, ℕ, pos, List, [], ◌∷◌, ◌++◌, length, codes, Option, None, false, ◌&&◌, ◌==◌, ◌<◌, ◌^◌, ℤ, Bool}
use Rattle.std.specs.Option.{option_copied}
use Rattle.std.specs.Int.{w32}
use Rattle.std.specs.Int.RustNames.{FitsSigned}
use Rattle.ua_binary.specs.declared.fault.BinaryFault.{BinaryFault}
use Rattle.ua_binary.specs.declared.fault.BinaryFault.TheVariants.{BadEncodingByte}
use Rattle.ua_binary.specs.declared.values.Ticks.{Ticks}
use Rattle.ua_binary.specs.declared.codes.Status.{Status}
use Rattle.ua_binary.specs.declared.values.NodeId.{NodeId}
use Rattle.ua_binary.specs.declared.values.NodeId.TheVariants.{Numeric}
use Rattle.ua_binary.specs.declared.values.Body.TheVariants.{Absent}
use Rattle.ua_binary.specs.declared.values.ExtensionObject.{ExtensionObject}
use Rattle.ua_binary.specs.Format.{Format, ◌▸◌, standing_for, passing, fitting}
use Rattle.ua_binary.specs.Binary.{unsigned, signed, text, byte_string, node_id, node_of, ticks, status, extension, extension_of, IsText}
use Rattle.uacp.specs.declared.types.Kind.{Kind}
use Rattle.uacp.specs.declared.types.Letter.{Letter}
use Rattle.uacp.specs.Greeting.{fixed, fixed_number}
use Rattle.uacp.specs.Chunks.{chunk_letters}
use Rattle.ua_channel.specs.declared.headers.Numbers.{Numbers}
use Rattle.ua_channel.specs.declared.headers.OpenRequestBody.{OpenRequestBody}
use Rattle.ua_channel.specs.declared.headers.RequestHeader.{RequestHeader}

-- ---- the headers of chunks

-- the one policy that is served
unfoldable pub policy_none : List ℕ
policy_none = codes "http://opcfoundation.org/UA/SecurityPolicy#None"

-- of an OPN chunk: channel id and policy; the sender's certificate and the receiver's thumbprint
-- aren't kept, and null ones are written
unfoldable pub security_header : Format BinaryFault (ℕ × Option (List ℕ))
security_header = fitting (λ (channel, policy). (channel < 2 ^ 32) × IsText policy)
    (standing_for (λ (channel, (policy, certificates)). (channel, policy))
    (λ (channel, policy). (channel, (policy, (None, None))))
    (unsigned w32 ▸ text ▸ byte_string ▸ byte_string))

-- of an OPN chunk, behind it: sequence number and request id
unfoldable pub sequence_header : Format BinaryFault (ℕ × ℕ)
sequence_header = unsigned w32 ▸ unsigned w32

-- the numbers of a chunk have a spelling
abbrev pub IsNumbers : Numbers → Type 0
IsNumbers v =
    (v.channel_id < 2 ^ 32) × (v.token < 2 ^ 32) × (v.number < 2 ^ 32) × (v.request_id < 2 ^ 32)

-- the numbers of a chunk by its fields
abbrev pub numbers_in : ℕ × (ℕ × (ℕ × ℕ)) → Numbers
numbers_in (channel, (token, (number, request))) =
    record { channel_id = channel; token = token; number = number; request_id = request }

-- of a MSG or CLO chunk: channel id, token id, sequence number, request id
unfoldable pub message_header : Format BinaryFault Numbers
message_header =
    fitting IsNumbers
    (standing_for numbers_in (λ v. (v.channel_id, (v.token, (v.number, v.request_id))))
    (unsigned w32 ▸ unsigned w32 ▸ unsigned w32 ▸ unsigned w32))

-- a chunk: its letters, its size with these eight bytes, and what follows them
abbrev pub chunk_of : Kind → Letter → List ℕ → List ℕ
chunk_of kind letter body =
    chunk_letters kind letter ++ (unsigned w32).canon (8 + length body) ++ body

-- ---- requests and responses

-- session token, timestamp, handle, mask of diagnostics, audit entry, timeout hint, additional
-- header
abbrev pub RequestFields : Type 0
RequestFields = NodeId × (Ticks × (ℕ × (ℕ × (Option (List ℕ) × (ℕ × ExtensionObject)))))

-- a borrowed header as these
abbrev pub request_fields : RequestHeader → RequestFields
request_fields h = (
  node_of h.token,
  (
    h.timestamp,
    (h.handle, (h.diagnostics, (option_copied h.audit, (h.timeout, extension_of h.additional)))),
  ),
)

-- a RequestHeader (Part 4, 7.33): session token, time, handle, diagnostics, audit entry, timeout,
-- additional header
unfoldable pub request_header : Format BinaryFault RequestFields
request_header = node_id ▸ ticks ▸ unsigned w32 ▸ unsigned w32 ▸ text ▸ unsigned w32 ▸ extension

-- timestamp, handle and status; no diagnostics, a null array of texts, no additional header
unfoldable pub response_header : Format BinaryFault (Ticks × (ℕ × Status))
response_header =
    standing_for (λ (time, (handle, (status, more))). (time, (handle, status)))
    (λ (time, (handle, status)). (time, (handle, (status, (tt, (tt, tt))))))
    (ticks ▸ unsigned w32 ▸ status ▸ fixed (0 ∷ []) ▸ fixed_number 4294967295
    ▸ fixed (0 ∷ 0 ∷ 0 ∷ []))

-- ---- the opening of a channel

-- what is kept of the request has a spelling
abbrev pub IsOpenRequestBody : OpenRequestBody → Type 0
IsOpenRequestBody v =
    (v.handle < 2 ^ 32) × FitsSigned w32 v.request_type × FitsSigned w32 v.mode
    × (v.lifetime < 2 ^ 32)

-- type id, request header, version, request type, mode, nonce, lifetime
abbrev pub OpenRequestFields : Type 0
OpenRequestFields = NodeId × (RequestFields × (ℕ × (ℤ × (ℤ × (Option (List ℕ) × ℕ)))))

-- what is kept of the fields: of the header only the handle, and neither the version nor the nonce
abbrev pub open_request_of : OpenRequestFields → OpenRequestBody
open_request_of
    (type, ((session, (time, (handle, more))), (version, (kind, (mode, (challenge, life)))))) =
    record { handle = handle; request_type = kind; mode = mode; lifetime = life }

-- a header of which only the handle says something
abbrev pub bare_header : ℕ → RequestFields
bare_header handle = (
  Numeric 0 0,
  (
    record { 0 = pos 0 },
    (handle, (0, (None, (0, record { type_id = Numeric 0 0; body = Absent })))),
  ),
)

-- the fields that are written: no session, no version and no nonce
abbrev pub open_request_fields : OpenRequestBody → OpenRequestFields
open_request_fields v =
    (Numeric 0 446, (bare_header v.handle, (0, (v.request_type, (v.mode, (None, v.lifetime))))))

-- the type id of the request for a channel
abbrev pub is_open_request : NodeId → Bool
is_open_request v = elim v [ Numeric namespace id ↦ namespace == 0 && id == 446 | _ ↦ false ]

-- the request for a channel (Part 4, 5.6.2)
unfoldable pub open_request : Format BinaryFault OpenRequestBody
open_request = fitting IsOpenRequestBody (standing_for open_request_of open_request_fields
    (passing is_open_request BadEncodingByte node_id
    ▸ request_header ▸ unsigned w32 ▸ signed w32 ▸ signed w32 ▸ byte_string ▸ unsigned w32))

-- what an answer to an opening is told by, of its fields: type id, header, version, channel id,
-- token
-- id, moment, lifetime, nonce
abbrev pub opened_in : Unit {0}
    × ((Ticks × (ℕ × Status)) × (Unit {0} × (Unit {0} × (ℕ × (Ticks × (ℕ × Unit {0}))))))
    → (Ticks × (ℕ × Status)) × (ℕ × (Ticks × ℕ))
opened_in (type, (header, (version, (channel, (token, (made, (lifetime, challenge))))))) =
    (header, (token, (made, lifetime)))

-- its answer, told by response header, token id, the moment of its making and lifetime: type id
-- 449,
-- version 0, channel id 1 and a null nonce are fixed
unfoldable pub open_response : Format BinaryFault ((Ticks × (ℕ × Status)) × (ℕ × (Ticks × ℕ)))
open_response =
    standing_for opened_in
    (λ (header, (token, (made, lifetime))).
    (tt, (header, (tt, (tt, (token, (made, (lifetime, tt))))))))
    (fixed (node_id.canon (Numeric 0 449)) ▸ response_header ▸ fixed_number 0 ▸ fixed_number 1
    ▸ unsigned w32 ▸ ticks ▸ unsigned w32 ▸ fixed_number 4294967295)
