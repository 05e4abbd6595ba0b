-- The formats of headers and of what opens a channel are lawful.
use Rattle.std.proofs.Common.{refl, arith, pos, None}
use Rattle.std.proofs.lemmas.Int.{ints}
use Rattle.ua_binary.specs.Format.{IsLawful}
use Rattle.ua_binary.specs.Binary.{unsigned, signed, text, byte_string, ticks, node_id, extension}
use Rattle.ua_binary.specs.declared.fault.BinaryFault.TheVariants.{BadEncodingByte}
use Rattle.ua_binary.specs.declared.values.NodeId.TheVariants.{Numeric}
use Rattle.ua_binary.specs.declared.values.Body.TheVariants.{Absent}
use Rattle.ua_binary.proofs.Combined.{exactly_lawful, then_lawful, standing_lawful, passing_lawful, fitting_lawful}
use Rattle.ua_binary.proofs.Lawful.{u32_lawful, i32_lawful, text_lawful, byte_string_lawful, node_id_lawful, ticks_lawful, status_lawful, extension_lawful}
use Rattle.ua_channel.specs.Headers.{security_header, sequence_header, message_header, request_header, response_header, open_request, open_response, IsNumbers, IsOpenRequestBody}
use Rattle.ua_channel.proofs.HeadersParts.{is_opening}

pub security_lawful : IsLawful security_header
unfolding security_header unsigned text byte_string
security_lawful = fitting_lawful _ (λ v h. ((h.0, (h.1, (tt, tt))), refl))
    (standing_lawful _ (λ v. (v.0, (v.1, (None, None))))
    (then_lawful u32_lawful (then_lawful text_lawful
    (then_lawful byte_string_lawful byte_string_lawful))))

pub sequence_lawful : IsLawful sequence_header
unfolding sequence_header
sequence_lawful = then_lawful u32_lawful u32_lawful

pub message_lawful : IsLawful message_header
unfolding message_header unsigned
message_lawful = fitting_lawful IsNumbers (λ v h. ((h.0, (h.1, (h.2, h.3))), refl))
    (standing_lawful _ _ (then_lawful u32_lawful
    (then_lawful u32_lawful (then_lawful u32_lawful u32_lawful))))

pub request_lawful : IsLawful request_header
unfolding request_header
request_lawful = then_lawful node_id_lawful (then_lawful ticks_lawful
    (then_lawful u32_lawful (then_lawful u32_lawful
    (then_lawful text_lawful (then_lawful u32_lawful extension_lawful)))))

pub response_lawful : IsLawful response_header
unfolding response_header
response_lawful = standing_lawful _ _ (then_lawful ticks_lawful
    (then_lawful u32_lawful (then_lawful status_lawful
    (then_lawful (exactly_lawful _ _) (then_lawful (exactly_lawful _ _) (exactly_lawful _ _))))))

pub open_request_lawful : IsLawful open_request
unfolding open_request unsigned signed text byte_string ticks node_id extension request_header
open_request_lawful = fitting_lawful IsOpenRequestBody
    (λ v h. (
      (
        ((omega arith, omega arith), refl),
        (
          (
            (omega arith, omega arith),
            (
              omega (arith, ints),
              (h.0, (omega arith, (tt, (omega arith, ((omega arith, omega arith), tt))))),
            ),
          ),
          (omega arith, (h.1, (h.2, (tt, h.3)))),
        ),
      ),
      refl,
    ))
    (standing_lawful _ (λ v. (
      Numeric 0 446,
      (
        (
          Numeric 0 0,
          (
            record { 0 = pos 0 },
            (v.handle, (0, (None, (0, record { type_id = Numeric 0 0; body = Absent })))),
          ),
        ),
        (0, (v.request_type, (v.mode, (None, v.lifetime)))),
      ),
    ))
    (then_lawful (passing_lawful is_opening BadEncodingByte node_id_lawful)
    (then_lawful request_lawful (then_lawful u32_lawful
    (then_lawful i32_lawful (then_lawful i32_lawful
    (then_lawful byte_string_lawful u32_lawful)))))))

pub open_response_lawful : IsLawful open_response
unfolding open_response
open_response_lawful = standing_lawful _ _ (then_lawful (exactly_lawful _ _)
    (then_lawful response_lawful (then_lawful (exactly_lawful _ _) (then_lawful (exactly_lawful _ _)
    (then_lawful u32_lawful (then_lawful ticks_lawful
    (then_lawful u32_lawful (exactly_lawful _ _))))))))

pub ruleset lawful = (
  security_lawful,
  sequence_lawful,
  message_lawful,
  request_lawful,
  response_lawful,
  open_request_lawful,
  open_response_lawful,
)
