-- The formats of the services are lawful.
use Rattle.std.proofs.Common.{None, refl}
use Rattle.ua_binary.specs.Format.{IsLawful}
use Rattle.ua_binary.specs.Binary.{unsigned, signed, text, byte_string, localized, node_id}
use Rattle.ua_binary.specs.declared.values.NodeId.{NodeId}
use Rattle.ua_binary.specs.declared.values.Body.TheVariants.{Absent}
use Rattle.ua_binary.proofs.Combined.{byte_lawful, block_lawful, then_lawful, chosen_lawful, headed_lawful, standing_lawful, fitting_lawful}
use Rattle.ua_binary.proofs.Elements.{IsItemLawful, item, then_item}
use Rattle.ua_binary.proofs.Lawful.{u32_lawful, i32_lawful, boolean_lawful, text_lawful, text_item, byte_string_lawful, byte_string_item, localized_lawful, status_item, node_id_lawful, body_lawful}
use Rattle.ua_services.specs.Endpoints.{application_description, IsApplication, user_token_policy, access, IsAccess, endpoint_description, get_endpoints_request, get_endpoints_response}
use Rattle.ua_services.specs.Unkept.{unkept}
use Rattle.ua_services.specs.Structure.{is_standard_type}
use Rattle.ua_services.specs.Sessions.{user_identity, user_name_form, unknown_form, signature_data, signed_software_certificate, create_session_request, create_session_response, IsSessionMade, activate_session_request, activate_session_response, close_session_request}
use Rattle.ua_services.proofs.SessionsParts.{no_signature, anonymous_identity_token, user_name_identity_token, anonymous_form, identity_form, identity_type}
use Rattle.ua_services.proofs.EndpointsParts.{no_application}
use Rattle.ua_services.proofs.Unkept.{unkept_lawful, past_lawful, closed_lawful, many_lawful, many_fits, unkept_array_lawful, null_lawful, structure_lawful}

no_text_lawful : IsLawful (unkept None text)
no_text_lawful = unkept_lawful None text_lawful

no_bytes_lawful : IsLawful (unkept None byte_string)
no_bytes_lawful = unkept_lawful None byte_string_lawful

pub application_lawful : IsLawful application_description
unfolding application_description signed text byte_string localized
application_lawful = fitting_lawful IsApplication (λ v h.
    (h.0, (h.1, (h.2, (h.3, (tt, (tt, many_fits text _ h.4)))))))
    (then_lawful text_lawful (then_lawful text_lawful
    (then_lawful localized_lawful (then_lawful i32_lawful
    (past_lawful no_text_lawful (past_lawful no_text_lawful (many_lawful text_item)))))))

pub token_lawful : IsLawful user_token_policy
unfolding user_token_policy signed text byte_string
token_lawful = fitting_lawful _ (λ v h. (h.0, (h.1, (tt, (tt, tt)))))
    (then_lawful text_lawful (closed_lawful i32_lawful
    (closed_lawful no_text_lawful (closed_lawful no_text_lawful no_text_lawful))))

pub token_item : IsItemLawful user_token_policy
unfolding user_token_policy unsigned signed text byte_string
token_item = item token_lawful refl

access_lawful : IsLawful access
unfolding access signed text
access_lawful = fitting_lawful IsAccess (λ v h.
    (h.0, (h.1, (many_fits user_token_policy _ h.2, (h.3, h.4)))))
    (then_lawful i32_lawful (then_lawful text_lawful
    (then_lawful (many_lawful token_item) (then_lawful text_lawful byte_lawful))))

pub endpoint_lawful : IsLawful endpoint_description
unfolding endpoint_description application_description access text byte_string
endpoint_lawful = fitting_lawful _ (λ v h. (h.0, (h.1, (tt, h.2))))
    (then_lawful text_lawful (then_lawful application_lawful
    (past_lawful no_bytes_lawful access_lawful)))

pub endpoint_item : IsItemLawful endpoint_description
unfolding endpoint_description unsigned signed text byte_string
endpoint_item = item endpoint_lawful refl

pub endpoints_asked_lawful : IsLawful get_endpoints_request
unfolding get_endpoints_request
endpoints_asked_lawful = then_lawful text_lawful (past_lawful (unkept_array_lawful text_item)
    (many_lawful text_item))

pub endpoints_lawful : IsLawful get_endpoints_response
unfolding get_endpoints_response
endpoints_lawful = fitting_lawful _ (λ v h. many_fits endpoint_description v h)
    (many_lawful endpoint_item)

-- ---- sessions

anonymous_token_lawful : IsLawful anonymous_identity_token
anonymous_token_lawful = no_text_lawful

user_name_token_lawful : IsLawful user_name_identity_token
user_name_token_lawful = past_lawful no_text_lawful
    (then_lawful text_lawful (then_lawful byte_string_lawful text_lawful))

anonymous_lawful : IsLawful anonymous_form
anonymous_lawful = standing_lawful _ _ (structure_lawful anonymous_token_lawful)

user_name_lawful : IsLawful user_name_form
user_name_lawful = standing_lawful _ _ (structure_lawful user_name_token_lawful)

unknown_lawful : (id : NodeId) → IsLawful (unknown_form id)
unknown_lawful id = standing_lawful _ (λ _. Absent) body_lawful

identity_form_lawful : (id : NodeId) → IsLawful (identity_form id)
identity_form_lawful id = chosen_lawful (is_standard_type 321 id) anonymous_lawful
    (chosen_lawful (is_standard_type 324 id) user_name_lawful (unknown_lawful id))

pub identity_lawful : IsLawful user_identity
unfolding user_identity
identity_lawful = headed_lawful identity_type identity_form node_id_lawful identity_form_lawful

signature_lawful : IsLawful signature_data
signature_lawful = then_lawful text_lawful byte_string_lawful

certificate_item : IsItemLawful signed_software_certificate
certificate_item = then_item byte_string_item byte_string_lawful

pub session_asked_lawful : IsLawful create_session_request
unfolding create_session_request
session_asked_lawful =
    past_lawful (unkept_lawful no_application application_lawful)
    (past_lawful no_text_lawful (then_lawful text_lawful
    (then_lawful text_lawful (past_lawful no_bytes_lawful
    (past_lawful no_bytes_lawful (closed_lawful (block_lawful 8)
    (unkept_lawful 0 u32_lawful)))))))

pub session_made_lawful : IsLawful create_session_response
unfolding create_session_response unsigned text byte_string node_id
session_made_lawful = fitting_lawful IsSessionMade
    (λ v h. (
      h.0,
      (
        h.1,
        (
          h.2,
          (tt, (tt, (many_fits endpoint_description _ h.3, (tt, ((tt, tt), h.4))))),
        ),
      ),
    ))
    (then_lawful node_id_lawful (then_lawful node_id_lawful
    (then_lawful (block_lawful 8) (past_lawful no_bytes_lawful
    (past_lawful no_bytes_lawful (then_lawful (many_lawful endpoint_item)
    (past_lawful (unkept_array_lawful certificate_item)
    (past_lawful (unkept_lawful no_signature signature_lawful) u32_lawful))))))))

pub activation_lawful : IsLawful activate_session_request
unfolding activate_session_request
activation_lawful = past_lawful (unkept_lawful no_signature signature_lawful)
    (past_lawful (unkept_array_lawful certificate_item)
    (past_lawful (unkept_array_lawful text_item) (closed_lawful identity_lawful
    (unkept_lawful no_signature signature_lawful))))

pub activated_lawful : IsLawful activate_session_response
unfolding activate_session_response
activated_lawful = past_lawful no_bytes_lawful (past_lawful
    (unkept_array_lawful status_item) null_lawful)

pub closing_lawful : IsLawful close_session_request
unfolding close_session_request
closing_lawful = boolean_lawful

pub ruleset lawful = (
  application_lawful,
  token_lawful,
  endpoint_lawful,
  endpoints_asked_lawful,
  endpoints_lawful,
  identity_lawful,
  session_asked_lawful,
  session_made_lawful,
  activation_lawful,
  activated_lawful,
  closing_lawful,
)
