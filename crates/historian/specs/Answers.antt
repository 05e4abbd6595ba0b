-- What the services answer, and the responses that tell it (Part 4, 7.34 and 7.35).
use Rattle.std.specs.Prelude.{◌≡◌, ◌<◌, ◌⊎◌, ℕ, List, [], ◌++◌, map, length, Result, Ok, Err, IfOk}
use Rattle.ua_binary.specs.declared.codes.Status.{Status}
use Rattle.ua_binary.specs.declared.codes.TheConstants.Status.{GOOD, BAD_RESPONSE_TOO_LARGE}
use Rattle.ua_binary.specs.declared.values.NodeId.TheVariants.{Numeric}
use Rattle.ua_binary.specs.declared.values.Ticks.{Ticks}
use Rattle.ua_binary.specs.Binary.{node_id}
use Rattle.ua_variant.specs.declared.data.DataValue.{DataValue}
use Rattle.ua_channel.specs.Headers.{response_header}
use Rattle.ua_services.specs.Endpoints.{EndpointFields, get_endpoints_response}
use Rattle.ua_services.specs.Sessions.{SessionMade, create_session_response, activate_session_response}
use Rattle.ua_services.specs.Browsing.{browsed_fields, browse_response}
use Rattle.ua_services.specs.Attributes.{read_response}
use Rattle.ua_services.specs.Updates.{update_fields, history_update_response}
use Rattle.ua_services.specs.History.{history_fields, history_read_response}
use Rattle.ua_services.specs.declared.browsing.BrowseResult.{BrowseResult}
use Rattle.ua_services.specs.declared.updates.HistoryUpdateResult.{HistoryUpdateResult}
use Rattle.ua_services.specs.declared.history.HistoryReadResult.{HistoryReadResult}

-- what a service answers
pub data Answer : Type 0 where
  Activated Closed : Answer
  Endpoints : List EndpointFields → Answer
  Created : SessionMade → Answer
  Browsed : List BrowseResult → Answer
  Values : List DataValue → Answer
  Updated : List HistoryUpdateResult → Answer
  Histories : List HistoryReadResult → Answer

-- its answer, or the code that refuses the request
abbrev pub Response : Type 0
Response = Result Answer Status

-- the type id of the structure that carries it
abbrev pub type_of : Answer → ℕ
type_of answer =
    elim answer [
      | Endpoints _ ↦ 431
      | Created _ ↦ 464
      | Activated ↦ 470
      | Closed ↦ 476
      | Browsed _ ↦ 530
      | Values _ ↦ 634
      | Updated _ ↦ 703
      | Histories _ ↦ 667
    ]

-- what that has behind its header
abbrev pub response_body_of : Answer → List ℕ
response_body_of (Endpoints endpoints) = get_endpoints_response.canon endpoints
response_body_of (Created made) = create_session_response.canon made
response_body_of Activated = activate_session_response.canon tt
response_body_of Closed = []
response_body_of (Browsed results) = browse_response.canon (map browsed_fields results)
response_body_of (Values values) = read_response.canon values
response_body_of (Updated results) = history_update_response.canon (map update_fields results)
response_body_of (Histories results) = history_read_response.canon (map history_fields results)

-- that has a spelling, so it is read again
abbrev pub HasEncoding : Answer → Type 0
HasEncoding (Endpoints endpoints) = get_endpoints_response.Fits endpoints
HasEncoding (Created made) = create_session_response.Fits made
HasEncoding Activated = activate_session_response.Fits tt
HasEncoding Closed = Unit {0}
HasEncoding (Browsed results) = browse_response.Fits (map browsed_fields results)
HasEncoding (Values values) = read_response.Fits values
HasEncoding (Updated results) = history_update_response.Fits (map update_fields results)
HasEncoding (Histories results) = history_read_response.Fits (map history_fields results)

-- what each response begins with: a type id, the moment, the request's handle, a status
abbrev pub head : ℕ → Ticks → ℕ → Status → List ℕ
head type now handle status =
    node_id.canon (Numeric 0 type) ++ response_header.canon (now, (handle, status))

-- a refusal is told by a ServiceFault, which is the head alone
abbrev pub service_fault : Ticks → ℕ → Status → List ℕ
service_fault now handle status = head 397 now handle status

-- the response to a request of this handle: what a service answers, or a ServiceFault
abbrev pub response : Ticks → ℕ → Response → List ℕ
response now handle v =
    elim v [
      | Ok answer ↦ head (type_of answer) now handle GOOD ++ response_body_of answer
      | Err status ↦ service_fault now handle status
    ]

-- the most bytes of a response that is sent, whatever a client takes: 16 MiB
abbrev pub longest_response : ℕ
longest_response = 16777216

-- it is longer than any response that is sent
abbrev pub IsTooLarge : Ticks → ℕ → Response → Type 0
IsTooLarge now handle told = longest_response < length (response now handle told)

-- what answers a message of this handle: its response, which has a spelling; or where that is too
-- large, a ServiceFault that says so
abbrev pub TellsResponse : Ticks → ℕ → Response → List ℕ → Type 0
TellsResponse now handle told bytes =
    ((bytes ≡ response now handle told) × IfOk told HasEncoding)
    ⊎ (IsTooLarge now handle told × (bytes ≡ service_fault now handle BAD_RESPONSE_TOO_LARGE))
