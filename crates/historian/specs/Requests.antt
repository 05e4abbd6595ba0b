-- What a message asks (Part 4, 7.33): the type id of a request, its header, and what the service of
-- that type is asked.
use Rattle.std.specs.Prelude.{ℕ, ◌==◌, List, [], ◌∷◌, Option, Some, None, Result, Ok, Err, if◌then◌else◌}
use Rattle.std.specs.Option.{ok_or}
use Rattle.std.specs.Result.{result_unwrap_or}
use Rattle.ua_binary.specs.declared.fault.BinaryFault.{BinaryFault}
use Rattle.ua_binary.specs.declared.codes.Status.{Status}
use Rattle.ua_binary.specs.declared.codes.TheConstants.Status.{BAD_DECODING_ERROR, BAD_SERVICE_UNSUPPORTED}
use Rattle.ua_binary.specs.declared.values.NodeId.{NodeId}
use Rattle.ua_binary.specs.declared.values.NodeId.TheVariants.{Numeric}
use Rattle.ua_binary.specs.Format.{Reading, with_fault, ◌>>=◌}
use Rattle.ua_binary.specs.Binary.{node_id}
use Rattle.ua_channel.specs.Headers.{request_header, RequestFields}
use Rattle.ua_session.specs.Users.{Claim}
use Rattle.ua_services.specs.Endpoints.{get_endpoints_request}
use Rattle.ua_services.specs.Sessions.{create_session_request, activate_session_request, close_session_request}
use Rattle.ua_services.specs.Browsing.{BrowseFields, browse_request}
use Rattle.ua_services.specs.Attributes.{ReadAsked, read_request}
use Rattle.ua_services.specs.History.{HistoryAsked, history_read_request}
use Rattle.ua_services.specs.Updates.{Details, history_update_request}
use Rattle.historian.specs.declared.service.Service.{Service}
use Rattle.historian.specs.declared.service.Service.TheVariants as service

-- what a service is asked
pub data Call : Type 0 where
  -- the endpoints for these transport profiles
  GetEndpoints : List (Option (List ℕ)) → Call
  -- a session with this timeout
  CreateSession : List ℕ → Call
  ActivateSession : Claim → Call
  CloseSession : Call
  Browse : List BrowseFields → Call
  Read : ReadAsked → Call
  HistoryRead : HistoryAsked → Call
  HistoryUpdate : List Details → Call

-- the services that are served, by the type ids of their requests, which are in namespace 0
abbrev pub service_numbered : ℕ → Option Service
service_numbered number =
    if number == 428 then Some service.GetEndpoints else if number == 461
    then Some service.CreateSession else if number == 467 then Some service.ActivateSession else
    if number == 473 then Some service.CloseSession else if number == 527 then Some service.Browse
    else if number == 631 then Some service.Read else
    if number == 664 then Some service.HistoryRead else if number == 700
    then Some service.HistoryUpdate else None

-- the service that a request of this type id asks for
abbrev pub service_of : NodeId → Option Service
service_of id =
    elim id [
      | Numeric namespace number ↦ if namespace == 0 then service_numbered number else None
      | _ ↦ None
    ]

-- what was read, made a call, where no byte is left behind it; none where it faults or some are
-- left
abbrev pub filling : {E A B : Type 0} → (A → B) → Reading E A → Option B
filling call v =
    elim v
    [ Ok (value, []) ↦ Some (call value) | Ok (value, byte ∷ rest) ↦ None | Err fault ↦ None ]

-- what a service is asked by the bytes behind the header, if they are a request for it
abbrev pub call_in : Service → List ℕ → Option Call
call_in service.GetEndpoints bytes =
    filling (λ v. GetEndpoints v.1) (get_endpoints_request.read bytes)
call_in service.CreateSession bytes =
    filling (λ (url, (name, timeout)). CreateSession timeout) (create_session_request.read bytes)
call_in service.ActivateSession bytes =
    filling ActivateSession (activate_session_request.read bytes)
call_in service.CloseSession bytes = filling (λ _. CloseSession) (close_session_request.read bytes)
call_in service.Browse bytes = filling Browse (browse_request.read bytes)
call_in service.Read bytes = filling Read (read_request.read bytes)
call_in service.HistoryRead bytes = filling HistoryRead (history_read_request.read bytes)
call_in service.HistoryUpdate bytes = filling HistoryUpdate (history_update_request.read bytes)

-- nothing stands behind it
abbrev pub nothing_left : List ℕ → Result (Unit {0}) Status
nothing_left [] = Ok tt
nothing_left (byte ∷ rest) = Err BAD_DECODING_ERROR

-- a request: the token of its session, and what it asks, where that can be read
abbrev pub Request : Type 0
Request = NodeId × Option Call

-- what was read, each fault told as this code
abbrev pub with_decoding_status : {A : Type 0} → Reading BinaryFault A → Reading Status A
with_decoding_status = with_fault (λ _. BAD_DECODING_ERROR)

-- the request that a message is, or why it is none: its type id, the service of that, its header,
-- and what it asks
abbrev pub request_in : List ℕ → Result Request Status
request_in message =
    with_decoding_status (node_id.read message)
    >>= λ (id, header_bytes). ok_or (service_of id) BAD_SERVICE_UNSUPPORTED
    >>= λ service. with_decoding_status (request_header.read header_bytes)
    >>= λ ((session, more), body). Ok (session, call_in service body)

-- the handle in the fields of a request's header
abbrev pub handle_in : RequestFields → ℕ
handle_in (session, (time, (handle, more))) = handle

-- the handle that the answer to a message repeats: that of its header, 0 where that can't be read
abbrev pub handle_of : List ℕ → ℕ
handle_of message =
    result_unwrap_or
    (node_id.read message >>= λ id. request_header.read id.1
    >>= λ header. Ok (handle_in header.0)) 0
