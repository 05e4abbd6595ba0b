-- How the services' functions tell what they came to.
use Rattle.std.specs.Prelude.{◌≡◌, ◌<◌, ◌≤◌, ◌⊎◌, ◌++◌, ℕ, List, [], map, length, Option, Some, None, Result, Ok, Err, IfOk}
use Rattle.std.specs.List.{AllByRecursion, flat_map}
use Rattle.ua_binary.specs.declared.codes.Status.{Status}
use Rattle.ua_binary.specs.declared.codes.TheConstants.Status.{BAD_OUT_OF_MEMORY, BAD_DECODING_ERROR, BAD_SERVICE_UNSUPPORTED, BAD_RESPONSE_TOO_LARGE}
use Rattle.ua_services.specs.Endpoints.{endpoint_fields, AreShortEndpoints}
use Rattle.ua_services.specs.Sessions.{session_made, IsShortSession}
use Rattle.ua_services.specs.Updates.{AreShortUpdates}
use Rattle.ua_session.specs.Sessions.{SessionsState}
use Rattle.ua_binary.specs.declared.values.NodeId.{NodeId}
use Rattle.records.specs.Contents.{Content}
use Rattle.archive.specs.Store.{Store, StepResult, faults_of}
use Rattle.archive.specs.Steps.{Fallible, Yields, Refines}
use Rattle.ua_binary.specs.declared.values.NodeIdRef.{NodeIdRef}
use Rattle.ua_binary.specs.declared.values.Ticks.{Ticks}
use Rattle.ua_binary.specs.Binary.{node_of}
use Rattle.ua_binary.specs.Format.{Format}
use Rattle.historian.specs.declared.service.Service.{Service}
use Rattle.historian.specs.declared.service.ServiceRequest.{ServiceRequest as Opened}
use Rattle.historian.specs.declared.answer.Answer.{Answer as Made}
use Rattle.historian.specs.declared.answer.Answer.TheVariants as made
use Rattle.historian.specs.Answers.{Answer, Endpoints, Created, Activated, Closed, Updated, Response, HasEncoding, IsTooLarge, response, longest_response}
use Rattle.historian.specs.Requests.{Call, call_in, Request}
use Rattle.historian.specs.Reading.{Served}
use Rattle.historian.specs.Services.{MessageOutcome}

-- what a message asks whose type id and header were read
abbrev pub asked_of : Result Opened Status → Result Request Status
asked_of (Ok request) = Ok (node_of request.token, call_in request.service request.body)
asked_of (Err status) = Err status

-- with a header that was read
abbrev pub request_with : Option Service → NodeIdRef → List ℕ → Result Opened Status
request_with (Some service) token body =
    Ok (record { service = service; token = token; body = body })
request_with None token body = Err BAD_SERVICE_UNSUPPORTED

-- and without
abbrev pub refusal_of : Option Service → Status
refusal_of (Some service) = BAD_DECODING_ERROR
refusal_of None = BAD_SERVICE_UNSUPPORTED

-- a request was read, or none fills the bytes, or memory was wanting
abbrev pub Asks : {T : Type 0} → Service → (T → Call) → List ℕ → Result T Status → Type 0
Asks service call bytes (Ok request) = call_in service bytes ≡ Some (call request)
Asks service call bytes (Err status) =
    ((status ≡ BAD_DECODING_ERROR) × (call_in service bytes ≡ None)) ⊎ (status ≡ BAD_OUT_OF_MEMORY)

-- an answer of the code as one of the services
abbrev pub service_answer : Made → Answer
service_answer (made.Endpoints endpoints) = Endpoints (map endpoint_fields endpoints.items)
service_answer (made.Created session) = Created (session_made session)
service_answer made.Activated = Activated
service_answer made.Closed = Closed
service_answer (made.Updated results) = Updated results.items

-- it can be written
abbrev pub IsEncodable : Made → Type 0
IsEncodable (made.Endpoints endpoints) = AreShortEndpoints endpoints.items
IsEncodable (made.Created session) = IsShortSession session
IsEncodable made.Activated = Unit {0}
IsEncodable made.Closed = Unit {0}
IsEncodable (made.Updated results) = AreShortUpdates results.items

-- the answer was made; or it is told why there is none, or that memory was wanting
abbrev pub ReportsAnswer : Response → Result Made Status → Type 0
ReportsAnswer told (Ok answer) = told ≡ Ok (service_answer answer)
ReportsAnswer told (Err status) = (told ≡ Err status) ⊎ (status ≡ BAD_OUT_OF_MEMORY)

-- what is told by an answer of the code, or by the code that refuses
abbrev pub response_made : Result Made Status → Response
response_made (Ok answer) = Ok (service_answer answer)
response_made (Err status) = Err status

-- what a service of an archive comes to over what is held is this, also where memory was wanting
abbrev pub ComesTo : Store → Store → (Content → Served) → Result Made Status → Type 0
ComesTo old new service result =
    (used : List StepResult) × Refines old new used service (response_made result)

-- a service was performed over an archive, and what it came to is told
abbrev pub Performs : Store → Store → (Content → Fallible MessageOutcome) → SessionsState
    → Result Made Status → Type 0
Performs old new service sessions result =
    (used : List StepResult) × (told : Response) × Refines old new used service (told, sessions)
    × ReportsAnswer told result

-- the same of a service that asks no archive
abbrev pub PerformsHere : (Content → Fallible MessageOutcome) → SessionsState → Result Made Status
    → Type 0
PerformsHere service sessions result =
    (used : List StepResult) × (told : Response) × (faults_of used ≡ [])
    × ((R : Content) → Yields (service R) used ((told, sessions), R)) × ReportsAnswer told result

-- the response is written, and has a spelling; or it is told why there is none, that memory was
-- wanting, or that the response is too large to be sent
abbrev pub Written : Ticks → ℕ → Response → Result (Unit {0}) Status → List ℕ → Type 0
Written now handle told (Ok _) bytes = (bytes ≡ response now handle told) × IfOk told HasEncoding
Written now handle told (Err status) bytes =
    (told ≡ Err status) ⊎ (status ≡ BAD_OUT_OF_MEMORY)
    ⊎ ((status ≡ BAD_RESPONSE_TOO_LARGE) × IsTooLarge now handle told)

-- of these bytes so many were written that they are seen to be too many for a response
abbrev pub IsCutShort : List ℕ → List ℕ → Type 0
IsCutShort whole written =
    (longest_response < length written) × (length written ≤ length whole)

-- these values, which have spellings, were appended in this format; or enough of them to see that
-- they are too many for a response
abbrev pub Appends : {E A : Type 0} → Format E A → List A → List ℕ → List ℕ → Type 0
Appends format values old new =
    ((new ≡ old ++ flat_map format.canon values) × AllByRecursion format.Fits values)
    ⊎ IsCutShort (old ++ flat_map format.canon values) new

-- the same of what a service of an archive comes to over what is held
abbrev pub ComesWritten : Store → Store → (Content → Served) → Ticks → ℕ → Result (Unit {0}) Status
    → List ℕ → Type 0
ComesWritten old new service now handle result bytes =
    (used : List StepResult) × (told : Response) × Refines old new used service told
    × Written now handle told result bytes

-- and of a service that was performed over an archive
abbrev pub Responds : Store → Store → (Content → Fallible MessageOutcome) → SessionsState → Ticks
    → ℕ → Result (Unit {0}) Status → List ℕ → Type 0
Responds old new service sessions now handle result bytes =
    (used : List StepResult) × (told : Response) × Refines old new used service (told, sessions)
    × Written now handle told result bytes

-- why these bytes are in no response: memory was wanting, or they are too many for one
abbrev pub IsLeftOut : List ℕ → Status → Type 0
IsLeftOut bytes status =
    (status ≡ BAD_OUT_OF_MEMORY)
    ⊎ ((status ≡ BAD_RESPONSE_TOO_LARGE) × (longest_response < length bytes))

-- this value, which has a spelling, was appended in this format; or nothing was, and it is told why
abbrev pub AppendsOne : {E A : Type 0} → Format E A → A → Result (Unit {0}) Status → List ℕ
    → List ℕ → Type 0
AppendsOne format value (Ok _) old new = (new ≡ old ++ format.canon value) × format.Fits value
AppendsOne format value (Err status) old new =
    (new ≡ old) × IsLeftOut (format.canon value) status

-- these values were appended so, or enough of them; or it is told why the response isn't written
abbrev pub AppendsAll : {E A : Type 0} → Format E A → List A → Result (Unit {0}) Status → List ℕ
    → List ℕ → Type 0
AppendsAll format values (Ok _) old new = Appends format values old new
AppendsAll format values (Err status) old new =
    IsLeftOut (old ++ flat_map format.canon values) status
