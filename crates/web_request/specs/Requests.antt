-- What a request asks, by the parts of its head, and how it is read from the bytes that came.
use Rattle.std.specs.Prelude.{◌≡◌, ℕ, ◌<◌, ◌≤◌, nat_lt, ◌==◌, ◌⊎◌, not, ◌&&◌, ◌||◌, Bool, true, false, ⊤, List, length, map, codes, Option, None, Some, Result, Ok, Err, if◌then◌else◌}
use Rattle.std.specs.Str.{bytes_eq}
use Rattle.httparse.specs.Grammar.{RequestHead, print_request, HasNoRequest, MayBecomeRequest}
use Rattle.httparse.specs.Spans.{name_and_value}
use Rattle.http1.specs.Fields.{Header, known_fields}
use Rattle.http1.specs.Message.{AcceptsRequest}
use Rattle.http1.specs.ReadError.{RequestError, status_of}
use Rattle.http1.specs.Server.{HasNoHead}
use Rattle.http1.specs.declared.conn.Limits.{Limits}
use Rattle.http1.specs.declared.error.ReadError.{ReadError}
use Rattle.http1.specs.declared.fields.ContentLength.TheVariants as Length
use Rattle.http1.specs.declared.fields.TransferEncoding.TheVariants as Coding
use Rattle.http1.specs.declared.fields.KnownFields.{KnownFields}
use Rattle.http1.specs.declared.framing.Framing.{Framing}
use Rattle.ua_binary.specs.Format.{◌>>=◌}
use Rattle.web_request.specs.Credentials.{credentials_of}
use Rattle.web_request.specs.Targets.{target_page}
use Rattle.web_request.specs.declared.page.Refusal.{Refusal}
use Rattle.web_request.specs.declared.page.Refusal.TheVariants.{NotHttp, TooLong, Method, Body}
use Rattle.web_request.specs.declared.page.Request.{Request}
use Rattle.web_request.specs.declared.page.RequestFault.{RequestFault}
use Rattle.web_request.specs.declared.page.RequestFault.TheVariants.{Refused, OutOfMemory}

-- the method is HEAD
abbrev pub is_head : List ℕ → Bool
is_head method = bytes_eq method (codes "HEAD")

-- a method that is answered: GET, or HEAD for the head alone (RFC 9110, 9.3)
abbrev pub head_only_of : List ℕ → Result Bool Refusal
head_only_of method =
    if is_head method then Ok true
    else if bytes_eq method (codes "GET") then Ok false else Err Method

-- the fields say that a body follows the head (RFC 9112, 6.3)
abbrev pub has_body : KnownFields → Bool
has_body known = elim known.transfer_encoding [
  | Coding.Absent ↦ elim known.content_length [
    | Length.Absent ↦ false
    | Length.Value n ↦ not (n == 0)
    | Length.Invalid ↦ true
  ]
  | _ ↦ true
]

-- the connection may be kept (RFC 9112, 9.3): in HTTP/1.1 unless it is to be closed, in HTTP/1.0
-- where it is to be kept
abbrev pub keeps_open : (minor : ℕ) → KnownFields → Bool
keeps_open minor known = not known.close && (nat_lt 0 minor || known.keep_alive)

-- the fields, where they say that no body follows
abbrev pub bodiless : KnownFields → Result KnownFields Refusal
bodiless known = if has_body known then Err Body else Ok known

-- The request that the parts of a head make. Of its method, its body, its credentials and its
-- target the first is told that is wrong.
abbrev pub request_by : (method target : List ℕ) → (minor : ℕ) → List Header → (length : ℕ)
    → Result Request Refusal
request_by method target minor headers length = do
  head_only ← head_only_of method
  known ← bodiless (known_fields headers)
  credentials ← credentials_of headers
  page ← target_page target
  Ok (record {
    page = page;
    head_only = head_only;
    credentials = credentials;
    keeps_open = keeps_open minor known;
    takes_chunks = nat_lt 0 minor;
    length = length;
  })

-- the request that a head makes
abbrev pub request_of : RequestHead → Result Request Refusal
request_of head =
    request_by head.method head.target head.minor (map name_and_value head.fields)
    (length (print_request head))

-- the request of a head is answered, or why it is refused, unless memory ran out
abbrev pub AnswersHead : RequestHead → Result Request RequestFault → Type 0
AnswersHead head (Ok request) = request_of head ≡ Ok request
AnswersHead head (Err OutOfMemory) = ⊤
AnswersHead head (Err (Refused why head_only)) =
    (request_of head ≡ Err why) × (head_only ≡ is_head head.method)

-- the same of all that may be read: a head that stands first isn't waited for
abbrev pub AnswersFirst : RequestHead → Result (Option Request) RequestFault → Type 0
AnswersFirst head (Ok None) = ⊥
AnswersFirst head (Ok (Some request)) = AnswersHead head (Ok request)
AnswersFirst head (Err fault) = AnswersHead head (Err fault)

-- a head has at most 16 KiB
abbrev pub limits : Limits
limits =
    record { max_head_len = 16384; max_extensions_len = 16384; max_trailers_len = 16384 }

-- A head of a request stands first of which this holds: it is within the limits, its lines end in
-- CR LF, it has one Host, which HTTP/1.0 may leave out, and it tells one length of its body.
abbrev pub BeginsWith : List ℕ → (RequestHead → Type 0) → Type 0
BeginsWith came P =
    (head : RequestHead) × (framing : Framing) × (rest : List ℕ)
    × AcceptsRequest limits came head framing rest × P head

-- what came is no whole head, and may become one
abbrev pub IsCutHead : List ℕ → Type 0
IsCutHead came = HasNoRequest came × (length came < 16384) × MayBecomeRequest came

-- why bytes are refused that no head begins
abbrev pub refused_by : ReadError → Refusal
refused_by error = if status_of error == 400 then NotHttp else TooLong

-- whatever follows, no such head begins these bytes, or it has more than 64 fields; and why
abbrev pub BeginsWithNone : List ℕ → Refusal → Type 0
BeginsWithNone came why =
    HasNoHead limits came 64
    × (error : ReadError) × RequestError 16384 came 64 error × (why ≡ refused_by error)

-- a head of at most 64 fields stands first, and is answered so
abbrev pub AnswersShort : List ℕ → Result Request RequestFault → Type 0
AnswersShort came result =
    BeginsWith came (λ head. (length head.fields ≤ 64) × AnswersHead head result)

-- what came is read so: the request of the head that stands first; nothing yet, where that isn't
-- whole; or why it is refused
abbrev pub ReadsRequest : List ℕ → Result (Option Request) RequestFault → Type 0
ReadsRequest came (Ok None) = IsCutHead came
ReadsRequest came (Ok (Some request)) = AnswersShort came (Ok request)
ReadsRequest came (Err OutOfMemory) = ⊤
ReadsRequest came (Err (Refused why head_only)) =
    (BeginsWithNone came why × (head_only ≡ false))
    ⊎ AnswersShort came (Err (Refused why head_only))
