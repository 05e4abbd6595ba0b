-- The head of an answer (RFC 9112, 4 and 5).
use Rattle.std.specs.Prelude.{ℕ, Bool, List, [], ◌++◌, codes, if◌then◌else◌}
use Rattle.std.specs.Fmt.{decimal}
use Rattle.web_request.specs.declared.answer.Kind.{Kind}
use Rattle.web_request.specs.declared.answer.Kind.TheVariants.{Html, Csv, Json}
use Rattle.web_request.specs.declared.answer.Status.{Status}
use Rattle.web_request.specs.declared.answer.Status.TheVariants.{Success, BadRequest, Unauthorized, Forbidden, NotFound, MethodNotAllowed, ContentTooLarge, FieldsTooLarge, InternalError, Unavailable}
use Rattle.web_request.specs.declared.answer.Answer.{Answer}
use Rattle.web_request.specs.declared.answer.Body.{Body}
use Rattle.web_request.specs.declared.answer.Body.TheVariants.{Length, Chunked, UntilClose}

-- a status by its code and its reason (RFC 9110, 15; RFC 6585, 5)
abbrev pub status_words : Status → List ℕ
status_words Success = codes "200 OK"
status_words BadRequest = codes "400 Bad Request"
status_words Unauthorized = codes "401 Unauthorized"
status_words Forbidden = codes "403 Forbidden"
status_words NotFound = codes "404 Not Found"
status_words MethodNotAllowed = codes "405 Method Not Allowed"
status_words ContentTooLarge = codes "413 Content Too Large"
status_words FieldsTooLarge = codes "431 Request Header Fields Too Large"
status_words InternalError = codes "500 Internal Server Error"
status_words Unavailable = codes "503 Service Unavailable"

-- what a body is (RFC 9110, 8.3)
abbrev pub kind_text : Kind → List ℕ
kind_text Html = codes "text/html; charset=utf-8"
kind_text Csv = codes "text/csv; charset=utf-8"
kind_text Json = codes "application/json"

-- a line of a head
unfoldable pub line : List ℕ → List ℕ
line text = text ++ codes "\r\n"

-- a field: its name, a colon and its value
unfoldable pub head_field : (name value : List ℕ) → List ℕ
head_field name value = name ++ codes ": " ++ value ++ codes "\r\n"

-- no cache keeps the answer, no page loads anything but its own style, is taken for something else,
-- is shown in another, or tells another where it was
unfoldable pub guards : List ℕ
guards =
    head_field (codes "Cache-Control") (codes "no-store")
    ++ head_field (codes "Content-Security-Policy")
    (codes "default-src 'none'; style-src 'unsafe-inline'")
    ++ head_field (codes "X-Content-Type-Options") (codes "nosniff")
    ++ head_field (codes "X-Frame-Options") (codes "DENY")
    ++ head_field (codes "Referrer-Policy") (codes "no-referrer")

-- what a status asks for: credentials (RFC 7617, 2), or another method (RFC 9110, 15.5.6)
abbrev pub demand : Status → List ℕ
demand Unauthorized =
    head_field (codes "WWW-Authenticate") (codes "Basic realm=\"uahist\", charset=\"UTF-8\"")
demand MethodNotAllowed = head_field (codes "Allow") (codes "GET, HEAD")
demand _ = []

-- whether the connection is kept
abbrev pub connection_text : Bool → List ℕ
connection_text keeps_open = if keeps_open then codes "keep-alive" else codes "close"

-- how the end of a body is told (RFC 9112, 6.3): by its length in bytes, by its last chunk, or by
-- the connection's end
abbrev pub framing : Body → List ℕ
framing (Length n) = head_field (codes "Content-Length") (decimal n)
framing Chunked = head_field (codes "Transfer-Encoding") (codes "chunked")
framing UntilClose = []

-- what the body is, how its end is told, and whether the connection is kept
abbrev pub body_fields : Answer → List ℕ
body_fields answer =
    head_field (codes "Content-Type") (kind_text answer.kind)
    ++ framing answer.body
    ++ head_field (codes "Connection") (connection_text answer.keeps_open)

-- the head of an answer, and the empty line behind it
abbrev pub head_text : Answer → List ℕ
head_text answer =
    line (codes "HTTP/1.1 " ++ status_words answer.status) ++ body_fields answer
    ++ guards ++ demand answer.status ++ line []
