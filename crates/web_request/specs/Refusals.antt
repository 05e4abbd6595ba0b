-- How a refusal is told.
use Rattle.std.specs.Prelude.{ℕ, Bool, List, [], ◌++◌, length, codes, false, if◌then◌else◌}
use Rattle.web_request.specs.Heads.{status_words, head_text}
use Rattle.web_request.specs.declared.answer.Answer.{Answer}
use Rattle.web_request.specs.declared.answer.Body.TheVariants.{Length}
use Rattle.web_request.specs.declared.answer.Kind.TheVariants.{Html}
use Rattle.web_request.specs.declared.answer.Status.{Status}
use Rattle.web_request.specs.declared.answer.Status.TheVariants.{BadRequest, Unauthorized, NotFound, MethodNotAllowed, ContentTooLarge, FieldsTooLarge, InternalError, Unavailable}
use Rattle.web_request.specs.declared.page.Part.{Part as QueryPart}
use Rattle.web_request.specs.declared.page.Part.TheVariants as part
use Rattle.web_request.specs.declared.page.Refusal.{Refusal}
use Rattle.web_request.specs.declared.page.Refusal.TheVariants.{NotHttp, TooLong, Method, Path, Body, Part, Credentials, Unknown, Store, NoText, Crowded}

-- the status of a refusal
abbrev pub status_of : Refusal → Status
status_of NotHttp = BadRequest
status_of TooLong = FieldsTooLarge
status_of Method = MethodNotAllowed
status_of Path = NotFound
status_of Body = ContentTooLarge
status_of (Part _) = BadRequest
status_of Credentials = Unauthorized
status_of Unknown = NotFound
status_of Store = Unavailable
status_of NoText = InternalError
status_of Crowded = InternalError

-- what would be right in place of a part of a query
abbrev pub part_advice : QueryPart → List ℕ
part_advice part.Node = codes "node: expected a node id, as ns%3D1%3Bs%3DTemperature or i%3D2258."
part_advice part.From = codes "from: expected a time, as 2026-03-01T12:00:00Z."
part_advice part.To = codes "to: expected a time, as 2026-03-01T12:00:00Z."
part_advice part.Changes = codes "changes: expected true or false."
part_advice part.Unknown = codes "Expected node, from, to and changes for a history, else nothing."
part_advice part.Twice = codes "Expected each of node, from, to and changes once."

-- what would be right
abbrev pub advice : Refusal → List ℕ
advice NotHttp = codes "Expected a request of HTTP/1.1, with one Host field."
advice TooLong = codes "Expected at most 16 KiB and 64 fields in the head of a request."
advice Method = codes "Expected GET or HEAD."
advice Path = codes "Expected /, /history, /history.csv or /status.json."
advice Body = codes "Expected a request without a body."
advice (Part part) = part_advice part
advice Credentials = codes "Expected a name and a password by the scheme Basic."
advice Unknown = codes "There is no variable of this node id."
advice Store = codes "The archive can't be read now."
advice NoText =
    codes "A value of this history is of a type that isn't written as text."
advice Crowded =
    codes "More than 500 modifications stand at one moment: ask for them by /history.csv."

-- the page that tells a refusal
abbrev pub page_text : Refusal → List ℕ
page_text why =
    codes "<!DOCTYPE html>\n<html lang=\"en\">\n<head><meta charset=\"utf-8\"><title>"
    ++ status_words (status_of why) ++ codes "</title></head>\n<body><h1>"
    ++ status_words (status_of why) ++ codes "</h1>\n<p>" ++ advice why
    ++ codes "</p></body>\n</html>\n"

-- what the head of that page tells: the connection isn't kept
abbrev pub answer_of : Refusal → Answer
answer_of why = record {
  status = status_of why;
  kind = Html;
  body = Length (length (page_text why));
  keeps_open = false;
}

-- the answer to a request that is refused, by its head alone where that is asked for
abbrev pub refusal_text : Refusal → (head_only : Bool) → List ℕ
refusal_text why head_only =
    head_text (answer_of why) ++ (if head_only then [] else page_text why)
