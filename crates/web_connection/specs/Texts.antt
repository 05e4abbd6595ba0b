-- How an answer is written around its page.
use Rattle.std.specs.Prelude.{ℕ, Bool, false, List, [], ◌++◌, length, if◌then◌else◌}
use Rattle.http1.specs.declared.encode.Encoder.{Encoder}
use Rattle.http1.specs.declared.encode.Encoder.TheVariants as Coding
use Rattle.web_request.specs.Heads.{head_text}
use Rattle.web_request.specs.declared.answer.Answer.{Answer}
use Rattle.web_request.specs.declared.answer.Body.{Body}
use Rattle.web_request.specs.declared.answer.Body.TheVariants.{Length, Chunked, UntilClose}
use Rattle.web_request.specs.declared.answer.Kind.{Kind}
use Rattle.web_request.specs.declared.answer.Status.TheVariants.{Success}

-- what the head of an answer tells: the connection is closed after it
abbrev pub told_of : Kind → Body → Answer
told_of kind body = record { status = Success; kind = kind; body = body; keeps_open = false }

-- an answer that is a page, by its head alone where that is asked for
abbrev pub answer_text : Kind → (page : List ℕ) → (head_only : Bool) → List ℕ
answer_text kind page head_only =
    head_text (told_of kind (Length (length page))) ++ (if head_only then [] else page)

-- the head of a history, whose length isn't known
abbrev pub history_head : Kind → (chunked : Bool) → List ℕ
history_head kind chunked = head_text (told_of kind (if chunked then Chunked else UntilClose))

-- how the portions of a history are framed
abbrev pub coding_of : (chunked : Bool) → Encoder
coding_of chunked = if chunked then Coding.Chunked else Coding.UntilClose
