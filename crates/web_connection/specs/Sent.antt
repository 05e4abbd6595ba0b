-- What goes out of a history, over all the steps that its answer takes.
use Rattle.std.specs.Prelude.{◌≡◌, ◌≢◌, ◌⊎◌, ℕ, Bool, List, [], ◌∷◌, ◌++◌, flat_map, Result, Ok, IsOk, IsErr}
use Rattle.std.specs.List.{concat}
use Rattle.std.specs.declared.alloc.AllocError.{AllocError}
use Rattle.http1.specs.Encoder.{piece_text, body_text}
use Rattle.records.specs.Contents.{Content}
use Rattle.archive.specs.declared.fault.StoreFault.{StoreFault}
use Rattle.history_report.specs.declared.report.Form.TheVariants as form
use Rattle.history_report.specs.declared.report.Report.{Report}
use Rattle.history_report.specs.Parts.{HasTextless, IsFirstPart, IsPrinted, IsPrintedStart}
use Rattle.history_report.specs.Portions.{MayFollow}
use Rattle.web_page.specs.Calls.{Overview}
use Rattle.web_request.specs.declared.answer.Kind.{Kind}
use Rattle.web_request.specs.declared.answer.Kind.TheVariants.{Csv, Html}
use Rattle.web_request.specs.declared.page.Question.{Question}
use Rattle.web_connection.specs.Answers.{AnswersStep, WebState, report_of}
use Rattle.web_connection.specs.Texts.{coding_of, history_head}
use Rattle.web_connection.specs.declared.step.WebStep.{WebStep}
use Rattle.web_connection.specs.declared.step.WebStep.TheVariants.{Continues}

-- ---- steps

-- a step of a connection made this piece of an answer that was begun of a content; its archive held
-- that then, or has learned since
abbrev pub MakesPiece : Content → (was now : WebState) → List StoreFault → (piece : List ℕ)
    → Result WebStep AllocError → Type 0
MakesPiece R was now faults piece result =
    (S : Content) × MayFollow R S × (overview : Overview)
    × AnswersStep overview S was faults piece result now

-- steps made these pieces, one behind the other, and there is more to answer behind each
abbrev pub MakesPieces : Content → (was now : WebState) → List (List ℕ) → Type 0
MakesPieces R was now [] = now ≡ was
MakesPieces R was now (piece ∷ pieces) =
    (next : WebState) × (faults : List StoreFault)
    × MakesPiece R was next faults piece (Ok Continues) × MakesPieces R next now pieces

-- steps made these pieces to the end of the answer: the last step, whose store met these faults,
-- came to this, and there is nothing more to answer
abbrev pub MakesAll : Content → WebState → List (List ℕ) → List StoreFault
    → Result WebStep AllocError → Type 0
MakesAll R was pieces faults ended =
    (first : List (List ℕ)) × (last : List ℕ) × (pieces ≡ first ++ last ∷ [])
    × (now : WebState) × MakesPieces R was now first
    × (next : WebState) × MakesPiece R now next faults last ended × (ended ≢ Ok Continues)

-- ---- what is sent

-- a history was sent whole: its head, and as a body a text of which this holds, to the body's end
abbrev pub IsSentWhole : Kind → (chunked : Bool) → (List ℕ → Type 0) → (sent : List ℕ) → Type 0
IsSentWhole kind chunked IsText sent =
    (pieces : List (List ℕ)) × IsText (concat pieces)
    × (sent ≡ history_head kind chunked ++ body_text pieces (coding_of chunked) [])

-- a history was broken off: behind its head stand pieces of a body, which are a text of which this
-- holds, and the body doesn't end
abbrev pub IsSentInPart : Kind → (chunked : Bool) → (List ℕ → Type 0) → (sent : List ℕ) → Type 0
IsSentInPart kind chunked IsText sent =
    (pieces : List (List ℕ)) × IsText (concat pieces)
    × (sent ≡ history_head kind chunked ++ flat_map (piece_text (coding_of chunked)) pieces)

-- the store met a fault in the last step, or memory was wanting there
abbrev pub IsBrokenOff : List StoreFault → Result WebStep AllocError → Type 0
IsBrokenOff faults ended = (faults ≢ []) ⊎ IsErr ended

-- the report of a content was sent whole, and the last step met no fault; or it was broken off for
-- this reason, and what was sent is the report up to a line of it
abbrev pub SendsReport : Content → Kind → Report → (chunked : Bool) → (Breaks : Type 0)
    → List StoreFault → Result WebStep AllocError → (sent : List ℕ) → Type 0
SendsReport R kind report chunked Breaks faults ended sent =
    ((faults ≡ []) × IsOk ended × IsSentWhole kind chunked (IsPrinted R report) sent)
    ⊎ (Breaks × IsSentInPart kind chunked (IsPrintedStart R report) sent)

-- the page of a history was sent so: its first part, which is broken off for a fault of the store
-- or for want of memory alone
abbrev pub SendsPage : Content → Question → (chunked : Bool) → List StoreFault
    → Result WebStep AllocError → (sent : List ℕ) → Type 0
SendsPage R question chunked faults ended sent =
    (part : Report) × IsFirstPart R (report_of question form.Page) part
    × SendsReport R Html part chunked (IsBrokenOff faults ended) faults ended sent

-- a history was sent so as CSV, which is broken off for a value that has no text too
abbrev pub SendsCsv : Content → Question → (chunked : Bool) → List StoreFault
    → Result WebStep AllocError → (sent : List ℕ) → Type 0
SendsCsv R question chunked faults ended sent =
    SendsReport R Csv (report_of question form.Csv) chunked
    (IsBrokenOff faults ended ⊎ HasTextless R (report_of question form.Csv)) faults ended sent
