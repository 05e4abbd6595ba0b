-- What a browser's connection is answered.
use Rattle.std.specs.Prelude.{◌≡◌, ◌≢◌, ◌↔◌, ◌⊎◌, ⊤, ℕ, Bool, true, false, List, [], ◌++◌, Option, None, Some, is_some, not, Result, Ok, Err, IfOk, if◌then◌else◌}
use Rattle.std.specs.declared.alloc.AllocError.{AllocError}
use Rattle.http1.specs.Encoder.{piece_text, end_text}
use Rattle.records.specs.Contents.{Content, vec}
use Rattle.archive.specs.Store.{Store}
use Rattle.archive.specs.declared.fault.StoreFault.{StoreFault}
use Rattle.ua_space.specs.declared.layout.Layout.{Layout}
use Rattle.ua_space.specs.Space.{value_type_at}
use Rattle.ua_binary.specs.declared.values.NodeId.{NodeId}
use Rattle.ua_settings.specs.Settings.{SettingsValues}
use Rattle.history_report.specs.declared.fault.ReportFault.{ReportFault}
use Rattle.history_report.specs.declared.fault.ReportFault.TheVariants as fault
use Rattle.history_report.specs.declared.report.Form.{Form}
use Rattle.history_report.specs.declared.report.Form.TheVariants as form
use Rattle.history_report.specs.declared.report.Report.{Report}
use Rattle.history_report.specs.Reports.{IsHeader, report_faults, changes_asked}
use Rattle.history_report.specs.Parts.{AreCrowded, HasTextless, IsFirstPart, PartHasTextless}
use Rattle.history_report.specs.Portions.{Remainder, IsWhole, IsOfSame, IsPortion, ending}
use Rattle.settings_check.specs.Stored.{Reads}
use Rattle.web_page.specs.Calls.{Overview}
use Rattle.web_page.specs.Front.{IsFront}
use Rattle.web_request.specs.Refusals.{refusal_text}
use Rattle.web_request.specs.Requests.{ReadsRequest as IsRead, IsCutHead}
use Rattle.web_request.specs.declared.answer.Kind.{Kind}
use Rattle.web_request.specs.declared.answer.Kind.TheVariants.{Csv, Html, Json}
use Rattle.web_request.specs.declared.page.Page.{Page}
use Rattle.web_request.specs.declared.page.Page.TheVariants as page
use Rattle.web_request.specs.declared.page.Question.{Question}
use Rattle.web_request.specs.declared.page.Refusal.{Refusal}
use Rattle.web_request.specs.declared.page.Refusal.TheVariants as why
use Rattle.web_request.specs.declared.page.Request.{Request}
use Rattle.web_request.specs.declared.page.RequestFault.TheVariants.{Refused}
use Rattle.web_connection.specs.Access.{is_let_in, are_wrong}
use Rattle.web_connection.specs.Texts.{answer_text, history_head, coding_of}
use Rattle.web_connection.specs.Status.{IsStatusJson}
use Rattle.web_connection.specs.declared.sending.Sending.{Sending}
use Rattle.web_connection.specs.declared.sending.Rest.{Rest}
use Rattle.web_connection.specs.declared.sending.Rest.TheVariants as rest
use Rattle.web_connection.specs.declared.step.WebStep.{WebStep}
use Rattle.web_connection.specs.declared.step.WebStep.TheVariants.{NeedsInput, Continues, Ended, Denied}

-- ---- what a connection keeps

-- the bytes that came of its request, and what of a history is still to be sent, if one is being
-- sent
pub record WebState : Type 0 where
  pub came : List ℕ
  pub sending : Option Sending

-- the same by its parts
abbrev pub web_of : (came : List ℕ) → Option Sending → WebState
web_of came sending = record { came = came; sending = sending }

-- nothing came, and nothing is being sent
abbrev pub new_web : WebState
new_web = web_of [] None

-- with the next bytes of the browser; what comes while a history is being sent is left aside
abbrev pub with_input : WebState → List ℕ → WebState
with_input web bytes =
    elim web.sending [ None ↦ record web { came = web.came ++ bytes } | Some sending ↦ web ]

-- nothing is being sent, and what came is no whole head, and may become one
abbrev pub NeedsRequest : WebState → Type 0
NeedsRequest web = (web.sending ≡ None) × IsCutHead web.came

-- ---- answers that end at once

-- this refusal is told, and the store met no fault
abbrev pub TellsRefusal : Refusal → (head_only : Bool) → List StoreFault → List ℕ → Type 0
TellsRefusal why head_only faults text = (faults ≡ []) × (text ≡ refusal_text why head_only)

-- the store met a fault, and it is told that the archive can't be read now
abbrev pub TellsStoreFault : (head_only : Bool) → List StoreFault → List ℕ → Type 0
TellsStoreFault head_only faults text = (faults ≢ []) × (text ≡ refusal_text why.Store head_only)

-- a page of which this holds is told, or its head alone; or that the archive can't be read now
abbrev pub TellsPage : Kind → (head_only : Bool) → (List ℕ → Type 0) → List StoreFault → List ℕ
    → Type 0
TellsPage kind head_only IsPage faults text =
    TellsStoreFault head_only faults text
    ⊎ ((faults ≡ []) × (page : List ℕ) × IsPage page × (text ≡ answer_text kind page head_only))

-- the page is the status as JSON: how many connections there are, the number of each replica's last
-- record, and the last call of each peer
abbrev pub IsStatus : Overview → Content → List ℕ → Type 0
IsStatus overview R page = IsStatusJson overview (vec R) page

-- ---- histories

-- the settings have a variable of this id
abbrev pub is_variable : Layout → NodeId → Bool
is_variable space node = is_some (value_type_at space node)

-- the report that a question asks for
abbrev pub report_of : Question → Form → Report
report_of question form =
    record {
      node = question.node;
      from = question.from;
      to = question.to;
      changes = question.changes;
      form = form;
      next = None;
    }

-- more modifications of one moment come first than a page shows
abbrev pub IsCrowded : Content → Question → Type 0
IsCrowded R question =
    (question.changes ≡ true) × AreCrowded (changes_asked R (report_of question form.Page))

-- The head of a history is told, and what stands above its rows as its first portion, and all its
-- rows are still to be sent; or its head, where that alone is asked for.
abbrev pub IsBegun : Kind → (head_only : Bool) → (header : List ℕ) → Sending → List ℕ
    → Option Sending → Type 0
IsBegun kind head_only header left text sending =
    elim head_only [
      | true ↦ (text ≡ history_head kind left.chunked) × (sending ≡ None)
      | false ↦ (text ≡ history_head kind left.chunked
          ++ piece_text (coding_of left.chunked) header) × (sending ≡ Some left)
    ]

-- a report of what is held is begun so
abbrev pub BeginsHistory : Content → Kind → Report → (head_only chunked : Bool) → List ℕ
    → Option Sending → Type 0
BeginsHistory R kind report head_only chunked text sending =
    (header : List ℕ) × IsHeader report header × (left : Remainder) × IsWhole report left R
    × IsBegun kind head_only header (record { portions = left; chunked = chunked }) text sending

-- a page of a history is begun: it is the first part, which leads to the rest, and each value that
-- it shows has a text
abbrev pub BeginsPage : Content → Question → (head_only chunked : Bool) → List ℕ → Option Sending
    → Type 0
BeginsPage R question head_only chunked text sending =
    (part : Report) × IsFirstPart R (report_of question form.Page) part
    × (HasTextless R part → ⊥) × BeginsHistory R Html part head_only chunked text sending

-- it is told why there is no page of a history: the archive can't be read now, or it is crowded, or
-- a value that the page would show has no text
abbrev pub RefusesPage : Content → Question → (head_only : Bool) → List StoreFault → List ℕ
    → Type 0
RefusesPage R question head_only faults text =
    TellsStoreFault head_only faults text
    ⊎ ((IsCrowded R question × TellsRefusal why.Crowded head_only faults text)
    ⊎ (PartHasTextless R (report_of question form.Page)
    × TellsRefusal why.NoText head_only faults text))

-- a history as a page is begun, or it is told why there is none
abbrev pub TellsHistory : Content → Question → (head_only chunked : Bool) → List StoreFault
    → List ℕ → Option Sending → Type 0
TellsHistory R question head_only chunked faults text sending =
    ((faults ≡ []) × BeginsPage R question head_only chunked text sending)
    ⊎ (RefusesPage R question head_only faults text × (sending ≡ None))

-- a history as CSV is begun, or its head is told where that alone is asked for; or it is told that
-- the archive can't be read now
abbrev pub TellsCsv : Content → Question → (head_only chunked : Bool) → List StoreFault → List ℕ
    → Option Sending → Type 0
TellsCsv R question head_only chunked faults text sending =
    elim head_only [
      | true ↦ (faults ≡ []) × (text ≡ history_head Csv chunked) × (sending ≡ None)
      | false ↦ (TellsStoreFault false faults text × (sending ≡ None))
          ⊎ ((faults ≡ [])
          × BeginsHistory R Csv (report_of question form.Csv) false chunked text sending)
    ]

-- A portion of a history as it is sent, and after the last one the end. Where the store met a
-- fault, or a value has no text, the history is broken off without it.
abbrev pub IsPortionText : (chunked : Bool) → (portion : List ℕ) → Result Bool ReportFault
    → List ℕ → Type 0
IsPortionText chunked portion result text =
    elim result [
      | Ok false ↦ text ≡ piece_text (coding_of chunked) portion ++ end_text (coding_of chunked) []
      | Err fault.OutOfMemory ↦ ⊥
      | Err fault.Write ↦ ⊥
      | _ ↦ text ≡ piece_text (coding_of chunked) portion
    ]

-- what is still to be sent after a portion, where it isn't the last
abbrev pub rest_of : (chunked : Bool) → Remainder → Result Bool ReportFault → Option Sending
rest_of chunked left result =
    elim result [
      | Ok true ↦ Some (record { portions = left; chunked = chunked })
      | _ ↦ None
    ]

-- the next portion of a history that is being sent, of the records that it was begun with
abbrev pub GoesOn : Content → Sending → List StoreFault → List ℕ → Option Sending → Type 0
GoesOn R was faults text sending =
    (portion : List ℕ) × (now : Remainder) × (result : Result Bool ReportFault)
    × (faults ≡ report_faults (ending result)) × IsPortion was.portions now R [] portion result
    × IsOfSame was.portions now
    × IsPortionText was.chunked portion result text × (sending ≡ rest_of was.chunked now result)

-- ---- a request

-- a history is asked for of a node that is no variable of the settings
abbrev pub lacks_variable : Layout → Page → Bool
lacks_variable space asked =
    elim asked [
      | page.Front ↦ false
      | page.History question ↦ not (is_variable space question.node)
      | page.Csv question ↦ not (is_variable space question.node)
      | page.Status ↦ false
    ]

-- why a request isn't answered by its page, if it isn't: who asks isn't let in, or there is no such
-- variable
abbrev pub refusal_of : SettingsValues → Request → Option Refusal
refusal_of s request =
    if is_let_in s request.credentials
    then (if lacks_variable s.space request.page then Some why.Unknown else None)
    else Some why.Credentials

-- what somebody who is let in is told: the page that is asked for
abbrev pub TellsAsked : Overview → Content → Page → (head_only chunked : Bool)
    → List StoreFault → List ℕ → Option Sending → Type 0
TellsAsked overview R asked head_only chunked faults text sending =
    elim asked [
      | page.Front ↦ TellsPage Html head_only (IsFront overview R) faults text × (sending ≡ None)
      | page.History question ↦ TellsHistory R question head_only chunked faults text sending
      | page.Csv question ↦ TellsCsv R question head_only chunked faults text sending
      | page.Status ↦ TellsPage Json head_only (IsStatus overview R) faults text × (sending ≡ None)
    ]

-- what is told of a request: why it is refused, if it is; else its page
abbrev pub AnswersRequest : Overview → Content → Request → List StoreFault → List ℕ
    → Option Sending → Type 0
AnswersRequest overview R request faults text sending =
    elim (refusal_of overview.settings request) [
      | Some cause ↦ TellsRefusal cause request.head_only faults text × (sending ≡ None)
      | None ↦ TellsAsked overview R request.page request.head_only request.takes_chunks faults text
          sending
    ]

-- what came is refused, or a request was read, which is answered
abbrev pub AnswersInput : Overview → Content → (came : List ℕ) → List StoreFault → List ℕ
    → Option Sending → Type 0
AnswersInput overview R came faults text sending =
    ((cause : Refusal) × (head_only : Bool) × IsRead came (Err (Refused cause head_only))
    × TellsRefusal cause head_only faults text × (sending ≡ None))
    ⊎ ((request : Request) × IsRead came (Ok (Some request))
    × AnswersRequest overview R request faults text sending)

-- a request came whose credentials let nobody in
abbrev pub AreWrongIn : SettingsValues → (came : List ℕ) → Type 0
AreWrongIn s came =
    (request : Request) × IsRead came (Ok (Some request))
    × (are_wrong s request.credentials ≡ true)

-- ---- a step

-- what is after a text and still to be sent, if anything is
abbrev pub sending_of : Rest → Option Sending
sending_of behind = elim behind [ rest.Sending left ↦ Some left | _ ↦ None ]

-- what a step comes to, by what is after its text
abbrev pub step_of : Rest → WebStep
step_of behind =
    elim behind [ rest.Sending left ↦ Continues | rest.Over ↦ Ended | rest.Denied ↦ Denied ]

-- who asks is to be denied: a request is answered now whose credentials let nobody in
abbrev pub IsDenied : SettingsValues → WebState → Type 0
IsDenied s web = (web.sending ≡ None) × AreWrongIn s web.came

-- no whole request came, and all stays
abbrev pub WaitsForRequest : WebState → List StoreFault → List ℕ → WebState → Type 0
WaitsForRequest web faults made next = NeedsRequest web × (faults ≡ []) × (made ≡ []) × (next ≡ web)

-- the answer to a request is begun, or goes on; this is its next part
abbrev pub GoesFurther : Overview → Content → (came : List ℕ) → Option Sending
    → List StoreFault → (made : List ℕ) → Option Sending → Type 0
GoesFurther overview R came old faults made new =
    elim old [
      | None ↦ AnswersInput overview R came faults made new
      | Some was ↦ GoesOn R was faults made new
    ]

-- A step made this of the answer, over what an archive held, and its store met these faults; it
-- goes on as long as something is still to be sent. Where memory was wanting, it made nothing.
abbrev pub AnswersStep : Overview → Content → WebState → List StoreFault → (made : List ℕ)
    → Result WebStep AllocError → WebState → Type 0
AnswersStep overview R web faults made (Err starved) next = made ≡ []
AnswersStep overview R web faults made (Ok NeedsInput) next = WaitsForRequest web faults made next
AnswersStep overview R web faults made (Ok Continues) next =
    (next.sending ≢ None) × GoesFurther overview R web.came web.sending faults made next.sending
AnswersStep overview R web faults made (Ok over) next =
    (next.sending ≡ None) × GoesFurther overview R web.came web.sending faults made next.sending

-- An archive was asked, which stays as it is, and by what it held a step made this of the answer;
-- its store met just the faults that the answer depends on. Whatever it held, a step that isn't
-- starved is `Denied` exactly where who asks is to be denied.
abbrev pub AnswersWeb : Overview → Store → Store → WebState → (made : List ℕ)
    → Result WebStep AllocError → WebState → Type 0
AnswersWeb overview old new web made result next =
    (faults : List StoreFault)
    × Reads old new faults (λ R. AnswersStep overview R web faults made result next)
    × IfOk result (λ step. (step ≡ Denied) ↔ IsDenied overview.settings web)

-- an archive was asked, which stays as it is, and a text of which this holds was made by it
abbrev pub Makes : Store → Store → (Content → List StoreFault → Type 0) → Type 0
Makes old new Holds = (faults : List StoreFault) × Reads old new faults (λ R. Holds R faults)

-- an archive was asked, which stays as it is
abbrev pub OnlyAsks : Store → Store → Type 0
OnlyAsks old new = Makes old new (λ R faults. ⊤)
