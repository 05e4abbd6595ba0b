-- What is told of what was found.
use Rattle.std.proofs.Common.{◌≡◌, ℕ, Bool, List, [], ◌∷◌, ◌++◌, Option, None, Some, Result, Ok, Err, true, false, inl, inr, refl, sym, subst, ap, ◌∙◌}
use Rattle.std.specs.Prelude.{⊤, IfOk, MatchResult}
use Rattle.std.specs.declared.alloc.AllocError.{AllocError}
use Rattle.stamp.specs.Numbers.{number_of}
use Rattle.records.specs.Contents.{Content}
use Rattle.archive.specs.Store.{Store}
use Rattle.archive.specs.declared.fault.StoreFault.{StoreFault}
use Rattle.history_report.specs.declared.fault.PartFault.{PartFault}
use Rattle.history_report.specs.declared.fault.PartFault.TheVariants as part
use Rattle.history_report.specs.declared.fault.ReportFault.{ReportFault}
use Rattle.history_report.specs.declared.fault.ReportFault.TheVariants as fault
use Rattle.history_report.specs.declared.report.Form.TheVariants as form
use Rattle.history_report.specs.declared.report.Report.{Report}
use Rattle.history_report.specs.Paging.{IsPut}
use Rattle.history_report.specs.Reports.{IsHeader, changes_asked, report_faults}
use Rattle.history_report.specs.Parts.{AreCrowded, AsksForPart, IsFirstPart, PartHasTextless}
use Rattle.history_report.specs.Portions.{Begins, BeginsPart, Remainder, IsOfSame, IsPortion, IsWhole, ending}
use Rattle.settings_check.specs.Stored.{IsVectorOf, Reads}
use Rattle.web_page.specs.declared.fault.PageFault.{PageFault}
use Rattle.web_page.specs.Calls.{Overview}
use Rattle.web_page.specs.Front.{page_faults}
use Rattle.web_request.specs.Refusals.{refusal_text}
use Rattle.web_request.specs.declared.answer.Kind.{Kind}
use Rattle.web_request.specs.declared.answer.Kind.TheVariants.{Csv, Html, Json}
use Rattle.web_request.specs.declared.page.Page.{Page}
use Rattle.web_request.specs.declared.page.Question.{Question}
use Rattle.web_request.specs.declared.page.Refusal.{Refusal}
use Rattle.web_request.specs.declared.page.Refusal.TheVariants as why
use Rattle.web_request.specs.declared.page.Request.{Request}
use Rattle.web_connection.specs.Answers.{BeginsHistory, GoesOn, IsBegun, IsCrowded, IsPortionText, IsStatus, OnlyAsks, Makes, RefusesPage, TellsCsv, TellsHistory, rest_of, TellsAsked, TellsPage, TellsRefusal, TellsStoreFault, AnswersRequest, refusal_of, report_of, sending_of}
use Rattle.web_connection.specs.Status.{IsStatusJson}
use Rattle.web_connection.specs.Texts.{answer_text, history_head}
use Rattle.web_connection.specs.declared.sending.Sending.{Sending}
use Rattle.web_connection.specs.declared.sending.Told.{Told}
use Rattle.web_connection.proofs.AskingLemmas.{made-as, made-by, one-fault, only-asked, reads-of}

-- a page that was put behind nothing
pub page-told : (kind : Kind) (head_only : Bool) (IsPage : List ℕ → Type 0)
    (empty page text : List ℕ) → empty ≡ [] → text ≡ page → IsPut empty page IsPage
    → TellsPage kind head_only IsPage [] (answer_text kind text head_only)
page-told kind head_only IsPage empty page text none same (line, puts, holds) =
    inr (
      refl,
      line,
      holds,
      ap (λ p. answer_text kind p head_only) (same ∙ (puts ∙ ap (λ e. e ++ line) none)),
    )

-- a fault of the store
pub store-told : (head_only : Bool) (fault : StoreFault)
    → TellsStoreFault head_only (fault ∷ []) (refusal_text why.Store head_only)
store-told head_only fault = (one-fault fault, refl)

-- how the server does
pub state-told : (overview : Overview) (R : Content) (head_only : Bool) (numbers text : List ℕ)
    → IsVectorOf numbers R
    → (page : List ℕ) × IsStatusJson overview (number_of numbers) page
    × (text ≡ answer_text Json page head_only)
    → TellsPage Json head_only (IsStatus overview R) [] text
state-told overview R head_only numbers text same (page, is, told) =
    inr (
      refl,
      page,
      subst (λ (f : ℕ → ℕ). IsStatusJson overview f page) (λ i replica. same replica i) is,
      told,
    )

-- what was put behind nothing is the header of a report
header-of : (report asked : Report) (empty header sent : List ℕ) → report ≡ asked → empty ≡ []
    → sent ≡ header → IsPut empty header (IsHeader report) → IsHeader asked sent
header-of report asked empty header sent is none same (line, puts, holds) =
    subst (λ (r : Report). IsHeader r sent) is
    (subst (IsHeader report) (sym (same ∙ (puts ∙ ap (λ e. e ++ line) none))) holds)

-- a history that is begun
pub history-begun : (R : Content) (kind : Kind) (report asked : Report) (head_only chunked : Bool)
    (left : Remainder) (empty header sent text : List ℕ) (sending : Option Sending)
    → report ≡ asked → empty ≡ [] → sent ≡ header → IsPut empty header (IsHeader report)
    → IsWhole report left R
    → IsBegun kind head_only sent (record { portions = left; chunked = chunked }) text sending
    → BeginsHistory R kind asked head_only chunked text sending
history-begun R kind report asked head_only chunked left empty header sent text sending is none same
    puts whole told = (
      sent,
      header-of report asked empty header sent is none same puts,
      left,
      subst (λ (r : Report). IsWhole r left R) is whole,
      told,
    )

-- the first part of a history
pub page-begun : (R : Content) (question : Question) (report : Report) (head_only chunked : Bool)
    (left : Remainder) (empty header sent text : List ℕ) (sending : Option Sending)
    → report ≡ report_of question form.Page → empty ≡ [] → sent ≡ header
    → BeginsPart report left R empty header
    → IsBegun Html head_only sent (record { portions = left; chunked = chunked }) text sending
    → TellsHistory R question head_only chunked [] text sending
page-begun R question report head_only chunked left empty header sent text sending asked none same
    (part, first, texts, puts, whole) told =
    inl (
      refl,
      (
        part,
        subst (λ (r : Report). IsFirstPart R r part) asked first,
        texts,
        history-begun R Html part part head_only chunked left empty header sent text sending refl
            none same puts whole told,
      ),
    )

-- a page is refused
pub page-refused : (R : Content) (question : Question) (head_only chunked : Bool)
    (faults : List StoreFault) (text : List ℕ) (sending : Option Sending)
    → RefusesPage R question head_only faults text → sending ≡ None
    → TellsHistory R question head_only chunked faults text sending
page-refused R question head_only chunked faults text sending refuses over = inr (refuses, over)

-- what a request is answered, by why it is refused
abbrev Judged : Overview → Content → Request → Option Refusal → List StoreFault → List ℕ
    → Option Sending → Type 0
Judged overview R request judged faults text sending =
    elim judged [
      | Some cause ↦ TellsRefusal cause request.head_only faults text × (sending ≡ None)
      | None ↦ TellsAsked overview R request.page request.head_only request.takes_chunks faults text
          sending
    ]

-- a request that is refused
pub refused : (overview : Overview) (R : Content) (request : Request) (judged : Option Refusal)
    (cause : Refusal) (text : List ℕ) → judged ≡ refusal_of overview.settings request
    → judged ≡ Some cause
    → text ≡ refusal_text cause request.head_only → AnswersRequest overview R request [] text None
refused overview R request judged cause text by is told =
    subst (λ (o : Option Refusal). Judged overview R request o [] text None) (sym is ∙ by)
    ((refl, told), refl)

-- one that isn't
pub taken : (overview : Overview) (R : Content) (request : Request) (judged : Option Refusal)
    (faults : List StoreFault) (text : List ℕ) (sending : Option Sending)
    → judged ≡ refusal_of overview.settings request → judged ≡ None
    → TellsAsked overview R request.page request.head_only request.takes_chunks faults text sending
    → AnswersRequest overview R request faults text sending
taken overview R request judged faults text sending by is told =
    subst (λ (o : Option Refusal). Judged overview R request o faults text sending)
    (sym is ∙ by) told

-- the page that is asked for
pub asked-as : (overview : Overview) (R : Content) (asked page : Page) (head_only chunked : Bool)
    (faults : List StoreFault) (text : List ℕ) (sending : Option Sending) → asked ≡ page
    → TellsAsked overview R page head_only chunked faults text sending
    → TellsAsked overview R asked head_only chunked faults text sending
asked-as overview R asked page head_only chunked faults text sending is told =
    subst (λ (p : Page). TellsAsked overview R p head_only chunked faults text sending)
    (sym is) told

-- a history that is crowded
pub crowded-told : (R : Content) (question : Question) (report : Report)
    → report ≡ report_of question form.Page
    → (report.changes ≡ true) × AreCrowded (changes_asked R report) → IsCrowded R question
crowded-told R question report asked crowds =
    subst (λ (r : Report). (r.changes ≡ true) × AreCrowded (changes_asked R r)) asked crowds

-- one of which a value has no text
pub textless-told : (R : Content) (question : Question) (report : Report)
    → report ≡ report_of question form.Page → PartHasTextless R report
    → PartHasTextless R (report_of question form.Page)
textless-told R question report asked lacks =
    subst (λ (r : Report). PartHasTextless R r) asked lacks

-- what was found where no part of a history was begun
abbrev pub PartFails : Report → (old new : List ℕ) → Store → Store → PartFault → Type 0
PartFails report old new s t why =
    AsksForPart {A = Remainder} s t (Err why)
    (λ R. (report.changes ≡ true) × AreCrowded (changes_asked R report))
    (λ R. PartHasTextless R report)
    (λ left R. BeginsPart report left R old new)

-- ---- what was asked where nothing is made

-- a front page was made, or not
pub front-asks : (s t : Store) (result : Result (Unit {0}) PageFault) (P : Content → Type 0)
    → MatchResult result (λ done. Reads s t [] P)
    (λ why. Reads s t (page_faults why) (λ R. ⊤)) → OnlyAsks s t
front-asks s t (Ok done) P reads = only-asked s t [] P reads
front-asks s t (Err why) P reads = only-asked s t (page_faults why) (λ R. ⊤) reads

-- a history was begun, or not
pub begin-asks : (report : Report) (s t : Store) (result : Result Remainder ReportFault)
    → Begins report s t result → OnlyAsks s t
begin-asks report s t (Ok left) begins =
    only-asked s t [] (λ R. IsWhole report left R)
    (reads-of s t (λ R. IsWhole report left R) begins)
begin-asks report s t (Err why) begins =
    only-asked s t (report_faults (Err why)) (λ R. Unit {0}) begins.1

-- a part of a history was begun, or not
pub part-asks : (s t : Store) (result : Result Remainder PartFault)
    (Crowds Lacks : Content → Type 0) (Holds : Remainder → Content → Type 0)
    → AsksForPart s t result Crowds Lacks Holds → OnlyAsks s t
part-asks s t (Ok left) Crowds Lacks Holds reads = only-asked s t [] (Holds left) reads
part-asks s t (Err part.Crowded) Crowds Lacks Holds reads = only-asked s t [] Crowds reads
part-asks s t (Err (part.Report why)) Crowds Lacks Holds reads =
    only-asked s t (report_faults (Err why)) (λ R. why ≡ fault.NoText → Lacks R) reads.1

-- ---- a portion

-- a portion that is sent
pub portion-told : (R : Content) (was : Sending) (now : Remainder)
    (result : Result Bool ReportFault)
    (empty portion sent text : List ℕ) (sending : Option Sending) → empty ≡ []
    → sent ≡ portion → IsOfSame was.portions now → IsPortion was.portions now R empty portion result
    → IsPortionText was.chunked sent result text → sending ≡ rest_of was.chunked now result
    → GoesOn R was (report_faults (ending result)) text sending
portion-told R was now result empty portion sent text sending none same kept puts told rest = (
  portion,
  now,
  result,
  refl,
  subst (λ (e : List ℕ). IsPortion was.portions now R e portion result) none puts,
  kept,
  subst (λ (p : List ℕ). IsPortionText was.chunked p result text) same told,
  rest,
)

-- a fault of the store, by the text that tells it
pub store-refused : (head_only : Bool) (fault : StoreFault) (text : List ℕ)
    → text ≡ refusal_text why.Store head_only → TellsStoreFault head_only (fault ∷ []) text
store-refused head_only fault text told = (one-fault fault, told)

-- ---- what is told by another step

-- what is told is told so, too
pub result-as : (s t : Store) (result : Result Told AllocError)
    (P Q : Content → List StoreFault → List ℕ → Option Sending → Type 0)
    → ((R : Content) (faults : List StoreFault) (text : List ℕ) (sending : Option Sending)
    → P R faults text sending → Q R faults text sending)
    → MatchResult result (λ told. Makes s t
    (λ R faults. P R faults told.text.items (sending_of told.rest)))
    (λ starved. OnlyAsks s t)
    → MatchResult result (λ told. Makes s t
    (λ R faults. Q R faults told.text.items (sending_of told.rest)))
    (λ starved. OnlyAsks s t)
result-as s t (Ok told) P Q says made =
    made-as s t (λ (R : Content) (faults : List StoreFault).
    P R faults told.text.items (sending_of told.rest))
    (λ (R : Content) (faults : List StoreFault).
    Q R faults told.text.items (sending_of told.rest))
    (λ R faults p. says R faults told.text.items (sending_of told.rest) p) made
result-as s t (Err starved) P Q says asks = asks

-- a text that is told so, unless memory ran out
pub told-by : (result : Result Told AllocError) (IsTold : List ℕ → Option Sending → Type 0)
    (s t : Store) (faults : List StoreFault) (P : Content → Type 0)
    (Q : Content → List StoreFault → List ℕ → Option Sending → Type 0)
    → ((R : Content) (text : List ℕ) (sending : Option Sending) → P R → IsTold text sending
    → Q R faults text sending)
    → IfOk result (λ told. IsTold told.text.items (sending_of told.rest)) → Reads s t faults P
    → MatchResult result (λ told. Makes s t
    (λ R faults. Q R faults told.text.items (sending_of told.rest)))
    (λ starved. OnlyAsks s t)
told-by (Ok told) IsTold s t faults P Q says is reads =
    made-by s t faults P
    (λ (R : Content) (faults : List StoreFault).
    Q R faults told.text.items (sending_of told.rest))
    (λ R p. says R told.text.items (sending_of told.rest) p is) reads
told-by (Err starved) IsTold s t faults P Q says is reads = only-asked s t faults P reads

-- the head of a history alone
pub csv-alone : (R : Content) (question : Question) (head_only chunked : Bool) (text : List ℕ)
    → head_only ≡ true → text ≡ history_head Csv chunked
    → TellsCsv R question head_only chunked [] text None
csv-alone R question head_only chunked text alone told =
    subst (λ (b : Bool). TellsCsv R question b chunked [] text None) (sym alone)
    (refl, told, refl)

-- a history that is begun, or can't be read now
pub csv-goes : (R : Content) (question : Question) (head_only chunked : Bool)
    (faults : List StoreFault) (text : List ℕ) (sending : Option Sending) → head_only ≡ false
    → TellsCsv R question false chunked faults text sending
    → TellsCsv R question head_only chunked faults text sending
csv-goes R question head_only chunked faults text sending whole told =
    subst (λ (b : Bool). TellsCsv R question b chunked faults text sending) (sym whole) told
