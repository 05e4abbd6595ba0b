-- A history that is made portion by portion.
use Rattle.std.specs.Prelude.{◌≡◌, ◌⊎◌, ℕ, ◌+◌, ◌≤◌, Bool, true, false, List, [], ◌∷◌, ◌++◌, take, length, Result, Ok, Err, MatchResult}
use Rattle.stamp.specs.Numbers.{number_of}
use Rattle.records.specs.Contents.{Content, IsClosed, IsWithin, vec}
use Rattle.records.specs.declared.shown.Held.{Held}
use Rattle.records.specs.declared.shown.Entry.{Entry}
use Rattle.archive.specs.Store.{Store}
use Rattle.archive.specs.Steps.{Transitions}
use Rattle.history_text.specs.declared.fault.TextFault.{TextFault}
use Rattle.history_text.specs.declared.fault.TextFault.TheVariants as Why
use Rattle.history_csv.specs.Rows.{IsTextless, ShowsTextless}
use Rattle.history_report.specs.declared.fault.ReportFault.{ReportFault}
use Rattle.history_report.specs.declared.fault.ReportFault.TheVariants as fault
use Rattle.history_report.specs.declared.pages.Pages.{Pages}
use Rattle.history_report.specs.declared.report.Report.{Report}
use Rattle.history_report.specs.Parts.{HasTextless, IsFirstPart}
use Rattle.history_report.specs.Reports.{AreLines, IsAt, IsHeader, ReadsFor, IsValueLine, IsChangeLine, footer_of, values_asked, changes_asked}
use Rattle.history_report.specs.Paging.{IsPut, values_left, changes_left}

-- ---- what is still to be made

-- of which report, and what is still to come of it
pub record Remainder : Type 0 where
  -- what is asked for
  pub report : Report
  -- the pages that are still to come
  pub pages : Pages

-- the same by its parts
abbrev pub left_of : Report → Pages → Remainder
left_of report pages = record { report = report; pages = pages }

-- the live values that are still to come
abbrev pub values_to_come : Remainder → Content → List Held
values_to_come left = values_left left.report.node left.pages

-- the modifications that are still to come
abbrev pub changes_to_come : Remainder → Content → List Entry
changes_to_come left = changes_left left.report.node left.pages

-- the records that are shown are those of this content
abbrev pub ShowsAll : Remainder → Content → Type 0
ShowsAll left R = (replica : ℕ) → number_of left.pages.within replica ≡ vec R replica

-- all that a report asks for of a content is still to come, of the records that it has
abbrev pub IsWhole : Report → Remainder → Content → Type 0
IsWhole report left R =
    (left.report ≡ report) × (values_to_come left R ≡ values_asked R report)
    × (changes_to_come left R ≡ changes_asked R report) × ShowsAll left R

-- the same report is still to be made, of the same records
abbrev pub IsOfSame : (was now : Remainder) → Type 0
IsOfSame was now = (now.report ≡ was.report) × (now.pages.within ≡ was.pages.within)

-- of what an archive held, all that a report asks for is still to come; or the store met the fault
-- that ended this, if that is one of the store's. The archive stays as it is
abbrev pub Begins : Report → Store → Store → Result Remainder ReportFault → Type 0
Begins report old new result =
    MatchResult result
    (λ left. Transitions old new [] (λ marks R S. (S ≡ R) × IsWhole report left R))
    (λ why. (why ≡ fault.NoText → ⊥) × ReadsFor old new (Err why) (λ R. Unit {0}))

-- the header of the first part of a report was put behind a text, and all rows of that part are
-- still to come, of the records that are held; each of them has a text
abbrev pub BeginsPart : Report → Remainder → Content → (old new : List ℕ) → Type 0
BeginsPart report left R old new =
    (part : Report) × IsFirstPart R report part × (HasTextless R part → ⊥)
    × IsPut old new (IsHeader part) × IsWhole part left R

-- ---- a portion

-- the lines of these up to one that has no text were put behind a text
abbrev pub PutsBefore : {X : Type 0} → (X → List ℕ → Type 0) → (X → Type 0) → List X
    → (old new : List ℕ) → Type 0
PutsBefore IsLine HasNoText xs old new =
    (k : ℕ) × IsPut old new (AreLines IsLine (take k xs)) × IsAt HasNoText xs k

-- the lines of so many of these were put behind a text: of all, or of one at least, where they are
-- 64 KiB or longer
abbrev pub PutsFirst : {X : Type 0} → (X → List ℕ → Type 0) → List X → (old new : List ℕ)
    → (count : ℕ) → Type 0
PutsFirst IsLine xs old new count =
    IsPut old new (AreLines IsLine (take count xs)) × (count ≤ length xs)
    × ((count ≡ length xs) ⊎ ((1 ≤ count) × (length old + 65536 ≤ length new)))

-- the lines of the first of these were put behind a text, those up to one that has no text, or none
abbrev pub PutsRows : {X : Type 0} → (X → List ℕ → Type 0) → (X → Type 0) → List X
    → (old new : List ℕ) → Result ℕ ReportFault → Type 0
PutsRows IsLine HasNoText xs old new result =
    elim result [
      | Ok count ↦ PutsFirst IsLine xs old new count
      | Err fault.NoText ↦ PutsBefore IsLine HasNoText xs old new
      | Err why ↦ (why ≡ fault.OutOfMemory) × (new ≡ old)
    ]

-- what is kept of a text behind which a line wasn't put: all of it, where a value has no text, and
-- so many bytes otherwise
abbrev pub kept_behind : TextFault → (start : ℕ) → List ℕ → List ℕ
kept_behind why start text = elim why [ Why.NoText ↦ text | _ ↦ take start text ]

-- the lines of a first page of the rest were put behind a text, and more is still to come; the page
-- isn't empty
abbrev pub PutsPage : {X : Type 0} → (X → List ℕ → Type 0) → (rest more : List X)
    → (old new : List ℕ) → Type 0
PutsPage {X} IsLine rest more old new =
    (page : List X) × (page ++ more ≡ rest) × (page ≡ [] → ⊥)
    × IsPut old new (AreLines IsLine page)

-- behind a text stands a page of the rest; behind the last one the footer; where a value has no
-- text, the lines before it; and after any other fault nothing
abbrev pub PutsPortion : {X : Type 0} → (X → List ℕ → Type 0) → (X → Type 0) → (footer : List ℕ)
    → (rest more : List X) → (old new : List ℕ) → Result Bool ReportFault → Type 0
PutsPortion IsLine HasNoText footer rest more old new result =
    elim result [
      | Ok true ↦ PutsPage IsLine rest more old new
      | Ok false ↦ (rest ≡ []) × (new ≡ old ++ footer)
      | Err fault.NoText ↦ PutsBefore IsLine HasNoText rest old new
      | Err why ↦ new ≡ old
    ]

-- of live values
abbrev pub PutsValues : Report → (rest more : List Held) → (old new : List ℕ)
    → Result Bool ReportFault → Type 0
PutsValues report =
    PutsPortion (IsValueLine report) (λ h. IsTextless h.value.value) (footer_of report)

-- of modifications
abbrev pub PutsChanges : Report → (rest more : List Entry) → (old new : List ℕ)
    → Result Bool ReportFault → Type 0
PutsChanges report =
    PutsPortion (IsChangeLine report) (λ e. ShowsTextless e.value) (footer_of report)

-- how it ended, whatever it gave
abbrev pub ending : {A : Type 0} → Result A ReportFault → Result (Unit {0}) ReportFault
ending result = elim result [ Ok done ↦ Ok tt | Err why ↦ Err why ]

-- of a content a portion of what was still to come was put behind a text, and the rest is still to
-- come
abbrev pub IsPortion : (was now : Remainder) → Content → (old new : List ℕ)
    → Result Bool ReportFault → Type 0
IsPortion was now R old new result =
    elim was.report.changes [
      | true ↦ PutsChanges was.report (changes_to_come was R) (changes_to_come now R) old new
          result
      | false ↦ PutsValues was.report (values_to_come was R) (values_to_come now R) old new result
    ]

-- of what an archive held, which stays as it is, a portion was put behind a text
abbrev pub TakesPortion : (was now : Remainder) → (before after : Store) → (old new : List ℕ)
    → Result Bool ReportFault → Type 0
TakesPortion was now before after old new result =
    ReadsFor before after (ending result) (λ R. IsPortion was now R old new result)

-- ---- all portions

-- an archive that held the one content may hold the other one later: it has each of its records
abbrev pub MayFollow : (R S : Content) → Type 0
MayFollow R S = IsClosed S × IsWithin R S

-- this portion was made of what was left of a content, or was broken off so; it was made of what an
-- archive held then
abbrev pub IsNextPortion : Content → (was now : Remainder) → (portion : List ℕ)
    → Result Bool ReportFault → Type 0
IsNextPortion R was now portion result =
    (S : Content) × MayFollow R S × IsPortion was now S [] portion result × IsOfSame was now

-- these are the first portions of what was left of a content, one behind the other, and more is to
-- come behind each; this is left behind them
abbrev pub AreFirstPortions : Content → (was now : Remainder) → List (List ℕ) → Type 0
AreFirstPortions R was now [] = now ≡ was
AreFirstPortions R was now (portion ∷ portions) =
    (next : Remainder) × IsNextPortion R was next portion (Ok true)
    × AreFirstPortions R next now portions

-- these are all portions of what is left of a content: the first ones, and the last
abbrev pub ArePortions : Content → Remainder → List (List ℕ) → Type 0
ArePortions R left portions =
    (first : List (List ℕ)) × (last : List ℕ) × (portions ≡ first ++ last ∷ [])
    × (now : Remainder) × AreFirstPortions R left now first
    × (next : Remainder) × IsNextPortion R now next last (Ok false)
