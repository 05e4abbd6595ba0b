-- One page of a history, which leads to the rest.
use Rattle.std.specs.Prelude.{◌≡◌, ℕ, ◌≤◌, ℤ, int_lt, true, false, List, ◌++◌, map, take, length, slice_get, Option, Some, None, Result, Ok, Err, if◌then◌else◌}
use Rattle.std.specs.Ordering.{int_eq}
use Rattle.records.specs.Contents.{Content}
use Rattle.records.specs.declared.shown.Entry.{Entry}
use Rattle.archive.specs.Store.{Store}
use Rattle.history_csv.specs.Rows.{IsTextless, ShowsTextless}
use Rattle.history_report.specs.declared.fault.ReportFault.TheVariants as fault
use Rattle.history_report.specs.declared.fault.PartFault.{PartFault}
use Rattle.history_report.specs.declared.fault.PartFault.TheVariants as part_fault
use Rattle.history_report.specs.declared.report.Report.{Report}
use Rattle.history_report.specs.Reports.{AreLines, OfWhole, IsAt, ReadsFor, IsHeader, IsValueLine, IsChangeLine, footer_of, values_asked, changes_asked}

-- ---- parts of a report

-- what a report asks for before a moment, and a link to the rest
abbrev pub part_before : Report → ℤ → Report
part_before report time =
    record report { to = Some time; next = Some (record { from = time; to = report.to }) }

-- what it asks for from that moment on
abbrev pub rest_from : Report → ℤ → Report
rest_from report time = record report { from = Some time }

-- the part before a moment, where one is given, or the whole
abbrev pub part_up_to : Report → Option ℤ → Report
part_up_to report end = elim end [ None ↦ report | Some time ↦ part_before report time ]

-- the times of a report's rows
abbrev pub row_times : Content → Report → List ℤ
row_times R report =
    if report.changes then map (λ e. e.time) (changes_asked R report)
    else map (λ h. h.time) (values_asked R report)

-- the end of a first part of rows of these times: there is none where they are at most 500, and
-- otherwise it is the time of the 501st, which is later than that of the first
abbrev pub IsPartEnd : (times : List ℤ) → Option ℤ → Type 0
IsPartEnd times end =
    elim end [
      | None ↦ length times ≤ 500
      | Some time ↦ (slice_get times 500 ≡ Some time)
          × (first : ℤ) × (slice_get times 0 ≡ Some first) × (int_lt first time ≡ true)
    ]

-- these are the first of all times, as far as the 501st
abbrev pub AreFirstTimes : (all seen : List ℤ) → Type 0
AreFirstTimes all seen = take 501 seen ≡ take 501 all

-- the first part of a report: all of it, or what it asks for before this end
abbrev pub IsFirstPart : Content → Report → Report → Type 0
IsFirstPart R report part =
    (end : Option ℤ) × IsPartEnd (row_times R report) end × (part ≡ part_up_to report end)

-- the first and the 501st of these modifications are of one moment, and so are those between them
abbrev pub AreCrowded : List Entry → Type 0
AreCrowded changes =
    (first : Entry) × (last : Entry) × (slice_get changes 0 ≡ Some first)
    × (slice_get changes 500 ≡ Some last) × (first.time ≡ last.time)

-- ---- what is appended

-- the text is a report: its header, a line for each row of it, and its footer
abbrev pub IsPrinted : Content → Report → List ℕ → Type 0
IsPrinted R report text =
    (header : List ℕ) × IsHeader report header × elim report.changes [
      | true ↦ OfWhole (IsChangeLine report) header (footer_of report) (changes_asked R report)
          (λ whole. text ≡ whole)
      | false ↦ OfWhole (IsValueLine report) header (footer_of report) (values_asked R report)
          (λ whole. text ≡ whole)
    ]

-- the text is this header, and behind it a line for each of the first of these
abbrev pub HasFirstLines : {X : Type 0} → (X → List ℕ → Type 0) → (header : List ℕ) → List X
    → (text : List ℕ) → Type 0
HasFirstLines {X} IsLine header xs text =
    (first : List X) × (rest : List X) × (first ++ rest ≡ xs)
    × (lines : List ℕ) × AreLines IsLine first lines × (text ≡ header ++ lines)

-- the text is a report up to a line of it: its header, and a line for each of its first rows
abbrev pub IsPrintedStart : Content → Report → List ℕ → Type 0
IsPrintedStart R report text =
    (header : List ℕ) × IsHeader report header × elim report.changes [
      | true ↦ HasFirstLines (IsChangeLine report) header (changes_asked R report) text
      | false ↦ HasFirstLines (IsValueLine report) header (values_asked R report) text
    ]

-- the text is the first part of a report
abbrev pub IsPrintedPart : Content → Report → List ℕ → Type 0
IsPrintedPart R report text =
    (part : Report) × IsFirstPart R report part × IsPrinted R part text

-- this holds of one of a list's elements, or of several
abbrev pub HasOne : {X : Type 0} → (X → Type 0) → List X → Type 0
HasOne P xs = (n : ℕ) × IsAt P xs n

-- one of the rows that a report has of a content shows a value that has no text
abbrev pub HasTextless : Content → Report → Type 0
HasTextless R report =
    elim report.changes [
      | true ↦ HasOne (λ e. ShowsTextless e.value) (changes_asked R report)
      | false ↦ HasOne (λ h. IsTextless h.value.value) (values_asked R report)
    ]

-- so does one of the rows of the first part of a report
abbrev pub PartHasTextless : Content → Report → Type 0
PartHasTextless R report = (part : Report) × IsFirstPart R report part × HasTextless R part

-- an archive was asked, which stays as it is: this holds of what it held, or it was crowded so, or
-- a value of it lacked a text so, or its store met the fault that ended this, if that is one of the
-- store's
abbrev pub AsksForPart : {A : Type 0} → (old new : Store) → Result A PartFault
    → (Crowds Lacks : Content → Type 0) → (Holds : A → Content → Type 0) → Type 0
AsksForPart old new result Crowds Lacks Holds =
    elim result [
      | Ok a ↦ ReadsFor old new (Ok tt) (Holds a)
      | Err part_fault.Crowded ↦ ReadsFor old new (Ok tt) Crowds
      | Err (part_fault.Report why) ↦ (why ≡ fault.Write → ⊥)
          × ReadsFor old new (Err why) (λ R. why ≡ fault.NoText → Lacks R)
    ]

-- ---- where a part ends

-- the end of a first part, by the times of the first row and of the 501st, where these are two
abbrev pub end_between : Option ℤ → Option ℤ → Result (Option ℤ) PartFault
end_between (Some first) (Some last) =
    if int_eq first last then Err part_fault.Crowded else Ok (Some last)
end_between _ _ = Ok None
