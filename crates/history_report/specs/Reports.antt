-- What is printed of a node's history.
use Rattle.std.specs.Prelude.{◌≡◌, ◌⊎◌, ℕ, ℤ, int_lt, int_le, Bool, true, false, ◌&&◌, List, [], ◌∷◌, ◌++◌, filter, take, slice_get, Option, Some, Result, Err, MatchResult, if◌then◌else◌}
use Rattle.std.specs.Option.{option_map_or}
use Rattle.std.specs.Io.KnownBytes.{Appends}
use Rattle.csv.specs.Writing.{default_writer, row_text}
use Rattle.counted_io.specs.Bytes.{AppendsPart}
use Rattle.records.specs.Contents.{Content}
use Rattle.records.specs.declared.shown.Held.{Held}
use Rattle.records.specs.declared.shown.Entry.{Entry}
use Rattle.archive.specs.Reading.{lives, log}
use Rattle.archive.specs.Store.{Store, StepResult, faults_of}
use Rattle.archive.specs.Steps.{Transitions}
use Rattle.archive.specs.declared.fault.StoreFault.{StoreFault}
use Rattle.history_csv.specs.Rows.{value_names, change_names, AreReadFields, AreChangeFields, IsTextless, ShowsTextless}
use Rattle.history_report.specs.declared.report.Form.{Form}
use Rattle.history_report.specs.declared.report.Form.TheVariants.{Table, Csv, Page}
use Rattle.history_report.specs.declared.report.Report.{Report}
use Rattle.history_report.specs.declared.fault.ReportFault.{ReportFault}
use Rattle.history_report.specs.declared.fault.ReportFault.TheVariants as fault
use Rattle.history_report.specs.Tables.{table_line}
use Rattle.history_report.specs.Html.{page_row, IsPageHeader, page_footer}

-- ---- what is asked for

-- the time is at the first moment or later, and before the end, where these are given
abbrev pub is_in_stretch : Report → ℤ → Bool
is_in_stretch report time =
    option_map_or (λ from. int_le from time) report.from true
    && option_map_or (λ to. int_lt time to) report.to true

-- the live values that are asked for, in the order of their times
abbrev pub values_asked : Content → Report → List Held
values_asked R report = filter (λ h. is_in_stretch report h.time) (lives R report.node)

-- the modifications that are asked for, times in order, within a time the newest first
abbrev pub changes_asked : Content → Report → List Entry
changes_asked R report = filter (λ e. is_in_stretch report e.time) (log R report.node)

-- ---- lines

-- fields as a line: of the table, which leaves out the node, as a row of CSV, or of the page
abbrev pub fields_line : Form → List (List ℕ) → List ℕ
fields_line form fields =
    elim form [
      | Table ↦ table_line fields
      | Csv ↦ row_text default_writer fields
      | Page ↦ page_row fields
    ]

-- the names of the fields
abbrev pub names_of : Report → List (List ℕ)
names_of report = if report.changes then change_names else value_names

-- what stands above all lines: the names of the fields as a line, or the upper part of a page
abbrev pub IsHeader : Report → List ℕ → Type 0
IsHeader report header =
    elim report.form [
      | Table ↦ header ≡ table_line (names_of report)
      | Csv ↦ header ≡ row_text default_writer (names_of report)
      | Page ↦ IsPageHeader report header
    ]

-- what stands below all lines: nothing, or the lower part of a page
abbrev pub footer_of : Report → List ℕ
footer_of report = elim report.form [ Table ↦ [] | Csv ↦ [] | Page ↦ page_footer ]

-- a line of a live value, whose fields are read again as that value
abbrev pub IsValueLine : Report → Held → List ℕ → Type 0
IsValueLine report held line =
    (fields : List (List ℕ)) × (line ≡ fields_line report.form fields)
    × AreReadFields report.node held fields

-- a line of a modification
abbrev pub IsChangeLine : Report → Entry → List ℕ → Type 0
IsChangeLine report entry line =
    (fields : List (List ℕ)) × (line ≡ fields_line report.form fields)
    × AreChangeFields report.node entry fields

-- the text is a line of each of these, one after the other
abbrev pub AreLines : {X : Type 0} → (X → List ℕ → Type 0) → List X → List ℕ → Type 0
AreLines IsLine [] text = text ≡ []
AreLines IsLine (x ∷ xs) text =
    (line : List ℕ) × (rest : List ℕ) × (text ≡ line ++ rest) × IsLine x line
    × AreLines IsLine xs rest

-- such a one stands at this place of a list
abbrev pub IsAt : {X : Type 0} → (X → Type 0) → List X → ℕ → Type 0
IsAt {X} P xs n = (x : X) × (slice_get xs n ≡ Some x) × P x

-- ---- what is printed

-- behind a header a first part of the lines of these was printed, or of the header; where a value
-- has no text, all lines before it
abbrev pub StopsShort : {X : Type 0} → (X → List ℕ → Type 0) → (X → Type 0) → (header : List ℕ)
    → List X → (before after : Option (List ℕ)) → ReportFault → Type 0
StopsShort IsLine HasNoText header xs before after why =
    (n : ℕ) × (lines : List ℕ) × AreLines IsLine (take n xs) lines
    × AppendsPart before after (header ++ lines)
    × (why ≡ fault.NoText → Appends before after (header ++ lines) × IsAt HasNoText xs n)

-- this holds of the whole: a header, a line of each of these, and a footer
abbrev pub OfWhole : {X : Type 0} → (X → List ℕ → Type 0) → (header footer : List ℕ) → List X
    → (List ℕ → Type 0) → Type 0
OfWhole IsLine header footer xs Holds =
    (lines : List ℕ) × AreLines IsLine xs lines × Holds (header ++ lines ++ footer)

-- the whole was printed, or a first part of it
abbrev pub PrintsWhole : {X : Type 0} → (X → List ℕ → Type 0) → (X → Type 0)
    → (header footer : List ℕ) → List X → (before after : Option (List ℕ))
    → Result (Unit {0}) ReportFault → Type 0
PrintsWhole IsLine HasNoText header footer xs before after result =
    MatchResult result (λ done. OfWhole IsLine header footer xs (Appends before after))
    (λ why. StopsShort IsLine HasNoText header xs before after why
    ⊎ ((why ≡ fault.Write) × OfWhole IsLine header footer xs (AppendsPart before after)))

-- behind this header a report of what a content shows was printed, or a first part of it
abbrev pub PrintsBehind : Report → (header : List ℕ) → Content → (before after : Option (List ℕ))
    → Result (Unit {0}) ReportFault → Type 0
PrintsBehind report header R before after result =
    elim report.changes [
      | true ↦ PrintsWhole (IsChangeLine report) (λ e. ShowsTextless e.value) header
          (footer_of report) (changes_asked R report) before after result
      | false ↦ PrintsWhole (IsValueLine report) (λ h. IsTextless h.value.value) header
          (footer_of report) (values_asked R report) before after result
    ]

-- it ended before anything was printed, and not for a value without a text
abbrev pub EndsAtOnce : (before after : Option (List ℕ)) → Result (Unit {0}) ReportFault → Type 0
EndsAtOnce before after result = (why : ReportFault) × (result ≡ Err why)
    × (why ≡ fault.NoText → ⊥) × Appends before after []

-- a report of what a content shows was printed, or a first part of it
abbrev pub PrintsReport : Report → Content → (before after : Option (List ℕ))
    → Result (Unit {0}) ReportFault → Type 0
PrintsReport report R before after result =
    ((header : List ℕ) × IsHeader report header × PrintsBehind report header R before after result)
    ⊎ EndsAtOnce before after result

-- the fault of the store that a report ended by, if it is one of the store's
abbrev pub report_faults : Result (Unit {0}) ReportFault → List StoreFault
report_faults result = elim result [ Err (fault.Store why) ↦ why ∷ [] | _ ↦ [] ]

-- An archive was asked, which stays as it is, and this holds of what it held. Its store met the
-- fault that the report ended by, if that is one of the store's, and no other.
abbrev pub ReadsFor : Store → Store → Result (Unit {0}) ReportFault → (Content → Type 0) → Type 0
ReadsFor old new result Printed =
    (used : List StepResult)
    × Transitions old new used (λ marks R S. (S ≡ R)
    × ((faults_of used ≡ report_faults result) × Printed R))

-- a report of what an archive holds was printed
abbrev pub Prints : Report → Store → Store → (before after : Option (List ℕ))
    → Result (Unit {0}) ReportFault → Type 0
Prints report old new before after result =
    ReadsFor old new result (λ R. PrintsReport report R before after result)
