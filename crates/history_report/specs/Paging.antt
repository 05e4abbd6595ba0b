-- A list in pages, and what was printed of it so far.
use Rattle.std.specs.Prelude.{◌≡◌, ◌⊎◌, ℕ, ℤ, pos, ◌≤ℤ◌, ◌-◌, ◌^◌, List, [], ◌∷◌, ◌++◌, take, int_lt, true, false, ◌&&◌, Option, Some, None, Result, Err, MatchResult}
use Rattle.std.specs.Io.KnownBytes.{Appends}
use Rattle.counted_io.specs.Bytes.{AppendsPart}
use Rattle.stamp.specs.Numbers.{number_of}
use Rattle.ua_binary.specs.declared.values.NodeId.{NodeId}
use Rattle.records.specs.Lists.{last}
use Rattle.records.specs.Contents.{Content, cut}
use Rattle.records.specs.Moments.{moment}
use Rattle.records.specs.declared.shown.Held.{Held}
use Rattle.records.specs.declared.shown.Entry.{Entry}
use Rattle.archive.specs.Reading.{is_between, place_of, range_of, log_of}
use Rattle.archive.specs.declared.reading.Direction.TheVariants.{Forward}
use Rattle.archive.specs.declared.reading.LogPlace.{LogPlace}
use Rattle.archive.specs.Store.{Store, StoreFailed, IsLawfulContent}
use Rattle.archive.specs.Steps.{Transitions}
use Rattle.archive.specs.declared.fault.StoreFault.{StoreFault}
use Rattle.history_text.specs.declared.fault.TextFault.{TextFault}
use Rattle.history_text.specs.declared.fault.TextFault.TheVariants as Why
use Rattle.history_csv.specs.Rows.{IsTextless, ShowsTextless}
use Rattle.history_report.specs.declared.fault.ReportFault.{ReportFault}
use Rattle.history_report.specs.declared.fault.ReportFault.TheVariants as fault
use Rattle.history_report.specs.declared.pages.Pages.{Pages}
use Rattle.history_report.specs.declared.report.Report.{Report}
use Rattle.history_report.specs.Reports.{AreLines, IsAt, report_faults, ReadsFor, IsHeader, StopsShort, IsValueLine, IsChangeLine}

-- ---- the times of records

-- the last moment of all
abbrev pub greatest_time : ℤ
greatest_time = moment (pos (2 ^ 63 - 1)) 9999

-- the moment of a lawful record
abbrev pub IsTime : ℤ → Type 0
IsTime time = (pos 1 ≤ℤ time) × (time ≤ℤ greatest_time)

-- ---- pages

-- the live values that are still to come
abbrev pub values_left : NodeId → Pages → Content → List Held
values_left node pages R =
    range_of (cut R (number_of pages.within)) node pages.span.from pages.span.to Forward

-- the modifications that are still to come
abbrev pub changes_left : NodeId → Pages → Content → List Entry
changes_left node pages R =
    log_of (cut R (number_of pages.within)) node pages.span.from pages.span.to pages.after Forward

-- the moments of the one span that are behind the last of these, where there is one
abbrev pub IsBehind : List Held → (from to new_from new_to : ℤ) → Type 0
IsBehind rows from to new_from new_to =
    elim (last rows) [
      | None ↦ (new_from ≡ from) × (new_to ≡ to)
      | Some h ↦ (t : ℤ) → is_between new_from new_to t
          ≡ (is_between from to t && int_lt h.time t)
    ]

-- the place of the last of these, where there is one
abbrev pub place_behind : Option LogPlace → List Entry → Option LogPlace
place_behind place rows = elim (last rows) [ None ↦ place | Some e ↦ Some (place_of e) ]

-- a page of what was still to come, and what is still to come behind it; an empty one is the last
abbrev pub IsPageOf : {X : Type 0} → (page more rest : List X) → Type 0
IsPageOf page more rest = (page ++ more ≡ rest) × (page ≡ [] → more ≡ [])

-- the archive answered this page
abbrev pub GivesPage : {X : Type 0} → Store → Store → List X → (more rest : Content → List X)
    → Type 0
GivesPage old new page more rest =
    Transitions old new [] (λ marks R S. (S ≡ R) × IsPageOf page (more R) (rest R))

-- the archive offered the first eight of what is still to come
abbrev pub Offers : {X : Type 0} → Store → Store → List X → (rest : Content → List X) → Type 0
Offers old new page rest = Transitions old new []
    (λ marks R S. (S ≡ R) × IsLawfulContent R × (page ≡ take 8 (rest R)))

-- the archive met this fault of its store
abbrev pub Fails : Store → Store → StoreFault → Type 0
Fails old new why = Transitions old new (StoreFailed why ∷ []) (λ marks R S. S ≡ R)

-- ---- lines

-- a line of such was put behind a text
abbrev pub IsPut : (old new : List ℕ) → (List ℕ → Type 0) → Type 0
IsPut old new IsLine = (line : List ℕ) × (new ≡ old ++ line) × IsLine line

-- why a line isn't put
abbrev pub IsWhy : (HasNoText : Type 0) → TextFault → Type 0
IsWhy HasNoText why = (why ≡ Why.OutOfMemory) ⊎ (HasNoText × (why ≡ Why.NoText))

-- what ends a report, by why a line isn't put
abbrev pub fault_told : TextFault → ReportFault
fault_told why = elim why [ Why.NoText ↦ fault.NoText | _ ↦ fault.OutOfMemory ]

-- the fault isn't one of the store's
abbrev pub IsOwn : ReportFault → Type 0
IsOwn why = report_faults (Err why) ≡ []

-- a text was sent, or a first part of it
abbrev pub SendsText : (text : List ℕ) → (before after : Option (List ℕ))
    → Result (Unit {0}) ReportFault → Type 0
SendsText text before after result =
    MatchResult result (λ done. Appends before after text)
    (λ why. (why ≡ fault.Write) × AppendsPart before after text)

-- what stands before the rest of a text was sent, or a first part of the text
abbrev pub SendsFirst : (text rest : List ℕ) → (before after : Option (List ℕ))
    → Result (Unit {0}) ReportFault → Type 0
SendsFirst text rest before after result =
    MatchResult result
    (λ done. (sent : List ℕ) × (text ≡ sent ++ rest) × Appends before after sent)
    (λ why. (why ≡ fault.Write) × AppendsPart before after text)

-- a text was sent before this fault, or a first part of it
abbrev pub SendsBefore : ReportFault → (text : List ℕ) → (before after : Option (List ℕ))
    → Result (Unit {0}) ReportFault → Type 0
SendsBefore why text before after result =
    ((result ≡ Err why) × Appends before after text)
    ⊎ ((result ≡ Err fault.Write) × AppendsPart before after text)

-- the lines of these were sent, but for this rest of their text
abbrev pub SentUpTo : {X : Type 0} → (X → List ℕ → Type 0) → List X → (rest : List ℕ)
    → (before now : Option (List ℕ)) → Type 0
SentUpTo IsLine xs rest before now =
    (lines : List ℕ) × (sent : List ℕ) × AreLines IsLine xs lines × (lines ≡ sent ++ rest)
    × Appends before now sent

-- the lines of these were sent, or a first part of them; before one without a text all of them
abbrev pub SendsLines : {X : Type 0} → (X → List ℕ → Type 0) → (X → Type 0) → List X
    → (before after : Option (List ℕ)) → Result (Unit {0}) ReportFault → Type 0
SendsLines IsLine HasNoText xs before after result =
    MatchResult result
    (λ done. (lines : List ℕ) × AreLines IsLine xs lines × Appends before after lines)
    (λ why. IsOwn why × (k : ℕ) × (lines : List ℕ) × AreLines IsLine (take k xs) lines
    × AppendsPart before after lines
    × (why ≡ fault.NoText → Appends before after lines × IsAt HasNoText xs k))

-- so far the lines of the first of these were printed, and the others are still to come
abbrev pub IsSoFar : {X : Type 0} → (X → List ℕ → Type 0) → (all rest : List X)
    → (before now : Option (List ℕ)) → Type 0
IsSoFar {X} IsLine all rest before now =
    (done : List X) × (lines : List ℕ) × (done ++ rest ≡ all) × AreLines IsLine done lines
    × Appends before now lines

-- the archive was asked without a fault, and so far the lines of the first were printed
abbrev pub Printing : {X : Type 0} → (X → List ℕ → Type 0) → Store → Store
    → (all rest : Content → List X) → (before now : Option (List ℕ)) → Type 0
Printing IsLine old new all rest before now =
    Transitions old new [] (λ marks R S. (S ≡ R) × IsSoFar IsLine (all R) (rest R) before now)

-- ---- a walk

-- an archive was asked, which stays as it is: without a fault, or its store met the fault that
-- ended this, if that is one of the store's, and no other
abbrev pub Walks : {A : Type 0} → Store → Store → Result A ReportFault → Type 0
Walks old new result =
    MatchResult result (λ done. Transitions old new [] (λ marks R S. S ≡ R))
    (λ why. (why ≡ fault.NoText → ⊥) × ReadsFor old new (Err why) (λ R. Unit {0}))

-- ---- the parts of a report

-- behind a header the lines of all of these were printed, or a first part of them
abbrev pub PrintsLines : {X : Type 0} → (X → List ℕ → Type 0) → (X → Type 0) → (header : List ℕ)
    → List X → (before after : Option (List ℕ)) → Result (Unit {0}) ReportFault → Type 0
PrintsLines IsLine HasNoText header xs before after result =
    MatchResult result
    (λ done. (lines : List ℕ) × AreLines IsLine xs lines × Appends before after (header ++ lines))
    (λ why. StopsShort IsLine HasNoText header xs before after why)

-- the lines of what was still to come were printed, or a first part of them
abbrev pub PrintsRows : Report → Pages → Content → (before after : Option (List ℕ))
    → Result (Unit {0}) ReportFault → Type 0
PrintsRows report pages R before after result =
    elim report.changes [
      | true ↦ PrintsLines (IsChangeLine report) (λ e. ShowsTextless e.value) []
          (changes_left report.node pages R) before after result
      | false ↦ PrintsLines (IsValueLine report) (λ h. IsTextless h.value.value) []
          (values_left report.node pages R) before after result
    ]

-- the header was sent, or a first part of it; nothing where memory for it was wanting
abbrev pub SendsHeader : Report → (before after : Option (List ℕ))
    → Result (Unit {0}) ReportFault → Type 0
SendsHeader report before after result =
    MatchResult result
    (λ done. (header : List ℕ) × IsHeader report header × Appends before after header)
    (λ why. ((why ≡ fault.OutOfMemory) × Appends before after [])
    ⊎ ((why ≡ fault.Write) × ((header : List ℕ) × IsHeader report header
    × AppendsPart before after header)))
