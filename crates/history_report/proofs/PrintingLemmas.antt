-- A history, printed one page after the other behind a header.
use Rattle.std.proofs.Common.{◌≡◌, ℕ, zero, suc, Bool, true, false, List, [], ◌∷◌, ◌++◌, take, drop, length, slice_get, append-nil, append_assoc, Option, Some, None, Result, Ok, Err, refl, sym, ap, ◌∙◌, subst, inl, inr}
use Rattle.std.specs.Io.KnownBytes.{Appends}
use Rattle.std.proofs.KnownBytes.{Appends-nil, Appends-trans}
use Rattle.std.specs.Prelude.{◌==◌}
use Rattle.std.proofs.lemmas.Bool.{eqb-true}
use Rattle.std.proofs.lemmas.List.{take-append-drop, nil_from_length}
use Rattle.records.specs.Contents.{Content, vec}
use Rattle.records.specs.declared.shown.Held.{Held}
use Rattle.records.specs.declared.shown.Entry.{Entry}
use Rattle.stamp.specs.Numbers.{number_of}
use Rattle.archive.specs.Store.{Store, StoreFailed, IsLawfulContent, faults_of}
use Rattle.archive.specs.Steps.{Transitions}
use Rattle.archive.specs.declared.fault.StoreFault.{StoreFault}
use Rattle.archive.proofs.Acting.{moves-none, moves-then, moves-as}
use Rattle.counted_io.specs.Bytes.{AppendsPart}
use Rattle.counted_io.proofs.Parts.{part-second}
use Rattle.history_csv.specs.Rows.{IsTextless, ShowsTextless}
use Rattle.history_report.specs.declared.pages.Pages.{Pages}
use Rattle.history_report.specs.declared.report.Report.{Report}
use Rattle.history_report.specs.declared.fault.ReportFault.{ReportFault}
use Rattle.history_report.specs.declared.fault.ReportFault.TheVariants as fault
use Rattle.history_report.specs.Reports.{AreLines, StopsShort, PrintsWhole, PrintsBehind, ReadsFor, PrintsReport, Prints, report_faults, IsHeader, footer_of, IsValueLine, IsChangeLine, values_asked, changes_asked}
use Rattle.history_report.specs.Paging.{values_left, changes_left, IsPageOf, GivesPage, Fails, SendsLines, IsSoFar, Printing, PrintsLines, PrintsRows, SendsHeader, SendsText}
use Rattle.history_report.proofs.LineLemmas.{lines-append}
use Rattle.history_report.proofs.PageLemmas.{IsSpanOf, values-all, changes-all}

-- ---- lists

pub take-front : {X : Type 0} (xs ys : List X) → take (length xs) (xs ++ ys) ≡ xs
take-front [] ys = refl
take-front (x ∷ xs) ys = ap (λ l. x ∷ l) (take-front xs ys)

get-behind : {X : Type 0} (xs ys : List X) → slice_get (xs ++ ys) (length xs) ≡ slice_get ys 0
get-behind [] ys = refl
get-behind (x ∷ xs) ys = get-behind xs ys

get-drop : {X : Type 0} (k : ℕ) (xs : List X) → slice_get (drop k xs) 0 ≡ slice_get xs k
get-drop zero xs = refl
get-drop (suc k) [] = refl
get-drop (suc k) (x ∷ xs) = get-drop k xs

get-front : {X : Type 0} (xs ys : List X) (x : X) → slice_get xs 0 ≡ Some x
    → slice_get (xs ++ ys) 0 ≡ Some x
get-front [] ys x e = absurd cc
get-front (y ∷ xs) ys x e = e

pub no-items : {X : Type 0} (l : List X) → (length l == 0) ≡ true → l ≡ []
no-items l e = nil_from_length l (eqb-true (length l) 0 e)

-- ---- a run of pages

module _ {X : Type 0} (IsLine : X → List ℕ → Type 0) (HasNoText : X → Type 0) where
  -- what was printed is a first part
  so-far-part : (all rest : List X) (before now : Option (List ℕ)) (why : ReportFault)
      → (why ≡ fault.NoText → ⊥) → IsSoFar IsLine all rest before now
      → StopsShort IsLine HasNoText [] all before now why
  so-far-part all rest before now why other (done, lines, whole, are, sent) = (
    length done,
    lines,
    subst (λ l. AreLines IsLine l lines) (sym (ap (take (length done)) (sym whole)
        ∙ take-front done rest)) are,
    (lines, [], sym (append-nil lines), sent),
    λ e. absurd (other e),
  )

  -- lines of one more page broke off
  so-far-breaks : (all rest page more : List X) (before now after : Option (List ℕ))
      (why : ReportFault) → IsSoFar IsLine all rest before now → page ++ more ≡ rest
      → SendsLines IsLine HasNoText page now after (Err why)
      → StopsShort IsLine HasNoText [] all before after why
  so-far-breaks all rest page more before now after why (done, lines, whole, are, sent) joins
      (own, k, new, new_are, part, none) =
      let front : List X = done ++ take k page in
      let parts : all ≡ front ++ (drop k page ++ more) =
      sym whole
      ∙ (ap (λ l. done ++ l) (sym joins ∙ (ap (λ l. l ++ more) (sym (take-append-drop k page))
      ∙ append_assoc (take k page) (drop k page) more))
      ∙ sym (append_assoc done (take k page) (drop k page ++ more))) in (
        length front,
        lines ++ new,
        subst (λ l. AreLines IsLine l (lines ++ new)) (sym (ap (take (length front)) parts
            ∙ take-front front (drop k page ++ more)))
            (lines-append IsLine done (take k page) lines new are new_are),
        part-second before now after lines new sent part,
        λ e. let stop = none e in (
          Appends-trans before now after lines new sent stop.0,
          (
            stop.1.0,
            ap (λ l. slice_get l (length front)) parts
                ∙ (get-behind front (drop k page ++ more)
                ∙ get-front (drop k page) more stop.1.0 (get-drop k page ∙ stop.1.1)),
            stop.1.2,
          ),
        ),
      )

  pub begun : (s : Store) (all : Content → List X) (before : Option (List ℕ))
      → Printing IsLine s s all all before before
  begun s all before = moves-none s (λ marks R S. (S ≡ R)
      × IsSoFar IsLine (all R) (all R) before before)
      (λ R. (refl, ([], [], refl, refl, Appends-nil before)))

  module _ (s t u : Store) (all rest : Content → List X) (before now after : Option (List ℕ))
      (so : Printing IsLine s t all rest before now) where
    pub failed : (why : StoreFault) → Fails t u why
        → ReadsFor s u (Err (fault.Store why))
        (λ R. PrintsLines IsLine HasNoText [] (all R) before now (Err (fault.Store why)))
    failed why q = (
      StoreFailed why ∷ [],
      moves-then s t u [] (StoreFailed why ∷ [])
          (λ marks R S. (S ≡ R) × IsSoFar IsLine (all R) (rest R) before now)
          (λ marks R S. S ≡ R)
          (λ marks R S. (S ≡ R)
          × ((faults_of (StoreFailed why ∷ []) ≡ report_faults (Err (fault.Store why)))
          × PrintsLines IsLine HasNoText [] (all R) before now (Err (fault.Store why))))
          (λ ms ns R S T p e. (
            e ∙ p.0,
            (
              refl,
              so-far-part (all R) (rest R) before now (fault.Store why) (λ k. absurd cc) p.1,
            ),
          )) so q,
    )

    module _ (page : List X) (more : Content → List X) (q : GivesPage t u page more rest) where
      -- of any content that was held
      told : (To : Content → Type 0) → ((R : Content)
          → IsSoFar IsLine (all R) (rest R) before now → IsPageOf page (more R) (rest R) → To R)
          → Transitions s u [] (λ marks R S. (S ≡ R) × To R)
      told To f =
          moves-then s t u [] [] (λ marks R S. (S ≡ R)
          × IsSoFar IsLine (all R) (rest R) before now)
          (λ marks R S. (S ≡ R) × IsPageOf page (more R) (rest R)) (λ marks R S. (S ≡ R) × To R)
          (λ ms ns R S T p a. (
            a.0 ∙ p.0,
            f R p.1
                (subst (λ C. IsPageOf page (more C) (rest C)) p.0 a.1),
          )) so q

      pub ended : page ≡ [] → ReadsFor s u (Ok tt)
          (λ R. PrintsLines IsLine HasNoText [] (all R) before now (Ok tt))
      ended none = (
        [],
        told (λ R. ([] ≡ report_faults (Ok tt))
            × PrintsLines IsLine HasNoText [] (all R) before now (Ok tt))
            (λ R (done, lines, whole, are, sent) (joins, last).
            let nothing : rest R ≡ [] =
            sym joins ∙ (ap (λ l. l ++ more R) none ∙ last none) in
            let same : done ≡ all R =
            sym (append-nil done) ∙ (ap (λ l. done ++ l) (sym nothing) ∙ whole) in
            (refl, (lines, subst (λ l. AreLines IsLine l lines) same are, sent))),
      )

      pub stopped : (why : ReportFault) → SendsLines IsLine HasNoText page now after (Err why)
          → ReadsFor s u (Err why)
          (λ R. PrintsLines IsLine HasNoText [] (all R) before after (Err why))
      stopped why sends = (
        [],
        told (λ R. ([] ≡ report_faults (Err why))
            × PrintsLines IsLine HasNoText [] (all R) before after (Err why))
            (λ R is p. (
              sym sends.0,
              so-far-breaks (all R) (rest R) page (more R) before now after
                  why is p.0 sends,
            )),
      )

      pub goes-on : SendsLines IsLine HasNoText page now after (Ok tt)
          → Printing IsLine s u all more before after
      goes-on (new, new_are, appended) =
          told (λ R. IsSoFar IsLine (all R) (more R) before after)
          (λ R (done, lines, whole, are, sent) p. (
            done ++ page,
            lines ++ new,
            append_assoc done page (more R) ∙ (ap (λ l. done ++ l) p.0 ∙ whole),
            lines-append IsLine done page lines new are new_are,
            Appends-trans before now after lines new sent appended,
          ))

    -- it goes on for longer than anybody counts
    pub endless : ReadsFor s t (Err fault.OutOfMemory)
        (λ R. PrintsLines IsLine HasNoText [] (all R) before now (Err fault.OutOfMemory))
    endless = (
      [],
      moves-as s t [] (λ marks R S. (S ≡ R) × IsSoFar IsLine (all R) (rest R) before now)
          (λ marks R S. (S ≡ R) × (([] ≡ report_faults (Err fault.OutOfMemory))
          × PrintsLines IsLine HasNoText [] (all R) before now (Err fault.OutOfMemory)))
          (λ ms R S p. (
            p.0,
            (
              refl,
              so-far-part (all R) (rest R) before now fault.OutOfMemory
                  (λ k. absurd cc) p.1,
            ),
          )) so,
    )

  -- ---- behind a header

  pub behind-header : (header : List ℕ) (xs : List X) (before now after : Option (List ℕ))
      (result : Result (Unit {0}) ReportFault) → Appends before now header
      → PrintsLines IsLine HasNoText [] xs now after result
      → PrintsLines IsLine HasNoText header xs before after result
  behind-header header xs before now after (Ok done) first (lines, are, sent) =
      (lines, are, Appends-trans before now after header lines first sent)
  behind-header header xs before now after (Err why) first (n, lines, are, part, none) = (
    n,
    lines,
    are,
    part-second before now after header lines first part,
    λ e. let stop = none e in (Appends-trans before now after header lines first stop.0, stop.1),
  )

  -- not even the header
  pub header-breaks : (header : List ℕ) (xs : List X) (before after : Option (List ℕ))
      (why : ReportFault) → (why ≡ fault.NoText → ⊥) → AppendsPart before after header
      → StopsShort IsLine HasNoText header xs before after why
  header-breaks header xs before after why other part = (
    0,
    [],
    refl,
    subst (AppendsPart before after) (sym (append-nil header)) part,
    λ e. absurd (other e),
  )

  -- ---- before a footer

  -- it breaks off above the footer
  pub unfooted : (header footer : List ℕ) (xs : List X) (before now after : Option (List ℕ))
      (why : ReportFault) → Appends before now header
      → PrintsLines IsLine HasNoText [] xs now after (Err why)
      → PrintsWhole IsLine HasNoText header footer xs before after (Err why)
  unfooted header footer xs before now after why first rows =
      inl (behind-header header xs before now after (Err why) first rows)

  -- the footer is sent behind all lines, or a first part of it
  pub footed : (header footer : List ℕ) (xs : List X) (before now middle after : Option (List ℕ))
      (result : Result (Unit {0}) ReportFault) → Appends before now header
      → PrintsLines IsLine HasNoText [] xs now middle (Ok tt)
      → SendsText footer middle after result
      → PrintsWhole IsLine HasNoText header footer xs before after result
  footed header footer xs before now middle after (Ok done) first rows sent =
      let (lines, are, appended) =
      behind-header header xs before now middle (Ok tt) first rows in
      (lines, are, Appends-trans before middle after (header ++ lines) footer appended sent)
  footed header footer xs before now middle after (Err why) first rows (is, part) =
      let (lines, are, appended) =
      behind-header header xs before now middle (Ok tt) first rows in
      inr (is, (lines, are, part-second before middle after (header ++ lines) footer appended part))

-- ---- a report

-- the rows of modifications, or of live values
abbrev pub RowsBy : Bool → Report → Pages → Content → (before after : Option (List ℕ))
    → Result (Unit {0}) ReportFault → Type 0
RowsBy changes report pages R before after result =
    elim changes [
      | true ↦ PrintsLines (IsChangeLine report) (λ e. ShowsTextless e.value) []
          (changes_left report.node pages R) before after result
      | false ↦ PrintsLines (IsValueLine report) (λ h. IsTextless h.value.value) []
          (values_left report.node pages R) before after result
    ]

-- what is printed of these behind a header
abbrev BehindBy : Bool → Report → (header : List ℕ) → Content
    → (before after : Option (List ℕ)) → Result (Unit {0}) ReportFault → Type 0
BehindBy changes report header R before after result =
    elim changes [
      | true ↦ PrintsWhole (IsChangeLine report) (λ e. ShowsTextless e.value) header
          (footer_of report) (changes_asked R report) before after result
      | false ↦ PrintsWhole (IsValueLine report) (λ h. IsTextless h.value.value) header
          (footer_of report) (values_asked R report) before after result
    ]

-- rows of modifications, or of live values, were read
pub rows-by : (report : Report) (pages : Pages) (t u : Store) (before after : Option (List ℕ))
    (result : Result (Unit {0}) ReportFault) (changes : Bool) → report.changes ≡ changes
    → ReadsFor t u result (λ R. RowsBy changes report pages R before after result)
    → ReadsFor t u result (λ R. PrintsRows report pages R before after result)
rows-by report pages t u before after result changes is =
    subst (λ (b : Bool). ReadsFor t u result (λ R. RowsBy b report pages R before after result))
    (sym is)

-- the store met a fault before anything was printed
pub not-asked : (report : Report) (t u : Store) (before : Option (List ℕ)) (why : StoreFault)
    → Fails t u why → Prints report t u before before (Err (fault.Store why))
not-asked report t u before why fails = (
  StoreFailed why ∷ [],
  moves-as t u (StoreFailed why ∷ []) (λ marks R S. S ≡ R)
      (λ marks R S. (S ≡ R)
      × ((faults_of (StoreFailed why ∷ []) ≡ report_faults (Err (fault.Store why)))
      × PrintsReport report R before before (Err (fault.Store why))))
      (λ ms R S e. (
        e,
        (
          refl,
          inr (fault.Store why, refl, λ k. absurd cc, Appends-nil before),
        ),
      )) fails,
)

-- which records are shown
abbrev pub AreShown : Store → Store → List ℕ → Type 0
AreShown t u numbers =
    Transitions t u [] (λ marks R S. (S ≡ R) × IsLawfulContent R
    × ((o : ℕ) → number_of numbers o ≡ vec R o))

module _ (report : Report) (t u w : Store) (numbers : List ℕ) (shown : AreShown t u numbers)
    (before now : Option (List ℕ)) where
  -- at most a part of the header was printed
  broken : (R : Content) (why : ReportFault) → SendsHeader report before now (Err why)
      → (report_faults (Err why) ≡ []) × PrintsReport report R before now (Err why)
  broken R why (inl (memory, none)) = (
    ap (λ w. report_faults (Err w)) memory,
    inr (
      why,
      refl,
      λ k. absurd (let e : fault.OutOfMemory ≡ fault.NoText = sym memory ∙ k in cc),
      none,
    ),
  )
  broken R why (inr (write, (header, is, part))) = (
    ap (λ w. report_faults (Err w)) write,
    inl (header, is, go report.changes),
  )
    where
      other : why ≡ fault.NoText → ⊥
      other k = let e : fault.Write ≡ fault.NoText = sym write ∙ k in absurd cc

      go : (changes : Bool) → BehindBy changes report header R before now (Err why)
      go true = inl (header-breaks (IsChangeLine report) (λ e. ShowsTextless e.value) header
          (changes_asked R report) before now why other part)
      go false = inl (header-breaks (IsValueLine report) (λ h. IsTextless h.value.value) header
          (values_asked R report) before now why other part)

  pub unheaded : (why : ReportFault) → SendsHeader report before now (Err why)
      → Prints report t u before now (Err why)
  unheaded why sends = (
    [],
    moves-as t u [] (λ marks R S. (S ≡ R) × IsLawfulContent R
        × ((o : ℕ) → number_of numbers o ≡ vec R o))
        (λ marks R S. (S ≡ R) × (([] ≡ report_faults (Err why))
        × PrintsReport report R before now (Err why)))
        (λ ms R S p. let b = broken R why sends in (p.0, (sym b.0, b.1))) shown,
  )

  -- what was printed behind the header is of what was held before
  module _ (pages : Pages) (within : pages.within ≡ numbers) (first : pages.after ≡ None)
      (span : IsSpanOf report pages.span.from pages.span.to) (header : List ℕ)
      (is_header : IsHeader report header) (head : Appends before now header)
      (middle after : Option (List ℕ)) where
    joined : (rows result : Result (Unit {0}) ReportFault)
        → report_faults rows ≡ report_faults result
        → ((R : Content) → IsLawfulContent R → ((o : ℕ) → number_of numbers o ≡ vec R o)
        → PrintsRows report pages R now middle rows
        → PrintsBehind report header R before after result)
        → ReadsFor u w rows (λ R. PrintsRows report pages R now middle rows)
        → Prints report t w before after result
    joined rows result same f (used, reads) = (
      used,
      moves-then t u w [] used (λ marks R S. (S ≡ R) × IsLawfulContent R
          × ((o : ℕ) → number_of numbers o ≡ vec R o))
          (λ marks R S. (S ≡ R) × ((faults_of used ≡ report_faults rows)
          × PrintsRows report pages R now middle rows))
          (λ marks R S. (S ≡ R) × ((faults_of used ≡ report_faults result)
          × PrintsReport report R before after result))
          (λ ms ns R S T p q. (
            q.0 ∙ p.0,
            (
              q.1.0 ∙ same,
              inl (
                header,
                is_header,
                f R p.1 p.2 (subst (λ C. PrintsRows report pages C now middle rows) p.0 q.1.1),
              ),
            ),
          )) shown reads,
    )

    -- what is left is what is asked for
    module _ (R : Content) (lawful : IsLawfulContent R)
        (is : (o : ℕ) → number_of numbers o ≡ vec R o) where
      shows : (o : ℕ) → number_of pages.within o ≡ vec R o
      shows o = ap (λ (v : List ℕ). number_of v o) within ∙ is o

      all_values : (rows : Result (Unit {0}) ReportFault)
          → RowsBy false report pages R now middle rows
          → PrintsLines (IsValueLine report) (λ h. IsTextless h.value.value) []
          (values_asked R report) now middle rows
      all_values rows = subst (λ (l : List Held). PrintsLines (IsValueLine report)
          (λ h. IsTextless h.value.value) [] l now middle rows)
          (values-all R report pages lawful shows span)

      all_changes : (rows : Result (Unit {0}) ReportFault)
          → RowsBy true report pages R now middle rows
          → PrintsLines (IsChangeLine report) (λ e. ShowsTextless e.value) []
          (changes_asked R report) now middle rows
      all_changes rows = subst (λ (l : List Entry). PrintsLines (IsChangeLine report)
          (λ e. ShowsTextless e.value) [] l now middle rows)
          (changes-all R report pages lawful shows span first)

      break-by : (changes : Bool) (why : ReportFault)
          → RowsBy changes report pages R now middle (Err why)
          → BehindBy changes report header R before middle (Err why)
      break-by true why printed = unfooted (IsChangeLine report) (λ e. ShowsTextless e.value)
          header (footer_of report) (changes_asked R report) before now middle why head
          (all_changes (Err why) printed)
      break-by false why printed = unfooted (IsValueLine report) (λ h. IsTextless h.value.value)
          header (footer_of report) (values_asked R report) before now middle why head
          (all_values (Err why) printed)

      end-by : (changes : Bool) (result : Result (Unit {0}) ReportFault)
          → SendsText (footer_of report) middle after result
          → RowsBy changes report pages R now middle (Ok tt)
          → BehindBy changes report header R before after result
      end-by true result sent printed = footed (IsChangeLine report) (λ e. ShowsTextless e.value)
          header (footer_of report) (changes_asked R report) before now middle after result head
          (all_changes (Ok tt) printed) sent
      end-by false result sent printed = footed (IsValueLine report) (λ h. IsTextless h.value.value)
          header (footer_of report) (values_asked R report) before now middle after result head
          (all_values (Ok tt) printed) sent

    quiet : (result : Result (Unit {0}) ReportFault)
        → SendsText (footer_of report) middle after result → [] ≡ report_faults result
    quiet (Ok done) sent = refl
    quiet (Err why) (is, part) = ap (λ w. report_faults (Err w)) (sym is)

    -- all was printed, or the footer broke off
    pub rows-end : (result : Result (Unit {0}) ReportFault)
        → SendsText (footer_of report) middle after result
        → ReadsFor u w (Ok tt) (λ R. PrintsRows report pages R now middle (Ok tt))
        → Prints report t w before after result
    rows-end result sent = joined (Ok tt) result (quiet result sent)
        (λ R lawful is. end-by R lawful is report.changes result sent)

  -- the rows broke off
  pub rows-break : (pages : Pages) → pages.within ≡ numbers → pages.after ≡ None
      → IsSpanOf report pages.span.from pages.span.to → (header : List ℕ)
      → IsHeader report header → Appends before now header → (after : Option (List ℕ))
      → (why : ReportFault)
      → ReadsFor u w (Err why) (λ R. PrintsRows report pages R now after (Err why))
      → Prints report t w before after (Err why)
  rows-break pages within first span header is_header head after why =
      joined pages within first span header is_header head after after (Err why) (Err why) refl
      (λ R lawful is.
      break-by pages within first span header is_header head after after R lawful is report.changes why)
