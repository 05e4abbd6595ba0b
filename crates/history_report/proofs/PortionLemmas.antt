-- A history, made portion by portion.
use Rattle.std.proofs.Common.{◌≡◌, ℕ, zero, suc, ◌+◌, ◌<◌, ◌≤◌, Bool, true, false, List, [], ◌∷◌, ◌++◌, take, length, slice_get, get_or, append-nil, append_assoc, Some, None, Result, Ok, Err, refl, sym, ap, ◌∙◌, subst, arith, inl, inr}
use Rattle.std.specs.Prelude.{◌==◌, ◌⊎◌, MatchResult, OnErr}
use Rattle.std.proofs.lemmas.List.{take_more}
use Rattle.std.proofs.lemmas.Option.{slice_get-get_or}
use Rattle.records.specs.Contents.{Content, vec}
use Rattle.stamp.specs.Numbers.{number_of}
use Rattle.archive.specs.Store.{Store, StoreFailed, IsLawfulContent, faults_of}
use Rattle.archive.specs.Steps.{Transitions}
use Rattle.archive.specs.declared.fault.StoreFault.{StoreFault}
use Rattle.archive.proofs.Acting.{moves-as}
use Rattle.history_text.specs.declared.fault.TextFault.{TextFault}
use Rattle.history_report.specs.declared.fault.ReportFault.{ReportFault}
use Rattle.history_report.specs.declared.fault.ReportFault.TheVariants as fault
use Rattle.history_report.specs.declared.pages.Pages.{Pages}
use Rattle.history_report.specs.declared.report.Report.{Report}
use Rattle.history_report.specs.Reports.{AreLines, ReadsFor, report_faults}
use Rattle.history_report.specs.Paging.{IsPut, IsWhy, IsPageOf, GivesPage, Fails, values_left, changes_left, fault_told}
use Rattle.history_report.specs.Portions.{IsWhole, PutsBefore, PutsFirst, PutsRows, PutsPortion, PutsValues, PutsChanges, TakesPortion, ending, kept_behind}
use Rattle.history_report.proofs.LineLemmas.{lines-append, lines-one}
use Rattle.history_report.proofs.PageLemmas.{IsSpanOf, values-all, changes-all}
use Rattle.history_report.proofs.PrintingLemmas.{AreShown, take-front}
use Rattle.history_report.proofs.WalkLemmas.{Stays}

-- ---- lines of rows

module _ {X : Type 0} (IsLine : X → List ℕ → Type 0) (HasNoText : X → Type 0) (xs : List X)
    (old : List ℕ) where
  pub rows-none : IsPut old old (AreLines IsLine (take 0 xs))
  rows-none = ([], sym (append-nil old), refl)

  -- one line more
  pub rows-next : (now new : List ℕ) (i : ℕ) (d : X) → i < length xs
      → IsPut old now (AreLines IsLine (take i xs)) → IsPut now new (IsLine (get_or xs i d))
      → IsPut old new (AreLines IsLine (take (i + 1) xs))
  rows-next now new i d lt (lines, first, are) (line, last, one) = (
    lines ++ line,
    last ∙ (ap (λ l. l ++ line) first ∙ append_assoc old lines line),
    subst (λ l. AreLines IsLine l (lines ++ line)) (sym (take_more xs i d lt))
        (lines-append IsLine (take i xs) (get_or xs i d ∷ []) lines line are
        (lines-one IsLine (get_or xs i d) line one)),
  )

  -- all lines, or those of the first, where they are long
  pub rows-first : (new : List ℕ) (count i : ℕ) → count ≡ i → i ≤ length xs
      → (length xs ≤ i) ⊎ ((1 ≤ i) × (length old + 65536 ≤ length new))
      → IsPut old new (AreLines IsLine (take i xs))
      → PutsRows IsLine HasNoText xs old new (Ok count)
  rows-first new count i is few ends put =
      subst (λ (n : ℕ). PutsFirst IsLine xs old new n) (sym is) (put, few, go ends)
    where
      go : (length xs ≤ i) ⊎ ((1 ≤ i) × (length old + 65536 ≤ length new))
          → (i ≡ length xs) ⊎ ((1 ≤ i) × (length old + 65536 ≤ length new))
      go (inl all) = inl (omega (arith, few, all))
      go (inr long) = inr long

  -- up to one that has no text
  rows-before : (now new : List ℕ) (i : ℕ) (d : X) → i < length xs
      → IsPut old now (AreLines IsLine (take i xs)) → new ≡ now → HasNoText (get_or xs i d)
      → PutsRows IsLine HasNoText xs old new (Err fault.NoText)
  rows-before now new i d lt put same none = (
    i,
    subst (λ l. IsPut old l (AreLines IsLine (take i xs))) (sym same) put,
    (get_or xs i d, slice_get-get_or xs i d lt, none),
  )

  -- none, where memory is wanting
  rows-undone : (now same new : List ℕ) (i : ℕ)
      → IsPut old now (AreLines IsLine (take i xs)) → same ≡ now → new ≡ take (length old) same
      → PutsRows IsLine HasNoText xs old new (Err fault.OutOfMemory)
  rows-undone now same new i (lines, first, are) kept cut =
      (refl, cut ∙ (ap (take (length old)) (kept ∙ first) ∙ take-front old lines))

  -- up to one that can't be put
  pub rows-stop : (now same new : List ℕ) (i start : ℕ) (d : X) (why : TextFault)
      (told : ReportFault) → start ≡ length old → i < length xs
      → IsPut old now (AreLines IsLine (take i xs)) → same ≡ now
      → IsWhy (HasNoText (get_or xs i d)) why → told ≡ fault_told why
      → new ≡ kept_behind why start same → PutsRows IsLine HasNoText xs old new (Err told)
  rows-stop now same new i start d why told starts lt put kept (inl memory) is cut =
      subst (λ w. PutsRows IsLine HasNoText xs old new (Err w)) (sym (is ∙ ap fault_told memory))
      (rows-undone now same new i put kept (cut ∙ (ap (λ w. kept_behind w start same) memory
      ∙ ap (λ n. take n same) starts)))
  rows-stop now same new i start d why told starts lt put kept (inr none) is cut =
      subst (λ w. PutsRows IsLine HasNoText xs old new (Err w)) (sym (is ∙ ap fault_told none.1))
      (rows-before now new i d lt put (cut ∙ (ap (λ w. kept_behind w start same) none.1 ∙ kept))
      none.0)

-- ---- a portion of what is left

-- one line at least was put, where there are rows
pub first-some : {X : Type 0} (IsLine : X → List ℕ → Type 0) (xs : List X) (old new : List ℕ)
    (count : ℕ) → PutsFirst IsLine xs old new count → (length xs == 0) ≡ false → 1 ≤ count
first-some IsLine [] old new count puts some = absurd cc
first-some IsLine (x ∷ xs) old new count (put, few, inl all) some = omega (arith, all)
first-some IsLine (x ∷ xs) old new count (put, few, inr long) some = long.0

some-first : {X : Type 0} (count : ℕ) (xs : List X) → 1 ≤ count → (length xs == 0) ≡ false
    → take count xs ≡ [] → ⊥
some-first zero xs one some none = absurd (omega (arith, one))
some-first (suc k) [] one some none = absurd cc
some-first (suc k) (x ∷ xs) one some none = absurd cc

module _ {X : Type 0} (IsLine : X → List ℕ → Type 0) (HasNoText : X → Type 0) where
  -- a first part of a first part
  take-before : (k : ℕ) (page more : List X) (x : X) → slice_get page k ≡ Some x
      → (take k page ≡ take k (page ++ more)) × (slice_get (page ++ more) k ≡ Some x)
  take-before k [] more x e = absurd cc
  take-before zero (y ∷ page) more x e = (refl, e)
  take-before (suc k) (y ∷ page) more x e =
      let rest = take-before k page more x e in (ap (λ l. y ∷ l) rest.0, rest.1)

  before-more : (page more : List X) (old new : List ℕ) → PutsBefore IsLine HasNoText page old new
      → PutsBefore IsLine HasNoText (page ++ more) old new
  before-more page more old new (k, put, (x, at, none)) =
      let parts = take-before k page more x at in (
        k,
        subst (λ l. IsPut old new (AreLines IsLine l)) parts.0 put,
        (x, parts.1, none),
      )

  module _ (footer : List ℕ) (t u : Store) (rest more : Content → List X) (old new : List ℕ) where
    -- what is told of a portion
    abbrev pub Takes : Result Bool ReportFault → Type 0
    Takes result = ReadsFor t u (ending result)
        (λ R. PutsPortion IsLine HasNoText footer (rest R) (more R) old new result)

    pub portion-fails : (why : StoreFault) → Fails t u why → new ≡ old
        → Takes (Err (fault.Store why))
    portion-fails why fails same = (
      StoreFailed why ∷ [],
      moves-as t u (StoreFailed why ∷ []) (λ marks R S. S ≡ R)
          (λ marks R S. (S ≡ R)
          × ((faults_of (StoreFailed why ∷ []) ≡ report_faults (Err (fault.Store why)))
          × (new ≡ old)))
          (λ ms R S e. (e, (refl, same))) fails,
    )

    module _ (page : List X) (later : Content → List X) (q : GivesPage t u page later rest) where
      -- of any content that was held
      told : (result : Result Bool ReportFault) → [] ≡ report_faults (ending result)
          → ((R : Content) → IsPageOf page (later R) (rest R)
          → PutsPortion IsLine HasNoText footer (rest R) (more R) old new result) → Takes result
      told result quiet f = (
        [],
        moves-as t u [] (λ marks R S. (S ≡ R) × IsPageOf page (later R) (rest R))
            (λ marks R S. (S ≡ R) × (([] ≡ report_faults (ending result))
            × PutsPortion IsLine HasNoText footer (rest R) (more R) old new result))
            (λ ms R S p. (p.0, (quiet, f R p.1))) q,
      )

      -- no memory
      pub portion-starves : new ≡ old → Takes (Err fault.OutOfMemory)
      portion-starves same = told (Err fault.OutOfMemory) refl (λ R is. same)

      -- nothing was left
      pub portion-ends : page ≡ [] → new ≡ old ++ footer → Takes (Ok false)
      portion-ends none put = told (Ok false) refl (λ R is. (
        sym is.0 ∙ (ap (λ l. l ++ later R) none ∙ is.1 none),
        put,
      ))

      -- the footer is put behind the last one, or nothing
      pub portion-closes : page ≡ [] → (result : Result Bool ReportFault)
          → MatchResult result (λ more. (more ≡ false) × (new ≡ old ++ footer))
          (λ why. (why ≡ fault.OutOfMemory) × (new ≡ old)) → Takes result
      portion-closes none (Ok more) put =
          subst (λ b. Takes (Ok b)) (sym put.0) (portion-ends none put.1)
      portion-closes none (Err why) same =
          subst (λ w. Takes (Err w)) (sym same.0) (portion-starves same.1)

      -- the lines of a page break off
      pub portion-breaks : (why : ReportFault) → PutsRows IsLine HasNoText page old new (Err why)
          → Takes (Err why)
      portion-breaks fault.NoText put = told (Err fault.NoText) refl (λ R is.
          subst (λ l. PutsBefore IsLine HasNoText l old new) is.0
          (before-more page (later R) old new put))
      portion-breaks fault.OutOfMemory put = told (Err fault.OutOfMemory) refl (λ R is. put.1)
      portion-breaks fault.Write put = absurd (let e = put.0 in cc)
      portion-breaks (fault.Store why) put = absurd (let e = put.0 in cc)

    -- the first of a page were left
    pub portion-goes : (count : ℕ) (page : List X) → GivesPage t u (take count page) more rest
        → (length page == 0) ≡ false → PutsFirst IsLine page old new count → Takes (Ok true)
    portion-goes count page q some puts =
        told (take count page) more q (Ok true) refl (λ R is. (
          take count page,
          is.0,
          some-first count page (first-some IsLine page old new count puts some) some,
          puts.0,
        ))

-- a portion of modifications, or of live values
pub portion-by : (report : Report) (was now : Pages) (t u : Store) (old new : List ℕ)
    (result : Result Bool ReportFault) (changes : Bool) → report.changes ≡ changes
    → ReadsFor t u (ending result) (λ R. elim changes [
      | true ↦ PutsChanges report (changes_left report.node was R)
          (changes_left report.node now R) old new result
      | false ↦ PutsValues report (values_left report.node was R)
          (values_left report.node now R) old new result
    ])
    → TakesPortion (record { report = report; pages = was })
    (record { report = report; pages = now }) t u old new result
portion-by report was now t u old new result changes is =
    subst (λ (b : Bool). ReadsFor t u (ending result) (λ R. elim b [
      | true ↦ PutsChanges report (changes_left report.node was R)
          (changes_left report.node now R) old new result
      | false ↦ PutsValues report (values_left report.node was R)
          (values_left report.node now R) old new result
    ])) (sym is)

-- whatever holds, holds of a fault
pub on-fault : {A E P : Type 0} (result : Result A E) → P → OnErr result P
on-fault (Ok a) holds = tt
on-fault (Err why) holds = holds

-- ---- the beginning

-- all that is asked for is left
pub begun-whole : (report : Report) (pages : Pages) (t u : Store) → AreShown t u pages.within
    → pages.after ≡ None → IsSpanOf report pages.span.from pages.span.to
    → Transitions t u [] (λ marks R S. (S ≡ R)
    × IsWhole report (record { report = report; pages = pages }) R)
begun-whole report pages t u shown first span =
    moves-as t u [] (λ marks R S. (S ≡ R) × IsLawfulContent R
    × ((o : ℕ) → number_of pages.within o ≡ vec R o))
    (λ marks R S. (S ≡ R) × IsWhole report (record { report = report; pages = pages }) R)
    (λ ms R S p. (
      p.0,
      (
        refl,
        values-all R report pages p.1 p.2 span,
        changes-all R report pages p.1 p.2 span first,
        p.2,
      ),
    )) shown

-- which records are shown was asked without a fault
pub shown-stays : (t u : Store) (numbers : List ℕ) → AreShown t u numbers → Stays t u
shown-stays t u numbers = moves-as t u [] (λ marks R S. (S ≡ R) × IsLawfulContent R
    × ((o : ℕ) → number_of numbers o ≡ vec R o)) (λ marks R S. S ≡ R) (λ ms R S p. p.0)
