-- An archive that is walked over, before anything is printed.
use Rattle.std.proofs.Common.{◌≡◌, ℕ, List, [], ◌∷◌, Option, Result, Err, refl, ◌∙◌, subst, inr}
use Rattle.std.proofs.KnownBytes.{Appends-nil}
use Rattle.records.specs.Contents.{Content, vec}
use Rattle.stamp.specs.Numbers.{number_of}
use Rattle.archive.specs.Store.{Store, StoreFailed, IsLawfulContent, faults_of}
use Rattle.archive.specs.Steps.{Transitions}
use Rattle.archive.specs.declared.fault.StoreFault.{StoreFault}
use Rattle.archive.proofs.Acting.{moves-none, moves-then, moves-as}
use Rattle.history_report.specs.declared.report.Report.{Report}
use Rattle.history_report.specs.declared.fault.ReportFault.{ReportFault}
use Rattle.history_report.specs.declared.fault.ReportFault.TheVariants as fault
use Rattle.history_report.specs.Reports.{PrintsReport, Prints, ReadsFor, report_faults}
use Rattle.history_report.specs.Paging.{IsPageOf, GivesPage, Fails}
use Rattle.history_report.proofs.PrintingLemmas.{AreShown}

-- the archive was asked without a fault
abbrev pub Stays : Store → Store → Type 0
Stays s t = Transitions s t [] (λ marks R S. S ≡ R)

pub stays-none : (s : Store) → Stays s s
stays-none s = moves-none s (λ marks R S. S ≡ R) (λ R. refl)

pub stays-then : (s t u : Store) → Stays s t → Stays t u → Stays s u
stays-then s t u = moves-then s t u [] [] (λ marks R S. S ≡ R) (λ marks R S. S ≡ R)
    (λ marks R S. S ≡ R) (λ ms ns R S T p q. q ∙ p)

-- a page was answered
pub stays-page : {X : Type 0} (s t u : Store) (page : List X) (more rest : Content → List X)
    → Stays s t → GivesPage t u page more rest → Stays s u
stays-page s t u page more rest = moves-then s t u [] [] (λ marks R S. S ≡ R)
    (λ marks R S. (S ≡ R) × IsPageOf page (more R) (rest R)) (λ marks R S. S ≡ R)
    (λ ms ns R S T p q. q.0 ∙ p)

-- what reads behind a walk
reads-behind : (s t u : Store) (result : Result (Unit {0}) ReportFault) (P : Content → Type 0)
    → Stays s t → ReadsFor t u result P → ReadsFor s u result P
reads-behind s t u result P stays (used, reads) = (
  used,
  moves-then s t u [] used (λ marks R S. S ≡ R)
      (λ marks R S. (S ≡ R) × ((faults_of used ≡ report_faults result) × P R))
      (λ marks R S. (S ≡ R) × ((faults_of used ≡ report_faults result) × P R))
      (λ ms ns R S T p q. (q.0 ∙ p, (q.1.0, subst P p q.1.1))) stays reads,
)

-- a walk ended by this
abbrev pub Stops : Store → Store → ReportFault → Type 0
Stops s t why = (why ≡ fault.NoText → ⊥) × ReadsFor s t (Err why) (λ R. Unit {0})

-- a walk ends by a fault of the store
pub walk-fails : (s t u : Store) (why : StoreFault) → Stays s t → Fails t u why
    → Stops s u (fault.Store why)
walk-fails s t u why stays fails = (
  λ e. absurd cc,
  (
    StoreFailed why ∷ [],
    moves-then s t u [] (StoreFailed why ∷ []) (λ marks R S. S ≡ R) (λ marks R S. S ≡ R)
        (λ marks R S. (S ≡ R)
        × ((faults_of (StoreFailed why ∷ []) ≡ report_faults (Err (fault.Store why))) × Unit {0}))
        (λ ms ns R S T p q. (q ∙ p, (refl, tt))) stays fails,
  ),
)

-- a walk ends for want of memory
pub walk-stops : (s t : Store) → Stays s t → Stops s t fault.OutOfMemory
walk-stops s t stays = (
  λ e. absurd cc,
  (
    [],
    moves-as s t [] (λ marks R S. S ≡ R)
        (λ marks R S. (S ≡ R) × (([] ≡ report_faults (Err fault.OutOfMemory)) × Unit {0}))
        (λ ms R S p. (p, (refl, tt))) stays,
  ),
)

-- one walk behind another ends
pub stops-then : (s t u : Store) (why : ReportFault) → Stays s t → Stops t u why → Stops s u why
stops-then s t u why stays (other, reads) =
    (other, reads-behind s t u (Err why) (λ R. Unit {0}) stays reads)

-- ---- before anything is printed

-- which records are shown is known behind a walk as well
pub shown-on : (t u w : Store) (numbers : List ℕ) → AreShown t u numbers → Stays u w
    → AreShown t w numbers
shown-on t u w numbers = moves-then t u w [] [] (λ marks R S. (S ≡ R) × IsLawfulContent R
    × ((o : ℕ) → number_of numbers o ≡ vec R o)) (λ marks R S. S ≡ R)
    (λ marks R S. (S ≡ R) × IsLawfulContent R × ((o : ℕ) → number_of numbers o ≡ vec R o))
    (λ ms ns R S T p q. (q ∙ p.0, p.1, p.2))

-- the walk ended by a fault
pub undrawn : (report : Report) (t u w : Store) (numbers : List ℕ) (before : Option (List ℕ))
    (why : ReportFault) → AreShown t u numbers → Stops u w why
    → Prints report t w before before (Err why)
undrawn report t u w numbers before why shown (other, (used, reads)) = (
  used,
  moves-then t u w [] used (λ marks R S. (S ≡ R) × IsLawfulContent R
      × ((o : ℕ) → number_of numbers o ≡ vec R o))
      (λ marks R S. (S ≡ R) × ((faults_of used ≡ report_faults (Err why)) × Unit {0}))
      (λ marks R S. (S ≡ R) × ((faults_of used ≡ report_faults (Err why))
      × PrintsReport report R before before (Err why)))
      (λ ms ns R S T p q. (
        q.0 ∙ p.0,
        (q.1.0, inr (why, refl, other, Appends-nil before)),
      )) shown reads,
)
