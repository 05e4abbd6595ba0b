-- An archive is read, and then again, for a part of a history.
use Rattle.std.proofs.Common.{◌≡◌, ℕ, ◌+◌, ◌≤◌, ℤ, Bool, true, false, List, [], ◌∷◌, ◌++◌, map, take, length, append-nil, append_assoc, Option, Some, None, Result, Ok, Err, refl, sym, ap, ◌∙◌, subst, arith}
use Rattle.std.specs.Prelude.{◌==◌, if◌then◌else◌}
use Rattle.std.proofs.lemmas.List.{length-append, length-map, map-append, take-append-le}
use Rattle.std.specs.Ordering.{int_eq}
use Rattle.records.specs.Contents.{Content, vec}
use Rattle.records.specs.declared.shown.Held.{Held}
use Rattle.records.specs.declared.shown.Entry.{Entry}
use Rattle.stamp.specs.Numbers.{number_of}
use Rattle.archive.specs.Store.{Store, IsLawfulContent, faults_of}
use Rattle.archive.specs.Steps.{Transitions}
use Rattle.archive.specs.declared.fault.StoreFault.{StoreFault}
use Rattle.archive.proofs.Acting.{moves-none, moves-then, moves-as, faults-append}
use Rattle.history_report.specs.declared.fault.PartFault.{PartFault}
use Rattle.history_report.specs.declared.fault.PartFault.TheVariants as part_fault
use Rattle.history_report.specs.declared.fault.ReportFault.{ReportFault}
use Rattle.history_report.specs.declared.fault.ReportFault.TheVariants as fault
use Rattle.history_report.specs.declared.pages.Pages.{Pages}
use Rattle.history_report.specs.declared.report.Report.{Report}
use Rattle.history_report.specs.Reports.{ReadsFor, IsHeader, report_faults, values_asked, changes_asked}
use Rattle.history_report.specs.Paging.{IsPut, IsPageOf, GivesPage, Fails, values_left, changes_left}
use Rattle.history_report.specs.Parts.{end_between, HasTextless, IsFirstPart, AreCrowded, AsksForPart, IsPartEnd, AreFirstTimes}
use Rattle.history_report.specs.Portions.{Begins, BeginsPart, IsWhole, Remainder}
use Rattle.history_report.proofs.PageLemmas.{IsSpanOf, values-all, changes-all}
use Rattle.history_report.proofs.PartLemmas.{EndsChanges}
use Rattle.history_report.proofs.PrintingLemmas.{AreShown}
use Rattle.history_report.proofs.WalkLemmas.{Stays, walk-fails}

-- ---- one reading after the other

-- the same reading, told in other words
pub reads-as : (s t : Store) (result : Result (Unit {0}) ReportFault) (P Q : Content → Type 0)
    → ((R : Content) → P R → Q R) → ReadsFor s t result P → ReadsFor s t result Q
reads-as s t result P Q so (used, reads) = (
  used,
  moves-as s t used
      (λ marks R S. (S ≡ R) × ((faults_of used ≡ report_faults result) × P R))
      (λ marks R S. (S ≡ R) × ((faults_of used ≡ report_faults result) × Q R))
      (λ ms R S p. (p.0, (p.1.0, so R p.1.1))) reads,
)

-- a reading that met no fault, and then another, of the same content
pub reads-then : (s t u : Store) (result : Result (Unit {0}) ReportFault)
    (P Q To : Content → Type 0) → ((R : Content) → P R → Q R → To R) → ReadsFor s t (Ok tt) P
    → ReadsFor t u result Q → ReadsFor s u result To
reads-then s t u result P Q To both (used, reads) (later, more) = (
  used ++ later,
  moves-then s t u used later
      (λ marks R S. (S ≡ R) × ((faults_of used ≡ []) × P R))
      (λ marks R S. (S ≡ R) × ((faults_of later ≡ report_faults result) × Q R))
      (λ marks R S. (S ≡ R) × ((faults_of (used ++ later) ≡ report_faults result) × To R))
      (λ ms ns R S T p q. (
        q.0 ∙ p.0,
        (
          faults-append used later ∙ (ap (λ fs. fs ++ faults_of later) p.1.0 ∙ q.1.0),
          both R p.1.1 (subst Q p.0 q.1.1),
        ),
      )) reads more,
)

-- calls that met no fault are such a reading
pub reads-quiet : (s t : Store) (P : Content → Type 0)
    → Transitions s t [] (λ marks R S. (S ≡ R) × P R) → ReadsFor s t (Ok tt) P
reads-quiet s t P quiet = (
  [],
  moves-as s t [] (λ marks R S. (S ≡ R) × P R)
      (λ marks R S. (S ≡ R) × (([] ≡ report_faults (Ok tt)) × P R))
      (λ ms R S p. (p.0, (refl, p.1))) quiet,
)

-- nor is more told of them
pub reads-stays : (s t : Store) → Stays s t → ReadsFor s t (Ok tt) (λ R. Unit {0})
reads-stays s t stays = reads-quiet s t (λ R. Unit {0})
    (moves-as s t [] (λ marks R S. S ≡ R) (λ marks R S. (S ≡ R) × Unit {0})
    (λ ms R S p. (p, tt)) stays)

-- ---- a part

-- the same reading for a part, told in other words
pub part-as : {A : Type 0} (s t : Store) (result : Result A PartFault) (C D L : Content → Type 0)
    (P Q : A → Content → Type 0) → ((R : Content) → C R → D R)
    → ((a : A) (R : Content) → P a R → Q a R) → AsksForPart s t result C L P
    → AsksForPart s t result D L Q
part-as s t (Ok a) C D L P Q crowds so reads = reads-as s t (Ok tt) (P a) (Q a) (so a) reads
part-as s t (Err part_fault.Crowded) C D L P Q crowds so reads =
    reads-as s t (Ok tt) C D crowds reads
part-as s t (Err (part_fault.Report why)) C D L P Q crowds so reads = reads

-- what ended one call ends another
pub part-ends : {A B : Type 0} (s t : Store) (why : PartFault) (C L : Content → Type 0)
    (P : A → Content → Type 0) (Q : B → Content → Type 0)
    → AsksForPart {A = A} s t (Err why) C (λ R. ⊥) P → AsksForPart {A = B} s t (Err why) C L Q
part-ends s t part_fault.Crowded C L P Q reads = reads
part-ends s t (part_fault.Report why) C L P Q reads = (
  reads.0,
  reads-as s t (Err why) (λ R. why ≡ fault.NoText → ⊥) (λ R. why ≡ fault.NoText → L R)
      (λ R p e. absurd (p e)) reads.1,
)

-- what ended one call for a part ends another that is asked so
pub part-stopped : {A B : Type 0} (s t : Store) (why : PartFault) (C L : Content → Type 0)
    (P : A → Content → Type 0) (Q : B → Content → Type 0)
    → AsksForPart {A = A} s t (Err why) C L P → AsksForPart {A = B} s t (Err why) C L Q
part-stopped s t part_fault.Crowded C L P Q reads = reads
part-stopped s t (part_fault.Report why) C L P Q reads = reads

-- a reading, and then one that isn't crowded
pub part-then : {A : Type 0} (s t u : Store) (result : Result A PartFault) (P : Content → Type 0)
    (C L M : Content → Type 0) (Q To : A → Content → Type 0)
    → ((a : A) (R : Content) → P R → Q a R → To a R) → ((R : Content) → P R → L R → M R)
    → ReadsFor s t (Ok tt) P → AsksForPart t u result (λ R. ⊥) L Q → AsksForPart s u result C M To
part-then s t u (Ok a) P C L M Q To both lacks reads more =
    reads-then s t u (Ok tt) P (Q a) (To a) (both a) reads more
part-then s t u (Err part_fault.Crowded) P C L M Q To both lacks reads more =
    reads-then s t u (Ok tt) P (λ R. ⊥) C (λ R p q. absurd q) reads more
part-then s t u (Err (part_fault.Report why)) P C L M Q To both lacks reads more = (
  more.0,
  reads-then s t u (Err why) P (λ R. why ≡ fault.NoText → L R) (λ R. why ≡ fault.NoText → M R)
      (λ R p q e. lacks R p (q e)) reads more.1,
)

-- the store met a fault
pub part-fails : {A : Type 0} (s t u : Store) (why : StoreFault) (C L : Content → Type 0)
    (P : A → Content → Type 0) → Stays s t → Fails t u why
    → AsksForPart s u (Err (part_fault.Report (fault.Store why))) C L P
part-fails s t u why C L P stays fails = (
  λ e. absurd cc,
  reads-as s u (Err (fault.Store why)) (λ R. Unit {0}) (λ R. fault.Store why ≡ fault.NoText → L R)
      (λ R p e. absurd cc) (walk-fails s t u why stays fails).1,
)

-- memory was wanting behind a reading
pub part-starves : {A : Type 0} (s t : Store) (C L P : Content → Type 0)
    (Q : A → Content → Type 0) → ReadsFor s t (Ok tt) P
    → AsksForPart s t (Err (part_fault.Report fault.OutOfMemory)) C L Q
part-starves s t C L P Q (used, reads) = (
  λ e. absurd cc,
  (
    used,
    moves-as s t used (λ marks R S. (S ≡ R) × ((faults_of used ≡ []) × P R))
        (λ marks R S. (S ≡ R) × ((faults_of used ≡ report_faults (Err fault.OutOfMemory))
        × (fault.OutOfMemory ≡ fault.NoText → L R)))
        (λ ms R S p. (p.0, (p.1.0, (λ e. absurd cc)))) reads,
  ),
)

-- one call behind a reading was ended by this
pub part-behind : {A B : Type 0} (s t u : Store) (why : PartFault) (C L : Content → Type 0)
    (P : A → Content → Type 0) (Q : B → Content → Type 0) → Stays s t
    → AsksForPart {A = A} t u (Err why) (λ R. ⊥) (λ R. ⊥) P
    → AsksForPart {A = B} s u (Err why) C L Q
part-behind s t u why C L P Q stays ends =
    part-then s t u (Err why) (λ R. Unit {0}) C (λ R. ⊥) L Q Q (λ b R p q. q) (λ R p l. absurd l)
    (reads-stays s t stays) (part-ends t u why (λ R. ⊥) (λ R. ⊥) P Q ends)

-- memory was wanting behind a walk
pub part-memory : {A : Type 0} (s t : Store) (why : PartFault) (C L : Content → Type 0)
    (Q : A → Content → Type 0) → Stays s t → why ≡ part_fault.Report fault.OutOfMemory
    → AsksForPart s t (Err why) C L Q
part-memory {A} s t why C L Q stays is =
    subst (λ (w : PartFault). AsksForPart {A = A} s t (Err w) C L Q) (sym is)
    (part-starves s t C L (λ R. Unit {0}) Q (reads-stays s t stays))

-- ---- which times are seen

-- the archive was asked without a fault, and so far these times of the first were seen
abbrev pub Timing : {X : Type 0} → (X → ℤ) → Store → Store → (all rest : Content → List X)
    → (seen : List ℤ) → Type 0
Timing time old new all rest seen =
    Transitions old new []
    (λ marks R S. (S ≡ R) × (seen ++ map time (rest R) ≡ map time (all R)))

-- none so far
pub timing-none : {X : Type 0} (time : X → ℤ) (s : Store) (all : Content → List X)
    (seen : List ℤ) → seen ≡ [] → Timing time s s all all seen
timing-none time s all seen none =
    moves-none s (λ marks R S. (S ≡ R) × (seen ++ map time (all R) ≡ map time (all R)))
    (λ R. (refl, ap (λ l. l ++ map time (all R)) none))

pub timing-stays : {X : Type 0} (time : X → ℤ) (s t : Store) (all rest : Content → List X)
    (seen : List ℤ) → Timing time s t all rest seen → Stays s t
timing-stays time s t all rest seen = moves-as s t []
    (λ marks R S. (S ≡ R) × (seen ++ map time (rest R) ≡ map time (all R))) (λ marks R S. S ≡ R)
    (λ ms R S p. p.0)

-- at least 501
pub timing-enough : {X : Type 0} (time : X → ℤ) (s t : Store) (all rest : Content → List X)
    (seen : List ℤ) → 501 ≤ length seen → Timing time s t all rest seen
    → ReadsFor s t (Ok tt) (λ R. AreFirstTimes (map time (all R)) seen)
timing-enough time s t all rest seen enough timing =
    reads-quiet s t (λ R. AreFirstTimes (map time (all R)) seen)
    (moves-as s t [] (λ marks R S. (S ≡ R) × (seen ++ map time (rest R) ≡ map time (all R)))
    (λ marks R S. (S ≡ R) × AreFirstTimes (map time (all R)) seen)
    (λ ms R S p. (
      p.0,
      sym (take-append-le 501 seen (map time (rest R)) enough) ∙ ap (take 501) p.1,
    )) timing)

module _ {X : Type 0} (time : X → ℤ) (s t u : Store) (all rest more : Content → List X)
    (seen : List ℤ) (page : List X) (timing : Timing time s t all rest seen)
    (gives : GivesPage t u page more rest) where
  -- those of a page more
  pub timing-next : (new : List ℤ) → new ≡ seen ++ map time page → Timing time s u all more new
  timing-next new put = moves-then s t u [] []
      (λ marks R S. (S ≡ R) × (seen ++ map time (rest R) ≡ map time (all R)))
      (λ marks R S. (S ≡ R) × IsPageOf page (more R) (rest R))
      (λ marks R S. (S ≡ R) × (new ++ map time (more R) ≡ map time (all R)))
      (λ ms ns R S T p q. (
        q.0 ∙ p.0,
        joined R (subst (λ C. IsPageOf page (more C) (rest C)) p.0 q.1) p.1,
      )) timing gives
    where
      joined : (R : Content) → IsPageOf page (more R) (rest R)
          → seen ++ map time (rest R) ≡ map time (all R)
          → new ++ map time (more R) ≡ map time (all R)
      joined R is so_far =
          ap (λ l. l ++ map time (more R)) put
          ∙ (append_assoc seen (map time page) (map time (more R))
          ∙ (ap (λ l. seen ++ l) (sym (map-append time page (more R)) ∙ ap (map time) is.0)
          ∙ so_far))

  -- all
  pub timing-all : page ≡ [] → ReadsFor s u (Ok tt) (λ R. AreFirstTimes (map time (all R)) seen)
  timing-all none = reads-quiet s u (λ R. AreFirstTimes (map time (all R)) seen)
      (moves-then s t u [] []
      (λ marks R S. (S ≡ R) × (seen ++ map time (rest R) ≡ map time (all R)))
      (λ marks R S. (S ≡ R) × IsPageOf page (more R) (rest R))
      (λ marks R S. (S ≡ R) × AreFirstTimes (map time (all R)) seen)
      (λ ms ns R S T p q. (
        q.0 ∙ p.0,
        last R (subst (λ C. IsPageOf page (more C) (rest C)) p.0 q.1) p.1,
      )) timing gives)
    where
      last : (R : Content) → IsPageOf page (more R) (rest R)
          → seen ++ map time (rest R) ≡ map time (all R) → AreFirstTimes (map time (all R)) seen
      last R is so_far =
          let empty : rest R ≡ [] = sym is.0 ∙ (ap (λ l. l ++ more R) none ∙ is.1 none) in
          ap (take 501) (sym (append-nil seen)
          ∙ (ap (λ (l : List X). seen ++ map time l) (sym empty) ∙ so_far))

-- a page that isn't empty has a time at least
pub more-times : {X : Type 0} (time : X → ℤ) (pages : ℕ) (seen new : List ℤ) (page : List X)
    → pages ≤ length seen → new ≡ seen ++ map time page → (length page == 0) ≡ false
    → pages + 1 ≤ length new
more-times time pages seen new page few put some =
    omega (
      arith,
      few,
      at-least page some,
      ap length put,
      length-append seen (map time page),
      length-map page time,
    )
  where
    at-least : {X : Type 0} (l : List X) → (length l == 0) ≡ false → 1 ≤ length l
    at-least [] e = absurd cc
    at-least (x ∷ l) e = omega arith

-- which records are shown was asked
pub shown-reads : (report : Report) (pages : Pages) (t u : Store) → AreShown t u pages.within
    → ReadsFor t u (Ok tt)
    (λ R. IsLawfulContent R × ((o : ℕ) → number_of pages.within o ≡ vec R o))
shown-reads report pages t u shown = reads-quiet t u
    (λ R. IsLawfulContent R × ((o : ℕ) → number_of pages.within o ≡ vec R o))
    (moves-as t u [] (λ marks R S. (S ≡ R) × IsLawfulContent R
    × ((o : ℕ) → number_of pages.within o ≡ vec R o))
    (λ marks R S. (S ≡ R)
    × (IsLawfulContent R × ((o : ℕ) → number_of pages.within o ≡ vec R o)))
    (λ ms R S p. (p.0, (p.1, p.2))) shown)

module _ (report : Report) (pages : Pages) (times : List ℤ) (t u w : Store)
    (shown : AreShown t u pages.within)
    (span : IsSpanOf report pages.span.from pages.span.to) where
  pub seen-values : ReadsFor u w (Ok tt) (λ R. AreFirstTimes
      (map (λ (h : Held). h.time) (values_left report.node pages R)) times)
      → ReadsFor t w (Ok tt) (λ R. AreFirstTimes
      (map (λ (h : Held). h.time) (values_asked R report)) times)
  seen-values = reads-then t u w (Ok tt)
      (λ R. IsLawfulContent R × ((o : ℕ) → number_of pages.within o ≡ vec R o))
      (λ R. AreFirstTimes (map (λ (h : Held). h.time) (values_left report.node pages R)) times)
      (λ R. AreFirstTimes (map (λ (h : Held). h.time) (values_asked R report)) times)
      (λ R p q. subst (λ (l : List Held). AreFirstTimes (map (λ (h : Held). h.time) l) times)
      (values-all R report pages p.0 p.1 span) q)
      (shown-reads report pages t u shown)

  pub seen-changes : pages.after ≡ None → ReadsFor u w (Ok tt) (λ R. AreFirstTimes
      (map (λ (e : Entry). e.time) (changes_left report.node pages R)) times)
      → ReadsFor t w (Ok tt) (λ R. AreFirstTimes
      (map (λ (e : Entry). e.time) (changes_asked R report)) times)
  seen-changes first = reads-then t u w (Ok tt)
      (λ R. IsLawfulContent R × ((o : ℕ) → number_of pages.within o ≡ vec R o))
      (λ R. AreFirstTimes (map (λ (e : Entry). e.time) (changes_left report.node pages R)) times)
      (λ R. AreFirstTimes (map (λ (e : Entry). e.time) (changes_asked R report)) times)
      (λ R p q. subst (λ (l : List Entry). AreFirstTimes (map (λ (e : Entry). e.time) l) times)
      (changes-all R report pages p.0 p.1 span first) q)
      (shown-reads report pages t u shown)

-- an end that is missing is for no fault of a report
never : (first last : Option ℤ) (why : ReportFault)
    → Err (part_fault.Report why) ≡ end_between first last → ⊥
never None last why e = absurd cc
never (Some first) None why e = absurd cc
never (Some first) (Some last) why e = go (int_eq first last) e
  where
    go : (b : Bool) → Err (part_fault.Report why)
        ≡ (if b then Err part_fault.Crowded else Ok (Some last)) → ⊥
    go true k = absurd cc
    go false k = absurd cc

-- what is told of the end of modifications
pub ends-changes : (report : Report) (s t : Store) (result : Result (Option ℤ) PartFault)
    (first last : Option ℤ) → result ≡ end_between first last
    → ReadsFor s t (Ok tt) (λ R. EndsChanges (changes_asked R report) result)
    → AsksForPart s t result (λ R. AreCrowded (changes_asked R report)) (λ R. ⊥)
    (λ end R. IsPartEnd (map (λ (e : Entry). e.time) (changes_asked R report)) end)
ends-changes report s t (Ok end) first last is reads = reads
ends-changes report s t (Err part_fault.Crowded) first last is reads = reads
ends-changes report s t (Err (part_fault.Report why)) first last is reads =
    absurd (never first last why is)

-- ---- a part that is begun

-- the beginning of a part ended by this
pub part-unbegun : {A : Type 0} (part : Report) (s t : Store) (why : ReportFault)
    (C L P : Content → Type 0) (Q : A → Content → Type 0) → (why ≡ fault.Write → ⊥)
    → ReadsFor s t (Ok tt) P → (u : Store) → Begins part t u (Err why)
    → AsksForPart s u (Err (part_fault.Report why)) C L Q
part-unbegun part s t why C L P Q own reads u (other, ends) = (
  own,
  reads-then s t u (Err why) P (λ R. Unit {0}) (λ R. why ≡ fault.NoText → L R)
      (λ R p q e. absurd (other e)) reads ends,
)

-- what is known of a part before it is begun: which it is, and that each of its rows has a text
abbrev pub IsChecked : Report → Report → Content → Type 0
IsChecked report part R = IsFirstPart R report part × (HasTextless R part → ⊥)

pub part-checked : (report part : Report) (s t u : Store)
    → ReadsFor s t (Ok tt) (λ R. IsFirstPart R report part)
    → ReadsFor t u (Ok tt) (λ R. HasTextless R part → ⊥)
    → ReadsFor s u (Ok tt) (IsChecked report part)
part-checked report part s t u = reads-then s t u (Ok tt) (λ R. IsFirstPart R report part)
    (λ R. HasTextless R part → ⊥) (IsChecked report part) (λ R first none. (first, none))

-- a part is begun
pub part-begun : (report part : Report) (left : Remainder) (old new : List ℕ) (s t u : Store)
    → ReadsFor s t (Ok tt) (IsChecked report part) → Begins part t u (Ok left)
    → IsPut old new (IsHeader part) → ReadsFor s u (Ok tt) (λ R. BeginsPart report left R old new)
part-begun report part left old new s t u reads begins header =
    reads-then s t u (Ok tt) (IsChecked report part) (λ R. IsWhole part left R)
    (λ R. BeginsPart report left R old new)
    (λ R p whole. (part, p.0, p.1, header, whole)) reads
    (reads-quiet t u (λ R. IsWhole part left R) begins)
