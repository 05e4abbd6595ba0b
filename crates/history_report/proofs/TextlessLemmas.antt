-- Rows that have no text.
use Rattle.std.proofs.Common.{◌≡◌, ℕ, zero, suc, ◌+◌, ◌<◌, ◌≤◌, Bool, true, false, List, [], ◌∷◌, ◌++◌, drop, length, get_or, None, Result, Ok, Err, refl, sym, ap, ◌∙◌, subst, arith}
use Rattle.std.specs.Prelude.{◌↔◌}
use Rattle.std.proofs.lemmas.Option.{slice_get-get_or}
use Rattle.records.specs.Contents.{Content, vec}
use Rattle.records.specs.declared.shown.Held.{Held}
use Rattle.records.specs.declared.shown.Entry.{Entry}
use Rattle.stamp.specs.Numbers.{number_of}
use Rattle.archive.specs.Store.{Store, IsLawfulContent}
use Rattle.archive.specs.Steps.{Transitions}
use Rattle.archive.proofs.Acting.{moves-none, moves-then, moves-as}
use Rattle.history_csv.specs.Rows.{IsTextless, ShowsTextless}
use Rattle.history_report.specs.declared.fault.PartFault.{PartFault}
use Rattle.history_report.specs.declared.fault.PartFault.TheVariants as part_fault
use Rattle.history_report.specs.declared.fault.ReportFault.TheVariants as fault
use Rattle.history_report.specs.declared.pages.Pages.{Pages}
use Rattle.history_report.specs.declared.report.Report.{Report}
use Rattle.history_report.specs.Reports.{ReadsFor, report_faults, values_asked, changes_asked}
use Rattle.history_report.specs.Paging.{IsPageOf, GivesPage, values_left, changes_left}
use Rattle.history_report.specs.Parts.{AsksForPart, HasOne, HasTextless}
use Rattle.history_report.proofs.PageLemmas.{IsSpanOf, values-all, changes-all}
use Rattle.history_report.proofs.PrintingLemmas.{AreShown}
use Rattle.history_report.proofs.ReadingLemmas.{part-then, reads-quiet, shown-reads}
use Rattle.history_report.proofs.WalkLemmas.{Stays}

-- ---- lists

pub not-both : (b : Bool) → b ≡ false → b ≡ true → ⊥
not-both true e k = absurd cc
not-both false e k = absurd cc

module _ {X : Type 0} (P : X → Type 0) where
  pub none-one : HasOne P [] → ⊥
  none-one (n, (x, at, p)) = absurd cc

  pub one-front : (page more : List X) → HasOne P page → HasOne P (page ++ more)
  one-front [] more one = absurd (none-one one)
  one-front (y ∷ page) more (zero, is) = (zero, is)
  one-front (y ∷ page) more (suc n, is) =
      let rest = one-front page more (n, is) in (suc rest.0, rest.1)

  pub one-behind : (page more : List X) → HasOne P more → HasOne P (page ++ more)
  one-behind [] more one = one
  one-behind (y ∷ page) more one =
      let rest = one-behind page more one in (suc rest.0, rest.1)

  pub one-split : (page more : List X) → HasOne P (page ++ more) → (HasOne P page → ⊥)
      → HasOne P more
  one-split [] more one none = one
  one-split (y ∷ page) more (zero, is) none = absurd (none (zero, is))
  one-split (y ∷ page) more (suc n, is) none =
      one-split page more (n, is) (λ (k, at). none (suc k, at))

  -- none is behind the last
  pub one-end : (i : ℕ) (xs : List X) → length xs ≤ i → HasOne P (drop i xs) → ⊥
  one-end zero [] few one = none-one one
  one-end (suc i) [] few one = none-one one
  one-end zero (x ∷ xs) few one = absurd (omega (arith, few))
  one-end (suc i) (x ∷ xs) few one = one-end i xs (omega (arith, few)) one

  -- where one isn't, one of those behind it is
  one-after : (i : ℕ) (xs : List X) (d : X) → i < length xs → (P (get_or xs i d) → ⊥)
      → HasOne P (drop i xs) → HasOne P (drop (suc i) xs)
  one-after i [] d lt other one = absurd (omega (arith, lt))
  one-after zero (x ∷ xs) d lt other (zero, (y, at, p)) =
      let same : y ≡ x = cc in absurd (other (subst P same p))
  one-after zero (x ∷ xs) d lt other (suc n, is) = (n, is)
  one-after (suc i) (x ∷ xs) d lt other one = one-after i xs d (omega (arith, lt)) other one

  pub one-next : (i : ℕ) (xs : List X) (d : X) → i < length xs → (P (get_or xs i d) → ⊥)
      → HasOne P (drop i xs) → HasOne P (drop (i + 1) xs)
  one-next i xs d lt other one =
      let next : suc i ≡ i + 1 = omega arith in
      subst (λ n. HasOne P (drop n xs)) next (one-after i xs d lt other one)

  pub one-in : (xs ys : List X) → xs ≡ ys → HasOne P xs → HasOne P ys
  one-in xs ys same = subst (λ l. HasOne P l) same

  pub one-at : (i : ℕ) (xs : List X) (d : X) → i < length xs → P (get_or xs i d) → HasOne P xs
  one-at i xs d lt p = (i, (get_or xs i d, slice_get-get_or xs i d lt, p))

  -- ---- pages

  -- the archive was asked without a fault, and one of all is such exactly where one is of those
  -- that are still to come
  abbrev pub Seeking : Store → Store → (all rest : Content → List X) → Type 0
  Seeking old new all rest =
      Transitions old new [] (λ marks R S. (S ≡ R) × (HasOne P (all R) ↔ HasOne P (rest R)))

  pub seeking-none : (s : Store) (all : Content → List X) → Seeking s s all all
  seeking-none s all =
      moves-none s (λ marks R S. (S ≡ R) × (HasOne P (all R) ↔ HasOne P (all R)))
      (λ R. (refl, ((λ one. one), (λ one. one))))

  module _ (s t : Store) (all rest : Content → List X) (so : Seeking s t all rest) where
    pub seeking-stays : Stays s t
    seeking-stays = moves-as s t []
        (λ marks R S. (S ≡ R) × (HasOne P (all R) ↔ HasOne P (rest R))) (λ marks R S. S ≡ R)
        (λ ms R S p. p.0) so

    module _ (u : Store) (page : List X) (more : Content → List X)
        (q : GivesPage t u page more rest) where
      -- of any content that was held
      told : (To : Content → Type 0) → ((R : Content)
          → (HasOne P (all R) ↔ HasOne P (rest R)) → IsPageOf page (more R) (rest R) → To R)
          → Transitions s u [] (λ marks R S. (S ≡ R) × To R)
      told To f =
          moves-then s t u [] []
          (λ marks R S. (S ≡ R) × (HasOne P (all R) ↔ HasOne P (rest R)))
          (λ marks R S. (S ≡ R) × IsPageOf page (more R) (rest R)) (λ marks R S. (S ≡ R) × To R)
          (λ ms ns R S T p a. (
            a.0 ∙ p.0,
            f R p.1 (subst (λ C. IsPageOf page (more C) (rest C)) p.0 a.1),
          )) so q

      pub seeking-next : (HasOne P page → ⊥) → Seeking s u all more
      seeking-next none = told (λ R. HasOne P (all R) ↔ HasOne P (more R)) (λ R both is. (
        λ one. one-split page (more R)
            (subst (λ (l : List X). HasOne P l) (sym is.0) (both.0 one)) none,
        λ one. both.1 (subst (λ (l : List X). HasOne P l) is.0 (one-behind page (more R) one)),
      ))

      pub seeking-ends : page ≡ [] → ReadsFor s u (Ok tt) (λ R. HasOne P (all R) → ⊥)
      seeking-ends empty = reads-quiet s u (λ R. HasOne P (all R) → ⊥)
          (told (λ R. HasOne P (all R) → ⊥) (λ R both is one.
          let nothing : rest R ≡ [] =
          sym is.0 ∙ (ap (λ l. l ++ more R) empty ∙ is.1 empty) in
          none-one (subst (λ (l : List X). HasOne P l) nothing (both.0 one))))

      pub seeking-found : {A : Type 0} (Q : A → Content → Type 0) → HasOne P page
          → AsksForPart s u (Err (part_fault.Report fault.NoText)) (λ R. ⊥)
          (λ R. HasOne P (all R)) Q
      seeking-found Q one = (
        λ e. absurd cc,
        (
          [],
          moves-as s u [] (λ marks R S. (S ≡ R) × HasOne P (all R))
              (λ marks R S. (S ≡ R) × (([] ≡ report_faults (Err fault.NoText))
              × (fault.NoText ≡ fault.NoText → HasOne P (all R))))
              (λ ms R S p. (p.0, (refl, λ e. p.1)))
              (told (λ R. HasOne P (all R)) (λ R both is.
              both.1 (subst (λ (l : List X). HasOne P l) is.0 (one-front page (more R) one)))),
        ),
      )

-- ---- a report

-- a row of a report has no text, by whether modifications are asked for
abbrev TextlessBy : Content → Report → (changes : Bool) → Type 0
TextlessBy R report changes =
    elim changes [
      | true ↦ HasOne (λ e. ShowsTextless e.value) (changes_asked R report)
      | false ↦ HasOne (λ h. IsTextless h.value.value) (values_asked R report)
    ]

pub textless-is : (R : Content) (report : Report) (b : Bool) → report.changes ≡ b
    → TextlessBy R report b → HasTextless R report
textless-is R report b is = subst (λ (c : Bool). TextlessBy R report c) (sym is)

textless-by : (R : Content) (report : Report) (b : Bool) → report.changes ≡ b
    → HasTextless R report → TextlessBy R report b
textless-by R report b is = subst (λ (c : Bool). TextlessBy R report c) is

module _ (report : Report) (pages : Pages) (t u w : Store) (shown : AreShown t u pages.within)
    (span : IsSpanOf report pages.span.from pages.span.to)
    (result : Result (Unit {0}) PartFault) where
  -- what was told of all that was left is told of the report
  abbrev Checks : {X : Type 0} → (X → Type 0) → (Content → List X) → Type 0
  Checks P left =
      AsksForPart u w result (λ R. ⊥) (λ R. HasOne P (left R)) (λ done R. HasOne P (left R) → ⊥)

  abbrev pub ChecksReport : Type 0
  ChecksReport =
      AsksForPart t w result (λ R. ⊥) (λ R. HasTextless R report)
      (λ done R. HasTextless R report → ⊥)

  pub checked-values : report.changes ≡ false
      → Checks (λ (h : Held). IsTextless h.value.value) (values_left report.node pages)
      → ChecksReport
  checked-values is = part-then t u w result
      (λ R. IsLawfulContent R × ((o : ℕ) → number_of pages.within o ≡ vec R o)) (λ R. ⊥)
      (λ R. HasOne (λ (h : Held). IsTextless h.value.value) (values_left report.node pages R))
      (λ R. HasTextless R report)
      (λ (done : Unit {0}) R.
      HasOne (λ (h : Held). IsTextless h.value.value) (values_left report.node pages R) → ⊥)
      (λ (done : Unit {0}) R. HasTextless R report → ⊥)
      (λ done R p none textless. none (subst
      (λ (l : List Held). HasOne (λ (h : Held). IsTextless h.value.value) l)
      (sym (values-all R report pages p.0 p.1 span)) (textless-by R report false is textless)))
      (λ R p one. textless-is R report false is (subst
      (λ (l : List Held). HasOne (λ (h : Held). IsTextless h.value.value) l)
      (values-all R report pages p.0 p.1 span) one))
      (shown-reads report pages t u shown)

  pub checked-changes : report.changes ≡ true → pages.after ≡ None
      → Checks (λ (e : Entry). ShowsTextless e.value) (changes_left report.node pages)
      → ChecksReport
  checked-changes is first = part-then t u w result
      (λ R. IsLawfulContent R × ((o : ℕ) → number_of pages.within o ≡ vec R o)) (λ R. ⊥)
      (λ R. HasOne (λ (e : Entry). ShowsTextless e.value) (changes_left report.node pages R))
      (λ R. HasTextless R report)
      (λ (done : Unit {0}) R.
      HasOne (λ (e : Entry). ShowsTextless e.value) (changes_left report.node pages R) → ⊥)
      (λ (done : Unit {0}) R. HasTextless R report → ⊥)
      (λ done R p none textless. none (subst
      (λ (l : List Entry). HasOne (λ (e : Entry). ShowsTextless e.value) l)
      (sym (changes-all R report pages p.0 p.1 span first))
      (textless-by R report true is textless)))
      (λ R p one. textless-is R report true is (subst
      (λ (l : List Entry). HasOne (λ (e : Entry). ShowsTextless e.value) l)
      (changes-all R report pages p.0 p.1 span first) one))
      (shown-reads report pages t u shown)
