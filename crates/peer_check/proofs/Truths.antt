-- What comes from a peer that tells the truth, for the laws that what differs is found.
use Rattle.std.proofs.Common.{◌≡◌, ◌==◌, ℕ, ◌-◌, ◌≤◌, ◌<◌, ◌⊎◌, inl, inr, Bool, true, false, List, [], ◌∷◌, min, max, refl, sym, ap, ◌∙◌, subst, arith, zero, suc, if◌then◌else◌}
use Rattle.std.specs.List.{AllByRecursion}
use Rattle.std.specs.Prelude.{nat_lt, None}
use Rattle.std.proofs.lemmas.Bool.{cases_eq, eq-eqb, ne_eqb}
use Rattle.std.proofs.lemmas.Bool.Decides.{nat_tests}
use Rattle.stamp.specs.Limits.{greatest}
use Rattle.stamp.specs.Numbers.{number_of}
use Rattle.records.specs.declared.record.Record.{Record}
use Rattle.records.specs.Lists.{Has}
use Rattle.records.specs.Contents.{Content, vec, AreCompatible}
use Rattle.records.proofs.ContentLemmas.{apart_from_rises, vec_bounds}
use Rattle.records.proofs.LackLemmas.{missing_before, missing_within}
use Rattle.records.proofs.MissingLemmas.{name_less}
use Rattle.archive.specs.Store.{IsLawfulContent}
use Rattle.exchange.specs.Batches.{batch_of, IsBatchFor}
use Rattle.exchange.proofs.BatchLemmas.{some_fits}
use Rattle.exchange.proofs.TitleLemmas.{batch_is}
use Rattle.peer_check.specs.Comparing.{Comparison, before_shared, number_behind, numbers_behind, FindsAmong}
use Rattle.peer_check.specs.declared.comparing.Extent.{Extent}
use Rattle.peer_check.specs.declared.comparing.Extent.TheVariants.{Last, All}
use Rattle.peer_check.specs.Truth.{IsBatchSince, AreBatches, IsAnsweredFrom, AgreeAtLast}

-- ---- one batch

cases_less : (m n : ℕ) → (m < n) ⊎ (n ≤ m)
cases_less zero zero = inr (omega arith)
cases_less zero (suc n) = inl (omega arith)
cases_less (suc m) zero = inr (omega arith)
cases_less (suc m) (suc n) = elim (cases_less m n) [
  | inl less ↦ inl (omega (arith, less))
  | inr most ↦ inr (omega (arith, most))
]

-- with a record of a replica comes each one before it that was asked for
comes_before : (S : Content) (v : ℕ → ℕ) (b s : Record) → IsLawfulContent S → Has (batch_of S v) b
    → Has S s → s.origin ≡ b.origin → s.number ≤ b.number → v s.origin < s.number
    → Has (batch_of S v) s
comes_before S v b s lawful came held same below beyond =
    let is : IsBatchFor S v (batch_of S v) = batch_is S v lawful in
    subst (λ l. Has l s) (sym is.first)
    (elim (missing_before S v is.count b s (apart_from_rises S lawful.closed.ordered)
    (subst (λ l. Has l b) is.first came) held beyond) [
      | inl there ↦ there
      | inr less ↦ absurd (omega (arith, below, name_less b s less (sym same)))
    ])

-- what comes is held, and was asked for
was_asked : (S : Content) (v : ℕ → ℕ) (b : Record) → IsLawfulContent S → Has (batch_of S v) b
    → Has S b × (v b.origin < b.number)
was_asked S v b lawful came =
    let is = batch_is S v lawful in
    missing_within S v is.count b (subst (λ l. Has l b) is.first came)

-- where nothing comes, nothing is held behind what was asked for
none_beyond : (S : Content) (v : ℕ → ℕ) (s : Record) → IsLawfulContent S → batch_of S v ≡ []
    → Has S s → s.number ≤ v s.origin
none_beyond S v s lawful none held =
    elim (cases_less (v s.origin) s.number) [
      | inl beyond ↦ absurd (omega (
        arith,
        some_fits S v [] s lawful (subst (IsBatchFor S v) none (batch_is S v lawful)) held beyond,
      ))
      | inr within ↦ within
    ]

-- ---- all batches

other : (b : Bool) (x y : ℕ) → b ≡ false → (if b then x else y) ≡ y
other true x y e = absurd cc
other false x y e = refl

-- it came with these batches, the first one of its replica, which was asked for behind this number
record HasCome (S : Content) (earlier : List (List Record)) (replica number : ℕ) : Type 0 where
  numbers : ℕ → ℕ
  brought : List Record
  since : IsBatchSince S numbers brought
  came : Has earlier brought
  one : Record
  among : Has brought one
  origin : one.origin ≡ replica
  behind : numbers replica ≡ number

-- none of these is a replica's, and it is asked for as before; or one is
one_or_none : (extent : Extent) (held v : ℕ → ℕ) (rs : List Record) (replica : ℕ)
    → (numbers_behind extent held v rs replica ≡ v replica)
    ⊎ ((r : Record) × Has rs r × (r.origin ≡ replica))
one_or_none extent held v [] replica = inl refl
one_or_none extent held v (r ∷ rs) replica = elim (cases_eq r.origin replica) [
  | inl e ↦ inr (r, inl refl, e)
  | inr ne ↦ elim (one_or_none extent held v rs replica) [
    | inl still ↦ inl (other (r.origin == replica) _ _ (ne_eqb r.origin replica ne) ∙ still)
    | inr (it, has, origin) ↦ inr (it, inr has, origin)
  ]
]

-- of a replica none has come, and it is asked for as before; or some have
asked_still : (extent : Extent) (S : Content) (held : ℕ → ℕ) (earlier : List (List Record))
    (first next : ℕ → ℕ) (replica : ℕ) → AreBatches extent S held earlier first next
    → (next replica ≡ first replica) ⊎ HasCome S earlier replica (first replica)
asked_still extent S held [] first next replica are = inl (are replica)
asked_still extent S held (brought ∷ earlier) first next replica (numbers, are, is, behind) =
    elim (asked_still extent S held earlier first numbers replica are) [
      | inr come ↦ inr (record {
        numbers = come.numbers;
        brought = come.brought;
        since = come.since;
        came = inr come.came;
        one = come.one;
        among = come.among;
        origin = come.origin;
        behind = come.behind;
      })
      | inl still ↦ elim (one_or_none extent held numbers brought replica) [
        | inr it ↦ inr (record {
          numbers = numbers;
          brought = brought;
          since = is;
          came = inl refl;
          one = it.0;
          among = it.1;
          origin = it.2;
          behind = still;
        })
        | inl none ↦ inl (behind replica ∙ none ∙ still)
      ]
    ]

-- one of several lists
among_all : (R : Content) (lists : List (List Record)) (rs : List Record)
    → AllByRecursion (AreCompatible R) lists → Has lists rs → AreCompatible R rs
among_all R [] rs all has = absurd has
among_all R (l ∷ lists) rs all (inl e) = subst (AreCompatible R) e all.0
among_all R (l ∷ lists) rs all (inr has) = among_all R lists rs all.1 has

-- what came with a record of a batch
came_with : (S : Content) (v : ℕ → ℕ) (brought : List Record) (one s : Record)
    → IsBatchSince S v brought → Has brought one → Has S s → s.origin ≡ one.origin
    → s.number ≤ one.number → v s.origin < s.number → Has brought s
came_with S v brought one s since among there same upto beyond =
    subst (λ l. Has l s) (sym since.batch)
    (comes_before since.now v one s since.lawful (subst (λ l. Has l one) since.batch among)
    (since.stays s there) same upto beyond)

-- where nothing came, nothing that was held stands behind what was asked for
behind_none : (S : Content) (v : ℕ → ℕ) (brought : List Record) (s : Record)
    → IsBatchSince S v brought → brought ≡ [] → Has S s → s.number ≤ v s.origin
behind_none S v brought s since none there =
    none_beyond since.now v s since.lawful (sym since.batch ∙ none) (since.stays s there)

pub shared : (R S : Content) (c : Comparison) → IsLawfulContent R → IsLawfulContent S
    → IsAnsweredFrom Last S c → FindsAmong Last R c None → c.brought ≡ [] → AgreeAtLast R S
shared R S c lawful lawful' answers finds ends r s held held' same number least =
    let some : 1 ≤ r.number = lawful.closed.numbers r held in
    let asked : number_of c.first r.origin ≡ r.number - 1 =
    finds.first r.origin (lawful.records r held).origin
    ∙ ap (before_shared Last (vec R r.origin))
    (answers.theirs r.origin (lawful.records r held).origin)
    ∙ below (min (vec R r.origin) (vec S r.origin)) r.number least some in
    elim (asked_still Last S (number_of c.ours) c.earlier (number_of c.first) answers.asked r.origin
    answers.earlier) [
      | inl still ↦
          let within : s.number ≤ answers.asked s.origin =
          behind_none S answers.asked c.brought s answers.brought ends held' in
          let at : answers.asked s.origin ≡ r.number - 1 =
          ap answers.asked (sym same) ∙ still ∙ asked in
          absurd (omega (arith, within, at, number, some))
      | inr come ↦
          let since = come.since in
          let one = was_asked since.now come.numbers come.one since.lawful
          (subst (λ l. Has l come.one) since.batch come.among) in
          let behind : come.numbers r.origin ≡ r.number - 1 = come.behind ∙ asked in
          let beyond : come.numbers r.origin < come.one.number =
          subst (λ o. come.numbers o < come.one.number) come.origin one.1 in
          let there : Has come.brought s =
          came_with S come.numbers come.brought come.one s since come.among held'
          (sym same ∙ sym come.origin) (omega (arith, beyond, behind, number, some))
          (subst (λ o. come.numbers o < s.number) same
          (omega (arith, behind, number, some))) in
          among_all R c.earlier come.brought finds.earlier come.came r s held there same number
    ]
  where
    below : (least number : ℕ) → number ≡ least → 1 ≤ number
        → (if least == 0 then greatest else least - 1) ≡ number - 1
    below zero number e some = absurd (omega (arith, e, some))
    below (suc n) number e some =
        other (suc n == 0) greatest (suc n - 1) (ne_eqb (suc n) 0 (λ z. cc))
        ∙ ap (λ k. k - 1) (sym e)

-- ---- all of them

-- what is asked for behind these and stands at a number that isn't behind them, and is held, comes
-- before one of them
reached_by : (held v : ℕ → ℕ) (rs : List Record) (replica number : ℕ) → v replica < number
    → number ≤ held replica → number ≤ numbers_behind All held v rs replica
    → (r : Record) × Has rs r × (r.origin ≡ replica) × (number ≤ r.number)
reached_by held v [] replica number beyond within reached = absurd (omega (arith, beyond, reached))
reached_by held v (r ∷ rs) replica number beyond within reached =
    let others : ℕ = numbers_behind All held v rs replica in
    let raised : ℕ = number_behind All (held replica) r.number in
    let later : number ≤ others → (x : Record) × Has (r ∷ rs) x × (x.origin ≡ replica)
    × (number ≤ x.number) = λ less.
    let it = reached_by held v rs replica number beyond within less in
    (it.0, inr it.1, it.2, it.3) in
    elim (cases_eq r.origin replica) [
      | inr ne ↦ later (subst (λ n. number ≤ n)
          (other (r.origin == replica) (max others raised) others (ne_eqb r.origin replica ne))
          reached)
      | inl e ↦
          let most : number ≤ max others raised =
          subst (λ (b : Bool). number ≤ (if b then max others raised else others))
          (eq-eqb r.origin replica e) reached in
          elim (cases_less others number) [
            | inr less ↦ later less
            | inl above ↦
                let it : number ≤ raised = omega (arith, most, above) in
                (r, inl refl, e, at_most r.number number (held replica) within it)
          ]
    ]
  where
    at_most : (r number held : ℕ) → number ≤ held → number ≤ number_behind All held r → number ≤ r
    at_most r number held within it = elim (cases_less r held) [
      | inr beyond ↦ omega (arith, within, beyond)
      | inl less ↦
          let so : nat_lt r held ≡ true = grind (arith, nat_tests, less) in
          subst (λ (b : Bool). number ≤ (if b then r else greatest)) so it
    ]

-- a record that is held and isn't behind what is asked next came with some batch
has_come : (S : Content) (held : ℕ → ℕ) (earlier : List (List Record)) (first next : ℕ → ℕ)
    (s : Record) → AreBatches All S held earlier first next → Has S s
    → first s.origin < s.number → s.number ≤ held s.origin → s.number ≤ next s.origin
    → (rs : List Record) × Has earlier rs × Has rs s
has_come S held [] first next s are there beyond within reached =
    absurd (omega (arith, beyond, reached, are s.origin))
has_come S held (brought ∷ earlier) first next s (numbers, are, is, behind) there beyond within reached =
    elim (cases_less (numbers s.origin) s.number) [
      | inr less ↦
          let it = has_come S held earlier first numbers s are there beyond within less in
          (it.0, inr it.1, it.2)
      | inl above ↦
          let it = reached_by held numbers brought s.origin s.number above within
          (subst (λ n. s.number ≤ n) (behind s.origin) reached) in
          let came = came_with S numbers brought it.0 s is it.1 there (sym it.2) it.3 above in
          (brought, inl refl, came)
    ]

pub all_shared : (R S : Content) (c : Comparison) → IsLawfulContent R → IsLawfulContent S
    → IsAnsweredFrom All S c → FindsAmong All R c None → c.brought ≡ [] → AreCompatible R S
all_shared R S c lawful lawful' answers finds ends r s held held' same number =
    let origin = (lawful'.records s held').origin in
    let some : 1 ≤ s.number = lawful'.closed.numbers s held' in
    let ours : s.number ≤ vec R s.origin =
    subst (λ o. s.number ≤ vec R o) same (omega (arith, vec_bounds R r held, number)) in
    let theirs : s.number ≤ vec S s.origin = vec_bounds S s held' in
    let asked : number_of c.first s.origin ≡ 0 =
    finds.first s.origin origin
    ∙ ap (before_shared All (vec R s.origin)) (answers.theirs s.origin origin)
    ∙ none_before (min (vec R s.origin) (vec S s.origin)) (omega (arith, some, ours, theirs)) in
    let reached : s.number ≤ answers.asked s.origin =
    behind_none S answers.asked c.brought s answers.brought ends held' in
    let it = has_come S (number_of c.ours) c.earlier (number_of c.first) answers.asked s
    answers.earlier held' (omega (arith, asked, some))
    (omega (arith, ours, finds.ours s.origin)) reached in
    among_all R c.earlier it.0 finds.earlier it.1 r s held it.2 same number
  where
    none_before : (least : ℕ) → 1 ≤ least → (if least == 0 then greatest else 0) ≡ 0
    none_before zero some = absurd (omega (arith, some))
    none_before (suc n) some = other (suc n == 0) greatest 0 (ne_eqb (suc n) 0 (λ z. cc))
