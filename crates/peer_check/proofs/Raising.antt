-- Vectors that are made a replica at a time.
use Rattle.std.proofs.Common.{◌≡◌, ◌≢◌, ◌==◌, ℕ, ◌+◌, ◌≤◌, ◌<◌, Bool, true, false, List, [], ◌∷◌, ◌++◌, get_or, take, length, max, refl, sym, ap, ◌∙◌, subst, arith, inl, inr, if◌then◌else◌}
use Rattle.std.specs.Prelude.{nat_lt}
use Rattle.std.proofs.lemmas.Bool.{cases_eq, eq-eqb, ne_eqb}
use Rattle.std.proofs.lemmas.Bool.Decides.{nat_tests}
use Rattle.std.proofs.lemmas.List.{take_more}
use Rattle.stamp.specs.Limits.{IsReplica}
use Rattle.stamp.specs.Numbers.{number_of}
use Rattle.records.specs.declared.record.Record.{Record}
use Rattle.peer_check.specs.Comparing.{number_behind, numbers_behind}
use Rattle.peer_check.specs.declared.comparing.Extent.{Extent}

-- the replicas below one have these numbers, and the others none
abbrev pub IsRaisedBelow : (bound : ℕ) → (ℕ → ℕ) → (numbers : List ℕ) → Type 0
IsRaisedBelow bound f numbers =
    (replica : ℕ) → 1 ≤ replica
    → number_of numbers replica ≡ (if nat_lt replica bound then f replica else 0)

chosen : (b : Bool) (x y : ℕ) → b ≡ true → (if b then x else y) ≡ x
chosen true x y e = refl
chosen false x y e = absurd cc

other : (b : Bool) (x y : ℕ) → b ≡ false → (if b then x else y) ≡ y
other true x y e = absurd cc
other false x y e = refl

-- before the first
pub none_raised : (f : ℕ → ℕ) (numbers : List ℕ)
    → ((replica : ℕ) → number_of numbers replica ≡ 0) → IsRaisedBelow 1 f numbers
none_raised f numbers none replica is =
    none replica ∙ sym (other (nat_lt replica 1) (f replica) 0 (grind (arith, nat_tests, is)))

-- one more
pub one_raised : (f : ℕ → ℕ) (n : ℕ) (old new : List ℕ) → IsRaisedBelow n f old → 1 ≤ n
    → number_of new n ≡ max (number_of old n) (f n)
    → ((o : ℕ) → o ≢ n → number_of new o ≡ number_of old o) → IsRaisedBelow (n + 1) f new
one_raised f n old new so_far least here elsewhere replica some =
    elim (cases_eq replica n) [
      | inl e ↦
          let none : number_of old n ≡ 0 =
          so_far n least ∙ other (nat_lt n n) (f n) 0 (grind (arith, nat_tests)) in
          let is : number_of new n ≡ f n = omega (arith, here, none) in
          ap (number_of new) e ∙ is ∙ ap f (sym e)
          ∙ sym (chosen (nat_lt replica (n + 1)) (f replica) 0 (grind (arith, nat_tests, e)))
      | inr ne ↦
          let same : nat_lt replica (n + 1) ≡ nat_lt replica n = grind (arith, nat_tests, ne) in
          elsewhere replica ne ∙ so_far replica some
          ∙ ap (λ (b : Bool). if b then f replica else 0) (sym same)
    ]

-- all of them
pub all_raised : (f : ℕ → ℕ) (n : ℕ) (numbers : List ℕ) → IsRaisedBelow n f numbers → 65 ≤ n
    → (replica : ℕ) → IsReplica replica → number_of numbers replica ≡ f replica
all_raised f n numbers raised end replica is =
    raised replica is.0
    ∙ chosen (nat_lt replica n) (f replica) 0 (grind (arith, nat_tests, is.1, end))

-- one more, by its name
pub next_raised : (f : ℕ → ℕ) (n replica last : ℕ) (old new : List ℕ) → IsRaisedBelow n f old
    → 1 ≤ n → replica ≡ n → last ≡ f replica
    → number_of new replica ≡ max (number_of old replica) last
    → ((o : ℕ) → o ≢ replica → number_of new o ≡ number_of old o) → IsRaisedBelow (n + 1) f new
next_raised f n replica last old new so_far least named is here elsewhere =
    subst (λ m. IsRaisedBelow (m + 1) f new) named
    (one_raised f replica old new (subst (λ m. IsRaisedBelow m f old) (sym named) so_far)
    (omega (arith, least, named)) (here ∙ ap (max (number_of old replica)) is) elsewhere)

-- ---- numbers that are raised behind records

-- two that are raised one after the other are so in either order
either_order : (a b : Bool) (n x y : ℕ)
    → (if a then max (if b then max n x else n) y else (if b then max n x else n))
    ≡ (if b then max (if a then max n y else n) x else (if a then max n y else n))
either_order true true n x y = omega arith
either_order true false n x y = refl
either_order false true n x y = refl
either_order false false n x y = refl

-- behind one record more
behind_more : (extent : Extent) (held v : ℕ → ℕ) (rs : List Record) (r : Record) (replica : ℕ)
    → numbers_behind extent held v (rs ++ (r ∷ [])) replica
    ≡ (if r.origin == replica
    then max (numbers_behind extent held v rs replica) (number_behind extent (held replica) r.number)
    else numbers_behind extent held v rs replica)
behind_more extent held v [] r replica = refl
behind_more extent held v (x ∷ rs) r replica =
    let raised : ℕ → ℕ = number_behind extent (held replica) in
    ap (λ (n : ℕ). if x.origin == replica then max n (raised x.number) else n)
    (behind_more extent held v rs r replica)
    ∙ either_order (x.origin == replica) (r.origin == replica)
    (numbers_behind extent held v rs replica) (raised r.number) (raised x.number)

-- the next record's replica is raised too
pub more_behind : (extent : Extent) (held v old new : ℕ → ℕ) (brought : List Record) (i : ℕ)
    (r d : Record) (n : ℕ) → i < length brought → r ≡ get_or brought i d
    → ((replica : ℕ) → old replica ≡ numbers_behind extent held v (take i brought) replica)
    → n ≡ number_behind extent (held r.origin) r.number → new r.origin ≡ max (old r.origin) n
    → ((other : ℕ) → other ≢ r.origin → new other ≡ old other)
    → (replica : ℕ)
    → new replica ≡ numbers_behind extent held v (take (i + 1) brought) replica
more_behind extent held v old new brought i r d n within is so_far number here elsewhere replica =
    let f : ℕ → ℕ = λ m. if r.origin == replica
    then max m (number_behind extent (held replica) r.number) else m in
    let more : take (i + 1) brought ≡ take i brought ++ (r ∷ []) =
    take_more brought i d within ∙ ap (λ (x : Record). take i brought ++ (x ∷ [])) (sym is) in
    let whole : numbers_behind extent held v (take (i + 1) brought) replica ≡ f (old replica) =
    ap (λ (rs : List Record). numbers_behind extent held v rs replica) more
    ∙ behind_more extent held v (take i brought) r replica ∙ ap f (sym (so_far replica)) in
    elim (cases_eq r.origin replica) [
      | inl e ↦
          let raised : ℕ = number_behind extent (held replica) r.number in
          let at : new replica ≡ max (old replica) raised =
          subst (λ o. new o ≡ max (old o) (number_behind extent (held o) r.number)) e
          (here ∙ ap (max (old r.origin)) number) in
          at ∙ sym (whole ∙ ap (λ (b : Bool). if b then max (old replica) raised else old replica)
          (eq-eqb r.origin replica e))
      | inr ne ↦
          let raised : ℕ = number_behind extent (held replica) r.number in
          elsewhere replica (λ e. ne (sym e))
          ∙ sym (whole ∙ ap (λ (b : Bool). if b then max (old replica) raised else old replica)
          (ne_eqb r.origin replica ne))
    ]
