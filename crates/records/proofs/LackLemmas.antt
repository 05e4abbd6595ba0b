-- What a vector lacks.
use Rattle.std.proofs.Common.{◌≡◌, ℕ, zero, suc, ◌+◌, ◌≤◌, ◌<◌, min, true, false, cond, List, [], ◌∷◌, filter, take, length, length-take, take-take, refl, sym, ap, ◌∙◌, subst, arith, inl, inr, ◌⊎◌, Ordering, Less, is_gt}
use Rattle.std.proofs.lemmas.Bool.{lt-ltb, ltb-true}
use Rattle.std.proofs.lemmas.List.{take_all}
use Rattle.records.specs.declared.record.Record.{Record}
use Rattle.records.specs.Lists.{Has, Rises, IsApart, IsPairwise, insert_sorted, sort_by}
use Rattle.records.specs.Records.{name_cmp, is_beyond, missing}
use Rattle.records.specs.Contents.{Content}
use Rattle.records.proofs.Sorting.{all-has, all_from_has}
use Rattle.records.proofs.LatestLemmas.{from_beyond, to_beyond, rises-beyond}

-- ---- first parts of lists

module _ {X : Type 0} where
  pub has_from_take : (n : ℕ) (xs : List X) (x : X) → Has (take n xs) x → Has xs x
  has_from_take zero xs x h = absurd h
  has_from_take (suc n) [] x h = absurd h
  has_from_take (suc n) (y ∷ ys) x h = elim h [
    | inl e ↦ inl e
    | inr k ↦
        inr (has_from_take n ys x k)
  ]

  pub pairwise-take : (R : X → X → Type 0) (n : ℕ) (xs : List X) → IsPairwise R xs
      → IsPairwise R (take n xs)
  pairwise-take R zero xs up = tt
  pairwise-take R (suc n) [] up = tt
  pairwise-take R (suc n) (x ∷ xs) up = (
    all_from_has (R x) (take n xs) (λ y h. all-has (R x) xs y up.0 (has_from_take n xs y h)),
    pairwise-take R n xs up.1,
  )

  -- what isn't in a first part stands behind each that is
  pub before_rest : (R : X → X → Type 0) (n : ℕ) (xs : List X) (x y : X) → IsPairwise R xs
      → Has (take n xs) x → Has xs y → Has (take n xs) y ⊎ R x y
  before_rest R zero xs x y up h k = absurd h
  before_rest R (suc n) [] x y up h k = absurd h
  before_rest R (suc n) (z ∷ zs) x y up h k = elim k [
    | inl e ↦ inl (inl e)
    | inr m ↦ elim h [
      | inl e ↦ inr (subst (λ w. R w y) e (all-has (R z) zs y up.0 m))
      | inr l ↦ elim (before_rest R n zs x y up.1 l m) [ inl t ↦ inl (inr t) | inr r ↦ inr r ]
    ]
  ]

  pub length-insert_sorted : (cmp : X → X → Ordering) (new : X) (xs : List X)
      → length (insert_sorted cmp new xs) ≡ length xs + 1
  length-insert_sorted cmp new [] = refl
  length-insert_sorted cmp new (x ∷ xs) =
      let more = length-insert_sorted cmp new xs in
      elim (is_gt (cmp new x)) as (λ b.
      length (cond b (x ∷ insert_sorted cmp new xs) (new ∷ x ∷ xs)) ≡ length (x ∷ xs) + 1)
      [ true ↦ omega arith | false ↦ omega arith ]

  pub length-sort_by : (cmp : X → X → Ordering) (xs : List X) → length (sort_by cmp xs) ≡ length xs
  length-sort_by cmp [] = refl
  length-sort_by cmp (x ∷ xs) = let more = length-sort_by cmp xs in let one =
      length-insert_sorted cmp x (sort_by cmp xs) in omega arith

  some_there : (xs : List X) (x : X) → Has xs x → 0 < length xs
  some_there [] x h = absurd h
  some_there (y ∷ ys) x h = omega arith

-- ---- what a vector lacks

pub missing_count : (R : Content) (v : ℕ → ℕ) (k : ℕ)
    → length (missing R v k) ≡ min k (length (filter (is_beyond v) R))
missing_count R v k =
    let sorted = length-sort_by name_cmp (filter (is_beyond v) R) in
    length-take k (sort_by name_cmp (filter (is_beyond v) R)) ∙ ap (min k) sorted

pub missing_within : (R : Content) (v : ℕ → ℕ) (k : ℕ) (r : Record) → Has (missing R v k) r
    → Has R r × (v r.origin < r.number)
missing_within R v k r h = let m = from_beyond R v r (has_from_take k _ r h) in
    (m.0, ltb-true _ _ m.1)

pub missing_all : (R : Content) (v : ℕ → ℕ) (k : ℕ) (r : Record)
    → length (filter (is_beyond v) R) ≤ k → Has R r → v r.origin < r.number → Has (missing R v k) r
missing_all R v k r le h lt =
    let sorted = length-sort_by name_cmp (filter (is_beyond v) R) in
    subst (λ l. Has l r) (sym (take_all k _ (omega arith))) (to_beyond R v r h (lt-ltb _ _ lt))

pub missing_rises : (R : Content) (v : ℕ → ℕ) (k : ℕ) → IsApart name_cmp R
    → Rises name_cmp (missing R v k)
missing_rises R v k apart = pairwise-take _ k _ (rises-beyond R v apart)

pub missing_first : (R : Content) (v : ℕ → ℕ) (k n : ℕ) → k ≤ n
    → missing R v k ≡ take k (missing R v n)
missing_first R v k n le = sym (take-take k n _ le)

pub missing_before : (R : Content) (v : ℕ → ℕ) (k : ℕ) (r s : Record) → IsApart name_cmp R
    → Has (missing R v k) r → Has R s → v s.origin < s.number
    → Has (missing R v k) s ⊎ (name_cmp r s ≡ Less)
missing_before R v k r s apart h m lt =
    before_rest _ k _ r s (rises-beyond R v apart) h (to_beyond R v s m (lt-ltb _ _ lt))

pub missing_some : (R : Content) (v : ℕ → ℕ) (k : ℕ) (r : Record) → 0 < k → Has R r
    → v r.origin < r.number → 0 < length (missing R v k)
missing_some R v k r some h lt =
    let there = some_there _ r (to_beyond R v r h (lt-ltb _ _ lt)) in
    let cut = length-take k (sort_by name_cmp (filter (is_beyond v) R)) in
    omega arith

pub ruleset lacking = (
  missing_count,
  missing_within,
  missing_all,
  missing_rises,
  missing_first,
  missing_before,
  missing_some,
)
