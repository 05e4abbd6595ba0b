-- What closedness gives a list of records.
use Rattle.std.proofs.Common.{◌≡◌, ℕ, zero, suc, ◌^◌, ◌≤◌, ◌<◌, pos, ◌≤ℤ◌, ◌<ℤ◌, Bool, true, false, [], ◌∷◌, refl, arith, inl, inr, Less, is_eq}
use Rattle.std.proofs.lemmas.Bool.{cases_eq}
use Rattle.std.proofs.lemmas.Bool.Decides.{nat_tests}
use Rattle.std.proofs.lemmas.Int.{ints}
use Rattle.stamp.specs.Limits.{greatest}
use Rattle.records.specs.declared.record.Record.{Record}
use Rattle.records.specs.Lists.{Has, Rises, IsApart}
use Rattle.records.specs.Records.{name_cmp, record_stamp_cmp}
use Rattle.records.specs.Contents.{Content, vec, IsClosed}
use Rattle.records.proofs.Sorting.{all-has, all_from_has}
use Rattle.records.proofs.ContentLemmas.{apart_from_rises, vec_attained}

pub number_below_tick : (R : Content) → IsClosed R → (n : ℕ) (r : Record) → Has R r → r.number ≡ n
    → pos n ≤ℤ r.tick
number_below_tick R closed zero r h e = absurd (omega (arith, closed.numbers r h))
number_below_tick R closed (suc m) r h e = elim (cases_eq m 0) [
  | inl z ↦ let t = (closed.ticks r h).0 in omega (arith, ints, t)
  | inr more ↦
      let bound : r.number ≤ vec R r.origin =
      Rattle.records.proofs.ContentLemmas.vec_bounds R r h in
      let s = closed.whole r.origin m (omega arith) (omega arith) in
      let below = number_below_tick R closed m s.0 s.1 s.2.1 in
      let rise = closed.rising s.0 r s.1 h s.2.0 (omega (arith, s.2.1)) in
      omega (arith, ints)
]

pub vec_small : (R : Content) (origin : ℕ) → IsClosed R → vec R origin < 2 ^ 62
vec_small R origin closed = elim (vec_attained R origin) [
  | inl z ↦ omega arith
  | inr h ↦ let below = number_below_tick R closed h.0.number h.0 h.1 refl in let t =
      (closed.ticks h.0 h.1).1 in omega (arith, ints, h.2.1)
]

tied_stamps : (x y : Record) → is_eq (record_stamp_cmp x y) ≡ true
    → (x.tick ≡ y.tick) × (x.origin ≡ y.origin)
tied_stamps x y e = grind (arith, nat_tests, ints)

less_names : (x y : Record) → name_cmp x y ≡ Less → x.origin ≡ y.origin → x.number < y.number
less_names x y e o = grind (arith, nat_tests)

stamps_apart : (xs : Content) → Rises name_cmp xs
    → ((r s : Record) → Has xs r → Has xs s → r.origin ≡ s.origin → r.number < s.number
    → r.tick <ℤ s.tick) → IsApart record_stamp_cmp xs
stamps_apart [] up rising = tt
stamps_apart (x ∷ xs) up rising = (
  all_from_has (λ y. is_eq (record_stamp_cmp x y) ≡ false) xs
      (λ y h. go y h (is_eq (record_stamp_cmp x y)) refl),
  stamps_apart xs up.1 (λ r s h k e lt. rising r s (inr h) (inr k) e lt),
)
  where
    go : (y : Record) → Has xs y → (b : Bool) → is_eq (record_stamp_cmp x y) ≡ b → b ≡ false
    go y h true e =
        let tie = tied_stamps x y e in
        let lt = less_names x y (all-has (λ z. name_cmp x z ≡ Less) xs y up.0 h) tie.1 in
        let rise = rising x y (inl refl) (inr h) tie.1 lt in
        absurd (omega (arith, ints, tie.0))
    go y h false e = refl

pub closed_stamps : (R : Content) → IsClosed R → IsApart record_stamp_cmp R
closed_stamps R closed = stamps_apart R closed.ordered closed.rising

pub closed_names : (R : Content) → IsClosed R → IsApart name_cmp R
closed_names R closed = apart_from_rises R closed.ordered

pub numbers_small : (R : Content) (origin : ℕ) → IsClosed R → vec R origin ≤ greatest
numbers_small R origin closed = let below = vec_small R origin closed in omega arith

pub ruleset closeness = (closed_names, closed_stamps, numbers_small)
