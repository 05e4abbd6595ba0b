-- The connection that is unheard for longest, and the first free slot: the contracts of
-- `displacing`
-- and of `free_slot`.
use Rattle.std.proofs.Common.{◌≡◌, ℕ, ◌+◌, ◌<◌, ◌≤◌, List, length, get_or, sym, ◌∙◌, ap, subst, arith, inl, inr, true}
use Rattle.std.specs.Prelude.{Option, None, Some, IfSome, slice_get}
use Rattle.std.specs.Option.{is_some}
use Rattle.std.proofs.lemmas.Bool.{true≢false}
use Rattle.std.proofs.lemmas.Bool.Decides.{eqb_tells}
use Rattle.std.proofs.lemmas.Option.{same_Some, slice_get_within}
use Rattle.multiplex.proofs.Places.{there}
use Rattle.multiplex.specs.Behavior.{Behavior}
use Rattle.multiplex.specs.Slots.{Slot, IsUnheard, IsLongestUnheard}

-- of the first slots this one's connection is unheard for longest, since this time, if one is
-- unheard
pub record IsFound {H R W V E : Type 0} (handler : Behavior H V E) (now : ℕ)
    (slots : List (Option (Slot H R W E)))
    (place : ℕ) (longest : Option ℕ) (since : ℕ) : Type 0 where
  pub found : IfSome longest (λ k. (slot : Slot H R W E) × (slice_get slots k ≡ Some (Some slot))
      × (k < place)
      × IsUnheard handler now slot × (slot.heard ≡ since))
  pub least : (j : ℕ) (other : Slot H R W E) → j < place → slice_get slots j ≡ Some (Some other)
      → IsUnheard handler now other → since ≤ other.heard

pub found_none : {H R W V E : Type 0} (handler : Behavior H V E) (now : ℕ)
    (slots : List (Option (Slot H R W E))) (since : ℕ)
    → IsFound handler now slots 0 None since
found_none handler now slots since = record {
  found = tt;
  least = λ j other below got unheard.
      absurd (omega (arith, below));
}

-- one slot more, whose connection isn't unheard for longer
further : {H R W V E : Type 0} (handler : Behavior H V E) (now : ℕ)
    (slots : List (Option (Slot H R W E)))
    (place : ℕ) (longest : Option ℕ) (since : ℕ)
    → IfSome longest (λ k. (slot : Slot H R W E) × (slice_get slots k ≡ Some (Some slot))
    × (k < place)
    × IsUnheard handler now slot × (slot.heard ≡ since))
    → IfSome longest (λ k. (slot : Slot H R W E) × (slice_get slots k ≡ Some (Some slot))
    × (k < place + 1)
    × IsUnheard handler now slot × (slot.heard ≡ since))
further handler now slots place None since found = tt
further handler now slots place (Some k) since (slot, got, below, unheard, is) =
    (slot, got, omega (arith, below), unheard, is)

pub found_same : {H R W V E : Type 0} (handler : Behavior H V E) (now : ℕ)
    (slots : List (Option (Slot H R W E)))
    (place : ℕ) (longest : Option ℕ) (since : ℕ) → IsFound handler now slots place longest since
    → ((other : Slot H R W E) → slice_get slots place ≡ Some (Some other)
    → IsUnheard handler now other → since ≤ other.heard)
    → IsFound handler now slots (place + 1) longest since
found_same handler now slots place longest since before here = record {
  found = further handler now slots place longest since before.found;
  least = λ j other below got unheard. elim (eqb_tells j place) [
    | inl same ↦ here other (ap (λ i. slice_get slots i) (sym same.1) ∙ got) unheard
    | inr apart ↦ before.least j other (omega (arith, below, apart.1)) got unheard
  ];
}

pub found_later : {H R W V E : Type 0} (handler : Behavior H V E) (now : ℕ)
    (slots : List (Option (Slot H R W E)))
    (place : ℕ) (longest : Option ℕ) (since heard : ℕ) (slot : Slot H R W E)
    → IsFound handler now slots place longest since
    → slice_get slots place ≡ Some (Some slot) → slot.heard ≡ heard → since ≤ heard
    → IsFound handler now slots (place + 1) longest since
found_later {H} {R} {W} {V} {E} handler now slots place longest since heard slot before got is later
    =
    found_same handler now slots place longest since before (λ other got' unheard.
    let one : slot ≡ other = same_Some slot other (same_Some (Some slot) (Some other)
    (sym got ∙ got')) in
    let equal : slot.heard ≡ other.heard = ap (λ (s : Slot H R W E). s.heard) one in
    omega (arith, equal, is, later))

-- the same, in other words
pub found_as : {H R W V E : Type 0} (handler : Behavior H V E) (now : ℕ)
    (slots : List (Option (Slot H R W E)))
    (place : ℕ) (longest longest' : Option ℕ) (since since' : ℕ) → longest ≡ longest'
    → since ≡ since'
    → IsFound handler now slots place longest' since' → IsFound handler now slots place longest
    since
found_as handler now slots place longest longest' since since' same equal is =
    subst (λ l. IsFound handler now slots place l since) (sym same)
    (subst (λ s. IsFound handler now slots place longest' s) (sym equal) is)

pub found_longer : {H R W V E : Type 0} (handler : Behavior H V E) (now : ℕ)
    (slots : List (Option (Slot H R W E)))
    (place : ℕ) (longest : Option ℕ) (since heard : ℕ) (slot : Slot H R W E)
    → IsFound handler now slots place longest since
    → slice_get slots place ≡ Some (Some slot) → IsUnheard handler now slot → slot.heard ≡ heard
    → heard < since
    → IsFound handler now slots (place + 1) (Some place) heard
found_longer {H} {R} {W} {V} {E} handler now slots place longest since heard slot before there
    unheard is sooner = record {
      found = (slot, there, omega arith, unheard, is);
      least = λ j other below got unheard'. elim (eqb_tells j place) [
        | inl same ↦
            let one : slot ≡ other = same_Some slot other (same_Some (Some slot) (Some other)
            (sym there ∙ (ap (λ i. slice_get slots i) (sym same.1) ∙ got))) in
            let equal : slot.heard ≡ other.heard = ap (λ (s : Slot H R W E). s.heard) one in
            omega (arith, equal, is)
        | inr apart ↦
            let above = before.least j other (omega (arith, below, apart.1)) got unheard' in
            omega (arith, above, sooner)
      ];
    }

-- what was found of all slots for accepted connections
pub found_all : {H R W V E : Type 0} (handler : Behavior H V E) (now : ℕ)
    (slots : List (Option (Slot H R W E)))
    (place first : ℕ) (longest : Option ℕ) (since : ℕ) → IsFound handler now slots place longest
    since
    → (place ≤ first) → ((j : ℕ) → j < first → j < length slots → j < place)
    → ((j : ℕ) → j < first → slice_get slots j ≡ Some None → ⊥)
    → IfSome longest (λ k. (slot : Slot H R W E) × (slice_get slots k ≡ Some (Some slot))
    × IsLongestUnheard handler now first slots k slot)
found_all handler now slots place first None since is within all taken = tt
found_all handler now slots place first (Some k) since is within all taken =
    let (slot, got, below, unheard, heard) = is.found in (
      slot,
      got,
      record {
        within = omega (arith, below, within);
        taken = taken;
        unheard = unheard;
        longest = λ j other under there unheard'.
            let above = is.least j other (all j under (slice_get_within slots j (Some other) there))
            there unheard' in
            omega (arith, above, heard);
      },
    )

pub found_within : {H R W V E : Type 0} (handler : Behavior H V E) (now : ℕ)
    (slots : List (Option (Slot H R W E)))
    (place : ℕ) (longest : Option ℕ) (since : ℕ) → IsFound handler now slots place longest since
    → IfSome longest (λ k. k < length slots)
found_within handler now slots place None since is = tt
found_within handler now slots place (Some k) since is = slice_get_within slots k (Some is.found.0)
    is.found.1

-- a place that isn't free is none of the free ones
pub not_free_yet : {X : Type 0} (slots : List (Option X)) (from place k : ℕ) (slot : Option X)
    → ((j : ℕ) → from ≤ j → j < place → slice_get slots j ≡ Some None → ⊥)
    → slot ≡ get_or slots place slot
    → is_some slot ≡ true → place < length slots
    → from ≤ k → k < place + 1 → slice_get slots k ≡ Some None → ⊥
not_free_yet slots from place k slot before is taken within above below free =
    elim (eqb_tells k place) [
      | inl same ↦
          let here : slice_get slots place ≡ Some None = ap (λ i. slice_get slots i) (sym same.1)
          ∙ free in
          let none : slot ≡ None = same_Some slot None (sym (there slots place slot slot within
          (sym is)) ∙ here) in
          true≢false (sym taken ∙ ap is_some none)
      | inr apart ↦ before k above (omega (arith, below, apart.1)) free
    ]
