-- Lists in order, and what stands in a list.
use Rattle.std.specs.Prelude.{◌≡◌, false, if◌then◌else◌, List, [], ◌∷◌, ⊤, ◌⊎◌, ◌-◌, length, Option, slice_get}
use Rattle.std.specs.List.{AllByRecursion}
use Rattle.std.specs.declared.cmp.Ordering.{Ordering}
use Rattle.std.specs.declared.cmp.Ordering.TheVariants.{Less}
use Rattle.std.specs.Ordering.{is_gt, is_eq}

-- a sorted list with one item more, in front of those that aren't less
abbrev pub insert_sorted : {X : Type 0} → (X → X → Ordering) → X → List X → List X
insert_sorted cmp new [] = new ∷ []
insert_sorted cmp new (x ∷ xs) =
    if is_gt (cmp new x) then x ∷ insert_sorted cmp new xs else new ∷ x ∷ xs

-- the list in order; of elements that tie, the first stays first
abbrev pub sort_by : {X : Type 0} → (X → X → Ordering) → List X → List X
sort_by cmp [] = []
sort_by cmp (x ∷ xs) = insert_sorted cmp x (sort_by cmp xs)

-- the last element
abbrev pub last : {X : Type 0} → List X → Option X
last xs = slice_get xs (length xs - 1)

-- each element stands so to each one after it
abbrev pub IsPairwise : {X : Type 0} → (X → X → Type 0) → List X → Type 0
IsPairwise R [] = ⊤
IsPairwise R (x ∷ xs) = AllByRecursion (R x) xs × IsPairwise R xs

-- no two elements tie
abbrev pub IsApart : {X : Type 0} → (X → X → Ordering) → List X → Type 0
IsApart cmp = IsPairwise (λ a b. is_eq (cmp a b) ≡ false)

-- by the order, each element is below those after it
abbrev pub Rises : {X : Type 0} → (X → X → Ordering) → List X → Type 0
Rises cmp = IsPairwise (λ a b. cmp a b ≡ Less)

-- x stands in the list
abbrev pub Has : {X : Type 0} → List X → X → Type 0
Has [] x = ⊥
Has (y ∷ ys) x = (y ≡ x) ⊎ Has ys x
