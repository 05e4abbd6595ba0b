-- A search of a list's images is one of the list.
use Rattle.std.proofs.Common.{◌≡◌, ◌+◌, ℕ, Bool, true, false, List, [], ◌∷◌, map, find, cond, refl, Option, Some, option_map, Ok, Err, nat_lt}
use Rattle.std.specs.Prelude.{if◌then◌else◌}
use Rattle.std.specs.List.{count_by, fold}
use Rattle.web_request.specs.Asking.{only}
use Rattle.web_request.specs.declared.page.Refusal.{Refusal}

counted_from : {X Y : Type 0} (f : X → Y) (test : Y → Bool) (n : ℕ) (xs : List X)
    → fold (λ a y. a + cond (test y) 1 0) n (map f xs)
    ≡ fold (λ a x. a + cond (test (f x)) 1 0) n xs
counted_from f test n [] = refl
counted_from f test n (x ∷ xs) = counted_from f test (n + cond (test (f x)) 1 0) xs

-- as many images pass a test as elements whose images do
pub count_of_mapped : {X Y : Type 0} (f : X → Y) (test : Y → Bool) (xs : List X)
    → count_by test (map f xs) ≡ count_by (λ x. test (f x)) xs
count_of_mapped f test xs = counted_from f test 0 xs

found_first : {X Y : Type 0} (f : X → Y) (b : Bool) (x : X) (more : Option Y) (later : Option X)
    → more ≡ option_map f later → cond b (Some (f x)) more ≡ option_map f (cond b (Some x) later)
found_first f true x more later same = refl
found_first f false x more later same = same

-- the first image that passes
pub find_of_mapped : {X Y : Type 0} (f : X → Y) (test : Y → Bool) (xs : List X)
    → find test (map f xs) ≡ option_map f (find (λ x. test (f x)) xs)
find_of_mapped f test [] = refl
find_of_mapped f test (x ∷ xs) = found_first f (test (f x)) x _ _ (find_of_mapped f test xs)

-- the one image that passes
pub only_of_mapped : {X Y : Type 0} (f : X → Y) (why : Refusal) (test : Y → Bool) (xs : List X)
    → only why test (map f xs)
    ≡ (if nat_lt 1 (count_by (λ x. test (f x)) xs) then Err why
    else Ok (option_map f (find (λ x. test (f x)) xs)))
only_of_mapped f why test xs = λ i.
    if nat_lt 1 (count_of_mapped f test xs i) then Err why else Ok (find_of_mapped f test xs i)
