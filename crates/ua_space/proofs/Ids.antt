-- Equal ids, looked for from the front.
use Rattle.std.proofs.Common.{◌≡◌, ℕ, ◌+◌, ◌<◌, ◌≤◌, Bool, true, false, ◌||◌, List, [], ◌∷◌, ◌++◌, length, map, drop, get_or, nat_eq, refl, sym, ap, ◌∙◌, append-nil, take, ◌-◌, subst, arith}
use Rattle.std.specs.List.{list_any, AllByRecursion}
use Rattle.std.specs.Cmp.Lexicographic.{pointwise}
use Rattle.std.proofs.lemmas.List.{at_drop_more, take_all, length-drop}
use Rattle.std.proofs.lemmas.List.Folds.{list_any-append}
use Rattle.ua_space.specs.declared.plan.VariablePlan.{VariablePlan}
use Rattle.ua_space.specs.declared.node.Variable.{Variable}
use Rattle.ua_space.specs.Plan.{have_equal}
use Rattle.ua_space.specs.Lent.{variable_of, HasPlannedId}
use Rattle.ua_space.specs.Space.{HasShortId}

pub list_any-map : {X Y : Type 0} (p : Y → Bool) (f : X → Y) (xs : List X)
    → list_any p (map f xs) ≡ list_any (λ x. p (f x)) xs
list_any-map p f [] = refl
list_any-map p f (x ∷ xs) = ap (λ b. p (f x) || b) (list_any-map p f xs)

-- the ids from a place on, with more behind
equal_more : {X : Type 0} (f : X → List ℕ) (more : List (List ℕ)) (xs : List X) (i : ℕ) (d : X)
    → i < length xs
    → have_equal (map f (drop i xs) ++ more)
    ≡ ((list_any (λ x. pointwise nat_eq (f (get_or xs i d)) (f x)) (drop (i + 1) xs)
    || list_any (pointwise nat_eq (f (get_or xs i d))) more)
    || have_equal (map f (drop (i + 1) xs) ++ more))
equal_more f more xs i d within =
    let p : List ℕ → Bool = pointwise nat_eq (f (get_or xs i d)) in
    let rest : List (List ℕ) = map f (drop (i + 1) xs) in
    let any : list_any p (rest ++ more)
    ≡ (list_any (λ x. p (f x)) (drop (i + 1) xs) || list_any p more) =
    list_any-append p rest more
    ∙ ap (λ b. b || list_any p more) (list_any-map p f (drop (i + 1) xs)) in
    at_drop_more (λ l. have_equal (map f l ++ more)) xs i d within
    ∙ ap (λ b. b || have_equal (rest ++ more)) any

-- one of a list that has some
any : {X : Type 0} (xs : List X) (i : ℕ) → i < length xs → X
any [] i within = absurd (omega (arith, within))
any (x ∷ xs) i within = x

-- those behind a place, as a slice from there to the end has them
abbrev pub later : {X : Type 0} → List X → ℕ → List X
later xs i = take (length xs - (i + 1)) (drop (i + 1) xs)

later_is : {X : Type 0} (xs : List X) (i : ℕ) → later xs i ≡ drop (i + 1) xs
later_is xs i = take_all (length xs - (i + 1)) (drop (i + 1) xs)
    (omega (arith, length-drop (i + 1) xs))

-- no later one is equal: the search goes on
pub equal_on : {X : Type 0} (f : X → List ℕ) (more : List (List ℕ)) (xs : List X) (i : ℕ)
    (id : List ℕ) (all : Bool) (b c : Bool) → i < length xs
    → all ≡ have_equal (map f (drop i xs) ++ more)
    → b ≡ list_any (λ x. pointwise nat_eq id (f x)) (later xs i) → b ≡ false
    → c ≡ list_any (pointwise nat_eq id) more → c ≡ false
    → ((d : X) → id ≡ f (get_or xs i d))
    → all ≡ have_equal (map f (drop (i + 1) xs) ++ more)
equal_on f more xs i id all b c within before one none two neither is =
    let d = any xs i within in
    let same = is d in
    let first = ap (λ n. list_any (λ x. pointwise nat_eq n (f x)) (drop (i + 1) xs)) (sym same)
    ∙ ap (list_any (λ x. pointwise nat_eq id (f x))) (sym (later_is xs i)) ∙ sym one ∙ none in
    let second = ap (λ n. list_any (pointwise nat_eq n) more) (sym same) ∙ sym two ∙ neither in
    before ∙ equal_more f more xs i d within ∙ rw (first, second) refl

-- a later one is equal
pub equal_later : {X : Type 0} (f : X → List ℕ) (more : List (List ℕ)) (xs : List X) (i : ℕ)
    (id : List ℕ) (all : Bool) (b : Bool) → i < length xs
    → all ≡ have_equal (map f (drop i xs) ++ more)
    → b ≡ list_any (λ x. pointwise nat_eq id (f x)) (later xs i) → b ≡ true
    → ((d : X) → id ≡ f (get_or xs i d))
    → all ≡ true
equal_later f more xs i id all b within before one some is =
    let d = any xs i within in
    let same = is d in
    let first = ap (λ n. list_any (λ x. pointwise nat_eq n (f x)) (drop (i + 1) xs)) (sym same)
    ∙ ap (list_any (λ x. pointwise nat_eq id (f x))) (sym (later_is xs i)) ∙ sym one ∙ some in
    before ∙ equal_more f more xs i d within ∙ rw first refl

-- one of those behind is equal
pub equal_behind : {X : Type 0} (f : X → List ℕ) (more : List (List ℕ)) (xs : List X) (i : ℕ)
    (id : List ℕ) (all : Bool) (b c : Bool) → i < length xs
    → all ≡ have_equal (map f (drop i xs) ++ more)
    → b ≡ list_any (λ x. pointwise nat_eq id (f x)) (later xs i) → b ≡ false
    → c ≡ list_any (pointwise nat_eq id) more → c ≡ true
    → ((d : X) → id ≡ f (get_or xs i d))
    → all ≡ true
equal_behind f more xs i id all b c within before one none two some is =
    let d = any xs i within in
    let same = is d in
    let first = ap (λ n. list_any (λ x. pointwise nat_eq n (f x)) (drop (i + 1) xs)) (sym same)
    ∙ ap (list_any (λ x. pointwise nat_eq id (f x))) (sym (later_is xs i)) ∙ sym one ∙ none in
    let second = ap (λ n. list_any (pointwise nat_eq n) more) (sym same) ∙ sym two ∙ some in
    before ∙ equal_more f more xs i d within ∙ rw (first, second) refl

-- the same with nothing behind
alone : {X : Type 0} (f : X → List ℕ) (l : List X)
    → have_equal (map f l ++ []) ≡ have_equal (map f l)
alone f l = ap have_equal (append-nil (map f l))

pub equal_on_alone : {X : Type 0} (f : X → List ℕ) (xs : List X) (i : ℕ) (id : List ℕ) (all : Bool)
    (b : Bool) → i < length xs
    → all ≡ have_equal (map f (drop i xs))
    → b ≡ list_any (λ x. pointwise nat_eq id (f x)) (later xs i) → b ≡ false
    → ((d : X) → id ≡ f (get_or xs i d))
    → all ≡ have_equal (map f (drop (i + 1) xs))
equal_on_alone f xs i id all b within before one none is =
    equal_on f [] xs i id all b false within
    (before ∙ sym (alone f (drop i xs))) one none refl refl is ∙ alone f (drop (i + 1) xs)

pub equal_later_alone : {X : Type 0} (f : X → List ℕ) (xs : List X) (i : ℕ) (id : List ℕ)
    (all : Bool) (b : Bool) → i < length xs
    → all ≡ have_equal (map f (drop i xs))
    → b ≡ list_any (λ x. pointwise nat_eq id (f x)) (later xs i) → b ≡ true
    → ((d : X) → id ≡ f (get_or xs i d))
    → all ≡ true
equal_later_alone f xs i id all b within before one some is =
    equal_later f [] xs i id all b within (before ∙ sym (alone f (drop i xs))) one some is

-- an id that was short in the plan is short in the space
pub short_ids : (plans : List VariablePlan) → AllByRecursion HasPlannedId plans
    → AllByRecursion HasShortId (map variable_of plans)
short_ids [] all = tt
short_ids (plan ∷ plans) all = (all.0.1, short_ids plans all.1)

pub short_made : (plans : List VariablePlan) (items made : List Variable) (i : ℕ)
    → AllByRecursion HasPlannedId plans → items ≡ map variable_of (take i plans) → length plans ≤ i
    → made ≡ items → AllByRecursion HasShortId made
short_made plans items made i all is past same =
    let P : List Variable → Type 0 = AllByRecursion HasShortId in
    subst P (sym (same ∙ is ∙ ap (map variable_of) (take_all i plans past))) (short_ids plans all)
