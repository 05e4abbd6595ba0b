-- Services that answer items one after the other.
use Rattle.std.proofs.Common.{◌≡◌, ◌∙◌, inl, ℕ, zero, suc, arith, Bool, true, false, nat_lt, ◌+◌, ◌<◌, ◌≤◌, get_or, List, [], ◌∷◌, ◌++◌, map, take, length, Some, None, Ok, Err, refl, sym, ap, subst}
use Rattle.std.specs.Prelude.{Result, ◌==◌, if◌then◌else◌}
use Rattle.std.specs.List.{AllByRecursion}
use Rattle.std.proofs.lemmas.Bool.{ltb-false}
use Rattle.std.proofs.lemmas.List.{take_more, map-append}
use Rattle.ua_binary.specs.declared.codes.Status.{Status}
use Rattle.ua_binary.specs.declared.codes.TheConstants.Status.{BAD_OUT_OF_MEMORY, BAD_NOTHING_TO_DO, BAD_TOO_MANY_OPERATIONS}
use Rattle.records.specs.Contents.{Content}
use Rattle.archive.specs.Store.{Store, StepResult, Done, NoMemory}
use Rattle.archive.specs.Steps.{Fallible, give, and_then, each, Yields, Refines}
use Rattle.archive.proofs.Acting.{moves-none-by, moves-behind-quiet, moves-as, acts-give, acts-as, acts-each}
use Rattle.historian.specs.declared.answer.Answer.{Answer as Made}
use Rattle.historian.specs.Answers.{Answer, Response}
use Rattle.hist_update.specs.Codes.{list_refusal}
use Rattle.historian.specs.Reading.{Served, answer_items}
use Rattle.historian.specs.Telling.{service_answer, ReportsAnswer}

-- ---- a list of them

-- one item more
pub each-next : {W X Y : Type 0} (a b c : Store) (view : W → X)
    (f : X → Content → Fallible (Y × Content)) (xs : List W) (i : ℕ) (other x : W)
    (ys more : List Y) (y : Y)
    → ((used : List StepResult) × Refines a b used (each f (map view (take i xs))) ys)
    → ((used : List StepResult) × Refines b c used (f (view x)) y) → i < length xs
    → x ≡ get_or xs i other → more ≡ ys ++ (y ∷ [])
    → (used : List StepResult) × Refines a c used (each f (map view (take (i + 1) xs))) more
each-next {W} {X} {Y} a b c view f xs i other x ys more y before here within is grown =
    let used = before.0 ++ here.0 in
    let P : List X → Type 0 = λ l. Refines a c used (each f l) more in
    let Q : List Y → Type 0 = λ l.
    Refines a c used (each f (map view (take i xs) ++ (view x ∷ []))) l in (
      used,
      subst P (sym all) (subst Q (sym grown)
          (acts-each a b c before.0 here.0 f (map view (take i xs)) (view x) ys y before.1 here.1)),
    )
  where
    all : map view (take (i + 1) xs) ≡ map view (take i xs) ++ (view x ∷ [])
    all = ap (map view) (take_more xs i other within)
        ∙ (map-append view (take i xs) (get_or xs i other ∷ [])
        ∙ ap (λ z. map view (take i xs) ++ (view z ∷ [])) (sym is))

-- the same where what is done of an item goes by something that stays
pub each-next-by : {I W X Y : Type 0} (a b c : Store) (k j : I) (view : W → X)
    (f : I → X → Content → Fallible (Y × Content)) (xs : List W) (i : ℕ) (other x : W)
    (ys more : List Y) (y : Y) → j ≡ k
    → ((used : List StepResult) × Refines a b used (each (f k) (map view (take i xs))) ys)
    → ((used : List StepResult) × Refines b c used (f j (view x)) y) → i < length xs
    → x ≡ get_or xs i other → more ≡ ys ++ (y ∷ [])
    → (used : List StepResult) × Refines a c used (each (f k) (map view (take (i + 1) xs))) more
each-next-by {I} a b c k j view f xs i other x ys more y same before here within is grown =
    let P : I → Type 0 = λ l. (used : List StepResult) × Refines b c used (f l (view x)) y in
    each-next a b c view (f k) xs i other x ys more y before (subst P same here) within is grown

-- ---- a whole service

-- it is refused as a whole
pub acts-refused : (s : Store) (service : Content → Served) (status : Status)
    → ((R : Content) (marks : List StepResult) → service R marks ≡ give (Err status, R) marks)
    → (used : List StepResult) × Refines s s used service (Err status)
acts-refused s service status refuses = (
  [],
  acts-as s s [] (λ R. give (Err status, R)) service (Err status) (λ R marks. sym (refuses R marks))
      (acts-give s (Err status)),
)

-- memory for the answers is wanting
pub acts-wanting : {X Y : Type 0} (s : Store) (service : Content → Served)
    (answer : List Y → Answer) (item : X → Content → Fallible (Y × Content)) (xs : List X)
    → ((R : Content) (marks : List StepResult)
    → service R marks ≡ answer_items answer item xs R marks)
    → (used : List StepResult) × Refines s s used service (Err BAD_OUT_OF_MEMORY)
acts-wanting s service answer item xs is = (
  NoMemory ∷ [],
  moves-none-by s (NoMemory ∷ []) refl (λ marks R S.
      Yields (service R) marks ((Err BAD_OUT_OF_MEMORY, S)))
      (λ R. record { does = λ later. is R (NoMemory ∷ later) }),
)

-- all items were answered
pub acts-items : {X Y : Type 0} (a b : Store) (service : Content → Served)
    (answer : List Y → Answer) (item : X → Content → Fallible (Y × Content)) (xs : List X)
    (ys : List Y)
    → ((R : Content) (marks : List StepResult)
    → service R marks ≡ answer_items answer item xs R marks)
    → ((used : List StepResult) × Refines a b used (each item xs) ys)
    → (used : List StepResult) × Refines a b used service (Ok (answer ys))
acts-items {X} {Y} a b service answer item xs ys is all = (
  Done ∷ all.0,
  moves-behind-quiet a b (Done ∷ []) all.0 (λ marks R S. Yields (each item xs R) marks (ys, S))
      (λ marks R S. Yields (service R) marks (Ok (answer ys), S)) refl (λ ms R S d. record {
        does = λ later.
            is R (Done ∷ (ms ++ later))
            ∙ ap (λ (r : (List Y × Content) × List StepResult). let z : (Response × Content)
            × List StepResult = ((Ok (answer r.0.0), r.0.1), r.1) in z) (d.does later);
      }) all.1,
)

-- ---- how many there are

-- a list that isn't refused
pub few_taken : (most n : ℕ) → list_refusal most n ≡ None → n ≤ most
few_taken most n is = by (n == 0) (nat_lt most n) refl is
  where
    by : (a b : Bool) → nat_lt most n ≡ b
        → (if a then Some BAD_NOTHING_TO_DO else if b then Some BAD_TOO_MANY_OPERATIONS else None)
        ≡ None → n ≤ most
    by true b e passed = absurd cc
    by false true e passed = absurd cc
    by false false e passed = ltb-false most n e

-- ---- steps

-- no step
pub acts-none : {X : Type 0} (s : Store) (f : Content → Fallible (X × Content)) (x : X)
    → ((R : Content) (marks : List StepResult) → f R marks ≡ give (x, R) marks)
    → (used : List StepResult) × Refines s s used f x
acts-none s f x is = (
  [],
  acts-as s s [] (λ R. give (x, R)) f x (λ R marks. sym (is R marks))
      (acts-give s x),
)

-- memory for one is wanting
pub acts-starved : {X : Type 0} (s : Store) (f : Content → Fallible (X × Content)) (x : X)
    → ((R : Content) (later : List StepResult) → f R (NoMemory ∷ later) ≡ ((x, R), later))
    → (used : List StepResult) × Refines s s used f x
acts-starved s f x is = (
  NoMemory ∷ [],
  moves-none-by s (NoMemory ∷ []) refl (λ marks R S. Yields (f R) marks (x, S))
      (λ R. record { does = λ later. is R later }),
)

-- nothing came in the way of the first, and then others
pub acts-past : {X : Type 0} (a b : Store) (f g : Content → Fallible (X × Content)) (x : X)
    → ((used : List StepResult) × Refines a b used g x)
    → ((R : Content) (marks : List StepResult) → f R (Done ∷ marks) ≡ g R marks)
    → (used : List StepResult) × Refines a b used f x
acts-past a b f g x (used, acts) is = (
  Done ∷ used,
  moves-behind-quiet a b (Done ∷ []) used (λ marks R S. Yields (g R) marks (x, S))
      (λ marks R S. Yields (f R) marks (x, S)) refl
      (λ ms R S d. record { does = λ later. is R (ms ++ later) ∙ d.does later }) acts,
)

-- some steps, and what is made of their value
pub acts-made : {X Y : Type 0} (a b : Store) (g : Content → Fallible (X × Content))
    (f : Content → Fallible (Y × Content)) (make : X → Y) (x : X) (y : Y)
    → ((used : List StepResult) × Refines a b used g x)
    → ((R : Content) (marks : List StepResult)
    → f R marks ≡ and_then (g R) (λ p. give (make p.0, p.1)) marks) → y ≡ make x
    → (used : List StepResult) × Refines a b used f y
acts-made {X} {Y} a b g f make x y (used, acts) is made = (
  used,
  moves-as a b used (λ marks R S. Yields (g R) marks (x, S))
      (λ marks R S. Yields (f R) marks (y, S)) (λ ms R S d. record {
        does = λ later.
            is R (ms ++ later)
            ∙ (ap (λ (r : (X × Content) × List StepResult). let z : (Y × Content)
            × List StepResult =
            ((make r.0.0, r.0.1), r.1) in z) (d.does later)
            ∙ ap (λ (w : Y). let z : (Y × Content) × List StepResult = ((w, S), later) in z)
            (sym made));
      }) acts,
)

-- the same calls, told in other words
pub acts-same : {X : Type 0} (a b : Store) (f g : Content → Fallible (X × Content)) (x : X)
    → ((R : Content) (marks : List StepResult) → f R marks ≡ g R marks)
    → ((used : List StepResult) × Refines a b used f x)
    → (used : List StepResult) × Refines a b used g x
acts-same a b f g x is (used, acts) = (used, acts-as a b used f g x is acts)

-- what holds of each holds of the one at a place
pub all_at : {W X : Type 0} (P : X → Type 0) (f : W → X) (xs : List W) (i : ℕ) (other : W)
    → AllByRecursion P (map f xs) → i < length xs → P (f (get_or xs i other))
all_at P f [] i other all within = absurd (omega (arith, within))
all_at P f (x ∷ xs) zero other all within = all.0
all_at P f (x ∷ xs) (suc i) other all within = all_at P f xs i other all.1 (omega (arith, within))
