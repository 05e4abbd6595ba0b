-- Lines one behind the other.
use Rattle.std.proofs.Common.{◌≡◌, ℕ, ◌-◌, List, [], ◌∷◌, ◌++◌, take, drop, length, append_assoc, arith, Result, Ok, Err, OnOk, refl, sym, ap, ◌∙◌}
use Rattle.std.proofs.lemmas.List.{take_all, length-drop}
use Rattle.std.specs.Prelude.{is_ok, if◌then◌else◌}
use Rattle.std.specs.declared.alloc.AllocError.{AllocError}
use Rattle.settings_check.specs.Texts.{text_of}

pub text-append : (xs ys : List (List ℕ)) → text_of (xs ++ ys) ≡ text_of xs ++ text_of ys
text-append [] ys = refl
text-append (x ∷ xs) ys =
    ap (λ t. x ++ 10 ∷ t) (text-append xs ys) ∙ sym (append_assoc x (10 ∷ text_of xs) (text_of ys))

-- these lines, and behind them more
pub next : (old now new : List ℕ) (lines more : List (List ℕ)) → now ≡ old ++ text_of lines
    → new ≡ now ++ text_of more → new ≡ old ++ text_of (lines ++ more)
next old now new lines more first then_more =
    then_more ∙ (ap (λ t. t ++ text_of more) first
    ∙ (append_assoc old (text_of lines) (text_of more)
    ∙ ap (λ t. old ++ t) (sym (text-append lines more))))

-- these lines, and behind them what one call puts, if it does
pub next-last : (result : Result (Unit {0}) AllocError) (old now new : List ℕ)
    (lines more : List (List ℕ)) → now ≡ old ++ text_of lines
    → OnOk result (new ≡ now ++ text_of more) → OnOk result (new ≡ old ++ text_of (lines ++ more))
next-last (Ok done) old now new lines more first last = next old now new lines more first last
next-last (Err why) old now new lines more first last = tt

-- some of the lines that are still to come are put
pub step : (now new all : List ℕ) (before lines rest : List (List ℕ)) → before ≡ lines ++ rest
    → now ++ text_of before ≡ all → new ≡ now ++ text_of lines → new ++ text_of rest ≡ all
step now new all before lines rest splits so_far puts =
    ap (λ t. t ++ text_of rest) puts ∙ (append_assoc now (text_of lines) (text_of rest)
    ∙ (ap (λ t. now ++ t) (sym (text-append lines rest) ∙ ap text_of (sym splits)) ∙ so_far))

-- what a call puts, if it does
pub put : (result : Result (Unit {0}) AllocError) (new grown kept : List ℕ)
    → new ≡ (if is_ok result then grown else kept) → OnOk result (new ≡ grown)
put (Ok done) new grown kept is = is
put (Err why) new grown kept is = tt

-- two texts one behind the other
pub join : (old now new a b : List ℕ) → now ≡ old ++ a → new ≡ now ++ b → new ≡ old ++ (a ++ b)
join old now new a b first second = second ∙ (ap (λ t. t ++ b) first ∙ append_assoc old a b)

-- the same where a call puts the second one, if it does
pub two : (result : Result (Unit {0}) AllocError) (old now new a b : List ℕ) → now ≡ old ++ a
    → OnOk result (new ≡ now ++ b) → OnOk result (new ≡ old ++ (a ++ b))
two (Ok done) old now new a b first second = join old now new a b first second
two (Err why) old now new a b first second = tt

-- a line with its end, and behind it what one call puts, if it does
pub line-next : (result : Result (Unit {0}) AllocError) (old now ended new line : List ℕ)
    (more : List (List ℕ)) → now ≡ old ++ line → ended ≡ now ++ 10 ∷ []
    → OnOk result (new ≡ ended ++ text_of more) → OnOk result (new ≡ old ++ text_of (line ∷ more))
line-next result old now ended new line more first end last =
    two result old now new line (10 ∷ text_of more) first
    (two result now ended new (10 ∷ []) (text_of more) end last)

-- a line whose end is put last
pub line-last : (result : Result (Unit {0}) AllocError) (old now new line : List ℕ)
    → now ≡ old ++ line → OnOk result (new ≡ now ++ 10 ∷ [])
    → OnOk result (new ≡ old ++ text_of (line ∷ []))
line-last (Ok done) old now new line first end =
    end ∙ (ap (λ t. t ++ 10 ∷ []) first ∙ append_assoc old line (10 ∷ []))
line-last (Err why) old now new line first end = tt

-- what is behind a place, to the end
pub rest-whole : {X : Type 0} (k : ℕ) (xs : List X) → take (length xs - k) (drop k xs) ≡ drop k xs
rest-whole k xs = take_all (length xs - k) (drop k xs) (omega (arith, length-drop k xs))
