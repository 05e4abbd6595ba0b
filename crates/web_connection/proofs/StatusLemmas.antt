-- A text that is made number by number.
use Rattle.std.proofs.Common.{◌≡◌, ◌+◌, ◌-◌, ◌<◌, ℕ, suc, List, ◌++◌, append_assoc, arith, sym, ap, ◌∙◌}
use Rattle.std.specs.List.{flat_map, range_with_len}

-- the next number
pub numbers-step : (f : ℕ → List ℕ) (n : ℕ) → n < 65
    → flat_map f (range_with_len n (65 - n))
    ≡ f n ++ flat_map f (range_with_len (n + 1) (65 - (n + 1)))
numbers-step f n lt =
    let more : 65 - n ≡ suc (65 - (n + 1)) = omega (arith, lt) in
    ap (λ k. flat_map f (range_with_len n k)) more

-- a piece of what is still to come is put
pub step : (now new all before piece rest : List ℕ) → before ≡ piece ++ rest
    → now ++ before ≡ all → new ≡ now ++ piece → new ++ rest ≡ all
step now new all before piece rest splits so_far puts =
    ap (λ t. t ++ rest) puts ∙ (append_assoc now piece rest
    ∙ (ap (λ t. now ++ t) (sym splits) ∙ so_far))
