-- What is known of a number that may be none, which the contract of `serve` needs.
use Rattle.std.proofs.Common.{ℕ, ◌+◌, ◌≤◌, arith}
use Rattle.std.specs.Prelude.{Option, None, Some, IfSome}

-- none is at most any number
pub none_yet : (most : Option ℕ) → IfSome most (λ n. 0 ≤ n)
none_yet None = tt
none_yet (Some n) = omega arith

-- some and some more
pub with_more : (most : Option ℕ) (count others : ℕ) → IfSome most (λ n. count ≤ n)
    → IfSome most (λ n. count ≤ n → count + others ≤ n) → IfSome most (λ n. count + others ≤ n)
with_more None count others so_far step = tt
with_more (Some n) count others so_far step = step so_far

-- none more
pub none_more : (most : Option ℕ) (count : ℕ) → IfSome most (λ n. count ≤ n → count + 0 ≤ n)
none_more None count = tt
none_more (Some n) count = λ below. omega (arith, below)
