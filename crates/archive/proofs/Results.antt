-- An answer is not a fault.
use Rattle.std.proofs.Common.{◌≡◌, Result, Ok, Err}

pub err-ok : {A E : Type 0} (r : Result A E) (e : E) (a : A) → r ≡ Err e → r ≡ Ok a → ⊥
err-ok r e a told other = absurd (cc)
