-- What is put behind what was put before.
use Rattle.std.proofs.Common.{◌≡◌, ◌∙◌, ℕ, List, ◌++◌, ap, append_assoc, Result, Ok, Err, OnOk, is_ok, if◌then◌else◌}

-- what was put behind what was put before
pub put-next : (a b c x y : List ℕ) → b ≡ a ++ x → c ≡ b ++ y → c ≡ a ++ (x ++ y)
put-next a b c x y p q = q ∙ ap (λ l. l ++ y) p ∙ append_assoc a x y

-- the same of what was put last, if there was memory for it
pub put-last : {A E : Type 0} (r : Result A E) (a b c x y : List ℕ) → b ≡ a ++ x
    → c ≡ (if is_ok r then b ++ y else b) → OnOk r (c ≡ a ++ (x ++ y))
put-last (Ok done) a b c x y p q = put-next a b c x y p q
put-last (Err why) a b c x y p q = tt
