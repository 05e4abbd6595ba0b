-- Calls that are tried again.
use Rattle.std.proofs.Common.{ℕ, List, ◌++◌, Some, None, sym, ap, ◌∙◌}
use Rattle.std.specs.Prelude.{Option}
use Rattle.std.specs.Io.KnownBytes.{Appends, Consumes, Keeps}
use Rattle.std.proofs.KnownBytes.{Keeps-refl, Keeps-trans}

pub kept_consumes : (a b c : Option (List ℕ)) (bytes : List ℕ) → Keeps a b → Consumes b c bytes
    → Consumes a c bytes
kept_consumes None b c bytes p q = tt
kept_consumes (Some x) None c bytes p q = absurd p
kept_consumes (Some x) (Some y) None bytes p q = absurd q
kept_consumes (Some x) (Some y) (Some z) bytes p q = sym p ∙ q

pub kept_appends : (a b c : Option (List ℕ)) (bytes : List ℕ) → Keeps a b → Appends b c bytes
    → Appends a c bytes
kept_appends None b c bytes p q = tt
kept_appends (Some x) None c bytes p q = absurd p
kept_appends (Some x) (Some y) None bytes p q = absurd q
kept_appends (Some x) (Some y) (Some z) bytes p q = q ∙ ap (λ l. l ++ bytes) p

pub ruleset trying = (kept_consumes, kept_appends, Keeps-refl, Keeps-trans)
