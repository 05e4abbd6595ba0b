-- A line that is gone on with.
use Rattle.std.proofs.Common.{◌≡◌, ◌++◌, ◌∙◌, ◌∷◌, [], ℤ, ℕ, List, ap, append_assoc}
use Rattle.event_lines.specs.Lines.{IsEventLine}

-- what is appended to a line that says only when is what it says
pub line_goes_on : (at : ℤ) → (event start line : List ℕ) → IsEventLine at [] start
    → line ≡ start ++ event → IsEventLine at event line
line_goes_on at event start line (time, is, begun) more =
    (time, is, more ∙ ap (λ l. l ++ event) begun ∙ append_assoc time (32 ∷ []) event)
