-- Texts and lines.
use Rattle.std.specs.Prelude.{ℕ, Bool, nat_eq, List, [], ◌∷◌, ◌++◌}
use Rattle.std.specs.List.{starts_with}

-- the text begins with these bytes
abbrev pub begins_with : List ℕ → List ℕ → Bool
begins_with text start = starts_with nat_eq text start

-- lines as a text, each with its end
abbrev pub text_of : List (List ℕ) → List ℕ
text_of [] = []
text_of (line ∷ lines) = line ++ 10 ∷ text_of lines
