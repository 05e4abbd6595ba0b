-- What stays on one line.
use Rattle.std.specs.Prelude.{◌≡◌, ℕ, ℤ, ◌==◌, ◌||◌, Bool, true, not, List}
use Rattle.std.specs.List.{list_all}
use Rattle.event_lines.specs.Lines.{IsEventLine}

-- the byte breaks no line: it is no line feed and no carriage return
abbrev pub is_unbroken : ℕ → Bool
is_unbroken b = not (b == 10 || b == 13)

-- none of the text's bytes breaks a line
pub record IsOneLine (text : List ℕ) : Type 0 where
  pub unbroken : list_all is_unbroken text ≡ true

-- an event's line is one line, whenever the event was
abbrev pub IsToldOnOneLine : (event : List ℕ) → Type 0
IsToldOnOneLine event = (at : ℤ) → (line : List ℕ) → IsEventLine at event line → IsOneLine line
