-- What is known of a reader that doesn't wait.
use Rattle.std.specs.Prelude.{ℕ, ◌≤◌, ◌<◌, List, take, length, Option}
use Rattle.std.specs.Io.KnownBytes.{Consumes, IsAtEnd, Keeps}
use Rattle.multiplex.specs.declared.transfer.ReadAttempt.{ReadAttempt}
use Rattle.multiplex.specs.declared.transfer.ReadAttempt.TheVariants.{Read, EndOfInput, WouldBlock, Failed}

-- the bytes that are still to be read, where they are known; that none is there now; and that a
-- read failed
pub record Input (R : Type 0) : Type 1 where
  pub unread : R → Option (List ℕ)
  pub is_empty : R → Type 0
  pub has_failed : R → Type 0

-- the next bytes were read, one at least; or none was, and why
abbrev pub HasRead : {R : Type 0} → Input R → R → (piece : List ℕ) → ReadAttempt → R → Type 0
HasRead input old piece (Read n) new =
    (0 < n) × (n ≤ length piece) × Consumes (input.unread old) (input.unread new) (take n piece)
HasRead input old piece EndOfInput new =
    Keeps (input.unread old) (input.unread new) × IsAtEnd (input.unread new)
HasRead input old piece WouldBlock new =
    Keeps (input.unread old) (input.unread new) × input.is_empty new
HasRead input old piece Failed new =
    Keeps (input.unread old) (input.unread new) × input.has_failed new
