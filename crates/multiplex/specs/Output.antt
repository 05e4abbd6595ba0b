-- What is known of a writer that doesn't wait.
use Rattle.std.specs.Prelude.{ℕ, ◌≤◌, ◌<◌, List, take, length, Option}
use Rattle.std.specs.Io.KnownBytes.{Appends, Keeps}
use Rattle.multiplex.specs.declared.transfer.WriteAttempt.{WriteAttempt}
use Rattle.multiplex.specs.declared.transfer.WriteAttempt.TheVariants.{Written, WouldBlock, Failed}

-- the bytes that were written, where they are known; that no more can be written now; and that a
-- write failed
pub record Output (W : Type 0) : Type 1 where
  pub written : W → Option (List ℕ)
  pub is_full : W → Type 0
  pub has_failed : W → Type 0

-- a first part of the bytes was written, one byte at least; or none was, and why
abbrev pub HasWritten : {W : Type 0} → Output W → W → (bytes : List ℕ) → WriteAttempt → W → Type 0
HasWritten output old bytes (Written n) new =
    (0 < n) × (n ≤ length bytes) × Appends (output.written old) (output.written new) (take n bytes)
HasWritten output old bytes WouldBlock new =
    Keeps (output.written old) (output.written new) × output.is_full new
HasWritten output old bytes Failed new =
    Keeps (output.written old) (output.written new) × output.has_failed new
