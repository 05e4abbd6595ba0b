-- Rows that have a column of another kind than a record's.
use Rattle.std.proofs.Common.{◌≡◌, ◌⊎◌, inl, inr, ℤ, List, ℕ, ap}
use Rattle.sqlite_value.specs.declared.value.Value.TheVariants.{Int, Blob}
use Rattle.sqlite_value.specs.Order.{Row, column}
use Rattle.records.specs.declared.fault.RecordFault.{RecordFault}
use Rattle.records.specs.declared.fault.RecordFault.TheVariants.{OutOfMemory}
use Rattle.sql_opening.specs.Unread.{IsNoCells}

pub no_node : (row : Row) (e : RecordFault)
    → (e ≡ OutOfMemory) ⊎ ((b : List ℕ) → column row 3 ≡ Blob b → ⊥)
    → (e ≡ OutOfMemory) ⊎ IsNoCells row
no_node row e (inl memory) = inl memory
no_node row e (inr none) = inr (λ c same. none _ (ap (λ x. column x 3) same))

pub no_user : (row : Row) (e : RecordFault)
    → (e ≡ OutOfMemory) ⊎ ((b : List ℕ) → column row 7 ≡ Blob b → ⊥)
    → (e ≡ OutOfMemory) ⊎ IsNoCells row
no_user row e (inl memory) = inl memory
no_user row e (inr none) = inr (λ c same. none _ (ap (λ x. column x 7) same))

pub no_value : (row : Row) (e : RecordFault)
    → (e ≡ OutOfMemory) ⊎ ((b : List ℕ) → column row 8 ≡ Blob b → ⊥)
    → (e ≡ OutOfMemory) ⊎ IsNoCells row
no_value row e (inl memory) = inl memory
no_value row e (inr none) = inr (λ c same. none _ (ap (λ x. column x 8) same))

pub no_origin : (row : Row) → ((n : ℤ) → column row 0 ≡ Int n → ⊥) → IsNoCells row
no_origin row none c same = none _ (ap (λ x. column x 0) same)

pub no_number : (row : Row) → ((n : ℤ) → column row 1 ≡ Int n → ⊥) → IsNoCells row
no_number row none c same = none _ (ap (λ x. column x 1) same)

pub no_tick : (row : Row) → ((n : ℤ) → column row 2 ≡ Int n → ⊥) → IsNoCells row
no_tick row none c same = none _ (ap (λ x. column x 2) same)

pub no_time : (row : Row) → ((n : ℤ) → column row 4 ≡ Int n → ⊥) → IsNoCells row
no_time row none c same = none _ (ap (λ x. column x 4) same)

pub no_pico : (row : Row) → ((n : ℤ) → column row 5 ≡ Int n → ⊥) → IsNoCells row
no_pico row none c same = none _ (ap (λ x. column x 5) same)

pub no_asked : (row : Row) → ((n : ℤ) → column row 6 ≡ Int n → ⊥) → IsNoCells row
no_asked row none c same = none _ (ap (λ x. column x 6) same)
