-- A vector as the list of the numbers of replicas 1 to 64, in this order.
use Rattle.std.specs.Prelude.{◌≡◌, ℕ, ◌-◌, ◌≤◌, nat_lt, List, [], ◌∷◌, length, filter, replicate, slice_index, slice_set}
use Rattle.std.specs.List.{enumerate_from}
use Rattle.stamp.specs.Limits.{greatest}

-- the number of a replica, 0 for what is no replica
abbrev pub number_of : List ℕ → ℕ → ℕ
number_of numbers replica = slice_index (0 ∷ numbers) replica

-- 64 numbers, none of them above the greatest
pub record IsVector (numbers : List ℕ) : Type 0 where
  pub whole : length numbers ≡ 64
  pub within : (replica : ℕ) → number_of numbers replica ≤ greatest

-- no number above 0
unfoldable pub zeros : List ℕ
zeros = replicate 64 0

-- the replicas with a number above 0, ascending, each with its number
abbrev pub entries : List ℕ → List (ℕ × ℕ)
entries numbers = filter (λ e. nat_lt 0 e.1) (enumerate_from 1 numbers)

-- the numbers with these entries put in
abbrev pub filled : List ℕ → List (ℕ × ℕ) → List ℕ
filled numbers [] = numbers
filled numbers (e ∷ es) = filled (slice_set numbers (e.0 - 1) e.1) es
