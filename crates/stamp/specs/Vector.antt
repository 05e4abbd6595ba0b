-- A vector as bytes: how many replicas have a number above 0, and then each of them with its
-- number, ascending.
use Rattle.std.specs.Prelude.{◌≡◌, ◌≢◌, ℕ, zero, suc, nat_lt, nat_le, ◌&&◌, List, [], ◌∷◌, length, drop, slice_get, unwrap_or}
use Rattle.std.specs.List.{AllByRecursion}
use Rattle.std.specs.Int.{w64}
use Rattle.ua_binary.specs.Format.{Format, nothing, byte, ◌▸◌, headed, standing_for, passing, fitting, raised}
use Rattle.ua_binary.specs.Binary.{unsigned}
use Rattle.stamp.specs.declared.fault.VectorFault.{VectorFault}
use Rattle.stamp.specs.declared.fault.VectorFault.TheVariants.{NotAscending, BadNumber}
use Rattle.stamp.specs.Limits.{greatest}
use Rattle.stamp.specs.Fault.{vector_fault}
use Rattle.stamp.specs.Numbers.{number_of, IsVector, zeros, entries, filled}

-- a byte that names a replica, above this one, and its number, above 0
abbrev pub entry_above : ℕ → Format VectorFault (ℕ × ℕ)
entry_above last =
    passing (λ r. nat_lt last r) NotAscending
    (passing (λ r. nat_le 1 r && nat_le r 64) BadNumber (raised vector_fault byte))
    ▸ passing (λ n. nat_le 1 n && nat_le n greatest) BadNumber (raised vector_fault (unsigned w64))

-- so many entries, each above the one before it, the first above this replica
abbrev pub entries_above : ℕ → ℕ → Format VectorFault (List (ℕ × ℕ))
entries_above last zero = nothing []
entries_above last (suc n) =
    headed (λ es. unwrap_or (slice_get es 0) (0, 0)) (entry_above last)
    (λ e. standing_for (λ es. e ∷ es) (drop 1) (entries_above e.0 n))

-- the count, and as many entries
abbrev pub entry_list : Format VectorFault (List (ℕ × ℕ))
entry_list =
    headed length (passing (λ n. nat_le n 64) BadNumber (raised vector_fault byte))
    (entries_above 0)

-- a replica that isn't named has the number 0
unfoldable pub vector : Format VectorFault (List ℕ)
vector = fitting IsVector (standing_for (filled zeros) entries entry_list)

-- what entries tell of a vector: at each replica that they name its number, and 0 at every other
pub record IsVectorOf (es : List (ℕ × ℕ)) (numbers : List ℕ) : Type 0 where
  pub named : AllByRecursion (λ e. number_of numbers e.0 ≡ e.1) es
  pub others : (replica : ℕ) → AllByRecursion (λ e. e.0 ≢ replica) es
      → number_of numbers replica ≡ 0
