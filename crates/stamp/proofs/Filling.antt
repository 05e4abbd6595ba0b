-- Reading entries one after the other, as a loop does.
use Rattle.std.proofs.Common.{◌≡◌, ℕ, suc, ◌-◌, ◌+◌, ◌≤◌, ◌<◌, List, ◌∷◌, Ok, Err, refl, sym, subst, ◌∙◌, arith}
use Rattle.std.specs.Prelude.{slice_set}
use Rattle.ua_binary.specs.Format.{◌>>=◌, Reading}
use Rattle.stamp.specs.declared.fault.VectorFault.{VectorFault}
use Rattle.stamp.specs.Numbers.{filled, zeros}
use Rattle.stamp.specs.Vector.{entry_above, entries_above}

-- these numbers with the entries that were read put in
abbrev pub put_in : List ℕ → Reading VectorFault (List (ℕ × ℕ)) → Reading VectorFault (List ℕ)
put_in numbers r = r >>= λ a. Ok (filled numbers a.0, a.1)

-- an entry before those that were read
abbrev before : ℕ × ℕ → Reading VectorFault (List (ℕ × ℕ)) → Reading VectorFault (List (ℕ × ℕ))
before e r = r >>= λ b. Ok (e ∷ b.0, b.1)

-- what so many entries leave of these numbers
abbrev pub filling : List ℕ → ℕ → ℕ → List ℕ → Reading VectorFault (List ℕ)
filling numbers last n bytes = put_in numbers ((entries_above last n).read bytes)

regroup : (numbers : List ℕ) (e : ℕ × ℕ) (r : Reading VectorFault (List (ℕ × ℕ)))
    → put_in numbers (before e r) ≡ put_in (slice_set numbers (e.0 - 1) e.1) r
regroup numbers e (Ok x) = refl
regroup numbers e (Err d) = refl

pub starts : (numbers bytes old : List ℕ) (count : ℕ) → numbers ≡ zeros → bytes ≡ old
    → filling numbers 0 (count - 0) bytes ≡ filling zeros 0 count old
starts numbers bytes old count a b = let k : count - 0 ≡ count = omega arith in rw (a, b, k) refl

pub goes_on : (numbers : List ℕ) (last count i : ℕ) (bytes : List ℕ) (place replica n : ℕ)
    (after : List ℕ) (total : Reading VectorFault (List ℕ)) → i < count → place + 1 ≡ replica
    → (entry_above last).read bytes ≡ Ok ((replica, n), after)
    → filling numbers last (count - i) bytes ≡ total
    → filling (slice_set numbers place n) replica (count - (i + 1)) after ≡ total
goes_on numbers last count i bytes place replica n after total lt stands h so_far =
    let k : count - i ≡ suc (count - (i + 1)) = omega arith in
    let at : replica - 1 ≡ place = omega arith in
    let one : filling numbers last (count - i) bytes
    ≡ filling (slice_set numbers (replica - 1) n) replica (count - (i + 1)) after =
    rw (k, h) (regroup numbers (
      replica,
      n,
    ) ((entries_above replica (count - (i + 1))).read after)) in
    subst (λ p. filling (slice_set numbers p n) replica (count - (i + 1)) after ≡ total) at
    (sym one ∙ so_far)

pub ends : (numbers : List ℕ) (last count i : ℕ) (bytes : List ℕ) (e : VectorFault)
    (total : Reading VectorFault (List ℕ)) → i < count → (entry_above last).read bytes ≡ Err e
    → filling numbers last (count - i) bytes ≡ total → total ≡ Err e
ends numbers last count i bytes e total lt h so_far =
    let k : count - i ≡ suc (count - (i + 1)) = omega arith in
    let one : filling numbers last (count - i) bytes ≡ Err e = rw (k, h) refl in
    sym so_far ∙ one

pub is_done : (numbers : List ℕ) (last count i : ℕ) (bytes : List ℕ)
    (total : Reading VectorFault (List ℕ)) → count ≤ i
    → filling numbers last (count - i) bytes ≡ total → total ≡ Ok (numbers, bytes)
is_done numbers last count i bytes total le so_far =
    let k : count - i ≡ 0 = omega arith in
    let one : filling numbers last (count - i) bytes ≡ Ok (numbers, bytes) = rw k refl in
    sym so_far ∙ one
