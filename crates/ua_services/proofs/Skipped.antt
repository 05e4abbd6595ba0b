-- Reading the items of an array and dropping each, as a loop does.
use Rattle.std.proofs.Common.{◌≡◌, ℕ, suc, ◌-◌, ◌+◌, ◌≤◌, ◌<◌, List, ◌∷◌, Ok, Err, refl, sym, ◌∙◌, arith}
use Rattle.ua_binary.specs.Format.{◌>>=◌, Reading, items_at}

-- what was read, dropped
abbrev pub dropped : {E A : Type 0} → Reading E A → Reading E (Unit {0})
dropped r = r >>= λ a. Ok (tt, a.1)

-- so many items are read and dropped
abbrev pub skipped_at : {E A : Type 0} → (List ℕ → Reading E A) → ℕ → List ℕ → Reading E (Unit {0})
skipped_at read n bytes = dropped (items_at read n bytes)

regroup : {E A : Type 0} (v : A) (r : Reading E (List A))
    → (let more : Reading E (List A) = r >>= λ x. Ok (v ∷ x.0, x.1) in dropped more) ≡ dropped r
regroup v (Ok x) = refl
regroup v (Err e) = refl

pub skip_more : {E A : Type 0} (read : List ℕ → Reading E A) (count i : ℕ) (bytes : List ℕ) (v : A)
    (after : List ℕ) (total : Reading E (Unit {0})) → i < count → read bytes ≡ Ok (v, after)
    → skipped_at read (count - i) bytes ≡ total → skipped_at read (count - (i + 1)) after ≡ total
skip_more read count i bytes v after total lt h so_far =
    let k : count - i ≡ suc (count - (i + 1)) = omega arith in
    let one : skipped_at read (count - i) bytes ≡ skipped_at read (count - (i + 1)) after =
    rw (k, h) (regroup v (items_at read (count - (i + 1)) after)) in
    sym one ∙ so_far

pub skip_ends : {E A : Type 0} (read : List ℕ → Reading E A) (count i : ℕ) (bytes : List ℕ) (e : E)
    (total : Reading E (Unit {0})) → i < count → read bytes ≡ Err e
    → skipped_at read (count - i) bytes ≡ total → total ≡ Err e
skip_ends read count i bytes e total lt h so_far =
    let k : count - i ≡ suc (count - (i + 1)) = omega arith in
    let one : skipped_at read (count - i) bytes ≡ Err e = rw (k, h) refl in
    sym so_far ∙ one

pub skip_done : {E A : Type 0} (read : List ℕ → Reading E A) (count i : ℕ) (bytes : List ℕ)
    (total : Reading E (Unit {0})) → count ≤ i → skipped_at read (count - i) bytes ≡ total
    → total ≡ Ok (tt, bytes)
skip_done read count i bytes total le so_far =
    let k : count - i ≡ 0 = omega arith in
    let one : skipped_at read (count - i) bytes ≡ Ok (tt, bytes) = rw k refl in
    sym so_far ∙ one

pub ruleset skipped = (skip_more, skip_ends, skip_done)
