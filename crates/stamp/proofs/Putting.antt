-- Writing entries one after the other, as a loop does.
use Rattle.std.proofs.Common.{◌≡◌, ℕ, ◌+◌, ◌<◌, true, false, List, [], ◌∷◌, ◌++◌, length, get_or, take, refl, sym, ap, ◌∙◌, append_assoc, arith, inl, inr}
use Rattle.std.proofs.lemmas.Bool.{cases_Bool}
use Rattle.std.proofs.lemmas.Bool.Decides.{nat_tests}
use Rattle.std.proofs.lemmas.List.{append-nil, length-take-le, length_push, take_more}
use Rattle.std.specs.Prelude.{nat_lt}
use Rattle.std.specs.List.{flat_map}
use Rattle.stamp.specs.Numbers.{entries}
use Rattle.stamp.proofs.NumbersParts.{entries_from}
use Rattle.stamp.specs.Vector.{entry_above, entries_above, vector}

-- the entry of one number
entry_here : (first n : ℕ) → 0 < n → entries_from first (n ∷ []) ≡ (first, n) ∷ []
entry_here first n some = let t : nat_lt 0 n ≡ true = grind (arith, nat_tests) in rw t refl

none_here : (first n : ℕ) → n ≡ 0 → entries_from first (n ∷ []) ≡ []
none_here first n none = let f : nat_lt 0 n ≡ false = grind (arith, nat_tests) in rw f refl

entries_push : (ns : List ℕ) (n first at : ℕ) → at ≡ first + length ns
    → entries_from first (ns ++ n ∷ []) ≡ entries_from first ns ++ entries_from at (n ∷ [])
entries_push [] n first at e = let same : at ≡ first = omega arith in rw same refl
entries_push (m ∷ ns) n first at e =
    let rest = entries_push ns n (first + 1) at (omega arith) in
    elim (cases_Bool (nat_lt 0 m)) [
      | inl t ↦ rw t (ap (λ z. (first, m) ∷ z) rest)
      | inr f ↦ rw f rest
    ]

entries_more : (ns : List ℕ) (i : ℕ) → i < length ns
    → entries (take (i + 1) ns) ≡ entries (take i ns) ++ entries_from (i + 1) (get_or ns i 0 ∷ [])
entries_more ns i lt =
    ap entries (take_more ns i 0 lt)
    ∙ entries_push (take i ns) (get_or ns i 0) 1 (i + 1) (omega (arith, length-take-le i ns))

pub entry_more : (ns : List ℕ) (i : ℕ) → i < length ns → 0 < get_or ns i 0
    → entries (take (i + 1) ns) ≡ entries (take i ns) ++ (i + 1, get_or ns i 0) ∷ []
entry_more ns i lt some = entries_more ns i lt
    ∙ ap (λ z. entries (take i ns) ++ z) (entry_here (i + 1) (get_or ns i 0) some)

pub none_more : (ns : List ℕ) (i : ℕ) → i < length ns → get_or ns i 0 ≡ 0
    → entries (take (i + 1) ns) ≡ entries (take i ns)
none_more ns i lt none = entries_more ns i lt
    ∙ ap (λ z. entries (take i ns) ++ z) (none_here (i + 1) (get_or ns i 0) none)
    ∙ append-nil (entries (take i ns))

-- the bytes of entries
abbrev pub entry_bytes : List (ℕ × ℕ) → List ℕ
entry_bytes es = flat_map (entry_above 0).canon es

pub bytes_push : (es : List (ℕ × ℕ)) (e : ℕ × ℕ)
    → entry_bytes (es ++ e ∷ []) ≡ entry_bytes es ++ (entry_above 0).canon e
bytes_push [] e = append-nil ((entry_above 0).canon e)
bytes_push (d ∷ es) e = ap (λ z. (entry_above 0).canon d ++ z) (bytes_push es e)
    ∙ sym (append_assoc ((entry_above 0).canon d) (entry_bytes es) ((entry_above 0).canon e))

canon_entries : (es : List (ℕ × ℕ)) (last : ℕ)
    → (entries_above last (length es)).canon es ≡ entry_bytes es
canon_entries [] last = refl
canon_entries (e ∷ es) last = ap (λ z. (entry_above 0).canon e ++ z) (canon_entries es e.0)

pub canon_vector : (numbers : List ℕ)
    → vector.canon numbers ≡ length (entries numbers) ∷ entry_bytes (entries numbers)
unfolding vector
canon_vector numbers = ap (λ z. length (entries numbers) ∷ z) (canon_entries (entries numbers) 0)

pub count_more : (ns : List ℕ) (i : ℕ) → i < length ns → 0 < get_or ns i 0
    → length (entries (take (i + 1) ns)) ≡ length (entries (take i ns)) + 1
count_more ns i lt some = ap length (entry_more ns i lt some)
    ∙ length_push (entries (take i ns)) (i + 1, get_or ns i 0)

pub count_none : (ns : List ℕ) (i : ℕ) → i < length ns → get_or ns i 0 ≡ 0
    → length (entries (take (i + 1) ns)) ≡ length (entries (take i ns))
count_none ns i lt none = ap length (none_more ns i lt none)

-- one place further, where an entry was put
pub put_more : (old out after ns : List ℕ) (i : ℕ) → i < length ns → 0 < get_or ns i 0
    → out ≡ old ++ entry_bytes (entries (take i ns))
    → after ≡ out ++ (entry_above 0).canon (i + 1, get_or ns i 0)
    → after ≡ old ++ entry_bytes (entries (take (i + 1) ns))
put_more old out after ns i lt some so_far put =
    put
    ∙ ap (λ z. z ++ (entry_above 0).canon (i + 1, get_or ns i 0)) so_far
    ∙ append_assoc old (entry_bytes (entries (take i ns)))
    ((entry_above 0).canon (i + 1, get_or ns i 0))
    ∙ ap (λ z. old ++ z) (sym (bytes_push (entries (take i ns)) (i + 1, get_or ns i 0))
    ∙ ap entry_bytes (sym (entry_more ns i lt some)))

-- one place further, where none was
pub put_none : (old out ns : List ℕ) (i : ℕ) → i < length ns → get_or ns i 0 ≡ 0
    → out ≡ old ++ entry_bytes (entries (take i ns))
    → out ≡ old ++ entry_bytes (entries (take (i + 1) ns))
put_none old out ns i lt none so_far =
    so_far ∙ ap (λ z. old ++ entry_bytes z) (sym (none_more ns i lt none))

pub ruleset counts = (count_more, count_none)

pub ruleset puts = (put_more, put_none)
