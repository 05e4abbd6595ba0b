-- Stories, held values and entries, step by step.
use Rattle.std.proofs.Common.{◌≡◌, ℕ, ◌+◌, ◌<◌, List, [], ◌∷◌, ◌++◌, length, get_or, take, Option, Some, None, refl, ap}
use Rattle.std.proofs.lemmas.List.{take_more}
use Rattle.records.specs.declared.record.Record.{Record}
use Rattle.records.specs.Records.{entries_after, entry, write}

-- the last record, or the one before the list
abbrev pub last_or : Option Record → List Record → Option Record
last_or before [] = before
last_or before (r ∷ rs) = last_or (Some r) rs

pub last_or_push : (before : Option Record) (rs : List Record) (r : Record)
    → last_or before (rs ++ r ∷ []) ≡ Some r
last_or_push before [] r = refl
last_or_push before (a ∷ rs) r = last_or_push (Some a) rs r

pub entries_push : (before : Option Record) (rs : List Record) (r : Record)
    → entries_after before (rs ++ r ∷ [])
    ≡ entries_after before rs ++ entry (write (last_or before rs)) r ∷ []
entries_push before [] r = refl
entries_push before (a ∷ rs) r = ap (λ es. entry (write before) a ∷ es) (entries_push (Some a) rs r)

pub entries_more : (xs : List Record) (i : ℕ) (d : Record) → i < length xs
    → (entries_after None (take (i + 1) xs)
    ≡ entries_after None (take i xs) ++ entry (write (last_or None (take i xs))) (get_or xs i d)
    ∷ []) × (last_or None (take (i + 1) xs) ≡ Some (get_or xs i d))
entries_more xs i d h = (
  rw (take_more xs i d h) (entries_push None (take i xs) (get_or xs i d)),
  rw (take_more xs i d h) (last_or_push None (take i xs) (get_or xs i d)),
)
