-- Rows that are told of and counted one after the other.
use Rattle.std.proofs.Common.{◌≡◌, ◌∙◌, ℕ, ◌+◌, List, [], ◌∷◌, ◌++◌, length, refl, sym, ap, append_assoc, append-nil, arith}
use Rattle.history_import.specs.declared.counts.Counts.{Counts}
use Rattle.history_import.specs.declared.row_end.RowEnd.{RowEnd}
use Rattle.history_import.specs.Telling.{end_line, lines_from, fate_of, with_one, with_all}

-- the line of one row more
pub lines-more : (n : ℕ) (ends : List RowEnd) (end : RowEnd)
    → lines_from n (ends ++ end ∷ []) ≡ lines_from n ends ++ end_line (n + length ends) end
lines-more n [] end =
    let place : n ≡ n + 0 = omega arith in
    append-nil (end_line n end) ∙ ap (λ m. end_line m end) place
lines-more n (first ∷ ends) end =
    let place : n + 1 + length ends ≡ n + length (first ∷ ends) = omega arith in
    ap (λ l. end_line n first ++ l) (lines-more (n + 1) ends end
    ∙ ap (λ m. lines_from (n + 1) ends ++ end_line m end) place)
    ∙ sym (append_assoc (end_line n first) (lines_from (n + 1) ends)
    (end_line (n + length (first ∷ ends)) end))

-- one row more is counted
pub counts-more : (c : Counts) (ends : List RowEnd) (end : RowEnd)
    → with_all c (ends ++ end ∷ []) ≡ with_one (with_all c ends) (fate_of end)
counts-more c [] end = refl
counts-more c (first ∷ ends) end = counts-more (with_one c (fate_of first)) ends end
