-- Lines of variables, one behind the other.
use Rattle.std.proofs.Common.{◌≡◌, ℕ, ◌+◌, ◌-◌, ◌<◌, ◌≤◌, List, [], ◌∷◌, ◌++◌, take, get_or, length, append-nil, append_assoc, Result, Ok, Err, OnOk, refl, sym, ap, ◌∙◌, subst, arith}
use Rattle.std.specs.Prelude.{codes, suc}
use Rattle.std.specs.List.{flat_map, range_with_len}
use Rattle.std.specs.declared.alloc.AllocError.{AllocError}
use Rattle.std.proofs.lemmas.List.{take_more, take_all}
use Rattle.ua_binary.specs.declared.values.NodeId.{NodeId}
use Rattle.history_text.specs.Times.{IsTimeText}
use Rattle.history_csv.specs.Rows.{time_of}
use Rattle.history_report.specs.Reports.{AreLines}
use Rattle.history_report.specs.Paging.{IsPut}
use Rattle.settings_check.specs.declared.asking.Seen.{Seen}
use Rattle.settings_check.specs.declared.asking.Ends.{Ends}
use Rattle.settings_check.specs.Texts.{text_of}
use Rattle.settings_check.specs.Stored.{shown_id, TellsTimes, TellsEnds, type_warning, TellsVariable}

-- words of such are put
pub puts-words : (result : Result (Unit {0}) AllocError) (old new words : List ℕ)
    (P : List ℕ → Type 0) → P words → OnOk result (new ≡ old ++ words)
    → OnOk result (IsPut old new P)
puts-words (Ok done) old new words P such puts = (words, puts, such)
puts-words (Err why) old new words P such puts = tt

four : (old a b c d : List ℕ) → (((old ++ a) ++ b) ++ c) ++ d ≡ old ++ (((a ++ b) ++ c) ++ d)
four old a b c d =
    ap (λ t. t ++ d) (ap (λ t. t ++ c) (append_assoc old a b) ∙ append_assoc old (a ++ b) c)
    ∙ append_assoc old ((a ++ b) ++ c) d

-- the times of two values are put
pub puts-times : (result : Result (Unit {0}) AllocError) (old n1 n2 n3 new : List ℕ)
    (first last : Seen) → n1 ≡ old ++ codes ": values from "
    → IsPut n1 n2 (IsTimeText (time_of first.time)) → n3 ≡ n2 ++ codes " to "
    → OnOk result (IsPut n3 new (IsTimeText (time_of last.time)))
    → OnOk result (IsPut old new (TellsTimes first last))
puts-times (Ok done) old n1 n2 n3 new first last e1 (a, e2, ta) e3 (b, e4, tb) = (
  codes ": values from " ++ a ++ codes " to " ++ b,
  e4 ∙ (ap (λ t. t ++ b) (e3 ∙ ap (λ t. t ++ codes " to ") (e2 ∙ ap (λ t. t ++ a) e1))
      ∙ four old (codes ": values from ") a (codes " to ") b),
  (a, b, refl, ta, tb),
)
puts-times (Err why) old n1 n2 n3 new first last e1 p e3 q = tt

-- the lines of a variable are put
pub puts-variable : (result : Result (Unit {0}) AllocError) (old n1 n2 n3 new : List ℕ)
    (node : NodeId) (ends : Ends) → n1 ≡ old ++ shown_id node
    → IsPut n1 n2 (TellsEnds ends) → n3 ≡ n2 ++ 10 ∷ []
    → OnOk result (new ≡ n3 ++ text_of (type_warning node ends))
    → OnOk result (IsPut old new (TellsVariable node ends))
puts-variable (Ok done) old n1 n2 n3 new node ends e1 (words, e2, tell) e3 e4 =
    let id = shown_id node in
    let warning = text_of (type_warning node ends) in (
      text_of ((id ++ words) ∷ type_warning node ends),
      e4 ∙ (ap (λ t. t ++ warning) (e3 ∙ ap (λ t. t ++ 10 ∷ []) (e2 ∙ ap (λ t. t ++ words) e1))
          ∙ (four old id words (10 ∷ []) warning
          ∙ ap (λ t. old ++ t) (append_assoc (id ++ words) (10 ∷ []) warning))),
      (words, tell, refl),
    )
puts-variable (Err why) old n1 n2 n3 new node ends e1 p e3 e4 = tt

-- ---- lines of many

module _ {X : Type 0} (IsLine : X → List ℕ → Type 0) where
  lines-append : (xs ys : List X) (s t : List ℕ) → AreLines IsLine xs s → AreLines IsLine ys t
      → AreLines IsLine (xs ++ ys) (s ++ t)
  lines-append [] ys s t none more = subst (λ l. AreLines IsLine ys (l ++ t)) (sym none) more
  lines-append (x ∷ xs) ys s t (line, rest, same, one, others) more = (
    line,
    rest ++ t,
    ap (λ l. l ++ t) same ∙ append_assoc line rest t,
    one,
    lines-append xs ys rest t others more,
  )

  -- none so far
  pub put-none : (old : List ℕ) (xs : List X) → IsPut old old (AreLines IsLine (take 0 xs))
  put-none old xs = ([], sym (append-nil old), refl)

  -- one more
  pub put-more : (old now new : List ℕ) (xs : List X) (i : ℕ) (d : X) → i < length xs
      → IsPut old now (AreLines IsLine (take i xs)) → IsPut now new (IsLine (get_or xs i d))
      → IsPut old new (AreLines IsLine (take (i + 1) xs))
  put-more old now new xs i d lt (lines, same, are) (line, appended, one) = (
    lines ++ line,
    appended ∙ (ap (λ l. l ++ line) same ∙ append_assoc old lines line),
    subst (λ l. AreLines IsLine l (lines ++ line)) (sym (take_more xs i d lt))
        (lines-append (take i xs) (get_or xs i d ∷ []) lines line are
        (line, [], sym (append-nil line), one, refl)),
  )

  -- all of them
  pub put-all : (old new : List ℕ) (xs : List X) (i : ℕ) → length xs ≤ i
      → IsPut old new (AreLines IsLine (take i xs)) → IsPut old new (AreLines IsLine xs)
  put-all old new xs i whole put =
      subst (λ l. IsPut old new (AreLines IsLine l)) (take_all i xs whole) put

-- the replica of the next number
pub numbers-step : (f : ℕ → List (List ℕ)) (n : ℕ) → n < 65
    → flat_map f (range_with_len n (65 - n))
    ≡ f n ++ flat_map f (range_with_len (n + 1) (65 - (n + 1)))
numbers-step f n lt =
    let more : 65 - n ≡ suc (65 - (n + 1)) = omega (arith, lt) in
    ap (λ k. flat_map f (range_with_len n k)) more
