-- A body and its pieces.
use Rattle.std.proofs.Common.{◌≡◌, ◌≢◌, ℕ, zero, suc, ◌<◌, ◌≤◌, Bool, true, false, cond, List, [], ◌∷◌, ◌++◌, length, take, drop, nat_le, refl, sym, subst, ap, ◌∙◌, arith}
use Rattle.std.specs.Prelude.{IsTrue, ◌↔◌}
use Rattle.std.proofs.lemmas.List.{length-drop, length-take, take-append-drop, append-nil, length-append, take_at, drop_at}
use Rattle.std.proofs.lemmas.Bool.Decides.{nat_tests}
use Rattle.uacp.specs.Split.{joined, AreFull, IsSplit, pieces_within, pieces_of, left_of}

fits_true : (a b : ℕ) → a ≤ b → nat_le a b ≡ true
fits_true a b le = grind (arith, nat_tests)

fits_false : (a b : ℕ) → b < a → nat_le a b ≡ false
fits_false a b lt = grind (arith, nat_tests)

fits_cases : (a b : ℕ) (t : Bool) → nat_le a b ≡ t → cond t (a ≤ b) (b < a)
fits_cases a b true e = grind (arith, nat_tests)
fits_cases a b false e = grind (arith, nat_tests)

shorter : (size n : ℕ) (bytes : List ℕ) → 0 < size → length bytes ≤ suc n
    → length (drop size bytes) ≤ n
shorter size n bytes some le = omega (arith, length-drop size bytes)

-- more rounds than bytes change nothing
within_more : (n m size : ℕ) (bytes : List ℕ) → 0 < size → length bytes ≤ n → length bytes ≤ m
    → pieces_within n size bytes ≡ pieces_within m size bytes
within_more zero zero size bytes some a b = refl
within_more zero (suc m) size bytes some a b = rw (fits_true (length bytes) size (omega arith)) refl
within_more (suc n) zero size bytes some a b = rw (fits_true (length bytes) size (omega arith)) refl
within_more (suc n) (suc m) size bytes some a b =
    ap (λ pieces. cond (nat_le (length bytes) size) (bytes ∷ []) (take size bytes ∷ pieces))
    (within_more n m size (drop size bytes) some (shorter size n bytes some a)
    (shorter size m bytes some b))

-- what fits is one piece
pub pieces-short : (size : ℕ) (bytes : List ℕ) → 0 < size → length bytes ≤ size
    → pieces_of size bytes ≡ bytes ∷ []
unfolding pieces_of
pieces-short size bytes some le =
    within_more (length bytes) (suc (length bytes)) size bytes some (omega arith) (omega arith)
    ∙ rw (fits_true (length bytes) size le) refl

-- what doesn't fit is a full piece, and those of what is left
pub pieces-long : (size : ℕ) (bytes : List ℕ) → 0 < size → size < length bytes
    → pieces_of size bytes ≡ take size bytes ∷ pieces_of size (drop size bytes)
unfolding pieces_of
pieces-long size bytes some lt =
    within_more (length bytes) (suc (length bytes)) size bytes some (omega arith) (omega arith)
    ∙ rw (fits_false (length bytes) size lt) (ap (λ pieces. take size bytes ∷ pieces)
    (within_more (length bytes) (length (drop size bytes)) size (drop size bytes) some
    (omega (arith, length-drop size bytes)) (omega arith)))

pub left-short : (over : Bool) (size : ℕ) (bytes : List ℕ) → over ≡ false → 0 < size
    → length bytes ≤ size → left_of over size bytes ≡ bytes ∷ []
left-short true size bytes e some le = absurd cc
left-short false size bytes e some le = pieces-short size bytes some le

pub left-long : (over : Bool) (size : ℕ) (bytes : List ℕ) → over ≡ false → 0 < size
    → size < length bytes → left_of over size bytes
    ≡ take size bytes ∷ left_of over size (drop size bytes)
left-long true size bytes e some lt = absurd cc
left-long false size bytes e some lt = pieces-long size bytes some lt

joined_by : (size : ℕ) (bytes : List ℕ) (pieces : List (List ℕ)) (t : Bool)
    → joined pieces ≡ drop size bytes
    → joined (cond t (bytes ∷ []) (take size bytes ∷ pieces)) ≡ bytes
joined_by size bytes pieces true e = append-nil bytes
joined_by size bytes pieces false e =
    ap (λ rest. take size bytes ++ rest) e ∙ take-append-drop size bytes

joined-within : (n size : ℕ) (bytes : List ℕ) → joined (pieces_within n size bytes) ≡ bytes
joined-within zero size bytes = append-nil bytes
joined-within (suc n) size bytes =
    joined_by size bytes (pieces_within n size (drop size bytes)) (nat_le (length bytes) size)
    (joined-within n size (drop size bytes))

some_pieces : (n size : ℕ) (bytes : List ℕ) → pieces_within n size bytes ≢ []
some_pieces zero size bytes e = cc
some_pieces (suc n) size bytes e = by_test (nat_le (length bytes) size) e
  where
    by_test : (t : Bool) → cond t (bytes ∷ []) (take size bytes
        ∷ pieces_within n size (drop size bytes)) ≢ []
    by_test true e = cc
    by_test false e = cc

full_more : (size : ℕ) (piece : List ℕ) (pieces : List (List ℕ)) → length piece ≡ size → pieces ≢ []
    → AreFull size pieces → AreFull size (piece ∷ pieces)
full_more size piece [] full some rest = absurd (some refl)
full_more size piece (next ∷ pieces) full some rest = (full, rest)

full_by : (size : ℕ) (bytes : List ℕ) (pieces : List (List ℕ)) (t : Bool)
    → nat_le (length bytes) size ≡ t → 0 < length bytes → pieces ≢ []
    → (size < length bytes → AreFull size pieces)
    → AreFull size (cond t (bytes ∷ []) (take size bytes ∷ pieces))
full_by size bytes pieces true e there some rest = (there, fits_cases (length bytes) size true e)
full_by size bytes pieces false e there some rest =
    let above : size < length bytes = fits_cases (length bytes) size false e in
    full_more size (take size bytes) pieces (omega (arith, length-take size bytes)) some
    (rest above)

full-within : (n size : ℕ) (bytes : List ℕ) → 0 < size → 0 < length bytes → length bytes ≤ n
    → AreFull size (pieces_within n size bytes)
full-within zero size bytes some there le = absurd (omega arith)
full-within (suc n) size bytes some there le =
    full_by size bytes (pieces_within n size (drop size bytes))
    (nat_le (length bytes) size) refl there (some_pieces n size (drop size bytes))
    (λ above. full-within n size (drop size bytes) some (omega (arith, length-drop size bytes))
    (shorter size n bytes some le))

-- a body is split into these
pub pieces_split : (size : ℕ) (body : List ℕ) → 0 < size → IsSplit size body (pieces_of size body)
unfolding pieces_of
pieces_split size [] some = refl
pieces_split size (byte ∷ body) some = (
  joined-within (length (byte ∷ body)) size (byte ∷ body),
  full-within (length (byte ∷ body)) size (byte ∷ body) some (omega arith) (omega arith),
)

-- ---- a body has one list of pieces

full_some : (size : ℕ) (piece : List ℕ) (pieces : List (List ℕ)) → AreFull size (piece ∷ pieces)
    → 0 < length (joined (piece ∷ pieces))
full_some size piece [] full = omega (arith, length-append piece [], full.0)
full_some size piece (next ∷ pieces) full =
    omega (arith, length-append piece (joined (next ∷ pieces)), full_some size next pieces full.1)

full_one : (size : ℕ) (pieces others : List (List ℕ)) → joined pieces ≡ joined others
    → AreFull size pieces → AreFull size others → pieces ≡ others
full_one size [] [] same full fulls = refl
full_one size [] (other ∷ others) same full fulls =
    let some = full_some size other others fulls in
    let none = ap (length {A = ℕ}) same in absurd (omega arith)
full_one size (piece ∷ pieces) [] same full fulls =
    let some = full_some size piece pieces full in
    let none = ap (length {A = ℕ}) same in absurd (omega arith)
full_one size (piece ∷ []) (other ∷ []) same full fulls =
    ap (λ (p : List ℕ). p ∷ []) (sym (append-nil piece) ∙ same ∙ append-nil other)
full_one size (piece ∷ []) (other ∷ next ∷ others) same full fulls =
    let more = full_some size next others fulls.1 in
    let long = ap (length {A = ℕ}) same in
    absurd (omega (
      arith,
      length-append piece [],
      length-append other (joined (next ∷ others)),
      full.1,
      fulls.0,
    ))
full_one size (piece ∷ next ∷ pieces) (other ∷ []) same full fulls =
    let more = full_some size next pieces full.1 in
    let long = ap (length {A = ℕ}) same in
    absurd (omega (
      arith,
      length-append other [],
      length-append piece (joined (next ∷ pieces)),
      full.0,
      fulls.1,
    ))
full_one size (piece ∷ next ∷ pieces) (other ∷ second ∷ others) same full fulls =
    let first : piece ≡ other = sym (take_at piece (joined (next ∷ pieces)) size full.0)
    ∙ ap (take size) same ∙ take_at other (joined (second ∷ others)) size fulls.0 in
    let rest : joined (next ∷ pieces) ≡ joined (second ∷ others) =
    sym (drop_at piece (joined (next ∷ pieces)) size full.0) ∙ ap (drop size) same
    ∙ drop_at other (joined (second ∷ others)) size fulls.0 in
    let later = full_one size (next ∷ pieces) (second ∷ others) rest full.1 fulls.1 in
    ap (λ (p : List ℕ). p ∷ next ∷ pieces) first ∙ ap (λ (ps : List (List ℕ)). other ∷ ps) later

split_one : (size : ℕ) (body : List ℕ) (pieces others : List (List ℕ)) → IsSplit size body pieces
    → IsSplit size body others → pieces ≡ others
split_one size [] pieces others is so = is ∙ sym so
split_one size (byte ∷ body) pieces others is so =
    full_one size pieces others (is.0 ∙ sym so.0) is.1 so.1

pub pieces_one : (size : ℕ) (body : List ℕ) (pieces : List (List ℕ)) → 0 < size
    → IsSplit size body pieces ↔ (pieces ≡ pieces_of size body)
pieces_one size body pieces some =
    let is = pieces_split size body some in (
      λ split. split_one size body pieces (pieces_of size body) split is,
      λ same. subst (IsSplit size body) (sym same) is,
    )

-- none is left once it is over, and before that there is one
pub none_left : (over : Bool) (size : ℕ) (bytes : List ℕ)
    → IsTrue over ↔ (left_of over size bytes ≡ [])
unfolding pieces_of
none_left true size bytes = (λ _. refl, λ _. refl)
none_left false size bytes = (λ f. absurd cc, λ e. absurd (some_pieces (length bytes) size bytes e))

pub ruleset steps = (left-short, left-long)
