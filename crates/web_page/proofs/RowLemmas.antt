-- Rows of variables, one behind the other, and the page around them.
use Rattle.std.proofs.Common.{◌≡◌, ℕ, ℤ, ◌+◌, ◌<◌, ◌≤◌, List, [], ◌∷◌, ◌++◌, take, get_or, length, append-nil, append_assoc, refl, sym, ap, ◌∙◌, subst}
use Rattle.std.proofs.lemmas.List.{take_more, take_all}
use Rattle.std.specs.Prelude.{⊤, is_ok, if◌then◌else◌, Option, Result, Ok, Err, MatchResult, OnOk}
use Rattle.std.specs.declared.alloc.AllocError.{AllocError}
use Rattle.records.specs.declared.shown.Held.{Held}
use Rattle.records.specs.Contents.{Content}
use Rattle.archive.specs.Store.{Store, IsLawfulContent}
use Rattle.ua_space.specs.declared.layout.Layout.{Layout}
use Rattle.history_report.specs.Reports.{AreLines}
use Rattle.history_report.specs.Paging.{IsPut}
use Rattle.settings_check.specs.Stored.{Reads, IsVectorOf}
use Rattle.web_page.specs.declared.fault.PageFault.{PageFault}
use Rattle.web_page.specs.declared.listing.Listed.{Listed}
use Rattle.web_page.specs.Listing.{listed_variables}
use Rattle.web_page.specs.Values.{AreLatestTexts}
use Rattle.web_page.specs.Calls.{Overview}
use Rattle.web_page.specs.Front.{front_row, IsRowOf, AreRows, IsFront, IsPageAround, page_faults}
use Rattle.settings_check.proofs.StoredLemmas.{reads-both}

module _ {X : Type 0} (IsLine : X → List ℕ → Type 0) where
  lines-append : (xs ys : List X) (s t : List ℕ) → AreLines IsLine xs s → AreLines IsLine ys t
      → AreLines IsLine (xs ++ ys) (s ++ t)
  lines-append [] ys s t none more = subst (λ l. AreLines IsLine ys (l ++ t)) (sym none) more
  lines-append (x ∷ xs) ys s t (line, rest, same, one, others) more = (
    line,
    rest ++ t,
    ap (λ l. l ++ t) same ∙ append_assoc line rest t,
    one,
    lines-append xs ys rest t others more,
  )

  -- one line more behind those of the first ones
  pub lines-more : (now line new : List ℕ) (xs : List X) (i : ℕ) (d : X) → i < length xs
      → AreLines IsLine (take i xs) now → IsLine (get_or xs i d) line → new ≡ now ++ line
      → AreLines IsLine (take (i + 1) xs) new
  lines-more now line new xs i d lt are one same =
      subst (λ t. AreLines IsLine (take (i + 1) xs) t) (sym same)
      (subst (λ l. AreLines IsLine l (now ++ line)) (sym (take_more xs i d lt))
      (lines-append (take i xs) (get_or xs i d ∷ []) now line are
      (line, [], sym (append-nil line), one, refl)))

  -- the lines of all
  pub lines-all : (text : List ℕ) (xs : List X) (i : ℕ) → length xs ≤ i
      → AreLines IsLine (take i xs) text → AreLines IsLine xs text
  lines-all text xs i whole are = subst (λ l. AreLines IsLine l text) (take_all i xs whole) are

  -- none so far
  pub put-none : (old : List ℕ) (xs : List X) → IsPut old old (AreLines IsLine (take 0 xs))
  put-none old xs = ([], sym (append-nil old), refl)

  -- one more
  pub put-more : (old now new : List ℕ) (xs : List X) (i : ℕ) (d : X) → i < length xs
      → IsPut old now (AreLines IsLine (take i xs)) → IsPut now new (IsLine (get_or xs i d))
      → IsPut old new (AreLines IsLine (take (i + 1) xs))
  put-more old now new xs i d lt (lines, same, are) (line, appended, one) = (
    lines ++ line,
    appended ∙ (ap (λ l. l ++ line) same ∙ append_assoc old lines line),
    subst (λ l. AreLines IsLine l (lines ++ line)) (sym (take_more xs i d lt))
        (lines-append (take i xs) (get_or xs i d ∷ []) lines line are
        (line, [], sym (append-nil line), one, refl)),
  )

  -- all of them
  pub put-all : (old new : List ℕ) (xs : List X) (i : ℕ) → length xs ≤ i
      → IsPut old new (AreLines IsLine (take i xs)) → IsPut old new (AreLines IsLine xs)
  put-all old new xs i whole put =
      subst (λ l. IsPut old new (AreLines IsLine l)) (take_all i xs whole) put

five : (o a b c d e : List ℕ) → o ++ a ++ b ++ c ++ d ++ e ≡ o ++ (a ++ b ++ c ++ d ++ e)
five o a b c d e = simp append_assoc

-- five parts are put behind a text, where the last is
pub five-put : (result : Result (Unit {0}) AllocError)
    (old a b c d e one two three four new : List ℕ)
    → one ≡ old ++ a → two ≡ one ++ b → three ≡ two ++ c → four ≡ three ++ d
    → new ≡ (if is_ok result then four ++ e else four)
    → OnOk result (new ≡ old ++ (a ++ b ++ c ++ d ++ e))
five-put (Ok done) old a b c d e one two three four new p q r s last =
    last ∙ (ap (λ l. l ++ e) (s ∙ ap (λ l. l ++ d) (r ∙ ap (λ l. l ++ c) (q ∙ ap (λ l. l ++ b) p)))
    ∙ five old a b c d e)
five-put (Err why) old a b c d e one two three four new p q r s last = tt

-- the row with these texts of a live value is put
pub told-put : (result : Result (Unit {0}) AllocError) (old new : List ℕ) (space : Layout)
    (now : ℤ) (one : Listed) (held : Option Held) (value status time age : List ℕ)
    → AreLatestTexts now held value status time age
    → OnOk result (new ≡ old ++ front_row space one value status time age)
    → OnOk result (IsPut old new (IsRowOf space now one held))
told-put (Ok done) old new space now one held value status time age are puts = (
  front_row space one value status time age,
  puts,
  (value, status, time, age, are, refl),
)
told-put (Err why) old new space now one held value status time age are puts = tt

-- the rows within the vector that was asked for, or why there are none
pub rows-told : (result : Result (Unit {0}) PageFault) (s t u : Store) (space : Layout) (now : ℤ)
    (within : List ℕ) (old new : List ℕ)
    → Reads s t [] (λ R. IsLawfulContent R × IsVectorOf within R)
    → MatchResult result
    (λ done. Reads t u [] (λ R. IsVectorOf within R
    → IsPut old new (AreRows space now R (listed_variables space))))
    (λ why. Reads t u (page_faults why) (λ R. ⊤))
    → MatchResult result
    (λ done. Reads s u [] (λ R. IsPut old new (AreRows space now R (listed_variables space))))
    (λ why. Reads s u (page_faults why) (λ R. ⊤))
rows-told (Ok done) s t u space now within old new counts told =
    reads-both s t u [] (λ R. IsLawfulContent R × IsVectorOf within R)
    (λ R. IsVectorOf within R → IsPut old new (AreRows space now R (listed_variables space)))
    (λ R. IsPut old new (AreRows space now R (listed_variables space)))
    (λ R p q. q p.1) counts told
rows-told (Err why) s t u space now within old new counts stops =
    reads-both s t u (page_faults why) (λ R. IsLawfulContent R × IsVectorOf within R)
    (λ R. ⊤) (λ R. ⊤) (λ R p q. tt) counts stops

-- the page around rows that were put behind nothing
pub front-put : (overview : Overview) (R : Content) (empty rows slice old new : List ℕ)
    → empty ≡ [] → slice ≡ rows
    → IsPut empty rows (AreRows overview.settings.space overview.now R
    (listed_variables overview.settings.space))
    → IsPut old new (IsPageAround overview slice) → IsPut old new (IsFront overview R)
front-put overview R empty rows slice old new none is (lines, put, are) (page, whole, around) = (
  page,
  whole,
  (
    lines,
    are,
    subst (λ (t : List ℕ). IsPageAround overview t page)
        (is ∙ (put ∙ ap (λ t. t ++ lines) none)) around,
  ),
)

-- four parts, one behind the other
pub four-parts : (a b c d none one two three four : List ℕ) → none ≡ [] → one ≡ none ++ a
    → two ≡ one ++ b → three ≡ two ++ c → four ≡ three ++ d → four ≡ a ++ b ++ c ++ d
four-parts a b c d none one two three four n p q r s =
    s ∙ (ap (λ l. l ++ d) (r ∙ ap (λ l. l ++ c) (q ∙ ap (λ l. l ++ b) (p ∙ ap (λ l. l ++ a) n)))
    ∙ joined)
  where
    joined : [] ++ a ++ b ++ c ++ d ≡ a ++ b ++ c ++ d
    joined = refl
