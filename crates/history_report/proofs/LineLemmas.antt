-- Lines one behind the other.
use Rattle.std.proofs.Common.{◌≡◌, ℕ, ◌+◌, ◌≤◌, ◌<◌, List, [], ◌∷◌, ◌++◌, take, get_or, length, append-nil, append_assoc, Option, Result, Ok, Err, refl, sym, ap, ◌∙◌, subst, inl, inr}
use Rattle.std.specs.Io.KnownBytes.{Appends}
use Rattle.std.proofs.KnownBytes.{Appends-nil, Appends-trans}
use Rattle.std.proofs.lemmas.List.{take_more, take_all}
use Rattle.std.proofs.lemmas.Option.{slice_get-get_or}
use Rattle.counted_io.specs.Bytes.{AppendsPart}
use Rattle.counted_io.proofs.Parts.{part-second}
use Rattle.history_text.specs.declared.fault.TextFault.{TextFault}
use Rattle.history_report.specs.declared.fault.ReportFault.{ReportFault}
use Rattle.history_report.specs.declared.fault.ReportFault.TheVariants as fault
use Rattle.history_report.specs.Reports.{AreLines}
use Rattle.history_report.specs.Paging.{IsPut, IsWhy, SendsText, SendsFirst, SendsBefore, SentUpTo, SendsLines, fault_told}

pub lines-append : {X : Type 0} (IsLine : X → List ℕ → Type 0) (xs ys : List X) (s t : List ℕ)
    → AreLines IsLine xs s → AreLines IsLine ys t → AreLines IsLine (xs ++ ys) (s ++ t)
lines-append IsLine [] ys s t none more = subst (λ l. AreLines IsLine ys (l ++ t)) (sym none) more
lines-append IsLine (x ∷ xs) ys s t (line, rest, same, one, others) more = (
  line,
  rest ++ t,
  ap (λ l. l ++ t) same ∙ append_assoc line rest t,
  one,
  lines-append IsLine xs ys rest t others more,
)

pub lines-one : {X : Type 0} (IsLine : X → List ℕ → Type 0) (x : X) (line : List ℕ) → IsLine x line
    → AreLines IsLine (x ∷ []) line
lines-one IsLine x line one = (line, [], sym (append-nil line), one, refl)

-- ---- lines that are sent

module _ {X : Type 0} (IsLine : X → List ℕ → Type 0) (HasNoText : X → Type 0) (xs : List X)
    (before : Option (List ℕ)) where
  pub sent-none : (text : List ℕ) → text ≡ [] → SentUpTo IsLine (take 0 xs) text before before
  sent-none text none = ([], [], refl, sym none, Appends-nil before)

  -- one line more is made
  sent-more : (old new : List ℕ) (now : Option (List ℕ)) (i : ℕ) (d : X) → i < length xs
      → SentUpTo IsLine (take i xs) old before now → IsPut old new (IsLine (get_or xs i d))
      → SentUpTo IsLine (take (i + 1) xs) new before now
  sent-more old new now i d lt (lines, sent, are, same, out) (line, appended, one) = (
    lines ++ line,
    sent,
    subst (λ l. AreLines IsLine l (lines ++ line)) (sym (take_more xs i d lt))
        (lines-append IsLine (take i xs) (get_or xs i d ∷ []) lines line are
        (lines-one IsLine (get_or xs i d) line one)),
    ap (λ l. l ++ line) same
        ∙ (append_assoc sent old line ∙ ap (λ l. sent ++ l) (sym appended)),
    out,
  )

  -- more of what is made is sent
  sent-on : (ys : List X) (text rest : List ℕ) (now after : Option (List ℕ))
      → SentUpTo IsLine ys text before now → SendsFirst text rest now after (Ok tt)
      → SentUpTo IsLine ys rest before after
  sent-on ys text rest now after (lines, sent, are, same, out) (first, parts, appended) = (
    lines,
    sent ++ first,
    are,
    same ∙ (ap (λ l. sent ++ l) parts ∙ sym (append_assoc sent first rest)),
    Appends-trans before now after sent first out appended,
  )

  -- a first part of what is made is sent
  sent-part : (k : ℕ) (text : List ℕ) (now after : Option (List ℕ))
      → SentUpTo IsLine (take k xs) text before now → AppendsPart now after text
      → SendsLines IsLine HasNoText xs before after (Err fault.Write)
  sent-part k text now after (lines, sent, are, same, out) part = (
    refl,
    k,
    lines,
    are,
    subst (AppendsPart before after) (sym same)
        (part-second before now after sent text out part),
    λ e. absurd cc,
  )

  -- one line more is made, and a text that is long sent
  pub sent-next : (old new rest : List ℕ) (now after : Option (List ℕ)) (i : ℕ) (d : X)
      → i < length xs → SentUpTo IsLine (take i xs) old before now
      → IsPut old new (IsLine (get_or xs i d)) → SendsFirst new rest now after (Ok tt)
      → SentUpTo IsLine (take (i + 1) xs) rest before after
  sent-next old new rest now after i d lt up put sends =
      sent-on (take (i + 1) xs) new rest now after (sent-more old new now i d lt up put) sends

  -- one line more is made, and a text that is long breaks off
  pub sent-broken : (old new rest : List ℕ) (now after : Option (List ℕ)) (i : ℕ) (d : X)
      (why : ReportFault) → i < length xs → SentUpTo IsLine (take i xs) old before now
      → IsPut old new (IsLine (get_or xs i d)) → SendsFirst new rest now after (Err why)
      → SendsLines IsLine HasNoText xs before after (Err why)
  sent-broken old new rest now after i d why lt up put (write, part) =
      subst (λ w. SendsLines IsLine HasNoText xs before after (Err w)) (sym write)
      (sent-part (i + 1) new now after (sent-more old new now i d lt up put) part)

  -- all of what is made is sent
  sent-whole : (ys : List X) (text : List ℕ) (now after : Option (List ℕ))
      → SentUpTo IsLine ys text before now → Appends now after text
      → (lines : List ℕ) × AreLines IsLine ys lines × Appends before after lines
  sent-whole ys text now after (lines, sent, are, same, out) appended = (
    lines,
    are,
    subst (Appends before after) (sym same) (Appends-trans before now after sent text out appended),
  )

  -- the lines of all are sent, or a first part of them
  pub sent-all : (i : ℕ) (text : List ℕ) (now after : Option (List ℕ))
      (result : Result (Unit {0}) ReportFault) → length xs ≤ i
      → SentUpTo IsLine (take i xs) text before now → SendsText text now after result
      → SendsLines IsLine HasNoText xs before after result
  sent-all i text now after (Ok done) all up sends =
      sent-whole xs text now after
      (subst (λ l. SentUpTo IsLine l text before now) (take_all i xs all) up) sends
  sent-all i text now after (Err why) all up (write, part) =
      subst (λ w. SendsLines IsLine HasNoText xs before after (Err w)) (sym write)
      (sent-part i text now after up part)

  all-sent : (after : Option (List ℕ)) (lines : List ℕ) → Appends before after lines
      → AppendsPart before after lines
  all-sent after lines sent = (lines, [], sym (append-nil lines), sent)

  -- all lines before one that isn't put are sent, or a first part of them
  pub sent-stops : (i : ℕ) (d : X) (text new : List ℕ) (now after : Option (List ℕ))
      (why : TextFault) (result : Result (Unit {0}) ReportFault) → i < length xs
      → SentUpTo IsLine (take i xs) text before now → new ≡ text
      → IsWhy (HasNoText (get_or xs i d)) why
      → SendsBefore (fault_told why) new now after result
      → SendsLines IsLine HasNoText xs before after result
  sent-stops i d text new now after why result lt up kept because (inr (write, part)) =
      subst (SendsLines IsLine HasNoText xs before after) (sym write)
      (sent-part i text now after up (subst (AppendsPart now after) kept part))
  sent-stops i d text new now after why result lt up kept because (inl (is, appended)) =
      let (lines, are, whole) =
      sent-whole (take i xs) text now after up (subst (Appends now after) kept appended) in
      subst (SendsLines IsLine HasNoText xs before after) (sym is)
      (elim because [
        | inl memory ↦ subst (λ w. SendsLines IsLine HasNoText xs before after (Err (fault_told w)))
            (sym memory) (refl, i, lines, are, all-sent after lines whole, λ e. absurd cc)
        | inr none ↦ subst (λ w. SendsLines IsLine HasNoText xs before after (Err (fault_told w)))
            (sym none.1) (
              refl,
              i,
              lines,
              are,
              all-sent after lines whole,
              λ e. (whole, (get_or xs i d, slice_get-get_or xs i d lt, none.0)),
            )
      ])
