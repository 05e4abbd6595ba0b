-- All that goes out of a history.
use Rattle.std.proofs.Common.{◌≡◌, ◌≢◌, ℕ, Bool, true, false, List, [], ◌∷◌, ◌++◌, suc, ◌≤◌, length, append-nil, append_assoc, Option, Some, None, Result, Ok, Err, inl, inr, refl, sym, ap, ◌∙◌, subst}
use Rattle.std.specs.Prelude.{◌⊎◌, flat_map, IsOk, IsErr}
use Rattle.std.specs.List.{concat}
use Rattle.std.specs.declared.alloc.AllocError.{AllocError}
use Rattle.std.proofs.lemmas.Grind.{flat_map-append}
use Rattle.std.proofs.lemmas.List.Folds.{concat-append}
use Rattle.http1.specs.Encoder.{piece_text, end_text, body_text}
use Rattle.records.specs.Contents.{Content, IsClosed}
use Rattle.archive.specs.declared.fault.StoreFault.{StoreFault}
use Rattle.history_report.specs.declared.fault.ReportFault.{ReportFault}
use Rattle.history_report.specs.declared.fault.ReportFault.TheVariants as fault
use Rattle.history_report.specs.declared.report.Form.TheVariants as form
use Rattle.history_report.specs.declared.report.Report.{Report}
use Rattle.history_report.specs.Reports.{IsHeader}
use Rattle.history_report.specs.Parts.{HasTextless, IsPrinted, IsPrintedStart, row_times}
use Rattle.history_report.specs.Portions.{AreFirstPortions, IsNextPortion, IsWhole, MayFollow, Remainder}
use Rattle.history_report.proofs.WholeLemmas.{first_broken, first_few, first_started, lacks_whole, portions_whole}
use Rattle.web_request.specs.declared.answer.Kind.{Kind}
use Rattle.web_request.specs.declared.answer.Kind.TheVariants.{Csv, Html}
use Rattle.web_request.specs.declared.page.Question.{Question}
use Rattle.web_connection.specs.Answers.{BeginsHistory, BeginsPage, GoesFurther, GoesOn, WebState, report_of}
use Rattle.web_connection.specs.Sent.{IsBrokenOff, IsSentInPart, IsSentWhole, MakesAll, MakesPiece, MakesPieces, SendsCsv, SendsPage, SendsReport}
use Rattle.web_connection.specs.Texts.{coding_of, history_head}
use Rattle.web_connection.specs.declared.sending.Sending.{Sending}
use Rattle.web_connection.specs.declared.step.WebStep.{WebStep}
use Rattle.web_connection.specs.declared.step.WebStep.TheVariants.{NeedsInput, Continues, Ended, Denied}
use Rattle.web_connection.proofs.AskingLemmas.{one-fault}

-- ---- frames

-- portions, each in its frame
abbrev framed : (chunked : Bool) → List (List ℕ) → List ℕ
framed chunked portions = flat_map (piece_text (coding_of chunked)) portions

-- a body is its pieces in their frames, and its end
body-framed : (chunked : Bool) (pieces : List (List ℕ))
    → body_text pieces (coding_of chunked) []
    ≡ framed chunked pieces ++ end_text (coding_of chunked) []
body-framed chunked [] = refl
body-framed true (piece ∷ pieces) =
    ap (λ l. piece_text (coding_of true) piece ++ l) (body-framed true pieces)
    ∙ sym (append_assoc (piece_text (coding_of true) piece) (framed true pieces)
    (end_text (coding_of true) []))
body-framed false (piece ∷ pieces) =
    ap (λ l. piece_text (coding_of false) piece ++ l) (body-framed false pieces)
    ∙ sym (append_assoc (piece_text (coding_of false) piece) (framed false pieces)
    (end_text (coding_of false) []))

-- one portion more
framed-more : (chunked : Bool) (portions : List (List ℕ)) (portion : List ℕ)
    → framed chunked portions ++ piece_text (coding_of chunked) portion
    ≡ framed chunked (portions ++ portion ∷ [])
framed-more chunked portions portion =
    sym (flat_map-append (piece_text (coding_of chunked)) portions (portion ∷ [])
    ∙ ap (λ l. framed chunked portions ++ l)
    (append-nil (piece_text (coding_of chunked) portion)))

-- ---- steps

-- what is left, as it is sent
abbrev of-left : (chunked : Bool) → Remainder → Sending
of-left chunked left = record { portions = left; chunked = chunked }

some-none : (sending : Sending) → Some sending ≢ None
some-none sending e = absurd cc

-- a step behind which more is to be sent
step-goes : (R S : Content) (chunked : Bool) (left : Remainder) (faults : List StoreFault)
    (piece : List ℕ) (sending : Option Sending) → MayFollow R S → sending ≢ None
    → GoesOn S (of-left chunked left) faults piece sending
    → (portion : List ℕ) × (next : Remainder) × IsNextPortion R left next portion (Ok true)
    × (piece ≡ piece_text (coding_of chunked) portion)
    × (sending ≡ Some (of-left chunked next))
step-goes R S chunked left faults piece sending later some
    (portion, next, Ok true, met, put, same, text, goes) =
    (portion, next, (S, later, put, same), text, goes)
step-goes R S chunked left faults piece sending later some
    (portion, next, Ok false, met, put, same, text, over) = absurd (some over)
step-goes R S chunked left faults piece sending later some
    (portion, next, Err why, met, put, same, text, over) = absurd (some over)

-- the first steps make the first portions
steps-go : (R : Content) (chunked : Bool) (was now : WebState) (left : Remainder)
    (pieces : List (List ℕ)) → was.sending ≡ Some (of-left chunked left)
    → MakesPieces R was now pieces
    → (behind : Remainder) × (portions : List (List ℕ))
    × AreFirstPortions R left behind portions × (now.sending ≡ Some (of-left chunked behind))
    × (concat pieces ≡ framed chunked portions) × (length portions ≡ length pieces)
steps-go R chunked was now left [] at is =
    (left, [], refl, ap (λ (w : WebState). w.sending) is ∙ at, refl, refl)
steps-go R chunked was now left (piece ∷ pieces) at
    (next, faults, (S, later, overview, (some, further)), others) =
    let (portion, more, made, text, goes) = step-goes R S chunked left faults piece next.sending
    later some (subst (λ (o : Option Sending).
    GoesFurther overview S was.came o faults piece next.sending) at further) in
    let (behind, portions, chain, ends, joined, many) = steps-go R chunked next now more pieces
    goes others in (
      behind,
      portion ∷ portions,
      (more, made, chain),
      ends,
      ap (λ l. l ++ concat pieces) text
          ∙ ap (λ l. piece_text (coding_of chunked) portion ++ l) joined,
      ap suc many,
    )

-- ---- the last step

module _ (R : Content) (chunked : Bool) (left : Remainder) (faults : List StoreFault)
    (piece : List ℕ) where
  -- it makes the last portion, and the end
  abbrev EndsWhole : Result WebStep AllocError → Type 0
  EndsWhole ended = (faults ≡ []) × IsOk ended × (portion : List ℕ) × (next : Remainder)
      × IsNextPortion R left next portion (Ok false)
      × (piece ≡ piece_text (coding_of chunked) portion ++ end_text (coding_of chunked) [])

  -- it makes a portion that is broken off, for a fault of the store or a value without a text
  abbrev EndsBroken : Type 0
  EndsBroken =
      (why : ReportFault) × (portion : List ℕ) × (next : Remainder)
      × IsNextPortion R left next portion (Err why)
      × (piece ≡ piece_text (coding_of chunked) portion)
      × ((faults ≢ []) ⊎ (why ≡ fault.NoText))

  -- or it is starved
  abbrev EndsSo : Result WebStep AllocError → Type 0
  EndsSo ended = EndsWhole ended ⊎ ((IsErr ended × (piece ≡ [])) ⊎ EndsBroken)

  last-goes : (S : Content) (sending : Option Sending) (ended : Result WebStep AllocError)
      → MayFollow R S → IsOk ended → sending ≡ None
      → GoesOn S (of-left chunked left) faults piece sending → EndsSo ended
  last-goes S sending ended later ok over
      (portion, next, Ok true, met, put, same, text, goes) =
      absurd (some-none (of-left chunked next) (sym goes ∙ over))
  last-goes S sending ended later ok over
      (portion, next, Ok false, met, put, same, text, goes) =
      inl (met, ok, portion, next, (S, later, put, same), text)
  last-goes S sending ended later ok over
      (portion, next, Err fault.NoText, met, put, same, text, goes) =
      inr (inr (fault.NoText, portion, next, (S, later, put, same), text, inr refl))
  last-goes S sending ended later ok over
      (portion, next, Err (fault.Store why), met, put, same, text, goes) =
      inr (inr (
        fault.Store why,
        portion,
        next,
        (S, later, put, same),
        text,
        inl (λ e. one-fault why (sym met ∙ e)),
      ))
  last-goes S sending ended later ok over
      (portion, next, Err fault.OutOfMemory, met, put, same, text, goes) = absurd text
  last-goes S sending ended later ok over
      (portion, next, Err fault.Write, met, put, same, text, goes) = absurd text

  last-step : (was now : WebState) (ended : Result WebStep AllocError)
      → was.sending ≡ Some (of-left chunked left) → MakesPiece R was now faults piece ended
      → ended ≢ Ok Continues → EndsSo ended
  last-step was now (Err starved) at (S, later, overview, none) other = inr (inl (refl, none))
  last-step was now (Ok NeedsInput) at (S, later, overview, waits) other =
      absurd (some-none (of-left chunked left) (sym at ∙ waits.0.0))
  last-step was now (Ok Continues) at (S, later, overview, goes) other = absurd (other refl)
  last-step was now (Ok Ended) at (S, later, overview, (over, further)) other =
      last-goes S now.sending (Ok Ended) later refl over (subst (λ (o : Option Sending).
      GoesFurther overview S was.came o faults piece now.sending) at further)
  last-step was now (Ok Denied) at (S, later, overview, (over, further)) other =
      last-goes S now.sending (Ok Denied) later refl over (subst (λ (o : Option Sending).
      GoesFurther overview S was.came o faults piece now.sending) at further)

-- ---- all of it

-- the head, and the portions behind it
all-sent : (kind : Kind) (chunked : Bool) (header begun last : List ℕ)
    (first pieces portions : List (List ℕ))
    → begun ≡ history_head kind chunked ++ piece_text (coding_of chunked) header
    → pieces ≡ first ++ last ∷ [] → concat first ≡ framed chunked portions
    → begun ++ concat pieces
    ≡ history_head kind chunked ++ (framed chunked (header ∷ portions) ++ last)
all-sent kind chunked header begun last first pieces portions begins is joined =
    let head = history_head kind chunked in
    let top = piece_text (coding_of chunked) header in
    ap (λ l. l ++ concat pieces) begins
    ∙ (append_assoc head top (concat pieces)
    ∙ (ap (λ l. head ++ (top ++ l)) (ap concat is
    ∙ (concat-append first (last ∷ [])
    ∙ (ap (λ l. l ++ (last ++ [])) joined
    ∙ ap (λ l. framed chunked portions ++ l) (append-nil last))))
    ∙ ap (λ l. head ++ l) (sym (append_assoc top (framed chunked portions) last))))

module _ (R : Content) (kind : Kind) (report : Report) (chunked : Bool) (header : List ℕ)
    (left : Remainder) (closed : IsClosed R) (top : IsHeader report header)
    (whole : IsWhole report left R) (behind : Remainder) (portions : List (List ℕ))
    (chain : AreFirstPortions R left behind portions) where
  -- what is sent up to the last step
  abbrev SentBefore : List ℕ → List ℕ
  SentBefore last = history_head kind chunked ++ (framed chunked (header ∷ portions) ++ last)

  whole-sent : (portion last : List ℕ) (next : Remainder)
      → IsNextPortion R behind next portion (Ok false)
      → last ≡ piece_text (coding_of chunked) portion ++ end_text (coding_of chunked) []
      → IsSentWhole kind chunked (IsPrinted R report) (SentBefore last)
  whole-sent portion last next made text =
      let pieces = (header ∷ portions) ++ portion ∷ [] in
      let end = end_text (coding_of chunked) [] in (
        pieces,
        portions_whole report R left header (portions ++ portion ∷ []) closed top whole
            (portions, portion, refl, behind, chain, next, made),
        ap (λ l. history_head kind chunked ++ l)
            (ap (λ l. framed chunked (header ∷ portions) ++ l) text
            ∙ (sym (append_assoc (framed chunked (header ∷ portions))
            (piece_text (coding_of chunked) portion) end)
            ∙ (ap (λ l. l ++ end) (framed-more chunked (header ∷ portions) portion)
            ∙ sym (body-framed chunked pieces)))),
      )

  broken-sent : (portion last : List ℕ) (next : Remainder) (why : ReportFault)
      → IsNextPortion R behind next portion (Err why)
      → last ≡ piece_text (coding_of chunked) portion
      → IsSentInPart kind chunked (IsPrintedStart R report) (SentBefore last)
  broken-sent portion last next why made text = (
    (header ∷ portions) ++ portion ∷ [],
    subst (IsPrintedStart R report)
        (append_assoc header (concat portions) portion
        ∙ ap (λ l. header ++ l) (sym (concat-append portions (portion ∷ [])
        ∙ ap (λ l. concat portions ++ l) (append-nil portion))))
        (first_broken report R left behind next header portions portion why closed top whole
        chain made),
    ap (λ l. history_head kind chunked ++ l)
        (ap (λ l. framed chunked (header ∷ portions) ++ l) text
        ∙ framed-more chunked (header ∷ portions) portion),
  )

  starved-sent : (last : List ℕ) → last ≡ []
      → IsSentInPart kind chunked (IsPrintedStart R report) (SentBefore last)
  starved-sent last none = (
    header ∷ portions,
    first_started report R left behind header portions closed top whole chain,
    ap (λ l. history_head kind chunked ++ l)
        (ap (λ l. framed chunked (header ∷ portions) ++ l) none
        ∙ append-nil (framed chunked (header ∷ portions))),
  )

  -- by how the last step ends
  sends-so : (last : List ℕ) (faults : List StoreFault) (ended : Result WebStep AllocError)
      → EndsSo R chunked behind faults last ended
      → SendsReport R kind report chunked (IsBrokenOff faults ended ⊎ HasTextless R report)
      faults ended (SentBefore last)
  sends-so last faults ended (inl (met, ok, portion, next, made, text)) =
      inl (met, ok, whole-sent portion last next made text)
  sends-so last faults ended (inr (inl (starved, none))) =
      inr (inl (inr starved), starved-sent last none)
  sends-so last faults ended (inr (inr (why, portion, next, made, text, inl met))) =
      inr (inl (inl met), broken-sent portion last next why made text)
  sends-so last faults ended (inr (inr (why, portion, next, made, text, inr lacks))) =
      inr (
        inr (lacks_whole report R left behind next portions portion closed whole chain
            (subst (λ (w : ReportFault). IsNextPortion R behind next portion (Err w)) lacks
            made)),
        broken-sent portion last next why made text,
      )

-- of any report
report_sent : (R : Content) (kind : Kind) (report : Report) (chunked : Bool) (begun : List ℕ)
    (web : WebState) (pieces : List (List ℕ)) (faults : List StoreFault)
    (ended : Result WebStep AllocError) → IsClosed R
    → BeginsHistory R kind report false chunked begun web.sending
    → MakesAll R web pieces faults ended
    → SendsReport R kind report chunked (IsBrokenOff faults ended ⊎ HasTextless R report) faults
    ended (begun ++ concat pieces)
report_sent R kind report chunked begun web pieces faults ended closed
    (header, top, left, whole, (begins, at))
    (first, last, is, now, steps, next, step, other) =
    let (behind, portions, chain, goes, joined, many) = steps-go R chunked web now left first at
    steps in
    subst (λ l. SendsReport R kind report chunked
    (IsBrokenOff faults ended ⊎ HasTextless R report) faults ended l)
    (sym (all-sent kind chunked header begun last first pieces portions begins is joined))
    (sends-so R kind report chunked header left closed top whole behind portions chain last
    faults ended (last-step R chunked behind faults last now next ended goes step other))

-- a report whose values all have a text
only-broken : (R : Content) (kind : Kind) (report : Report) (chunked : Bool) (B : Type 0)
    (faults : List StoreFault) (ended : Result WebStep AllocError) (sent : List ℕ)
    → (HasTextless R report → ⊥)
    → SendsReport R kind report chunked (B ⊎ HasTextless R report) faults ended sent
    → SendsReport R kind report chunked B faults ended sent
only-broken R kind report chunked B faults ended sent texts (inl all) = inl all
only-broken R kind report chunked B faults ended sent texts (inr (inl breaks, part)) =
    inr (breaks, part)
only-broken R kind report chunked B faults ended sent texts (inr (inr lacks, part)) =
    absurd (texts lacks)

-- a page
pub page_sent : (R : Content) (question : Question) (chunked : Bool) (begun : List ℕ)
    (web : WebState) (pieces : List (List ℕ)) (faults : List StoreFault)
    (ended : Result WebStep AllocError) → IsClosed R
    → BeginsPage R question false chunked begun web.sending → MakesAll R web pieces faults ended
    → SendsPage R question chunked faults ended (begun ++ concat pieces)
page_sent R question chunked begun web pieces faults ended closed (part, first, texts, begins)
    steps = (
      part,
      first,
      only-broken R Html part chunked (IsBrokenOff faults ended) faults ended
          (begun ++ concat pieces) texts
          (report_sent R Html part chunked begun web pieces faults ended closed begins steps),
    )

-- a history as CSV
pub csv_sent : (R : Content) (question : Question) (chunked : Bool) (begun : List ℕ)
    (web : WebState) (pieces : List (List ℕ)) (faults : List StoreFault)
    (ended : Result WebStep AllocError) → IsClosed R
    → BeginsHistory R Csv (report_of question form.Csv) false chunked begun web.sending
    → MakesAll R web pieces faults ended
    → SendsCsv R question chunked faults ended (begun ++ concat pieces)
csv_sent R question chunked begun web pieces faults ended =
    report_sent R Csv (report_of question form.Csv) chunked begun web pieces faults ended

-- how many steps there are
pub steps_few : (R : Content) (kind : Kind) (report : Report) (chunked : Bool) (begun : List ℕ)
    (web now : WebState) (pieces : List (List ℕ)) → IsClosed R
    → BeginsHistory R kind report false chunked begun web.sending
    → MakesPieces R web now pieces → length pieces ≤ length (row_times R report)
steps_few R kind report chunked begun web now pieces closed
    (header, top, left, whole, (begins, at)) steps =
    let (behind, portions, chain, goes, joined, many) = steps-go R chunked web now left pieces at
    steps in
    subst (λ n. n ≤ length (row_times R report)) many
    (first_few report R left behind portions closed whole chain)
