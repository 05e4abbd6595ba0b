-- All portions of a history are the whole of it, and the first ones its beginning.
use Rattle.std.proofs.Common.{◌≡◌, ℕ, ◌≤◌, Bool, true, false, List, [], ◌∷◌, ◌++◌, map, take, drop, length, if◌then◌else◌, append-nil, append_assoc, Result, Ok, Err, refl, sym, ap, ◌∙◌, subst, arith}
use Rattle.std.specs.List.{concat}
use Rattle.std.proofs.lemmas.List.{length-append, length-map, take-append-drop}
use Rattle.std.proofs.lemmas.List.Folds.{concat-append}
use Rattle.stamp.specs.Numbers.{number_of}
use Rattle.records.specs.Contents.{Content, IsClosed, AreCompatible, vec, cut}
use Rattle.records.specs.declared.shown.Held.{Held}
use Rattle.records.specs.declared.shown.Entry.{Entry}
use Rattle.records.proofs.ContentLemmas.{named_once, vec_bounds, vec_least}
use Rattle.records.proofs.CutLemmas.{cut_same}
use Rattle.archive.specs.Reading.{range_of, log_of}
use Rattle.archive.specs.declared.reading.Direction.TheVariants.{Forward}
use Rattle.history_csv.specs.Rows.{IsTextless, ShowsTextless}
use Rattle.history_report.specs.declared.fault.ReportFault.{ReportFault}
use Rattle.history_report.specs.declared.fault.ReportFault.TheVariants as fault
use Rattle.history_report.specs.declared.report.Report.{Report}
use Rattle.history_report.specs.Reports.{AreLines, IsChangeLine, IsHeader, IsValueLine, OfWhole, changes_asked, footer_of, values_asked}
use Rattle.history_report.specs.Paging.{IsPut}
use Rattle.history_report.specs.Parts.{HasFirstLines, HasOne, HasTextless, IsPrinted, IsPrintedPart, IsPrintedStart, row_times}
use Rattle.history_report.specs.Portions.{AreFirstPortions, ArePortions, BeginsPart, IsNextPortion, IsWhole, MayFollow, PutsChanges, PutsPortion, PutsValues, Remainder, changes_to_come, values_to_come}
use Rattle.history_report.proofs.LineLemmas.{lines-append}
use Rattle.history_report.proofs.TextlessLemmas.{one-behind, one-in, textless-is}

-- ---- portions of rows

module _ {X : Type 0} (IsLine : X → List ℕ → Type 0) where
  -- portions are a line of each of the first of these rows, and behind them more is left
  abbrev pub Leaves : (rest more : List X) → List (List ℕ) → Type 0
  Leaves rest more portions =
      (page : List X) × (page ++ more ≡ rest) × AreLines IsLine page (concat portions)
      × (length portions ≤ length page)

  leaves-none : (rest : List X) → Leaves rest rest []
  leaves-none rest = ([], refl, refl, omega arith)

  -- one before others
  some-length : (page : List X) → (page ≡ [] → ⊥) → 1 ≤ length page
  some-length [] some = absurd (some refl)
  some-length (x ∷ page) some = omega arith

  leaves-more : (page next rest more : List X) (text : List ℕ) (portions : List (List ℕ))
      → page ++ next ≡ rest → (page ≡ [] → ⊥) → IsPut [] text (AreLines IsLine page)
      → Leaves next more portions → Leaves rest more (text ∷ portions)
  leaves-more page next rest more text portions whole some (line, put, are)
      (others, left, lines, few) = (
        page ++ others,
        append_assoc page others more ∙ (ap (λ l. page ++ l) left ∙ whole),
        lines-append IsLine page others text (concat portions)
            (subst (AreLines IsLine page) (sym put) are) lines,
        (let one = some-length page some in omega (arith, few, one, length-append page others)),
      )

  -- portions are a line of each of these rows, and the footer
  abbrev pub AreJoined : (footer : List ℕ) → List X → List (List ℕ) → Type 0
  AreJoined footer xs portions =
      (lines : List ℕ) × AreLines IsLine xs lines × (concat portions ≡ lines ++ footer)

  -- the last one behind others
  leaves-joined : (footer : List ℕ) (xs more : List X) (first portions : List (List ℕ))
      (last : List ℕ) → Leaves xs more first → more ≡ [] → last ≡ footer
      → portions ≡ first ++ last ∷ [] → AreJoined footer xs portions
  leaves-joined footer xs more first portions last (page, whole, lines, few) none ends is = (
    concat first,
    subst (λ l. AreLines IsLine l (concat first))
        (sym (append-nil page) ∙ (ap (λ l. page ++ l) (sym none) ∙ whole)) lines,
    ap concat is
        ∙ (concat-append first (last ∷ [])
        ∙ ap (λ l. concat first ++ l) (append-nil last ∙ ends)),
  )

  -- lines of the first of these
  started : (header : List ℕ) (xs more : List X) (portions : List (List ℕ))
      → Leaves xs more portions → HasFirstLines IsLine header xs (header ++ concat portions)
  started header xs more portions (page, whole, lines, few) =
      (page, more, whole, concat portions, lines, refl)

  -- what was put before a portion was broken off
  abbrev BreaksBehind : List X → (text : List ℕ) → Type 0
  BreaksBehind more text =
      (page : List X) × (rest : List X) × (page ++ rest ≡ more) × AreLines IsLine page text

  breaks : (HasNoText : X → Type 0) (footer : List ℕ) (more later : List X) (text : List ℕ)
      (why : ReportFault) → PutsPortion IsLine HasNoText footer more later [] text (Err why)
      → BreaksBehind more text
  breaks HasNoText footer more later text fault.NoText (k, (line, put, are), at) = (
    take k more,
    drop k more,
    take-append-drop k more,
    subst (AreLines IsLine (take k more)) (sym put) are,
  )
  breaks HasNoText footer more later text fault.Write none = ([], more, refl, none)
  breaks HasNoText footer more later text fault.OutOfMemory none = ([], more, refl, none)
  breaks HasNoText footer more later text (fault.Store why) none = ([], more, refl, none)

  started-broken : (header : List ℕ) (xs more : List X) (portions : List (List ℕ))
      (text : List ℕ) → Leaves xs more portions → BreaksBehind more text
      → HasFirstLines IsLine header xs (header ++ concat portions ++ text)
  started-broken header xs more portions text (page, whole, lines, few)
      (last, rest, split, are) = (
        page ++ last,
        rest,
        append_assoc page last rest ∙ (ap (λ l. page ++ l) split ∙ whole),
        concat portions ++ text,
        lines-append IsLine page last (concat portions) text lines are,
        append_assoc header (concat portions) text,
      )

  -- there are as many rows at least
  leaves-few : (xs more : List X) (portions : List (List ℕ)) → Leaves xs more portions
      → length portions ≤ length xs
  leaves-few xs more portions (page, whole, lines, few) =
      let same = ap length whole in omega (arith, few, same, length-append page more)

-- ---- what is left while an archive learns

-- a live value that has no text
abbrev LacksValue : Held → Type 0
LacksValue held = IsTextless held.value.value

-- a modification that shows one
abbrev LacksChange : Entry → Type 0
LacksChange entry = ShowsTextless entry.value

-- the records that are shown are among those of a content
abbrev Covers : Remainder → Content → Type 0
Covers left R = (replica : ℕ) → number_of left.pages.within replica ≤ vec R replica

module _ (R : Content) (closed : IsClosed R) where
  -- the records that are shown stay
  shown : (left : Remainder) (S : Content) → Covers left R → MayFollow R S
      → cut S (number_of left.pages.within) ≡ cut R (number_of left.pages.within)
  shown left S covers (later, within) =
      cut_same S R (number_of left.pages.within) later closed same below covers
    where
      same : AreCompatible S R
      same r s h k e f = named_once S later.ordered r s h (within s k) e f

      rises : (o : ℕ) → vec R o ≤ vec S o
      rises o = vec_least R o (vec S o)
          (λ r h e. subst (λ x. r.number ≤ vec S x) e (vec_bounds S r (within r h)))

      below : (o : ℕ) → number_of left.pages.within o ≤ vec S o
      below o = omega (arith, covers o, rises o)

  values-stay : (left : Remainder) (S : Content) → Covers left R → MayFollow R S
      → values_to_come left S ≡ values_to_come left R
  values-stay left S covers later =
      ap (λ C. range_of C left.report.node left.pages.span.from left.pages.span.to Forward)
      (shown left S covers later)

  changes-stay : (left : Remainder) (S : Content) → Covers left R → MayFollow R S
      → changes_to_come left S ≡ changes_to_come left R
  changes-stay left S covers later =
      ap (λ C. log_of C left.report.node left.pages.span.from left.pages.span.to left.pages.after
      Forward) (shown left S covers later)

  -- a portion, by whether modifications are asked for
  abbrev PortionOf : (was now : Remainder) → Content → (text : List ℕ) → Result Bool ReportFault
      → (changes : Bool) → Type 0
  PortionOf was now S text result changes =
      elim changes [
        | true ↦ PutsChanges was.report (changes_to_come was S) (changes_to_come now S) [] text
            result
        | false ↦ PutsValues was.report (values_to_come was S) (values_to_come now S) [] text result
      ]

  -- the first portions of live values
  values-first : (left now : Remainder) (portions : List (List ℕ)) → Covers left R
      → left.report.changes ≡ false → AreFirstPortions R left now portions
      → Leaves (IsValueLine left.report) (values_to_come left R) (values_to_come now R) portions
      × (now.report ≡ left.report) × Covers now R
  values-first left now [] covers which is = (
    subst (λ (l : Remainder).
        Leaves (IsValueLine left.report) (values_to_come left R) (values_to_come l R) [])
        (sym is) (leaves-none (IsValueLine left.report) (values_to_come left R)),
    ap (λ (l : Remainder). l.report) is,
    subst (λ (l : Remainder). Covers l R) (sym is) covers,
  )
  values-first left now (text ∷ portions) covers which (next, (S, later, put, same), others) =
      let (page, whole, some, puts) = subst (PortionOf left next S text (Ok true)) which put in
      let covered : Covers next R =
      λ o. subst (λ (w : List ℕ). number_of w o ≤ vec R o) (sym same.1) (covers o) in
      let (leaves, reports, shown) = values-first next now portions covered
      (ap (λ (r : Report). r.changes) same.0 ∙ which) others in (
        leaves-more (IsValueLine left.report) page (values_to_come next R) (values_to_come left R)
            (values_to_come now R) text portions
            (ap (λ l. page ++ l) (sym (values-stay next S covered later))
            ∙ (whole ∙ values-stay left S covers later)) some puts
            (subst (λ (r : Report).
            Leaves (IsValueLine r) (values_to_come next R) (values_to_come now R) portions) same.0
            leaves),
        reports ∙ same.0,
        shown,
      )

  -- all of them
  values-joined : (left : Remainder) (portions : List (List ℕ)) → Covers left R
      → left.report.changes ≡ false → ArePortions R left portions
      → AreJoined (IsValueLine left.report) (footer_of left.report) (values_to_come left R) portions
  values-joined left portions covers which
      (first, last, is, now, chain, next, (S, later, put, same)) =
      let (leaves, reports, shown) = values-first left now first covers which chain in
      let (none, ends) = subst (PortionOf now next S last (Ok false))
      (ap (λ (r : Report). r.changes) reports ∙ which) put in
      leaves-joined (IsValueLine left.report) (footer_of left.report) (values_to_come left R)
      (values_to_come now R) first portions last leaves
      (sym (values-stay now S shown later) ∙ none) (ends ∙ ap footer_of reports) is

  -- those up to one that was broken off
  values-broken : (left now next : Remainder) (header : List ℕ) (portions : List (List ℕ))
      (text : List ℕ) (why : ReportFault) → Covers left R → left.report.changes ≡ false
      → AreFirstPortions R left now portions → IsNextPortion R now next text (Err why)
      → HasFirstLines (IsValueLine left.report) header (values_to_come left R)
      (header ++ concat portions ++ text)
  values-broken left now next header portions text why covers which chain
      (S, later, put, same) =
      let (leaves, reports, shown) = values-first left now portions covers which chain in
      let puts = subst (PortionOf now next S text (Err why))
      (ap (λ (r : Report). r.changes) reports ∙ which) put in
      started-broken (IsValueLine left.report) header (values_to_come left R) (values_to_come now R)
      portions text leaves (breaks (IsValueLine left.report) LacksValue (footer_of left.report)
      (values_to_come now R) (values_to_come next S) text why
      (subst (λ (l : List Held). PutsPortion (IsValueLine left.report) LacksValue
      (footer_of left.report) l (values_to_come next S) [] text (Err why))
      (values-stay now S shown later)
      (subst (λ (r : Report). PutsPortion (IsValueLine r) LacksValue (footer_of r)
      (values_to_come now S) (values_to_come next S) [] text (Err why)) reports puts)))

  -- one of what was left has no text, where one was broken off for it
  values-texts : (left now next : Remainder) (portions : List (List ℕ)) (text : List ℕ)
      → Covers left R → left.report.changes ≡ false → AreFirstPortions R left now portions
      → IsNextPortion R now next text (Err fault.NoText)
      → HasOne LacksValue (values_to_come left R)
  values-texts left now next portions text covers which chain (S, later, put, same) =
      let ((page, whole, lines, few), reports, shown) = values-first left now portions covers which
      chain in
      let (k, line, none) = subst (PortionOf now next S text (Err fault.NoText))
      (ap (λ (r : Report). r.changes) reports ∙ which) put in
      one-in LacksValue (page ++ values_to_come now R) (values_to_come left R) whole
      (one-behind LacksValue page (values_to_come now R)
      (one-in LacksValue (values_to_come now S) (values_to_come now R)
      (values-stay now S shown later) (k, none)))

  -- the first portions of modifications
  changes-first : (left now : Remainder) (portions : List (List ℕ)) → Covers left R
      → left.report.changes ≡ true → AreFirstPortions R left now portions
      → Leaves (IsChangeLine left.report) (changes_to_come left R) (changes_to_come now R) portions
      × (now.report ≡ left.report) × Covers now R
  changes-first left now [] covers which is = (
    subst (λ (l : Remainder).
        Leaves (IsChangeLine left.report) (changes_to_come left R) (changes_to_come l R) [])
        (sym is) (leaves-none (IsChangeLine left.report) (changes_to_come left R)),
    ap (λ (l : Remainder). l.report) is,
    subst (λ (l : Remainder). Covers l R) (sym is) covers,
  )
  changes-first left now (text ∷ portions) covers which (next, (S, later, put, same), others) =
      let (page, whole, some, puts) = subst (PortionOf left next S text (Ok true)) which put in
      let covered : Covers next R =
      λ o. subst (λ (w : List ℕ). number_of w o ≤ vec R o) (sym same.1) (covers o) in
      let (leaves, reports, shown) = changes-first next now portions covered
      (ap (λ (r : Report). r.changes) same.0 ∙ which) others in (
        leaves-more (IsChangeLine left.report) page (changes_to_come next R)
            (changes_to_come left R)
            (changes_to_come now R) text portions
            (ap (λ l. page ++ l) (sym (changes-stay next S covered later))
            ∙ (whole ∙ changes-stay left S covers later)) some puts
            (subst (λ (r : Report).
            Leaves (IsChangeLine r) (changes_to_come next R) (changes_to_come now R) portions)
            same.0
            leaves),
        reports ∙ same.0,
        shown,
      )

  -- all of them
  changes-joined : (left : Remainder) (portions : List (List ℕ)) → Covers left R
      → left.report.changes ≡ true → ArePortions R left portions
      → AreJoined (IsChangeLine left.report) (footer_of left.report)
      (changes_to_come left R) portions
  changes-joined left portions covers which
      (first, last, is, now, chain, next, (S, later, put, same)) =
      let (leaves, reports, shown) = changes-first left now first covers which chain in
      let (none, ends) = subst (PortionOf now next S last (Ok false))
      (ap (λ (r : Report). r.changes) reports ∙ which) put in
      leaves-joined (IsChangeLine left.report) (footer_of left.report) (changes_to_come left R)
      (changes_to_come now R) first portions last leaves
      (sym (changes-stay now S shown later) ∙ none) (ends ∙ ap footer_of reports) is

  -- those up to one that was broken off
  changes-broken : (left now next : Remainder) (header : List ℕ) (portions : List (List ℕ))
      (text : List ℕ) (why : ReportFault) → Covers left R → left.report.changes ≡ true
      → AreFirstPortions R left now portions → IsNextPortion R now next text (Err why)
      → HasFirstLines (IsChangeLine left.report) header (changes_to_come left R)
      (header ++ concat portions ++ text)
  changes-broken left now next header portions text why covers which chain
      (S, later, put, same) =
      let (leaves, reports, shown) = changes-first left now portions covers which chain in
      let puts = subst (PortionOf now next S text (Err why))
      (ap (λ (r : Report). r.changes) reports ∙ which) put in
      started-broken (IsChangeLine left.report) header (changes_to_come left R)
      (changes_to_come now R)
      portions text leaves (breaks (IsChangeLine left.report) LacksChange (footer_of left.report)
      (changes_to_come now R) (changes_to_come next S) text why
      (subst (λ (l : List Entry). PutsPortion (IsChangeLine left.report) LacksChange
      (footer_of left.report) l (changes_to_come next S) [] text (Err why))
      (changes-stay now S shown later)
      (subst (λ (r : Report). PutsPortion (IsChangeLine r) LacksChange (footer_of r)
      (changes_to_come now S) (changes_to_come next S) [] text (Err why)) reports puts)))

  -- one of what was left has no text, where one was broken off for it
  changes-texts : (left now next : Remainder) (portions : List (List ℕ)) (text : List ℕ)
      → Covers left R → left.report.changes ≡ true → AreFirstPortions R left now portions
      → IsNextPortion R now next text (Err fault.NoText)
      → HasOne LacksChange (changes_to_come left R)
  changes-texts left now next portions text covers which chain (S, later, put, same) =
      let ((page, whole, lines, few), reports, shown) = changes-first left now portions covers which
      chain in
      let (k, line, none) = subst (PortionOf now next S text (Err fault.NoText))
      (ap (λ (r : Report). r.changes) reports ∙ which) put in
      one-in LacksChange (page ++ changes_to_come now R) (changes_to_come left R) whole
      (one-behind LacksChange page (changes_to_come now R)
      (one-in LacksChange (changes_to_come now S) (changes_to_come now R)
      (changes-stay now S shown later) (k, none)))

-- ---- the whole

-- a text is a report, by whether modifications are asked for
abbrev PrintedBy : Content → Report → (header text : List ℕ) → (changes : Bool) → Type 0
PrintedBy R report header text changes =
    elim changes [
      | true ↦ OfWhole (IsChangeLine report) header (footer_of report) (changes_asked R report)
          (λ whole. text ≡ whole)
      | false ↦ OfWhole (IsValueLine report) header (footer_of report) (values_asked R report)
          (λ whole. text ≡ whole)
    ]

-- the header and all portions
pub portions_whole : (report : Report) (R : Content) (left : Remainder) (header : List ℕ)
    (portions : List (List ℕ)) → IsClosed R → IsHeader report header → IsWhole report left R
    → ArePortions R left portions → IsPrinted R report (header ++ concat portions)
portions_whole report R left header portions closed top (is, values, changes, all) are =
    (header, top, go report.changes refl)
  where
    covers : Covers left R
    covers o = let e = all o in omega (arith, e)

    go : (b : Bool) → report.changes ≡ b
        → PrintedBy R report header (header ++ concat portions) b
    go true which =
        let (lines, made, joined) = changes-joined R closed left portions covers
        (ap (λ (r : Report). r.changes) is ∙ which) are in (
          lines,
          subst (λ (l : List Entry). AreLines (IsChangeLine report) l lines) changes
              (subst (λ (r : Report). AreLines (IsChangeLine r) (changes_to_come left R) lines) is
              made),
          ap (λ l. header ++ l) (joined ∙ ap (λ (r : Report). lines ++ footer_of r) is)
              ∙ sym (append_assoc header lines (footer_of report)),
        )
    go false which =
        let (lines, made, joined) = values-joined R closed left portions covers
        (ap (λ (r : Report). r.changes) is ∙ which) are in (
          lines,
          subst (λ (l : List Held). AreLines (IsValueLine report) l lines) values
              (subst (λ (r : Report). AreLines (IsValueLine r) (values_to_come left R) lines) is
              made),
          ap (λ l. header ++ l) (joined ∙ ap (λ (r : Report). lines ++ footer_of r) is)
              ∙ sym (append_assoc header lines (footer_of report)),
        )

-- of a part that was begun
pub portions_part : (report : Report) (R : Content) (left : Remainder) (header : List ℕ)
    (portions : List (List ℕ)) → IsClosed R → BeginsPart report left R [] header
    → ArePortions R left portions → IsPrintedPart R report (header ++ concat portions)
portions_part report R left header portions closed
    (part, first, none, (line, put, top), whole) are = (
      part,
      first,
      portions_whole part R left header portions closed (subst (IsHeader part) (sym put) top) whole
          are,
    )

-- ---- the first portions

-- a text is a header and lines of the first of these rows
abbrev StartedOf : Report → List Held → List Entry → (header text : List ℕ) → (changes : Bool)
    → Type 0
StartedOf report held entries header text changes =
    elim changes [
      | true ↦ HasFirstLines (IsChangeLine report) header entries text
      | false ↦ HasFirstLines (IsValueLine report) header held text
    ]

-- a text is a report up to a line of it, by whether modifications are asked for
abbrev StartedBy : Content → Report → (header text : List ℕ) → (changes : Bool) → Type 0
StartedBy R report = StartedOf report (values_asked R report) (changes_asked R report)

-- there are so many rows at least
abbrev HasRowsBy : Content → Report → ℕ → (changes : Bool) → Type 0
HasRowsBy R report count changes =
    count ≤ length (if changes then map (λ e. e.time) (changes_asked R report)
    else map (λ h. h.time) (values_asked R report))

module _ (report : Report) (R : Content) (left : Remainder) (closed : IsClosed R)
    (all : IsWhole report left R) where
  covered : Covers left R
  covered o = let e = all.3 o in omega (arith, e)

  by-report : (b : Bool) → report.changes ≡ b → left.report.changes ≡ b
  by-report b which = ap (λ (r : Report). r.changes) all.0 ∙ which

  -- of what is left and of what is asked for
  started-as : (header text : List ℕ) (b : Bool)
      → StartedOf left.report (values_to_come left R) (changes_to_come left R) header text b
      → StartedBy R report header text b
  started-as header text true starts =
      subst (λ (l : List Entry). HasFirstLines (IsChangeLine report) header l text) all.2
      (subst (λ (r : Report). HasFirstLines (IsChangeLine r) header (changes_to_come left R) text)
      all.0 starts)
  started-as header text false starts =
      subst (λ (l : List Held). HasFirstLines (IsValueLine report) header l text) all.1
      (subst (λ (r : Report). HasFirstLines (IsValueLine r) header (values_to_come left R) text)
      all.0 starts)

  first-started : (now : Remainder) (header : List ℕ) (portions : List (List ℕ))
      → AreFirstPortions R left now portions → (b : Bool) → report.changes ≡ b
      → StartedBy R report header (header ++ concat portions) b
  first-started now header portions chain true which =
      let (leaves, reports, shown) = changes-first R closed left now portions covered
      (by-report true which) chain in
      started-as header (header ++ concat portions) true
      (started (IsChangeLine left.report) header (changes_to_come left R) (changes_to_come now R)
      portions leaves)
  first-started now header portions chain false which =
      let (leaves, reports, shown) = values-first R closed left now portions covered
      (by-report false which) chain in
      started-as header (header ++ concat portions) false
      (started (IsValueLine left.report) header (values_to_come left R) (values_to_come now R)
      portions leaves)

  broken-started : (now next : Remainder) (header : List ℕ) (portions : List (List ℕ))
      (text : List ℕ) (why : ReportFault) → AreFirstPortions R left now portions
      → IsNextPortion R now next text (Err why) → (b : Bool) → report.changes ≡ b
      → StartedBy R report header (header ++ concat portions ++ text) b
  broken-started now next header portions text why chain broken true which =
      started-as header (header ++ concat portions ++ text) true
      (changes-broken R closed left now next header portions text why covered
      (by-report true which) chain broken)
  broken-started now next header portions text why chain broken false which =
      started-as header (header ++ concat portions ++ text) false
      (values-broken R closed left now next header portions text why covered
      (by-report false which) chain broken)

  one-lacks : (now next : Remainder) (portions : List (List ℕ)) (text : List ℕ)
      → AreFirstPortions R left now portions → IsNextPortion R now next text (Err fault.NoText)
      → (b : Bool) → report.changes ≡ b → HasTextless R report
  one-lacks now next portions text chain broken true which =
      textless-is R report true which
      (one-in LacksChange (changes_to_come left R) (changes_asked R report) all.2
      (changes-texts R closed left now next portions text covered (by-report true which) chain
      broken))
  one-lacks now next portions text chain broken false which =
      textless-is R report false which
      (one-in LacksValue (values_to_come left R) (values_asked R report) all.1
      (values-texts R closed left now next portions text covered (by-report false which) chain
      broken))

  few-first : (now : Remainder) (portions : List (List ℕ))
      → AreFirstPortions R left now portions → (b : Bool) → report.changes ≡ b
      → HasRowsBy R report (length portions) b
  few-first now portions chain true which =
      let (leaves, reports, shown) = changes-first R closed left now portions covered
      (by-report true which) chain in
      let few = leaves-few (IsChangeLine left.report) (changes_to_come left R)
      (changes_to_come now R) portions leaves in
      let same = ap length all.2 in
      omega (arith, few, same, length-map (changes_asked R report) (λ (e : Entry). e.time))
  few-first now portions chain false which =
      let (leaves, reports, shown) = values-first R closed left now portions covered
      (by-report false which) chain in
      let few = leaves-few (IsValueLine left.report) (values_to_come left R)
      (values_to_come now R) portions leaves in
      let same = ap length all.1 in
      omega (arith, few, same, length-map (values_asked R report) (λ (h : Held). h.time))

-- the header and the first portions
pub first_started : (report : Report) (R : Content) (left now : Remainder) (header : List ℕ)
    (portions : List (List ℕ)) → IsClosed R → IsHeader report header → IsWhole report left R
    → AreFirstPortions R left now portions → IsPrintedStart R report (header ++ concat portions)
first_started report R left now header portions closed top all chain = (
  header,
  top,
  first-started report R left closed all now header portions chain
      report.changes refl,
)

-- up to one that was broken off
pub first_broken : (report : Report) (R : Content) (left now next : Remainder) (header : List ℕ)
    (portions : List (List ℕ)) (portion : List ℕ) (why : ReportFault) → IsClosed R
    → IsHeader report header → IsWhole report left R → AreFirstPortions R left now portions
    → IsNextPortion R now next portion (Err why)
    → IsPrintedStart R report (header ++ concat portions ++ portion)
first_broken report R left now next header portions portion why closed top all chain broken = (
  header,
  top,
  broken-started report R left closed all now next header portions portion why
      chain broken report.changes refl,
)

-- as many as there are rows at most
pub first_few : (report : Report) (R : Content) (left now : Remainder)
    (portions : List (List ℕ)) → IsClosed R → IsWhole report left R
    → AreFirstPortions R left now portions → length portions ≤ length (row_times R report)
first_few report R left now portions closed all chain =
    few-first report R left closed all now portions chain report.changes refl

-- where one is broken off for a value without a text, there is one
pub lacks_whole : (report : Report) (R : Content) (left now next : Remainder)
    (portions : List (List ℕ)) (portion : List ℕ) → IsClosed R → IsWhole report left R
    → AreFirstPortions R left now portions
    → IsNextPortion R now next portion (Err fault.NoText) → HasTextless R report
lacks_whole report R left now next portions portion closed all chain broken =
    one-lacks report R left closed all now next portions portion chain broken
    report.changes refl

-- none is broken off for a value without a text
pub texts_whole : (report : Report) (R : Content) (left now next : Remainder)
    (portions : List (List ℕ)) (portion : List ℕ) → IsClosed R → (HasTextless R report → ⊥)
    → IsWhole report left R → AreFirstPortions R left now portions
    → IsNextPortion R now next portion (Err fault.NoText) → ⊥
texts_whole report R left now next portions portion closed texts all chain broken =
    texts (lacks_whole report R left now next portions portion closed all chain broken)

pub texts_part : (report : Report) (R : Content) (left now next : Remainder) (header : List ℕ)
    (portions : List (List ℕ)) (portion : List ℕ) → IsClosed R
    → BeginsPart report left R [] header → AreFirstPortions R left now portions
    → IsNextPortion R now next portion (Err fault.NoText) → ⊥
texts_part report R left now next header portions portion closed
    (part, first, texts, puts, whole) =
    texts_whole part R left now next portions portion closed texts whole
