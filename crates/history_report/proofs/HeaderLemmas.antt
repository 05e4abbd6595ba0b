-- The part of a page above its rows, put together.
use Rattle.std.proofs.Common.{◌≡◌, ℕ, List, [], ◌++◌, append_assoc, codes, ℤ, Option, Some, None, refl, sym, ap, ◌∙◌, subst, if◌then◌else◌}
use Rattle.form_urlencoded.specs.Form.{byte_serialize}
use Rattle.history_csv.specs.Nodes.{node_text}
use Rattle.history_csv.specs.Rows.{value_names, change_names, time_of}
use Rattle.history_text.specs.Times.{IsTimeText}
use Rattle.history_report.specs.declared.report.Next.{Next}
use Rattle.history_report.specs.declared.report.Report.{Report}
use Rattle.history_report.specs.Html.{escaped, head_row, page_begin, page_middle, table_top, changes_field, next_link, IsBound, IsStretch, IsField, IsNextAddress, IsNextLink, IsDrawing, IsPageHeader}
use Rattle.history_report.specs.Paging.{IsPut}

pub bound-put : (word old one new moment shown : List ℕ) (bound : Option ℤ) (time : ℤ)
    → bound ≡ Some time → one ≡ old ++ word → new ≡ one ++ escaped moment → moment ≡ shown
    → IsTimeText (time_of time) shown → IsPut old new (IsBound word bound)
bound-put word old one new moment shown bound time there first last same is = (
  word ++ escaped moment,
  last ∙ (ap (λ l. l ++ escaped moment) first ∙ append_assoc old word (escaped moment)),
  subst (λ (b : Option ℤ). IsBound word b (word ++ escaped moment)) (sym there)
      (moment, refl, subst (IsTimeText (time_of time)) (sym same) is),
)

-- three parts behind a text
behind_three : (old a b c one two new : List ℕ) → one ≡ old ++ a → two ≡ one ++ b → new ≡ two ++ c
    → new ≡ old ++ (a ++ b ++ c)
behind_three old a b c one two new p q r =
    r
    ∙ (ap (λ l. l ++ c) (q ∙ (ap (λ l. l ++ b) p ∙ append_assoc old a b))
    ∙ append_assoc old (a ++ b) c)

pub stretch-put : (report : Report) (old one two new : List ℕ)
    → one ≡ old ++ (if report.changes then codes "Modifications" else codes "Values")
    → IsPut one two (IsBound (codes " from ") report.from)
    → IsPut two new (IsBound (codes " before ") report.to) → IsPut old new (IsStretch report)
stretch-put report old one two new word (from, behind, is_from) (to, last, is_to) =
    let name = if report.changes then codes "Modifications" else codes "Values" in (
      name ++ from ++ to,
      behind_three old name from to one two new word behind last,
      (from, to, refl, is_from, is_to),
    )

five : (o a b c d e : List ℕ) → o ++ a ++ b ++ c ++ d ++ e ≡ o ++ (a ++ b ++ c ++ d ++ e)
five o a b c d e = simp append_assoc

four : (m d o n b : List ℕ) → m ++ d ++ o ++ n ++ b ≡ m ++ (d ++ (o ++ n ++ b))
four m d o n b = simp append_assoc

parts : (a s p l d t : List ℕ) → a ++ (s ++ (p ++ (l ++ (d ++ t)))) ≡ a ++ s ++ p ++ l ++ d ++ t
parts a s p l d t = simp append_assoc

-- two parts behind a text
behind_two : (old a b one new : List ℕ) → one ≡ old ++ a → new ≡ one ++ b → new ≡ old ++ (a ++ b)
behind_two old a b one new p q = q ∙ (ap (λ l. l ++ b) p ∙ append_assoc old a b)

-- what stands above the stretch
abbrev above : (name : List ℕ) → List ℕ
above name = page_begin ++ escaped name ++ page_middle ++ escaped name ++ codes "</h1>\n<p>"

module _ (report : Report) (name drawing old top middle ended linked new : List ℕ)
    (named : name ≡ node_text report.node) (drawn : IsDrawing report drawing)
    (first : top ≡ old ++ page_begin ++ escaped name ++ page_middle ++ escaped name
    ++ codes "</h1>\n<p>") where
  pub header-put : IsPut top middle (IsStretch report) → ended ≡ middle ++ codes "</p>\n"
      → IsPut ended linked (IsNextLink report)
      → new ≡ linked ++ drawing ++ codes "<table>\n<thead>\n"
      ++ head_row (if report.changes then change_names else value_names)
      ++ codes "</thead>\n<tbody>\n"
      → IsPut old new (IsPageHeader report)
  header-put (stretch, behind, is) ends (link, leads, is_link) last =
      let heading = codes "</h1>\n<p>" in
      let end = codes "</p>\n" in
      let opens = codes "<table>\n<thead>\n" in
      let names = head_row (if report.changes then change_names else value_names) in
      let begins = codes "</thead>\n<tbody>\n" in
      let table = drawing ++ table_top report in (
        above name ++ (stretch ++ (end ++ (link ++ table))),
        behind_two old (above name) (stretch ++ (end ++ (link ++ table))) top new
            (first ∙ five old page_begin (escaped name) page_middle (escaped name) heading)
            (behind_two top stretch (end ++ (link ++ table)) middle new behind
            (behind_two middle end (link ++ table) ended new ends
            (behind_two ended link table linked new leads
            (last ∙ four linked drawing opens names begins)))),
        (
          stretch,
          link,
          drawing,
          is,
          is_link,
          drawn,
          parts (above name) stretch end link drawing (table_top report)
              ∙ ap (λ n. above n ++ stretch ++ end ++ link ++ drawing ++ table_top report) named,
        ),
      )

-- ---- the link to the next page

pub field-put : (word old one new moment shown : List ℕ) (bound : Option ℤ) (time : ℤ)
    → bound ≡ Some time → one ≡ old ++ word → new ≡ one ++ byte_serialize moment
    → moment ≡ shown → IsTimeText (time_of time) shown → IsPut old new (IsField word bound)
field-put word old one new moment shown bound time there first last same is = (
  word ++ byte_serialize moment,
  behind_two old word (byte_serialize moment) one new first last,
  subst (λ (b : Option ℤ). IsField word b (word ++ byte_serialize moment)) (sym there)
      (moment, refl, subst (IsTimeText (time_of time)) (sym same) is),
)

address_parts : (a n f t c : List ℕ) → a ++ (n ++ (f ++ (t ++ c))) ≡ a ++ n ++ f ++ t ++ c
address_parts a n f t c = simp append_assoc

pub address-put : (report : Report) (next : Next) (name old one two three four new : List ℕ)
    → name ≡ node_text report.node → one ≡ old ++ codes "/history?node="
    → two ≡ one ++ byte_serialize name → IsPut two three (IsField (codes "&from=") (Some next.from))
    → IsPut three four (IsField (codes "&to=") next.to)
    → new ≡ four ++ changes_field report → IsPut old new (IsNextAddress report next)
address-put report next name old one two three four new named first node (from, p, is_from)
    (to, q, is_to) last =
    let begin = codes "/history?node=" in
    let id = byte_serialize name in
    let end = changes_field report in (
      begin ++ (id ++ (from ++ (to ++ end))),
      behind_two old begin (id ++ (from ++ (to ++ end))) one new first
          (behind_two one id (from ++ (to ++ end)) two new node
          (behind_two two from (to ++ end) three new p (behind_two three to end four new q last))),
      (
        from,
        to,
        is_from,
        is_to,
        address_parts begin id from to end
            ∙ ap (λ n. begin ++ byte_serialize n ++ from ++ to ++ end) named,
      ),
    )

link_parts : (a b c : List ℕ) → a ++ (b ++ c) ≡ a ++ b ++ c
link_parts a b c = simp append_assoc

-- the link to the next page, where there is one
abbrev IsLinkOf : Report → Option Next → List ℕ → Type 0
IsLinkOf report next link =
    elim next [
      | None ↦ link ≡ []
      | Some n ↦ (address : List ℕ) × (link ≡ next_link address) × IsNextAddress report n address
    ]

pub link-put : (report : Report) (next : Next) (none address shown old one two new : List ℕ)
    → report.next ≡ Some next → none ≡ [] → IsPut none address (IsNextAddress report next)
    → shown ≡ address → one ≡ old ++ codes "<p><a href=\"" → two ≡ one ++ escaped shown
    → new ≡ two ++ codes "\">Next page</a></p>\n" → IsPut old new (IsNextLink report)
link-put report next none address shown old one two new there empty (text, put, is) same first
    middle last =
    let begin = codes "<p><a href=\"" in
    let end = codes "\">Next page</a></p>\n" in
    let whole : shown ≡ text = same ∙ (put ∙ ap (λ l. l ++ text) empty) in (
      next_link shown,
      behind_two old begin (escaped shown ++ end) one new first
          (behind_two one (escaped shown) end two new middle last)
          ∙ ap (λ l. old ++ l) (link_parts begin (escaped shown) end),
      subst (λ (o : Option Next). IsLinkOf report o (next_link shown)) (sym there)
          (shown, refl, subst (IsNextAddress report next) (sym whole) is),
    )
