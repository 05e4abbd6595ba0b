-- A page's drawing, put together, and what holds of its bytes.
use Rattle.std.proofs.Common.{◌≡◌, ℕ, ◌&&◌, true, false, List, [], ◌∷◌, ◌++◌, append-nil, append_assoc, codes, refl, sym, ap, ◌∙◌, subst, inl, inr}
use Rattle.std.proofs.lemmas.List.Folds.{list_all-append}
use Rattle.history_report.specs.declared.report.Report.{Report}
use Rattle.history_report.specs.Html.{is_path_byte, figure_begin, edge, IsPath, IsEdge, AreEdges, IsFigureLine, AreMarks, IsPlot, IsFigure, IsDrawing}
use Rattle.history_report.specs.Paging.{IsPut}

-- ---- a path

-- a path and one more of its bytes
pub path_byte : (text : List ℕ) (b : ℕ) → is_path_byte b ≡ true → IsPath text
    → IsPath (text ++ b ∷ [])
path_byte text b is path =
    list_all-append is_path_byte text (b ∷ [])
    ∙ (ap (λ t. t && (is_path_byte b && true)) path ∙ ap (λ t. t && true) is)

-- ---- a drawing

-- two parts behind a text
behind_two : (old a b one new : List ℕ) → one ≡ old ++ a → new ≡ one ++ b → new ≡ old ++ (a ++ b)
behind_two old a b one new p q = q ∙ (ap (λ l. l ++ b) p ∙ append_assoc old a b)

-- three parts behind a text
behind_three : (old a b c one two new : List ℕ) → one ≡ old ++ a → two ≡ one ++ b → new ≡ two ++ c
    → new ≡ old ++ (a ++ b ++ c)
behind_three old a b c one two new p q r =
    r
    ∙ (ap (λ l. l ++ c) (q ∙ (ap (λ l. l ++ b) p ∙ append_assoc old a b))
    ∙ append_assoc old (a ++ b) c)

-- a text at an edge
pub edge-put : (old new text : List ℕ) → new ≡ old ++ edge text → IsPut old new IsEdge
edge-put old new text put = (edge text, put, (text, refl))

pub edges-put : (old one two three new : List ℕ) → IsPut old one IsEdge → IsPut one two IsEdge
    → IsPut two three IsEdge → IsPut three new IsEdge → IsPut old new AreEdges
edges-put old one two three new (a, p, (high, is_high)) (b, q, (low, is_low))
    (c, r, (first, is_first)) (d, s, (last, is_last)) = (
      a ++ b ++ c ++ d,
      behind_two old (a ++ b ++ c) d three new (behind_three old a b c one two three p q r) s,
      (
        high,
        low,
        first,
        last,
        ap (λ l. l ++ b ++ c ++ d) is_high
            ∙ (ap (λ l. edge high ++ l ++ c ++ d) is_low
            ∙ (ap (λ l. edge high ++ edge low ++ l ++ d) is_first
            ∙ ap (λ l. edge high ++ edge low ++ edge first ++ l) is_last)),
      ),
    )

pub line-put : (old one two new path : List ℕ) → IsPath path → one ≡ old ++ figure_begin
    → two ≡ one ++ path → new ≡ two ++ codes "\"/>" → IsPut old new IsFigureLine
line-put old one two new path is p q r = (
  figure_begin ++ path ++ codes "\"/>",
  behind_three old figure_begin path (codes "\"/>") one two new p q r,
  (path, is, refl),
)

-- no marks
pub unmarked-put : (old : List ℕ) → IsPut old old AreMarks
unmarked-put old = ([], sym (append-nil old), inl refl)

pub marks-put : (old one two new path : List ℕ) → IsPath path
    → one ≡ old ++ codes "<path class=\"old\" d=\"" → two ≡ one ++ path
    → new ≡ two ++ codes "\"><title>Corrected</title></path>" → IsPut old new AreMarks
marks-put old one two new path is p q r = (
  codes "<path class=\"old\" d=\"" ++ path ++ codes "\"><title>Corrected</title></path>",
  behind_three old (codes "<path class=\"old\" d=\"") path
      (codes "\"><title>Corrected</title></path>") one two new p q r,
  inr (path, is, refl),
)

pub plot-put : (old one two new : List ℕ) → IsPut old one IsFigureLine → IsPut one two AreMarks
    → new ≡ two ++ codes "</svg>\n" → IsPut old new IsPlot
plot-put old one two new (line, p, is_line) (marks, q, are) r = (
  line ++ marks ++ codes "</svg>\n",
  behind_three old line marks (codes "</svg>\n") one two new p q r,
  (line, marks, is_line, are, refl),
)

pub figure-put : (old one two new : List ℕ) → IsPut old one IsPlot → IsPut one two AreEdges
    → new ≡ two ++ codes "\n</figure>\n" → IsPut old new IsFigure
figure-put old one two new (line, p, is_line) (edges, q, are) r = (
  line ++ edges ++ codes "\n</figure>\n",
  behind_three old line edges (codes "\n</figure>\n") one two new p q r,
  (line, edges, is_line, are, refl),
)

-- no drawing
pub nothing-put : (report : Report) (old : List ℕ) → IsPut old old (IsDrawing report)
nothing-put report old = ([], sym (append-nil old), inl refl)

pub drawing-put : (report : Report) (old new : List ℕ) → report.changes ≡ false
    → IsPut old new IsFigure → IsPut old new (IsDrawing report)
drawing-put report old new values (shown, put, is) = (shown, put, inr (values, is))

-- what was put behind nothing
pub drawing-of : (report : Report) (empty drawing slice : List ℕ) → empty ≡ []
    → IsPut empty drawing (IsDrawing report) → slice ≡ drawing → IsDrawing report slice
drawing-of report empty drawing slice none (shown, put, is) same =
    subst (IsDrawing report) (sym (same ∙ (put ∙ ap (λ l. l ++ shown) none))) is
