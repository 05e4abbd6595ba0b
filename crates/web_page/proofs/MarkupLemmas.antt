-- Between the tags of a row stand its texts.
use Rattle.std.proofs.Common.{◌≡◌, ℕ, ◌==◌, ◌||◌, Bool, true, false, cond, List, [], ◌∷◌, ◌++◌, append-nil, append_assoc, codes, unwrap_or, Some, None, refl, sym, ap, ◌∙◌}
use Rattle.std.specs.List.{list_any}
use Rattle.history_csv.specs.Nodes.{node_text}
use Rattle.history_report.specs.Html.{escaped, is_markup, data_cell, texts_within, texts_in}
use Rattle.history_report.proofs.HtmlLemmas.{escaped_plain}
use Rattle.ua_space.specs.declared.layout.Layout.{Layout}
use Rattle.ua_space.specs.Space.{value_type_at}
use Rattle.web_page.specs.declared.listing.Listed.{Listed}
use Rattle.web_page.specs.Values.{type_text, cut_text}
use Rattle.web_page.specs.Front.{history_link, anchor_cell, link_cell, front_row}

or_none : (a b : Bool) → (a || b) ≡ false → (a ≡ false) × (b ≡ false)
or_none true b e = absurd cc
or_none false b e = (refl, e)

other_than_end : (b : ℕ) → is_markup b ≡ false → (b == 62) ≡ false
other_than_end b none =
    (or_none (b == 60) (b == 62) (or_none (b == 60 || b == 62) (b == 34)
    (or_none (b == 60 || b == 62 || b == 34) (b == 39) none).0).0).1

other_than_start : (b : ℕ) → is_markup b ≡ false → (b == 60) ≡ false
other_than_start b none =
    (or_none (b == 60) (b == 62) (or_none (b == 60 || b == 62) (b == 34)
    (or_none (b == 60 || b == 62 || b == 34) (b == 39) none).0).0).0

-- a text without markup is passed over in a tag
in_tag : (text rest : List ℕ) → list_any is_markup text ≡ false
    → texts_within None (text ++ rest) ≡ texts_within None rest
in_tag [] rest none = refl
in_tag (b ∷ text) rest none =
    let parts = or_none (is_markup b) (list_any is_markup text) none in
    ap (λ t. cond t (texts_within (Some []) (text ++ rest)) (texts_within None (text ++ rest)))
    (other_than_end b parts.0)
    ∙ in_tag text rest parts.1

-- between tags it is the text up to the next one
between_tags : (first text rest : List ℕ) → list_any is_markup text ≡ false
    → texts_within (Some first) (text ++ 60 ∷ rest) ≡ (first ++ text) ∷ texts_within None rest
between_tags first [] rest none = ap (λ l. l ∷ texts_within None rest) (sym (append-nil first))
between_tags first (b ∷ text) rest none =
    let parts = or_none (is_markup b) (list_any is_markup text) none in
    ap (λ t. cond t (first ∷ texts_within None (text ++ 60 ∷ rest))
    (texts_within (Some (first ++ b ∷ [])) (text ++ 60 ∷ rest))) (other_than_start b parts.0)
    ∙ (between_tags (first ++ b ∷ []) text rest parts.1
    ∙ ap (λ l. l ∷ texts_within None rest) (append_assoc first (b ∷ []) text))

-- what a cell adds
cell_text : (text rest : List ℕ)
    → texts_within (Some []) (data_cell text ++ rest)
    ≡ [] ∷ escaped text ∷ texts_within (Some []) rest
cell_text text rest =
    ap (λ l. texts_within (Some []) l) (append_assoc (codes "<td>" ++ escaped text)
    (codes "</td>") rest
    ∙ append_assoc (codes "<td>") (escaped text) (codes "</td>" ++ rest))
    ∙ ap (λ l. [] ∷ l) (between_tags [] (escaped text) (codes "/td>" ++ rest) (escaped_plain text))

-- what a link adds
anchor_text : (address text rest : List ℕ)
    → texts_within (Some []) (anchor_cell address text ++ rest)
    ≡ [] ∷ [] ∷ escaped text ∷ [] ∷ texts_within (Some []) rest
anchor_text address text rest =
    let ends : List ℕ = escaped text ++ (codes "</a></td>" ++ rest) in
    ap (λ l. texts_within (Some []) l)
    (six (codes "<td><a href=\"") (escaped address) (codes "\">") (escaped text)
    (codes "</a></td>") rest)
    ∙ ap (λ l. [] ∷ [] ∷ l) (in_tag (escaped address) (codes "\">" ++ ends) (escaped_plain address)
    ∙ between_tags [] (escaped text) (codes "/a></td>" ++ rest) (escaped_plain text))
  where
    six : (a b c d e f : List ℕ) → a ++ b ++ c ++ d ++ e ++ f ≡ a ++ (b ++ (c ++ (d ++ (e ++ f))))
    six a b c d e f = simp append_assoc

-- the cells of a row, one behind the other
row_parts : (a c1 c2 c3 c4 c5 c6 c7 c8 e : List ℕ)
    → a ++ (c1 ++ c2 ++ c3 ++ c4) ++ (c5 ++ c6 ++ c7 ++ c8) ++ e
    ≡ a ++ (c1 ++ (c2 ++ (c3 ++ (c4 ++ (c5 ++ (c6 ++ (c7 ++ (c8 ++ e))))))))
row_parts a c1 c2 c3 c4 c5 c6 c7 c8 e = simp append_assoc

-- between the tags of a row stand its texts
pub row_texts : (space : Layout) (one : Listed) (value status time age : List ℕ)
    → texts_in (front_row space one value status time age)
    ≡ [] ∷ escaped (unwrap_or one.folder []) ∷ [] ∷ escaped one.name
    ∷ [] ∷ [] ∷ escaped (node_text one.node) ∷ []
    ∷ [] ∷ escaped (type_text (value_type_at space one.node))
    ∷ [] ∷ escaped (cut_text value) ∷ [] ∷ escaped status ∷ [] ∷ escaped time
    ∷ [] ∷ escaped age ∷ [] ∷ []
row_texts space one value status time age =
    let end = codes "</tr>\n" in
    let folder = unwrap_or one.folder [] in
    let id = node_text one.node in
    let type = type_text (value_type_at space one.node) in
    let shown = cut_text value in
    let eighth : List ℕ = data_cell age ++ end in
    let seventh : List ℕ = data_cell time ++ eighth in
    let sixth : List ℕ = data_cell status ++ seventh in
    let fifth : List ℕ = data_cell shown ++ sixth in
    let fourth : List ℕ = data_cell type ++ fifth in
    let third : List ℕ = link_cell one.node ++ fourth in
    let second : List ℕ = data_cell one.name ++ third in
    ap texts_in (row_parts (codes "<tr>") (data_cell folder) (data_cell one.name)
    (link_cell one.node) (data_cell type) (data_cell shown) (data_cell status) (data_cell time)
    (data_cell age) end)
    ∙ (cell_text folder second
    ∙ ap (λ l. [] ∷ escaped folder ∷ l) (cell_text one.name third
    ∙ ap (λ l. [] ∷ escaped one.name ∷ l) (anchor_text (history_link id) id fourth
    ∙ ap (λ l. [] ∷ [] ∷ escaped id ∷ [] ∷ l) (cell_text type fifth
    ∙ ap (λ l. [] ∷ escaped type ∷ l) (cell_text shown sixth
    ∙ ap (λ l. [] ∷ escaped shown ∷ l) (cell_text status seventh
    ∙ ap (λ l. [] ∷ escaped status ∷ l) (cell_text time eighth
    ∙ ap (λ l. [] ∷ escaped time ∷ l) (cell_text age end))))))))
