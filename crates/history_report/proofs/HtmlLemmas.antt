-- What a text in a page says, and that no byte of it is markup.
use Rattle.std.proofs.Common.{◌≡◌, ℕ, ◌==◌, ◌||◌, ◌&&◌, Bool, true, false, cond, List, [], ◌∷◌, ◌++◌, append-nil, append_assoc, codes, Some, None, refl, sym, ap, ◌∙◌, subst}
use Rattle.std.specs.List.{flat_map, list_any, list_all}
use Rattle.std.proofs.lemmas.Bool.{eqb-true}
use Rattle.std.proofs.lemmas.List.Folds.{list_any-append}
use Rattle.history_report.specs.Html.{is_forbidden, printable_after, entity, escaped, is_markup, is_path_byte, IsPath, has_forbidden, said, data_cell, page_row, texts_within, texts_in}

or_none : (a b : Bool) → (a || b) ≡ false → (a ≡ false) × (b ≡ false)
or_none true b e = absurd cc
or_none false b e = (refl, e)

-- ---- a byte

-- what holds of the five that have a name, and of each other byte, holds of all
by_name : (P : ℕ → Type 0) → P 38 → P 60 → P 62 → P 34 → P 39
    → ((b : ℕ) → (b == 38) ≡ false → (b == 60) ≡ false → (b == 62) ≡ false → (b == 34) ≡ false
    → (b == 39) ≡ false → P b) → (b : ℕ) → P b
by_name P amp lt gt quot apos other b = at38 (b == 38) refl
  where
    at39 : (t : Bool) → (b == 39) ≡ t → (b == 38) ≡ false → (b == 60) ≡ false
        → (b == 62) ≡ false → (b == 34) ≡ false → P b
    at39 true e n m l k = subst P (sym (eqb-true b 39 e)) apos
    at39 false e n m l k = other b n m l k e

    at34 : (t : Bool) → (b == 34) ≡ t → (b == 38) ≡ false → (b == 60) ≡ false
        → (b == 62) ≡ false → P b
    at34 true e n m l = subst P (sym (eqb-true b 34 e)) quot
    at34 false e n m l = at39 (b == 39) refl n m l e

    at62 : (t : Bool) → (b == 62) ≡ t → (b == 38) ≡ false → (b == 60) ≡ false → P b
    at62 true e n m = subst P (sym (eqb-true b 62 e)) gt
    at62 false e n m = at34 (b == 34) refl n m e

    at60 : (t : Bool) → (b == 60) ≡ t → (b == 38) ≡ false → P b
    at60 true e n = subst P (sym (eqb-true b 60 e)) lt
    at60 false e n = at62 (b == 62) refl n e

    at38 : (t : Bool) → (b == 38) ≡ t → P b
    at38 true e = subst P (sym (eqb-true b 38 e)) amp
    at38 false e = at60 (b == 60) refl e

-- what an entity says, and what follows it
entity_said : (rest : List ℕ) (b : ℕ) → said (entity b ++ rest) ≡ b ∷ said rest
entity_said rest = by_name (λ b. said (entity b ++ rest) ≡ b ∷ said rest) refl refl refl refl refl
    (λ b n m l k j. rw (n, m, l, k, j, n) refl)

-- an entity has no markup
entity_plain : (b : ℕ) → list_any is_markup (entity b) ≡ false
entity_plain = by_name (λ b. list_any is_markup (entity b) ≡ false) refl refl refl refl refl
    (λ b n m l k j. rw (n, m, l, k, j, m, l, k, j) refl)

-- ---- a text

said_all : (text : List ℕ) → said (flat_map entity text) ≡ text
said_all [] = refl
said_all (b ∷ text) = entity_said (flat_map entity text) b ∙ ap (λ l. b ∷ l) (said_all text)

pub escaped_said : (text : List ℕ) → said (escaped text) ≡ printable_after 0 text
escaped_said text = said_all (printable_after 0 text)

-- a text without what is forbidden stays
printable_same : (before : ℕ) (text : List ℕ) → has_forbidden before text ≡ false
    → printable_after before text ≡ text
printable_same before [] none = refl
printable_same before (b ∷ text) none =
    let parts = or_none (is_forbidden before b) (has_forbidden b text) none in
    ap (λ t. cond t (cond (before == 194) 191 63) b ∷ printable_after b text) parts.0
    ∙ ap (λ l. b ∷ l) (printable_same b text parts.1)

pub escaped_same : (text : List ℕ) → has_forbidden 0 text ≡ false → said (escaped text) ≡ text
escaped_same text none = escaped_said text ∙ printable_same 0 text none

all_plain : (text : List ℕ) → list_any is_markup (flat_map entity text) ≡ false
all_plain [] = refl
all_plain (b ∷ text) =
    list_any-append is_markup (entity b) (flat_map entity text)
    ∙ (ap (λ t. t || list_any is_markup (flat_map entity text)) (entity_plain b) ∙ all_plain text)

pub escaped_plain : (text : List ℕ) → list_any is_markup (escaped text) ≡ false
escaped_plain text = all_plain (printable_after 0 text)

-- ---- a path

both_of : (a b : Bool) → (a && b) ≡ true → (a ≡ true) × (b ≡ true)
both_of true b e = (refl, e)
both_of false b e = absurd cc

-- a byte of a path is no markup
step_plain : (b : ℕ) → is_path_byte b ≡ true → is_markup b ≡ false
step_plain = by_name (λ b. is_path_byte b ≡ true → is_markup b ≡ false) (λ e. refl)
    (λ e. absurd cc) (λ e. absurd cc) (λ e. absurd cc) (λ e. absurd cc)
    (λ b n m l k j e. rw (m, l, k, j) refl)

pub path_plain : (path : List ℕ) → IsPath path → list_any is_markup path ≡ false
path_plain [] is = refl
path_plain (b ∷ path) is =
    let parts = both_of (is_path_byte b) (list_all is_path_byte path) is in
    ap (λ t. t || list_any is_markup path) (step_plain b parts.0) ∙ path_plain path parts.1

-- ---- a row

other_than_end : (b : ℕ) → is_markup b ≡ false → (b == 62) ≡ false
other_than_end b none =
    (or_none (b == 60) (b == 62) (or_none (b == 60 || b == 62) (b == 34)
    (or_none (b == 60 || b == 62 || b == 34) (b == 39) none).0).0).1

other_than_start : (b : ℕ) → is_markup b ≡ false → (b == 60) ≡ false
other_than_start b none =
    (or_none (b == 60) (b == 62) (or_none (b == 60 || b == 62) (b == 34)
    (or_none (b == 60 || b == 62 || b == 34) (b == 39) none).0).0).0

-- a text without markup is passed over in a tag
in_tag : (text rest : List ℕ) → list_any is_markup text ≡ false
    → texts_within None (text ++ rest) ≡ texts_within None rest
in_tag [] rest none = refl
in_tag (b ∷ text) rest none =
    let parts = or_none (is_markup b) (list_any is_markup text) none in
    ap (λ t. cond t (texts_within (Some []) (text ++ rest)) (texts_within None (text ++ rest)))
    (other_than_end b parts.0)
    ∙ in_tag text rest parts.1

-- between tags it is the text up to the next one
between_tags : (first text rest : List ℕ) → list_any is_markup text ≡ false
    → texts_within (Some first) (text ++ 60 ∷ rest) ≡ (first ++ text) ∷ texts_within None rest
between_tags first [] rest none = ap (λ l. l ∷ texts_within None rest) (sym (append-nil first))
between_tags first (b ∷ text) rest none =
    let parts = or_none (is_markup b) (list_any is_markup text) none in
    ap (λ t. cond t (first ∷ texts_within None (text ++ 60 ∷ rest))
    (texts_within (Some (first ++ b ∷ [])) (text ++ 60 ∷ rest))) (other_than_start b parts.0)
    ∙ (between_tags (first ++ b ∷ []) text rest parts.1
    ∙ ap (λ l. l ∷ texts_within None rest) (append_assoc first (b ∷ []) text))

-- what a cell adds
cell_text : (text rest : List ℕ)
    → texts_within (Some []) (data_cell text ++ rest) ≡ [] ∷ escaped text ∷ texts_within (Some []) rest
cell_text text rest =
    ap (λ l. texts_within (Some []) l) (append_assoc (codes "<td>" ++ escaped text) (codes "</td>") rest
    ∙ append_assoc (codes "<td>") (escaped text) (codes "</td>" ++ rest))
    ∙ ap (λ l. [] ∷ l) (between_tags [] (escaped text) (codes "/td>" ++ rest) (escaped_plain text))

-- between the tags of a row stand its fields
pub value_texts : (node time value status : List ℕ)
    → texts_in (page_row (node ∷ time ∷ value ∷ status ∷ []))
    ≡ [] ∷ escaped time ∷ [] ∷ escaped value ∷ [] ∷ escaped status ∷ [] ∷ []
value_texts node time value status =
    let end = codes "</tr>\n" in
    ap texts_in (three_cells (codes "<tr>") (data_cell time) (data_cell value) (data_cell status) end)
    ∙ (cell_text time (data_cell value ++ (data_cell status ++ end))
    ∙ ap (λ l. [] ∷ escaped time ∷ l) (cell_text value (data_cell status ++ end)
    ∙ ap (λ l. [] ∷ escaped value ∷ l) (cell_text status end)))
  where
    three_cells : (a b c d e : List ℕ) → a ++ b ++ c ++ d ++ e ≡ a ++ (b ++ (c ++ (d ++ e)))
    three_cells a b c d e = simp append_assoc

pub change_texts : (node time value status change changed user : List ℕ)
    → texts_in (page_row (node ∷ time ∷ value ∷ status ∷ change ∷ changed ∷ user ∷ []))
    ≡ [] ∷ escaped time ∷ [] ∷ escaped value ∷ [] ∷ escaped status ∷ [] ∷ escaped change
    ∷ [] ∷ escaped changed ∷ [] ∷ escaped user ∷ [] ∷ []
change_texts node time value status change changed user =
    let end = codes "</tr>\n" in
    let cells : List ℕ = data_cell time ++ (data_cell value ++ (data_cell status ++ (data_cell change
    ++ (data_cell changed ++ (data_cell user ++ end))))) in
    ap texts_in (six_cells (codes "<tr class=\"") (escaped change) (codes "\">") (data_cell time)
    (data_cell value) (data_cell status) (data_cell change) (data_cell changed) (data_cell user) end)
    ∙ (in_tag (escaped change) (codes "\">" ++ cells) (escaped_plain change)
    ∙ (cell_text time (data_cell value ++ (data_cell status ++ (data_cell change
    ++ (data_cell changed ++ (data_cell user ++ end)))))
    ∙ ap (λ l. [] ∷ escaped time ∷ l) (cell_text value (data_cell status ++ (data_cell change
    ++ (data_cell changed ++ (data_cell user ++ end))))
    ∙ ap (λ l. [] ∷ escaped value ∷ l) (cell_text status (data_cell change
    ++ (data_cell changed ++ (data_cell user ++ end)))
    ∙ ap (λ l. [] ∷ escaped status ∷ l) (cell_text change (data_cell changed
    ++ (data_cell user ++ end))
    ∙ ap (λ l. [] ∷ escaped change ∷ l) (cell_text changed (data_cell user ++ end)
    ∙ ap (λ l. [] ∷ escaped changed ∷ l) (cell_text user end)))))))
  where
    six_cells : (a b c d e f g h i j : List ℕ) → a ++ b ++ c ++ d ++ e ++ f ++ g ++ h ++ i ++ j
        ≡ a ++ (b ++ (c ++ (d ++ (e ++ (f ++ (g ++ (h ++ (i ++ j))))))))
    six_cells a b c d e f g h i j = simp append_assoc
