-- How a history is written as a page of HTML.
use Rattle.std.specs.Prelude.{◌≡◌, ◌⊎◌, ℕ, ℤ, ◌==◌, ◌||◌, ◌&&◌, not, nat_lt, nat_le, Bool, true, false, List, [], ◌∷◌, ◌++◌, codes, drop, Option, Some, None, if◌then◌else◌}
use Rattle.std.specs.List.{flat_map, list_all}
use Rattle.std.specs.Str.{bytes_eq}
use Rattle.form_urlencoded.specs.Form.{byte_serialize}
use Rattle.history_csv.specs.Nodes.{node_text}
use Rattle.history_csv.specs.Rows.{value_names, change_names, time_of}
use Rattle.history_text.specs.Times.{IsTimeText}
use Rattle.history_report.specs.declared.report.Next.{Next}
use Rattle.history_report.specs.declared.report.Report.{Report}

-- ---- a text in a page

-- a byte behind this one is of a control that HTML forbids, or reads as another: one below 32 but
-- for tabs and line feeds, 127, or the second byte of U+0080 to U+009F
abbrev pub is_forbidden : (before b : ℕ) → Bool
is_forbidden before b =
    before == 194 && nat_lt b 160 || b == 127
    || nat_lt b 32 && not (b == 9 || b == 10)

-- a byte behind this one as a page has it: in place of a forbidden one a question mark, or an
-- inverted one, whose first byte stands before
abbrev pub printable_byte : (before b : ℕ) → ℕ
printable_byte before b =
    if is_forbidden before b then (if before == 194 then 191 else 63) else b

-- the bytes behind this one as a page has them
abbrev pub printable_after : (before : ℕ) → List ℕ → List ℕ
printable_after before [] = []
printable_after before (b ∷ text) = printable_byte before b ∷ printable_after b text

-- a byte as HTML writes it: as an entity, where it might end a text
abbrev pub entity : ℕ → List ℕ
entity b =
    if b == 38 then codes "&amp;"
    else if b == 60 then codes "&lt;"
    else if b == 62 then codes "&gt;"
    else if b == 34 then codes "&quot;"
    else if b == 39 then codes "&#39;"
    else b ∷ []

-- a text in a page
abbrev pub escaped : List ℕ → List ℕ
escaped text = flat_map entity (printable_after 0 text)

-- ---- rows

-- a field as a cell
abbrev pub data_cell : List ℕ → List ℕ
data_cell text = codes "<td>" ++ escaped text ++ codes "</td>"

-- the fields of a row, but for the node, as a row of the page; a modification's is of the class of
-- what was done
abbrev pub page_row : List (List ℕ) → List ℕ
page_row (node ∷ time ∷ value ∷ status ∷ []) =
    codes "<tr>" ++ data_cell time ++ data_cell value ++ data_cell status ++ codes "</tr>\n"
page_row (node ∷ time ∷ value ∷ status ∷ change ∷ changed ∷ user ∷ []) =
    codes "<tr class=\"" ++ escaped change ++ codes "\">"
    ++ data_cell time ++ data_cell value ++ data_cell status
    ++ data_cell change ++ data_cell changed ++ data_cell user ++ codes "</tr>\n"
page_row _ = []

-- the name of a column
abbrev pub head_cell : List ℕ → List ℕ
head_cell name = codes "<th scope=\"col\">" ++ name ++ codes "</th>"

-- the names of the columns, but for the node
abbrev pub head_row : List (List ℕ) → List ℕ
head_row names = codes "<tr>" ++ flat_map head_cell (drop 1 names) ++ codes "</tr>\n"

-- ---- above and below the rows

-- up to the title: the page is of UTF-8, runs nothing, and loads nothing
unfoldable pub page_begin : List ℕ
page_begin =
    codes "<!DOCTYPE html>\n<html lang=\"en\">\n<head>\n<meta charset=\"utf-8\">\n"
    ++ codes "<meta http-equiv=\"Content-Security-Policy\""
    ++ codes " content=\"default-src 'none'; style-src 'unsafe-inline'\">\n"
    ++ codes "<meta name=\"viewport\" content=\"width=device-width, initial-scale=1\">\n"
    ++ codes "<title>"

-- how the page looks: its texts, its table, and on paper
unfoldable pub page_style : List ℕ
page_style =
    codes ":root{color-scheme:light dark}\nbody{margin:2rem;font-family:system-ui,sans-serif}\n"
    ++ codes "table{border-collapse:collapse;font-variant-numeric:tabular-nums}\n"
    ++ codes "th,td{padding:.25rem .75rem;text-align:left;vertical-align:top}\n"
    ++ codes "th{position:sticky;top:0;background:Canvas;box-shadow:0 1px}\n"
    ++ codes "h1,td{white-space:pre-wrap;overflow-wrap:anywhere}\ntr{break-inside:avoid}\n"
    ++ codes "tr:nth-child(even) td{background:#8882}\n@media print{th{position:static}}\n"

-- how cells look: times stand on one line, and modifications behind a bar, whose color says what
-- was done
unfoldable pub cell_style : List ℕ
cell_style =
    codes "td:first-child,td:nth-child(5){white-space:nowrap}\n"
    ++ codes ".insert td:first-child{box-shadow:inset .25rem 0 #2a7}\n"
    ++ codes ".replace td:first-child,.update td:first-child{box-shadow:inset .25rem 0 #d90}\n"
    ++ codes ".delete td:first-child{box-shadow:inset .25rem 0 #c33}\n"
    ++ codes ".delete td:nth-child(2){text-decoration:line-through}\n"

-- the color of a drawing's marks, and where the texts of its edges stand: the highest and the
-- lowest number at its left, the first and the last time below it
unfoldable pub edge_style : List ℕ
edge_style =
    codes ".old{stroke:#d90}\n"
    ++ codes "span:nth-of-type(1){grid-area:1/1;text-align:right}\n"
    ++ codes "span:nth-of-type(2){grid-area:2/1;text-align:right;align-self:end}\n"
    ++ codes "span:nth-of-type(3){grid-area:3/2}\n"
    ++ codes "span:nth-of-type(4){grid-area:3/3;text-align:right}\n"

-- how a drawing looks: a line of one width, in the color of texts
unfoldable pub figure_style : List ℕ
figure_style =
    codes "figure{display:grid;grid-template-columns:auto 1fr 1fr;gap:.25rem .75rem;"
    ++ codes "max-width:60rem}\nfigure{margin:1rem 0;font-size:.85rem;"
    ++ codes "font-variant-numeric:tabular-nums;break-inside:avoid}\n"
    ++ codes "svg{grid-area:1/2/3/4;width:100%;height:12rem;overflow:visible}\n"
    ++ codes "path{fill:none;stroke:currentColor;stroke-width:1.5px;stroke-linecap:round}\n"
    ++ codes "path{stroke-linejoin:round;vector-effect:non-scaling-stroke}\n" ++ edge_style

-- from the title to the heading
abbrev pub page_middle : List ℕ
page_middle =
    codes "</title>\n<style>\n" ++ page_style ++ cell_style ++ figure_style
    ++ codes "</style>\n</head>\n<body>\n<h1>"

-- a moment that is asked for behind a word, nothing where none is
abbrev pub IsBound : (word : List ℕ) → Option ℤ → List ℕ → Type 0
IsBound word bound text =
    elim bound [
      | None ↦ text ≡ []
      | Some time ↦
          (moment : List ℕ) × (text ≡ word ++ escaped moment) × IsTimeText (time_of time) moment
    ]

-- what is shown, and of which stretch
abbrev pub IsStretch : Report → List ℕ → Type 0
IsStretch report text =
    (from : List ℕ) × (to : List ℕ)
    × (text ≡ (if report.changes then codes "Modifications" else codes "Values") ++ from ++ to)
    × IsBound (codes " from ") report.from from × IsBound (codes " before ") report.to to

-- a moment as a field of a query, behind this word; nothing where there is none
abbrev pub IsField : (word : List ℕ) → Option ℤ → List ℕ → Type 0
IsField word bound text =
    elim bound [
      | None ↦ text ≡ []
      | Some time ↦ (moment : List ℕ) × (text ≡ word ++ byte_serialize moment)
          × IsTimeText (time_of time) moment
    ]

-- what an address begins by: it asks for the history of this node
abbrev pub history_address : Report → List ℕ
history_address report = codes "/history?node=" ++ byte_serialize (node_text report.node)

-- the field of a query that asks for modifications, where a report does
abbrev pub changes_field : Report → List ℕ
changes_field report = if report.changes then codes "&changes=true" else []

-- the address of the page that has this stretch of a report
abbrev pub IsNextAddress : Report → Next → List ℕ → Type 0
IsNextAddress report next address =
    (from : List ℕ) × (to : List ℕ) × IsField (codes "&from=") (Some next.from) from
    × IsField (codes "&to=") next.to to
    × (address ≡ history_address report ++ from ++ to ++ changes_field report)

-- the link to this address
abbrev pub next_link : (address : List ℕ) → List ℕ
next_link address =
    codes "<p><a href=\"" ++ escaped address ++ codes "\">Next page</a></p>\n"

-- the link to the page that a report leads to, nothing where it leads to none
abbrev pub IsNextLink : Report → List ℕ → Type 0
IsNextLink report link =
    elim report.next [
      | None ↦ link ≡ []
      | Some next ↦ (address : List ℕ) × (link ≡ next_link address)
          × IsNextAddress report next address
    ]

-- the byte is of a path: a digit, a blank, or the letter of a step: M to a place, H across, V along
abbrev pub is_path_byte : ℕ → Bool
is_path_byte b = nat_le 48 b && nat_le b 57 || b == 32 || b == 77 || b == 72 || b == 86

-- the text has the bytes of a path and no others
abbrev pub IsPath : List ℕ → Type 0
IsPath text = list_all is_path_byte text ≡ true

-- what a drawing begins by, up to its path
unfoldable pub figure_begin : List ℕ
figure_begin =
    codes "<figure>\n<svg viewBox=\"0 0 999 1000\" preserveAspectRatio=\"none\" role=\"img\""
    ++ codes " aria-label=\"The numbers over time\"><path d=\""

-- a text at an edge of a drawing
abbrev pub edge : List ℕ → List ℕ
edge text = codes "<span>" ++ escaped text ++ codes "</span>"

-- such a text
abbrev pub IsEdge : List ℕ → Type 0
IsEdge shown = (text : List ℕ) × (shown ≡ edge text)

-- the texts at the edges: the highest and the lowest number, the first and the last time
abbrev pub AreEdges : List ℕ → Type 0
AreEdges shown =
    (high : List ℕ) × (low : List ℕ) × (first : List ℕ) × (last : List ℕ)
    × (shown ≡ edge high ++ edge low ++ edge first ++ edge last)

-- the line of a drawing: its path
abbrev pub IsFigureLine : List ℕ → Type 0
IsFigureLine shown = (path : List ℕ) × IsPath path × (shown ≡ figure_begin ++ path ++ codes "\"/>")

-- the marks of a drawing, where values were corrected: nothing, or a path of its own
abbrev pub AreMarks : List ℕ → Type 0
AreMarks shown =
    (shown ≡ []) ⊎ ((path : List ℕ) × IsPath path
    × (shown ≡ codes "<path class=\"old\" d=\"" ++ path
    ++ codes "\"><title>Corrected</title></path>"))

-- a drawing up to the texts at its edges: its line and its marks
abbrev pub IsPlot : List ℕ → Type 0
IsPlot shown =
    (line : List ℕ) × (marks : List ℕ) × IsFigureLine line × AreMarks marks
    × (shown ≡ line ++ marks ++ codes "</svg>\n")

-- a drawing: its line and its marks, and the texts at its edges
abbrev pub IsFigure : List ℕ → Type 0
IsFigure shown =
    (plot : List ℕ) × (edges : List ℕ) × IsPlot plot × AreEdges edges
    × (shown ≡ plot ++ edges ++ codes "\n</figure>\n")

-- nothing, or of a page of values a drawing
abbrev pub IsDrawing : Report → List ℕ → Type 0
IsDrawing report drawing =
    (drawing ≡ []) ⊎ ((report.changes ≡ false) × IsFigure drawing)

-- a page up to the stretch: the node as its title and its heading
abbrev pub page_top : Report → List ℕ
page_top report =
    page_begin ++ escaped (node_text report.node) ++ page_middle
    ++ escaped (node_text report.node) ++ codes "</h1>\n<p>"

-- a page's table up to its rows: the columns' names
abbrev pub table_top : Report → List ℕ
table_top report =
    codes "<table>\n<thead>\n" ++ head_row (if report.changes then change_names else value_names)
    ++ codes "</thead>\n<tbody>\n"

-- the part of a page above its rows: the node, the stretch, the link to the next page, a drawing,
-- the columns' names
abbrev pub IsPageHeader : Report → List ℕ → Type 0
IsPageHeader report header =
    (stretch : List ℕ) × (link : List ℕ) × (drawing : List ℕ) × IsStretch report stretch
    × IsNextLink report link × IsDrawing report drawing
    × (header
    ≡ page_top report ++ stretch ++ codes "</p>\n" ++ link ++ drawing ++ table_top report)

-- the part of a page below its rows: by it a reader sees that the page is whole
abbrev pub page_footer : List ℕ
page_footer =
    codes "</tbody>\n</table>\n<p>Here the page ends. Without this line it isn't whole.</p>\n"
    ++ codes "</body>\n</html>\n"

-- ---- what a page's text says

-- the byte might end a text: it begins or ends a tag, or an attribute's value
abbrev pub is_markup : ℕ → Bool
is_markup b = b == 60 || b == 62 || b == 34 || b == 39

-- the text behind this byte has a control that HTML forbids
abbrev pub has_forbidden : (before : ℕ) → List ℕ → Bool
has_forbidden before [] = false
has_forbidden before (b ∷ text) = is_forbidden before b || has_forbidden b text

-- the byte that an entity names
abbrev pub named : List ℕ → List ℕ
named name =
    if bytes_eq name (codes "amp") then 38 ∷ []
    else if bytes_eq name (codes "lt") then 60 ∷ []
    else if bytes_eq name (codes "gt") then 62 ∷ []
    else if bytes_eq name (codes "quot") then 34 ∷ []
    else if bytes_eq name (codes "#39") then 39 ∷ []
    else []

-- the text that HTML says: an entity, from its ampersand to its semicolon, says the byte that it
-- names; within one, its name so far is known
abbrev pub said_within : (name : Option (List ℕ)) → List ℕ → List ℕ
said_within _ [] = []
said_within None (b ∷ html) =
    if b == 38 then said_within (Some []) html else b ∷ said_within None html
said_within (Some name) (b ∷ html) =
    if b == 59 then named name ++ said_within None html
    else said_within (Some (name ++ b ∷ [])) html

-- the text that HTML without tags says
abbrev pub said : List ℕ → List ℕ
said html = said_within None html

-- the texts of HTML between its tags, each from a `>` to the next `<`; within one, its bytes so far
-- are known
abbrev pub texts_within : (text : Option (List ℕ)) → List ℕ → List (List ℕ)
texts_within _ [] = []
texts_within None (b ∷ html) =
    if b == 62 then texts_within (Some []) html else texts_within None html
texts_within (Some text) (b ∷ html) =
    if b == 60 then text ∷ texts_within None html
    else texts_within (Some (text ++ b ∷ [])) html

-- the texts of HTML between its tags
abbrev pub texts_in : List ℕ → List (List ℕ)
texts_in html = texts_within None html
