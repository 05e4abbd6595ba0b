-- The first page: all variables with their latest values, and the peers.
use Rattle.std.specs.Prelude.{◌≡◌, ℕ, ℤ, ◌==◌, List, [], ◌∷◌, ◌++◌, length, codes, slice_get, unwrap_or, Option, if◌then◌else◌}
use Rattle.std.specs.Fmt.{decimal}
use Rattle.uuid.specs.Text.{hyphenated_text, lower}
use Rattle.form_urlencoded.specs.Form.{byte_serialize}
use Rattle.ua_binary.specs.declared.values.NodeId.{NodeId}
use Rattle.ua_space.specs.declared.layout.Layout.{Layout}
use Rattle.ua_space.specs.Space.{value_type_at}
use Rattle.ua_settings.specs.Settings.{SettingsValues}
use Rattle.records.specs.Contents.{Content}
use Rattle.records.specs.declared.shown.Held.{Held}
use Rattle.archive.specs.Reading.{lives, in_direction}
use Rattle.archive.specs.declared.fault.StoreFault.{StoreFault}
use Rattle.archive.specs.declared.reading.Direction.TheVariants.{Backward}
use Rattle.history_csv.specs.Nodes.{node_text}
use Rattle.history_report.specs.Html.{escaped, data_cell, page_begin}
use Rattle.history_report.specs.Reports.{AreLines}
use Rattle.web_page.specs.declared.fault.PageFault.{PageFault}
use Rattle.web_page.specs.declared.fault.PageFault.TheVariants.{Store, OutOfMemory}
use Rattle.web_page.specs.declared.listing.Listed.{Listed}
use Rattle.web_page.specs.Listing.{listed_variables}
use Rattle.web_page.specs.Values.{type_text, cut_text, AreLatestTexts}
use Rattle.web_page.specs.Calls.{Overview, IsCallRow}
use Rattle.web_page.specs.declared.calls.LastCall.{LastCall}

-- ---- a row

-- the address of the page of the history of a node whose id is this text
unfoldable pub history_link : List ℕ → List ℕ
history_link id = codes "/history?node=" ++ byte_serialize id

-- a text as a cell that leads to an address
abbrev pub anchor_cell : (address text : List ℕ) → List ℕ
anchor_cell address text =
    codes "<td><a href=\"" ++ escaped address ++ codes "\">" ++ escaped text
    ++ codes "</a></td>"

-- a node's id, as a link to its history
abbrev pub link_cell : NodeId → List ℕ
link_cell node = anchor_cell (history_link (node_text node)) (node_text node)

-- what the settings say of a variable: its folder, its name, its id and its type
abbrev pub settings_cells : Layout → Listed → List ℕ
settings_cells space one =
    data_cell (unwrap_or one.folder []) ++ data_cell one.name ++ link_cell one.node
    ++ data_cell (type_text (value_type_at space one.node))

-- the texts of a live value as cells, the value's cut where it is long
abbrev pub latest_cells : (value status time age : List ℕ) → List ℕ
latest_cells value status time age =
    data_cell (cut_text value) ++ data_cell status ++ data_cell time ++ data_cell age

-- the latest live value of a node
abbrev pub latest_value : Content → NodeId → Option Held
latest_value R node = slice_get (in_direction Backward (lives R node)) 0

-- the row of a variable: what the settings say, and these texts of a live value
abbrev pub front_row : Layout → Listed → (value status time age : List ℕ) → List ℕ
front_row space one value status time age =
    codes "<tr>" ++ settings_cells space one ++ latest_cells value status time age
    ++ codes "</tr>\n"

-- the row of a variable with this live value; its cells are empty where there is none
abbrev pub IsRowOf : Layout → (now : ℤ) → Listed → Option Held → List ℕ → Type 0
IsRowOf space now one held row =
    (value : List ℕ) × (status : List ℕ) × (time : List ℕ) × (age : List ℕ)
    × AreLatestTexts now held value status time age
    × (row ≡ front_row space one value status time age)

-- the row of a variable with its latest live value
abbrev pub IsVariableRow : Layout → (now : ℤ) → Content → Listed → List ℕ → Type 0
IsVariableRow space now R one row = IsRowOf space now one (latest_value R one.node) row

-- ---- above and below the rows

-- which replica of which archive it is
abbrev pub front_heading : SettingsValues → List ℕ
front_heading s =
    codes "Archive " ++ hyphenated_text lower s.archive ++ codes ", replica " ++ decimal s.replica

-- how the page's table looks: its lines, its cells, and the names of its columns
unfoldable pub table_style : List ℕ
table_style =
    codes "table{border-collapse:collapse;font-variant-numeric:tabular-nums}\n"
    ++ codes "th,td{padding:.25rem .75rem;text-align:left;vertical-align:top}\n"
    ++ codes "th{position:sticky;top:0;background:Canvas;box-shadow:0 1px}\n"

-- from the title to the heading: how the page looks
unfoldable pub front_style : List ℕ
front_style =
    codes "</title>\n<style>\n:root{color-scheme:light dark}\n"
    ++ codes "body{margin:2rem;font-family:system-ui,sans-serif}\n" ++ table_style
    ++ codes "td{white-space:pre-wrap;overflow-wrap:anywhere}\n"
    ++ codes "td:nth-last-child(-n+2){white-space:nowrap}\n"
    ++ codes "tr:nth-child(even) td{background:#8882}\n</style>\n</head>\n<body>\n<h1>"

-- how many connections there are
unfoldable pub connections_text : (count : ℕ) → List ℕ
connections_text count =
    codes "</h1>\n<p>" ++ decimal count
    ++ (if count == 1 then codes " connection</p>\n" else codes " connections</p>\n")

-- from there to the rows: the names of the columns
unfoldable pub front_columns : List ℕ
front_columns =
    codes "<table>\n<thead>\n<tr><th scope=\"col\">folder</th>"
    ++ codes "<th scope=\"col\">name</th><th scope=\"col\">id</th><th scope=\"col\">type</th>"
    ++ codes "<th scope=\"col\">value</th><th scope=\"col\">status</th>"
    ++ codes "<th scope=\"col\">time</th><th scope=\"col\">age</th></tr>\n</thead>\n<tbody>\n"

-- the part of the page above its rows
abbrev pub front_begin : Overview → List ℕ
front_begin overview =
    let heading : List ℕ = escaped (front_heading overview.settings) in
    page_begin ++ heading ++ front_style ++ heading ++ connections_text overview.connections
    ++ front_columns

-- the part below them
abbrev pub front_end : List ℕ
front_end = codes "</tbody>\n</table>\n</body>\n</html>\n"

-- ---- peers

-- from the rows of the variables to those of the peers: the names of their columns
unfoldable pub peer_columns : List ℕ
peer_columns =
    codes "</tbody>\n</table>\n<h2>Peers</h2>\n<table>\n<thead>\n"
    ++ codes "<tr><th scope=\"col\">peer</th><th scope=\"col\">last call</th>"
    ++ codes "<th scope=\"col\">how it ended</th><th scope=\"col\">learned</th>"
    ++ codes "<th scope=\"col\">sent</th></tr>\n</thead>\n<tbody>\n"

-- rows of peers below the names of their columns; nothing, where there is no row
abbrev pub below_columns : (rows : List ℕ) → List ℕ
below_columns rows = if length rows == 0 then [] else peer_columns ++ rows

-- the peers that are called, each with its last call
abbrev pub ArePeers : List LastCall → List ℕ → Type 0
ArePeers calls text =
    (rows : List ℕ) × AreLines IsCallRow calls rows × (text ≡ below_columns rows)

-- ---- the page

-- rows of these variables, one after the other
abbrev pub AreRows : Layout → (now : ℤ) → Content → List Listed → List ℕ → Type 0
AreRows space now R listed rows = AreLines (IsVariableRow space now R) listed rows

-- the page around these rows: above them what the settings say, and below them the peers
abbrev pub IsPageAround : Overview → (rows : List ℕ) → List ℕ → Type 0
IsPageAround overview rows page =
    (peers : List ℕ) × ArePeers overview.calls peers
    × (page ≡ front_begin overview ++ rows ++ peers ++ front_end)

-- the page of a server, over what its archive holds
abbrev pub IsFront : Overview → Content → List ℕ → Type 0
IsFront overview R page =
    let space : Layout = overview.settings.space in
    (rows : List ℕ) × AreRows space overview.now R (listed_variables space) rows
    × IsPageAround overview rows page

-- the fault of the store by which a page ended, if it is one of the store's
abbrev pub page_faults : PageFault → List StoreFault
page_faults why = elim why [ Store fault ↦ fault ∷ [] | OutOfMemory ↦ [] ]
