-- Which page a target names (RFC 9112, 3.2.1): its path, and behind a question mark its query.
use Rattle.std.specs.Prelude.{ℕ, ◌+◌, ◌==◌, nat_lt, Bool, List, [], length, take, drop, codes, None, Some, Result, Ok, Err, if◌then◌else◌}
use Rattle.std.specs.List.{position}
use Rattle.std.specs.Str.{bytes_eq}
use Rattle.ua_binary.specs.Format.{◌>>=◌}
use Rattle.web_request.specs.Query.{question_in}
use Rattle.web_request.specs.declared.page.Page.{Page}
use Rattle.web_request.specs.declared.page.Page.TheVariants.{Front, History, Csv, Status}
use Rattle.web_request.specs.declared.page.Part.TheVariants.{Unknown}
use Rattle.web_request.specs.declared.page.Refusal.{Refusal}
use Rattle.web_request.specs.declared.page.Refusal.TheVariants.{Path, Part}

-- a question mark, before the query
abbrev pub is_mark : ℕ → Bool
is_mark b = b == 63

-- a page that is asked nothing by a query
unfoldable pub unasked : List ℕ → Page → Result Page Refusal
unasked query page = if nat_lt 0 (length query) then Err (Part Unknown) else Ok page

-- a history as a page, that a query asks for
unfoldable pub history_in : List ℕ → Result Page Refusal
history_in query = question_in query >>= λ question. Ok (History question)

-- the same as CSV
unfoldable pub csv_in : List ℕ → Result Page Refusal
csv_in query = question_in query >>= λ question. Ok (Csv question)

-- the page of a path, with what its query asks
unfoldable pub page_at : (path query : List ℕ) → Result Page Refusal
page_at path query =
    if bytes_eq path (codes "/") then unasked query Front
    else if bytes_eq path (codes "/history") then history_in query
    else if bytes_eq path (codes "/history.csv") then csv_in query
    else if bytes_eq path (codes "/status.json") then unasked query Status else Err Path

-- the page that a target names
unfoldable pub target_page : List ℕ → Result Page Refusal
target_page target = elim (position is_mark target) [
  | None ↦ page_at target []
  | Some mark ↦ page_at (take mark target) (drop (mark + 1) target)
]
