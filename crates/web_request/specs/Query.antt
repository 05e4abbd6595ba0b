-- What a query asks (URL Standard, 5.1, and the page's own keys).
use Rattle.std.specs.Prelude.{◌≡◌, ℕ, ℤ, ◌||◌, nat_lt, Bool, true, false, List, length, map, codes, Option, None, Some, option_copied, Result, Ok, Err, ok_or, if◌then◌else◌}
use Rattle.std.specs.Borrow.{Bor}
use Rattle.std.specs.List.{list_all}
use Rattle.std.specs.Str.{bytes_eq}
use Rattle.std.specs.Str.Lossy.{utf8_lossy}
use Rattle.form_urlencoded.specs.Form.{decode, raw_pairs}
use Rattle.ua_binary.specs.Format.{◌>>=◌}
use Rattle.ua_binary.specs.declared.values.NodeId.{NodeId}
use Rattle.history_csv.specs.Nodes.{node_in}
use Rattle.history_csv.specs.Rows.{moment_in}
use Rattle.web_request.specs.Asking.{only}
use Rattle.web_request.specs.declared.pair.Pair.{Pair}
use Rattle.web_request.specs.declared.page.Question.{Question}
use Rattle.web_request.specs.declared.page.Part.{Part}
use Rattle.web_request.specs.declared.page.Part.TheVariants.{Node, From, To, Changes, Unknown, Twice}
use Rattle.web_request.specs.declared.page.Refusal.{Refusal}
use Rattle.web_request.specs.declared.page.Refusal.TheVariants.{Part as Wrong}

-- the text that a name or a value of a query stands for
abbrev pub decoded : List ℕ → List ℕ
decoded text = utf8_lossy (decode text)

-- a key and its value, decoded
abbrev pub pair_of : List ℕ × List ℕ → Pair
pair_of (key, value) = record { key = decoded key; value = decoded value }

-- the pairs of a query, decoded
abbrev pub pairs_of : List ℕ → List Pair
pairs_of query = map pair_of (raw_pairs query)

-- the pair has this key
abbrev pub has_key : List ℕ → Pair → Bool
has_key key pair = bytes_eq pair.key key

-- the pair has a key that a history is asked by
abbrev pub is_known : Pair → Bool
is_known pair =
    has_key (codes "node") pair || has_key (codes "from") pair || has_key (codes "to") pair
    || has_key (codes "changes") pair

-- the value of a pair; an empty one, as a form sends for an empty field, is none
abbrev pub given : Option Pair → Option (List ℕ)
given found = elim found [
  | None ↦ None
  | Some pair ↦ if nat_lt 0 (length pair.value) then Some pair.value else None
]

-- the value of a key, where one is given
abbrev pub value_of : List ℕ → List Pair → Result (Option (List ℕ)) Refusal
value_of key pairs = only (Wrong Twice) (has_key key) pairs >>= λ found. Ok (given found)

-- the text that was found is this one
abbrev pub Says : Result (Option (List ℕ)) Refusal → Result (Option (Bor (List ℕ))) Refusal → Type 0
Says found (Ok text) = found ≡ Ok (option_copied text)
Says found (Err why) = found ≡ Err why

-- the node that a value says; it has to be given
abbrev pub node_said : Option (List ℕ) → Result NodeId Refusal
node_said None = Err (Wrong Node)
node_said (Some text) = ok_or (node_in text) (Wrong Node)

-- the moment that a value says, none where none is given
abbrev pub moment_said : Part → Option (List ℕ) → Result (Option ℤ) Refusal
moment_said part None = Ok None
moment_said part (Some text) = ok_or (moment_in text) (Wrong part) >>= λ time. Ok (Some time)

-- whether modifications are asked for
abbrev pub changes_said : Option (List ℕ) → Result Bool Refusal
changes_said None = Ok false
changes_said (Some text) =
    if bytes_eq text (codes "true") then Ok true
    else if bytes_eq text (codes "false") then Ok false else Err (Wrong Changes)

-- the node that pairs ask for
abbrev pub node_of : List Pair → Result NodeId Refusal
node_of pairs = value_of (codes "node") pairs >>= node_said

-- the moment that pairs ask for by this key
abbrev pub moment_by : List ℕ → Part → List Pair → Result (Option ℤ) Refusal
moment_by key part pairs = value_of key pairs >>= moment_said part

-- whether pairs ask for modifications
abbrev pub changes_of : List Pair → Result Bool Refusal
changes_of pairs = value_of (codes "changes") pairs >>= changes_said

-- the history that pairs of known keys ask for
unfoldable pub question_of : List Pair → Result Question Refusal
question_of pairs = do
  node ← node_of pairs
  from ← moment_by (codes "from") From pairs
  to ← moment_by (codes "to") To pairs
  changes ← changes_of pairs
  Ok (record { node = node; from = from; to = to; changes = changes })

-- the history that pairs ask for
abbrev pub question_by : List Pair → Result Question Refusal
question_by pairs = if list_all is_known pairs then question_of pairs else Err (Wrong Unknown)

-- the history that a query asks for
unfoldable pub question_in : List ℕ → Result Question Refusal
question_in query = question_by (pairs_of query)
