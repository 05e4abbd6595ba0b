-- The status of a server, as JSON.
use Rattle.std.specs.Prelude.{◌≡◌, ℕ, ◌+◌, ◌/◌, ◌%◌, ◌==◌, ◌||◌, nat_lt, List, [], ◌∷◌, ◌++◌, drop, codes, Option, None, Some, if◌then◌else◌}
use Rattle.std.specs.Fmt.{decimal}
use Rattle.std.specs.List.{flat_map, range_with_len}
use Rattle.uuid.specs.Text.{hyphenated_text, lower}
use Rattle.ua_settings.specs.Settings.{SettingsValues}
use Rattle.history_report.specs.Reports.{AreLines}
use Rattle.web_page.specs.Calls.{Overview, IsEndTime, cause_words}
use Rattle.web_page.specs.declared.calls.CallCause.{CallCause}
use Rattle.web_page.specs.declared.calls.CallEnd.{CallEnd}
use Rattle.web_page.specs.declared.calls.LastCall.{LastCall}

-- ---- records

-- a replica and the number of its last record, after a comma, if it has any
abbrev pub member_text : (replica number : ℕ) → List ℕ
member_text replica number =
    if nat_lt 0 number then codes ",\"" ++ decimal replica ++ codes "\":" ++ decimal number
    else []

-- the replicas that have records, each after a comma
unfoldable pub members_text : (numbers : ℕ → ℕ) → List ℕ
members_text numbers =
    flat_map (λ replica. member_text replica (numbers replica)) (range_with_len 1 64)

-- which replica of which archive it is
unfoldable pub replica_text : SettingsValues → List ℕ
replica_text s =
    codes "\"archive\":\"" ++ hyphenated_text lower s.archive
    ++ codes "\",\"replica\":" ++ decimal s.replica

-- ---- texts

-- the digit of a number below 16 in hexadecimal
abbrev pub hex_digit : ℕ → ℕ
hex_digit n = if nat_lt n 10 then 48 + n else 87 + n

-- a byte of a text as a string has it: a quote, a backslash and a control are escaped (RFC 8259, 7)
abbrev pub string_byte : ℕ → List ℕ
string_byte byte =
    if byte == 34 || byte == 92 then 92 ∷ byte ∷ []
    else if nat_lt byte 32 then codes "\\u00" ++ hex_digit (byte / 16) ∷ hex_digit (byte % 16) ∷ []
    else byte ∷ []

-- a text as a string
abbrev pub string_text : List ℕ → List ℕ
string_text text = codes "\"" ++ flat_map string_byte text ++ codes "\""

-- ---- calls of peers

-- why a call didn't come to its end; null: it did
abbrev pub cause_json : Option CallCause → List ℕ
cause_json given =
    elim given [ None ↦ codes "null" | Some cause ↦ string_text (cause_words cause) ]

-- how a call ended: when, by this text, why it didn't come to its end, and how many records it
-- moved
unfoldable pub end_json : CallEnd → (time : List ℕ) → List ℕ
end_json end time =
    codes "{\"ended\":\"" ++ time ++ codes "\",\"fault\":" ++ cause_json end.cause
    ++ codes ",\"learned\":" ++ decimal end.learned ++ codes ",\"sent\":" ++ decimal end.sent
    ++ codes "}"

-- how a last call ended; null: there was none
abbrev pub IsLastJson : Option CallEnd → List ℕ → Type 0
IsLastJson last text = elim last [
  | None ↦ text ≡ codes "null"
  | Some end ↦ (time : List ℕ) × IsEndTime end time × (text ≡ end_json end time)
]

-- a peer at this address, with this text of its last call, after a comma
unfoldable pub peer_json : (address last : List ℕ) → List ℕ
peer_json address last =
    codes ",{\"address\":" ++ string_text address ++ codes ",\"last\":" ++ last ++ codes "}"

-- a peer and its last call, after a comma
abbrev pub IsPeerJson : LastCall → List ℕ → Type 0
IsPeerJson call text =
    (last : List ℕ) × IsLastJson call.end last × (text ≡ peer_json call.address last)

-- ---- the whole

-- the text around these members and these peers, each of which stands after a comma
abbrev pub status_json : Overview → (members peers : List ℕ) → List ℕ
status_json overview members peers =
    codes "{" ++ replica_text overview.settings ++ codes ",\"connections\":"
    ++ decimal overview.connections ++ codes ",\"records\":{" ++ drop 1 members
    ++ codes "},\"peers\":[" ++ drop 1 peers ++ codes "]}\n"

-- which replica of which archive it is, how many connections there are, the number of the last
-- record of each replica that has any, and the last call of each peer that is called
abbrev pub IsStatusJson : Overview → (numbers : ℕ → ℕ) → List ℕ → Type 0
IsStatusJson overview numbers page =
    (peers : List ℕ) × AreLines IsPeerJson overview.calls peers
    × (page ≡ status_json overview (members_text numbers) peers)
