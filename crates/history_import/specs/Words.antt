-- What is said of a row that isn't written.
use Rattle.std.specs.Prelude.{ℕ, ◌==◌, if◌then◌else◌, List, [], ◌∷◌, ◌++◌, codes}
use Rattle.std.specs.Fmt.{decimal}
use Rattle.std.specs.Int.{w32, to_be_bytes}
use Rattle.hex.specs.Hex.{encode_upper}
use Rattle.ua_binary.specs.declared.codes.Status.{Status}
use Rattle.history_text.specs.declared.fault.TextFault.{TextFault}
use Rattle.history_text.specs.declared.fault.TextFault.TheVariants as text
use Rattle.history_csv.specs.declared.fault.RowFault.{RowFault}
use Rattle.history_csv.specs.declared.fault.RowFault.TheVariants as row
use Rattle.history_import.specs.declared.row_end.RowEnd.{RowEnd}
use Rattle.history_import.specs.declared.row_end.RowEnd.TheVariants.{NotText, NoRow, Answered}

-- what was expected in place of a text
abbrev pub text_words : TextFault → List ℕ
text_words fault =
    elim fault [
      | text.NoTime ↦ codes "expected a time, as 2026-03-01T12:00:00.5Z or @134168400000000000"
      | text.NoStatus ↦ codes "expected a status code: eight hex digits, or Good, or nothing"
      | text.NoBoolean ↦ codes "expected true or false"
      | text.NoInteger ↦ codes "expected a whole number of the type's range"
      | text.NoFloat ↦ codes "expected a number, inf, -inf or NaN"
      | text.NoGuid ↦ codes "expected a Guid, as 72962b91-fa75-4ae6-8d28-b404dc7daf63"
      | text.NoBytes ↦ codes "expected bytes, two hex digits each"
      | text.NoArray ↦ codes "expected a JSON array of values, as [1, 2] or [\"on\", \"off\"]"
      | text.NoText ↦ codes "values of this type are not written as text"
      | text.OutOfMemory ↦ codes "out of memory"
    ]

-- which field is wrong
abbrev pub place_words : RowFault → List ℕ
place_words fault =
    elim fault [
      | row.Node ↦ codes "node: "
      | row.Time _ ↦ codes "time: "
      | row.Value _ ↦ codes "value: "
      | row.Status _ ↦ codes "status: "
      | _ ↦ []
    ]

-- what was expected in its place
abbrev pub why_words : RowFault → List ℕ
why_words fault =
    elim fault [
      | row.Fields ↦ codes "expected four fields: node, time, value and status"
      | row.Node ↦ codes "expected a node id, as ns=1;s=Temperature or i=2258"
      | row.Time why ↦ text_words why
      | row.Value why ↦ text_words why
      | row.Status why ↦ text_words why
      | row.OutOfMemory ↦ codes "out of memory"
    ]

-- what is said of a row that says no value
abbrev pub fault_words : RowFault → List ℕ
fault_words fault = place_words fault ++ why_words fault

-- the standard's name of a status by which a node, a user or a store refuses, behind a blank
abbrev pub place_name : Status → List ℕ
place_name code =
    if code.0 == 0x80030000 then codes " Bad_OutOfMemory"
    else if code.0 == 0x80040000 then codes " Bad_ResourceUnavailable"
    else if code.0 == 0x801F0000 then codes " Bad_UserAccessDenied"
    else if code.0 == 0x80340000 then codes " Bad_NodeIdUnknown"
    else if code.0 == 0x80720000 then codes " Bad_HistoryOperationUnsupported" else []

-- the standard's name of a status by which a value is refused, behind a blank
abbrev pub value_name : Status → List ℕ
value_name code =
    if code.0 == 0x80080000 then codes " Bad_EncodingLimitsExceeded"
    else if code.0 == 0x80230000 then codes " Bad_InvalidTimestamp"
    else if code.0 == 0x80740000 then codes " Bad_TypeMismatch"
    else if code.0 == 0x809F0000 then codes " Bad_EntryExists"
    else if code.0 == 0x80A00000 then codes " Bad_NoEntryExists" else []

-- the standard's name of a status by which a row may be refused, behind a blank
abbrev pub status_name : Status → List ℕ
status_name code = elim (place_name code) [ [] ↦ value_name code | b ∷ name ↦ b ∷ name ]

-- what is said of a status: eight hex digits, and its name
abbrev pub code_words : Status → List ℕ
code_words code = encode_upper (to_be_bytes w32 code.0) ++ status_name code

-- what is said of what a row came to
abbrev pub end_words : RowEnd → List ℕ
end_words end =
    elim end [
      | NotText ↦ codes "expected UTF-8"
      | NoRow fault ↦ fault_words fault
      | Answered code ↦ code_words code
    ]

-- a line: the number of a row, and what is said of it
abbrev pub row_line : (number : ℕ) → List ℕ → List ℕ
row_line number words = codes "row " ++ decimal number ++ codes ": " ++ words ++ 10 ∷ []
