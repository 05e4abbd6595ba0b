-- How a status code is written as text and read again.
use Rattle.std.specs.Prelude.{ℕ, ◌==◌, ◌||◌, bit_and, List, [], codes, Option, Some, None, Ok, Err, if◌then◌else◌}
use Rattle.std.specs.Int.{w32, from_be_bytes, to_be_bytes}
use Rattle.std.specs.Str.{bytes_eq}
use Rattle.hex.specs.Hex.{decode_sized, encode_upper}
use Rattle.ua_binary.specs.declared.codes.Status.{Status}

-- all bits but 00000408, which the server sets: a history's value, and its bits of information
abbrev pub kept : Status → Status
kept status = record { 0 = bit_and status.0 4_294_966_263 }

-- the code that eight hex digits write
abbrev pub hex_code_in : List ℕ → Option Status
hex_code_in text =
    elim (decode_sized text 4)
    [ Ok bytes ↦ Some (kept (record { 0 = from_be_bytes w32 bytes })) | Err _ ↦ None ]

-- the code that a text says: nothing and Good are good, else it is eight hex digits
abbrev pub status_in : List ℕ → Option Status
status_in text =
    if bytes_eq text [] || bytes_eq text (codes "Good") then Some
    (record { 0 = 0 }) else hex_code_in text

-- the text of a code: Good, or eight hex digits
abbrev pub status_text : Status → List ℕ
status_text status =
    if (kept status).0 == 0 then codes "Good" else encode_upper (to_be_bytes w32 (kept status).0)
