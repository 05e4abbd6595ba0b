-- How a Guid is written as text and read again.
use Rattle.std.specs.Prelude.{ℕ, ◌*◌, ◌==◌, ◌&&◌, List, [], ◌∷◌, ◌++◌, length, take, drop, map, codes, slice_index, Option, Some, None, Bool, Ok, Err, if◌then◌else◌}
use Rattle.std.specs.Int.{w16, w32, from_be_bytes, to_be_bytes}
use Rattle.std.specs.Str.{bytes_eq}
use Rattle.hex.specs.Hex.{decode_sized, encode_lower}
use Rattle.ua_binary.specs.declared.values.Guid.{Guid}
use Rattle.history_text.specs.Times.{◌>>=◌}

-- the bytes that hex digits write, so many, at this place of a text
abbrev pub hex_at : (place count : ℕ) → List ℕ → Option (List ℕ)
hex_at place count text =
    elim (decode_sized (take (2 * count) (drop place text)) count)
    [ Ok bytes ↦ Some bytes | Err _ ↦ None ]

-- the hyphens of ........-....-....-....-............
abbrev pub has_hyphens : List ℕ → Bool
has_hyphens text =
    bytes_eq (map (slice_index text) (8 ∷ 13 ∷ 18 ∷ 23 ∷ [])) (codes "----")

-- the Guid of the five parts of its text
abbrev pub guid_of_parts : (first second third fourth last : List ℕ) → Guid
guid_of_parts first second third fourth last = record {
  first = from_be_bytes w32 first;
  second = from_be_bytes w16 second;
  third = from_be_bytes w16 third;
  last = fourth ++ last;
}

-- the Guid whose five parts a text writes
abbrev pub parts_in : List ℕ → Option Guid
parts_in text = do
  first ← hex_at 0 4 text
  second ← hex_at 9 2 text
  third ← hex_at 14 2 text
  fourth ← hex_at 19 2 text
  last ← hex_at 24 6 text
  Some (guid_of_parts first second third fourth last)

-- the Guid that a text says: 36 letters, hex digits but for four hyphens
abbrev pub guid_in : List ℕ → Option Guid
guid_in text = if length text == 36 && has_hyphens text then parts_in text else None

-- the text of a Guid: its numbers, each with the high byte first, and its bytes
abbrev pub guid_text : Guid → List ℕ
guid_text guid =
    encode_lower (to_be_bytes w32 guid.first) ++ 45 ∷ encode_lower (to_be_bytes w16 guid.second)
    ++ 45 ∷ encode_lower (to_be_bytes w16 guid.third) ++ 45 ∷ encode_lower (take 2 guid.last)
    ++ 45 ∷ encode_lower (drop 2 guid.last)
