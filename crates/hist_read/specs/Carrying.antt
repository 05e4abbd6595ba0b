-- How many bytes a read has, and what is told of one that has too many.
use Rattle.std.specs.Prelude.{◌≡◌, ℕ, ◌+◌, ◌<◌, List, [], ◌∷◌, length, Option, Some, None, IfSome}
use Rattle.std.specs.Option.{option_map_or}
use Rattle.ua_binary.specs.declared.codes.TheConstants.Status.{GOOD}
use Rattle.ua_variant.specs.Variant.{variant}
use Rattle.ua_variant.specs.declared.data.DataValue.{DataValue}
use Rattle.ua_services.specs.History.{history_fields, history_read_result}
use Rattle.ua_services.specs.declared.history.HistoryReadResult.{HistoryReadResult}

-- the bytes of a result in a response (Part 4, 5.11.3)
abbrev pub read_length : HistoryReadResult → ℕ
read_length r = length (history_read_result.canon (history_fields r))

-- the bytes of a value, without its status and its times (Part 6, 5.2.2.16)
abbrev pub value_length : DataValue → ℕ
value_length v = option_map_or (λ x. length (variant.canon x)) v.value 0

-- and of several
abbrev pub values_length : List DataValue → ℕ
values_length [] = 0
values_length (v ∷ vs) = value_length v + values_length vs

-- there is a limit, and these are more bytes
abbrev pub Exceeds : Option ℕ → ℕ → Type 0
Exceeds None size = ⊥
Exceeds (Some longest) size = longest < size

-- a result shows something, and has more bytes than the limit
abbrev pub IsReadTooLong : HistoryReadResult → (limit : ℕ) → Type 0
IsReadTooLong read limit = (limit < read_length read) × (read.status ≡ GOOD)

-- what was read; or nothing, where there is a limit and that is too long for it, and only there
abbrev pub TellsWithin : Option ℕ → Option HistoryReadResult → HistoryReadResult → Type 0
TellsWithin longest (Some told) read =
    (told ≡ read) × IfSome longest (λ limit. IsReadTooLong read limit → ⊥)
TellsWithin longest None read = Exceeds longest (read_length read) × (read.status ≡ GOOD)
