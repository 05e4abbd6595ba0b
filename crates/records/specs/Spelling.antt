-- A record as bytes, format 2: the byte 2, and its fields one after the other. Only the spelling
-- that is written is one.
use Rattle.std.specs.Prelude.{◌≡◌, ℕ, ◌^◌, ◌<◌, ◌≤◌, nat_lt, nat_le, ◌==◌, ℤ, pos, ◌≤ℤ◌, int_le, Bool, true, false, not, ◌&&◌, ◌||◌, List, [], length, Some, None, IfSome, is_some, unwrap_or, Result, Ok, Err, if◌then◌else◌}
use Rattle.std.specs.Int.{w16, w64}
use Rattle.std.specs.Int.RustNames.{FitsSigned}
use Rattle.std.specs.Str.{is_utf8, bytes_eq}
use Rattle.stamp.specs.Limits.{greatest, IsReplica}
use Rattle.ua_binary.specs.Format.{Format, byte, ◌▸◌, standing_for, passing, canonical, fitting, raised, whole, ◌>>=◌}
use Rattle.ua_binary.specs.Binary.{unsigned, signed, text, node_id, IsNodeId, IsShortNode}
use Rattle.ua_binary.specs.declared.values.NodeId.{NodeId}
use Rattle.ua_binary.specs.declared.fault.BinaryFault.{BinaryFault}
use Rattle.ua_variant.specs.UpdateType.{update_number}
use Rattle.ua_variant.specs.declared.data.DataValue.{DataValue}
use Rattle.ua_variant.specs.DataValue.{data_value, IsDataValue, IsShortData, IsPicoseconds}
use Rattle.records.specs.declared.fault.RecordFault.{RecordFault}
use Rattle.records.specs.declared.fault.RecordFault.TheVariants.{Binary, BadField, NotCanonical}
use Rattle.records.specs.declared.record.Record.{Record}
use Rattle.ua_variant.specs.declared.update_type.HistoryUpdateType.{HistoryUpdateType}
use Rattle.ua_variant.specs.declared.update_type.HistoryUpdateType.TheVariants.{Insert, Replace, Update, Delete}
use Rattle.records.specs.Fault.{binary_fault, value_fault}
use Rattle.records.specs.Records.{is_delete}
use Rattle.records.specs.Moments.{moment, ticks_of, pico_of}

-- ---- the fields

-- a field of the binary encoding that passes its test
abbrev pub field : {A : Type 0} → (A → Bool) → Format BinaryFault A → Format RecordFault A
field test f = passing test BadField (raised binary_fault f)

-- a moment: its ticks, and then its picoseconds
unfoldable pub time : Format RecordFault ℤ
time =
    standing_for (λ p. moment p.0 p.1) (λ t. (ticks_of t, pico_of t))
    (field (λ t. int_le (pos 1) t) (signed w64) ▸ field (λ n. nat_le n 9999) (unsigned w16))

-- what was asked, by its number (Part 11, 6.8)
abbrev pub asked_field : Format RecordFault HistoryUpdateType
asked_field =
    standing_for
    (λ n. if n == 1 then Insert else if n == 2 then Replace else if n == 3 then Update else Delete)
    update_number (field (λ n. nat_le 1 n && nat_le n 4) byte)

-- who asked: a text that isn't null, of at most 256 bytes
abbrev pub user_field : Format RecordFault (List ℕ)
user_field =
    standing_for (λ name. unwrap_or name []) Some
    (field (λ given. elim given [ None ↦ false | Some name ↦ nat_le (length name) 256 ]) text)

-- what stands before the value: the format's number, the name, the node and the source time, what
-- was asked and by whom
abbrev pub front : Format RecordFault
    (ℕ × (ℕ × (ℕ × (ℤ × (NodeId × (ℤ × (HistoryUpdateType × List ℕ)))))))
front =
    field (λ n. n == 2) byte
    ▸ field (λ n. nat_le 1 n && nat_le n 64) byte
    ▸ field (λ n. nat_le 1 n && nat_le n greatest) (unsigned w64)
    ▸ field (λ t. int_le (pos 1) t && int_le t (pos greatest)) (signed w64)
    ▸ raised binary_fault node_id ▸ time ▸ asked_field ▸ user_field

-- a delete has the empty value; a write has one without source time, which is the record's
abbrev pub is_value_for : HistoryUpdateType → DataValue → Bool
is_value_for asked v =
    if is_delete asked
    then not
    (is_some v.value || is_some v.status || is_some v.source_time || is_some v.source_pico
    || is_some v.server_time || is_some v.server_pico) else not (is_some v.source_time)

-- a value with nothing in it, that of a delete
abbrev pub empty : DataValue
empty =
    record {
      value = None;
      status = None;
      source_time = None;
      source_pico = None;
      server_time = None;
      server_pico = None;
    }

-- what stands before the value, and the value
abbrev pub RecordFields : Type 0
RecordFields =
    (ℕ × (ℕ × (ℕ × (ℤ × (NodeId × (ℤ × (HistoryUpdateType × List ℕ))))))) × DataValue

-- a record by its fields, behind the format's number
abbrev pub record_of : RecordFields → Record
record_of ((format, (origin, (number, (tick, (node, (time, (asked, user))))))), value) =
    record {
      origin = origin;
      number = number;
      tick = tick;
      node = node;
      time = time;
      asked = asked;
      user = user;
      value = value;
    }

-- the fields that are written, in format 2
abbrev pub fields_of : Record → RecordFields
fields_of r =
    ((2, (r.origin, (r.number, (r.tick, (r.node, (r.time, (r.asked, r.user))))))), r.value)

-- the fields one after the other, in any of their spellings
unfoldable pub fields : Format RecordFault Record
fields = passing (λ r. is_value_for r.asked r.value) BadField
    (standing_for record_of fields_of (front ▸ raised value_fault data_value))

-- ---- the record

-- the most bytes of a record
abbrev pub longest : ℕ
longest = 1048578

-- what a record has to be, its tick aside, to have a spelling
pub record IsLawfulRecord (r : Record) : Type 0 where
  pub origin : IsReplica r.origin
  pub number : (1 ≤ r.number) × (r.number ≤ greatest)
  pub node : IsNodeId r.node
  pub time : (pos 1 ≤ℤ ticks_of r.time) × FitsSigned w64 (ticks_of r.time)
  pub user : (length r.user ≤ 256) × (is_utf8 r.user ≡ true)
  pub value : IsDataValue r.value
  pub suits : is_value_for r.asked r.value ≡ true
  pub size : length (fields.canon r) ≤ longest

-- its parts have spellings, each by itself, and its origin is a replica
pub record HasSpelledParts (r : Record) : Type 0 where
  pub origin : IsReplica r.origin
  pub node : IsNodeId r.node
  pub time : FitsSigned w64 (ticks_of r.time)
  pub user : is_utf8 r.user ≡ true
  pub value : IsDataValue r.value

-- what a record's own tests ask, its size aside
pub record HasLimits (r : Record) : Type 0 where
  pub number : (1 ≤ r.number) × (r.number ≤ greatest)
  pub time : pos 1 ≤ℤ ticks_of r.time
  pub user : length r.user ≤ 256
  pub picoseconds : IfSome r.value.source_pico IsPicoseconds
      × IfSome r.value.server_pico IsPicoseconds
  pub suits : is_value_for r.asked r.value ≡ true

-- what has a spelling
abbrev pub IsRecord : Record → Type 0
IsRecord r = IsLawfulRecord r × ((pos 1 ≤ℤ r.tick) × (r.tick ≤ℤ pos greatest))

-- the fields as they are written, and at most so many bytes of them
unfoldable pub record_form : Format RecordFault Record
record_form =
    fitting IsRecord
    (canonical NotCanonical
    (passing (λ r. nat_le (length (fields.canon r)) longest) BadField fields))

-- the record that all of the bytes spell: the fields are judged first, then that nothing follows,
-- then the size, and that they are spelled as they are written comes last
abbrev pub record_at : List ℕ → Result Record RecordFault
record_at bytes =
    whole Binary fields bytes >>= λ r.
    if nat_lt longest (length bytes) then Err BadField
    else if bytes_eq bytes (fields.canon r) then Ok r
    else Err NotCanonical

-- a call gave this answer, or met this fault, of its own making
abbrev pub GivesUnless : {E A : Type 0} → E → Result A E → Result A E → Type 0
GivesUnless memory (Ok v) given = given ≡ Ok v
GivesUnless memory (Err e) given = (e ≡ memory → ⊥) → given ≡ Err e

-- its texts, byte strings and arrays are few enough to be counted
abbrev pub IsShortRecord : Record → Type 0
IsShortRecord r = IsShortNode r.node × (length r.user < 2 ^ 31) × IsShortData r.value
