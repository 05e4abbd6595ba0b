-- The fields of a spelled record, as its readers and their contracts name them.
use Rattle.std.specs.Prelude.{ℕ, nat_le, ◌==◌, ℤ, pos, int_le, false, ◌&&◌, List, [], length, Some, None, unwrap_or, if◌then◌else◌}
use Rattle.std.specs.Int.{w16, w64}
use Rattle.stamp.specs.Limits.{greatest}
use Rattle.ua_binary.specs.Format.{Format, byte, ◌▸◌, standing_for, raised}
use Rattle.ua_binary.specs.Binary.{unsigned, signed, text, node_id}
use Rattle.ua_binary.specs.declared.values.NodeId.{NodeId}
use Rattle.ua_variant.specs.UpdateType.{update_number}
use Rattle.ua_variant.specs.declared.data.DataValue.{DataValue}
use Rattle.ua_variant.specs.DataValue.{data_value}
use Rattle.ua_variant.specs.declared.update_type.HistoryUpdateType.{HistoryUpdateType}
use Rattle.ua_variant.specs.declared.update_type.HistoryUpdateType.TheVariants.{Insert, Replace, Update, Delete}
use Rattle.records.specs.declared.fault.RecordFault.{RecordFault}
use Rattle.records.specs.declared.record.Record.{Record}
use Rattle.records.specs.Fault.{binary_fault, value_fault}
use Rattle.records.specs.Spelling.{field, time}

-- the format's number
abbrev pub version : Format RecordFault ℕ
version = field (λ n. n == 2) byte

abbrev pub origin : Format RecordFault ℕ
origin = field (λ n. nat_le 1 n && nat_le n 64) byte

abbrev pub number : Format RecordFault ℕ
number = field (λ n. nat_le 1 n && nat_le n greatest) (unsigned w64)

abbrev pub tick : Format RecordFault ℤ
tick = field (λ t. int_le (pos 1) t && int_le t (pos greatest)) (signed w64)

abbrev pub node : Format RecordFault NodeId
node = raised binary_fault node_id

-- the two parts of a moment
abbrev pub ticks : Format RecordFault ℤ
ticks = field (λ t. int_le (pos 1) t) (signed w64)

abbrev pub pico : Format RecordFault ℕ
pico = field (λ n. nat_le n 9999) (unsigned w16)

abbrev pub asked : Format RecordFault HistoryUpdateType
asked =
    standing_for
    (λ n. if n == 1 then Insert else if n == 2 then Replace else if n == 3 then Update
    else Delete) update_number (field (λ n. nat_le 1 n && nat_le n 4) byte)

-- a text that isn't null, of at most 256 bytes
abbrev pub user : Format RecordFault (List ℕ)
user =
    standing_for (λ name. unwrap_or name []) Some
    (field (λ given. elim given [ None ↦ false | Some name ↦ nat_le (length name) 256 ]) text)

-- what was updated, and who asked
abbrev pub update : Format RecordFault (NodeId × (ℤ × (HistoryUpdateType × List ℕ)))
update = node ▸ time ▸ asked ▸ user

abbrev pub value : Format RecordFault DataValue
value = raised value_fault data_value

-- what stands before the value
abbrev pub Front : Type 0
Front = ℕ × (ℕ × (ℕ × (ℤ × (NodeId × (ℤ × (HistoryUpdateType × List ℕ))))))

-- a record's fields, before the value and the value
abbrev pub parts_of : Record → Front × DataValue
parts_of r = ((2, (r.origin, (r.number, (r.tick, (r.node, (r.time, (r.asked, r.user))))))), r.value)
