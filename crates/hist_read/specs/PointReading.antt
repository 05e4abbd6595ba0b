-- A continuation point as it is read: by the leftmost field that isn't spelled, and with nothing
-- written to compare it with. That real bytes are a point by these rules just where they are one by
-- those of Point is shown in proofs/Tight; and names for parts of a point, for the contracts of
-- their functions.
use Rattle.std.specs.Prelude.{ℕ, nat_lt, nat_le, ◌==◌, ℤ, pos, int_le, Bool, true, not, ◌&&◌, List, [], Option, Some, None, unwrap_or, is_some, if◌then◌else◌}
use Rattle.std.specs.Ordering.{int_eq}
use Rattle.std.specs.Int.{w16, w32}
use Rattle.stamp.specs.Limits.{greatest}
use Rattle.stamp.specs.declared.stamps.Stamp.{Stamp}
use Rattle.stamp.specs.Vector.{vector}
use Rattle.ua_binary.specs.declared.fault.BinaryFault.{BinaryFault}
use Rattle.ua_binary.specs.declared.fault.BinaryFault.TheVariants.{BadEncodingByte, BadLength}
use Rattle.ua_binary.specs.declared.values.NodeId.{NodeId}
use Rattle.ua_binary.specs.declared.values.NodeId.TheVariants.{Numeric, Named, Global, Opaque}
use Rattle.ua_binary.specs.Format.{Format, byte, block, ◌▸◌, chosen, headed, standing_for, passing, raised, no_format}
use Rattle.ua_binary.specs.Binary.{unsigned, text, byte_string, guid, guid_of, numeric_parts, node_form_of}
use Rattle.ua_services.specs.declared.history.ReadRawModifiedDetails.{ReadRawModifiedDetails as Details}
use Rattle.hist_read.specs.declared.point.Phase.{Phase}
use Rattle.hist_read.specs.declared.point.Phase.TheVariants.{Near, Body}
use Rattle.hist_read.specs.declared.point.Position.{Position}
use Rattle.hist_read.specs.Asking.{has_both}
use Rattle.hist_read.specs.Point.{Point, details, position, suits}

-- ---- nodes

-- a node in its shortest form; a text or byte id that isn't null
abbrev pub short_form : ℕ → Format BinaryFault NodeId
short_form form =
    chosen (form == 0) (standing_for (λ id. Numeric 0 id) (λ v. (numeric_parts v).1) byte) (
    chosen (form == 1)
    (passing (λ v. node_form_of v == 1) BadEncodingByte
    (standing_for (λ p. Numeric p.0 p.1) numeric_parts (byte ▸ unsigned w16))) (
    chosen (form == 2)
    (passing (λ v. node_form_of v == 2) BadEncodingByte
    (standing_for (λ p. Numeric p.0 p.1) numeric_parts (unsigned w16 ▸ unsigned w32))) (
    chosen (form == 3)
    (standing_for (λ p. Named p.0 (unwrap_or p.1 []))
    (λ v. elim v [ Named ns name ↦ (ns, Some name) | _ ↦ (0, None) ])
    (unsigned w16 ▸ passing is_some BadLength text)) (
    chosen (form == 4)
    (standing_for (λ p. Global p.0 p.1)
    (λ v. elim v [ Global ns id ↦ (ns, id) | _ ↦ (0, guid_of (0, (0, (0, [])))) ])
    (unsigned w16 ▸ guid)) (
    chosen (form == 5)
    (standing_for (λ p. Opaque p.0 (unwrap_or p.1 []))
    (λ v. elim v [ Opaque ns id ↦ (ns, Some id) | _ ↦ (0, None) ])
    (unsigned w16 ▸ passing is_some BadLength byte_string)) (
    no_format BadEncodingByte))))))

unfoldable pub short_node : Format BinaryFault NodeId
short_node = headed node_form_of byte short_form

-- ---- the parts

abbrev pub number_of_phase : Phase → ℕ
number_of_phase phase = elim phase [ Near ↦ 1 | Body ↦ 2 ]

-- zeros for none, else a record's tick and origin
abbrev pub are_stamp : ℤ × ℕ → Bool
are_stamp fields =
    if fields.1 == 0 then int_eq fields.0 (pos 0)
    else (nat_le fields.1 64 && (int_le (pos 1) fields.0 && int_le fields.0 (pos greatest)))

abbrev pub stamp_of : ℤ × ℕ → Option Stamp
stamp_of fields =
    if fields.1 == 0 then None else Some (record { tick = fields.0; origin = fields.1 })

-- the three tests of what suits what was asked: of the phase, of the stamp, and of how many items
-- were given
abbrev pub is_phase_for : Details → Phase → Bool
is_phase_for d phase = elim phase [ Near ↦ d.return_bounds && not d.is_read_modified | Body ↦ true ]

abbrev pub is_stamp_for : Details → Option Stamp → Bool
is_stamp_for d stamp = if is_some stamp then d.is_read_modified else not d.is_read_modified

abbrev pub is_given_for : Details → ℕ → Bool
is_given_for d given =
    if has_both d then given == 0 else (nat_lt 0 given && nat_lt given d.num_values_per_node)

-- ---- the whole

abbrev pub Fields : Type 0
Fields = ℕ × (List ℕ × (NodeId × (Details × (Position × List ℕ))))

abbrev pub of_fields : Fields → Point
of_fields fields =
    record {
      archive = fields.1.0;
      node = fields.1.1.0;
      details = fields.1.1.1.0;
      position = fields.1.1.1.1.0;
      vector = fields.1.1.1.1.1;
    }

abbrev pub fields_of : Point → Fields
fields_of p = (3, (p.archive, (p.node, (p.details, (p.position, p.vector)))))

unfoldable pub short_point : Format BinaryFault Point
short_point = passing (λ p. suits p.details p.position) BadEncodingByte
    (standing_for of_fields fields_of
    (passing (λ n. n == 3) BadEncodingByte byte ▸ block 16 ▸ short_node ▸ details ▸ position
    ▸ raised (λ _. BadEncodingByte) vector))
