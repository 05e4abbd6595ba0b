-- The format of continuation points is lawful.
use Rattle.std.proofs.Common.{◌≡◌, ℕ, ◌<◌, ◌^◌, nat_le, ℤ, pos, ◌≤ℤ◌, int_le, true, false, cond, Option, Some, None, refl, sym, arith, ◌&&◌, ◌==◌}
use Rattle.std.proofs.lemmas.Bool.Decides.{nat_tests}
use Rattle.std.proofs.lemmas.Bool.{le-leb}
use Rattle.std.proofs.lemmas.Int.{ints}
use Rattle.std.specs.Int.{w64}
use Rattle.std.specs.Int.RustNames.{FitsSigned}
use Rattle.stamp.specs.declared.stamps.Stamp.{Stamp}
use Rattle.ua_binary.specs.declared.fault.BinaryFault.TheVariants.{BadEncodingByte, BadLength}
use Rattle.ua_binary.specs.declared.values.NodeId.{NodeId}
use Rattle.ua_binary.specs.declared.values.NodeId.TheVariants.{Numeric, Named, Global, Opaque}
use Rattle.ua_binary.specs.Format.{IsLawful, canonical}
use Rattle.ua_binary.specs.Binary.{unsigned, signed, boolean, ticks, IsNodeId, IsShortNode, node_form_of, node_id}
use Rattle.ua_binary.proofs.Combined.{byte_lawful, block_lawful, refused_lawful, then_lawful, chosen_lawful, headed_lawful, standing_lawful, passing_lawful, canonical_lawful, fitting_lawful, raised_lawful}
use Rattle.ua_binary.proofs.Lawful.{u16_lawful, u32_lawful, i64_lawful, boolean_lawful, ticks_lawful, text_lawful, byte_string_lawful, guid_lawful, node_id_lawful}
use Rattle.records.specs.Moments.{moment, ticks_of, pico_of, whole_again, pico_within}
use Rattle.hist_read.specs.Asking.{first_time}
use Rattle.hist_read.specs.declared.point.Phase.{Phase}
use Rattle.hist_read.specs.declared.point.Phase.TheVariants.{Near, Body}
use Rattle.hist_read.specs.declared.point.Position.{Position}
use Rattle.stamp.specs.Vector.{vector}
use Rattle.stamp.proofs.Lawful.{vector_lawful}
use Rattle.ua_services.specs.History.{raw_of, raw_fields}
use Rattle.hist_read.specs.Point.{IsDetails, details, phase, point_time, stamp, IsStamp, IsPosition, position, IsPoint, point}
use Rattle.hist_read.specs.PointReading.{short_form, short_node, number_of_phase, are_stamp, stamp_of, of_fields, fields_of, short_point}
use Rattle.hist_read.proofs.PointParts.{stamp_fields}

-- ---- nodes as they are read

short_form_lawful : (form : ℕ) → IsLawful (short_form form)
short_form_lawful form =
    chosen_lawful (form == 0) (standing_lawful _ _ byte_lawful) (
    chosen_lawful (form == 1) (passing_lawful _ BadEncodingByte
    (standing_lawful _ _ (then_lawful byte_lawful u16_lawful))) (
    chosen_lawful (form == 2) (passing_lawful _ BadEncodingByte
    (standing_lawful _ _ (then_lawful u16_lawful u32_lawful))) (
    chosen_lawful (form == 3) (standing_lawful _ _
    (then_lawful u16_lawful (passing_lawful _ BadLength text_lawful))) (
    chosen_lawful (form == 4) (standing_lawful _ _ (then_lawful u16_lawful guid_lawful)) (
    chosen_lawful (form == 5) (standing_lawful _ _
    (then_lawful u16_lawful (passing_lawful _ BadLength byte_string_lawful)))
    (refused_lawful BadEncodingByte))))))

pub short_node_lawful : IsLawful short_node
unfolding short_node
short_node_lawful = headed_lawful node_form_of short_form byte_lawful short_form_lawful

-- ---- the parts

boolean_as_written : IsLawful (canonical BadEncodingByte boolean)
boolean_as_written = canonical_lawful BadEncodingByte boolean_lawful

pub details_lawful : IsLawful details
unfolding details boolean ticks unsigned
details_lawful = fitting_lawful IsDetails (λ v h. ((tt, (h.0, (h.1, (h.2, tt)))), refl))
    (standing_lawful raw_of raw_fields (then_lawful boolean_as_written
    (then_lawful ticks_lawful (then_lawful ticks_lawful
    (then_lawful u32_lawful boolean_as_written)))))

phase_fits : (p : Phase) → ((number_of_phase p < 2 ^ 8)
    × ((nat_le 1 (number_of_phase p) && nat_le (number_of_phase p) 2) ≡ true))
    × (p ≡ cond (number_of_phase p == 1) Near Body)
phase_fits Near = ((omega arith, refl), refl)
phase_fits Body = ((omega arith, refl), refl)

pub phase_lawful : IsLawful phase
unfolding phase
phase_lawful = fitting_lawful _ (λ p _. phase_fits p)
    (standing_lawful _ _ (passing_lawful _ BadEncodingByte byte_lawful))

at_least_one : (t : ℤ) → pos 1 ≤ℤ t → int_le (pos 1) t ≡ true
at_least_one t h = grind (arith, ints, nat_tests)

pub time_lawful : IsLawful point_time
unfolding point_time signed unsigned
time_lawful = fitting_lawful _ time_fits (standing_lawful _ _
    (then_lawful (passing_lawful _ BadEncodingByte i64_lawful)
    (passing_lawful _ BadEncodingByte u16_lawful)))
  where
    time_fits : (t : ℤ) → (first_time ≤ℤ t) × FitsSigned w64 (ticks_of t)
        → ((FitsSigned w64 (ticks_of t) × (int_le (pos 1) (ticks_of t) ≡ true))
        × ((pico_of t < 2 ^ 16) × (nat_le (pico_of t) 9999 ≡ true)))
        × (t ≡ moment (ticks_of t) (pico_of t))
    time_fits t h =
        let few = pico_within t in
        let late : pos 1 ≤ℤ ticks_of t = omega (arith, ints, h.0, few, whole_again t) in (
          ((h.1, at_least_one (ticks_of t) late), (omega (arith, few), le-leb (pico_of t) 9999 few)),
          sym (whole_again t),
        )

stamp_fits : (s : Option Stamp) → IsStamp s
    → ((FitsSigned w64 (stamp_fields s).0 × ((stamp_fields s).1 < 2 ^ 8))
    × (are_stamp (stamp_fields s) ≡ true)) × (s ≡ stamp_of (stamp_fields s))
stamp_fits None h = (((omega (arith, ints), omega arith), refl), refl)
stamp_fits (Some s) h = (
  ((omega (arith, ints, h.0, h.1), omega (arith, h.2.0, h.2.1)), lawful s h),
  same s h,
)
  where
    lawful : (s : Stamp) → IsStamp (Some s) → are_stamp (s.tick, s.origin) ≡ true
    lawful s h = grind (arith, ints, nat_tests, h.0, h.1, h.2.0, h.2.1)

    same : (s : Stamp) → IsStamp (Some s) → Some s ≡ stamp_of (s.tick, s.origin)
    same s h =
        let some : (s.origin == 0) ≡ false = grind (arith, nat_tests, h.2.0, h.2.1) in
        rw some refl

pub stamp_lawful : IsLawful stamp
unfolding stamp signed
stamp_lawful = fitting_lawful IsStamp stamp_fits (standing_lawful stamp_of stamp_fields
    (passing_lawful are_stamp BadEncodingByte (then_lawful i64_lawful byte_lawful)))

abbrev position_of : Phase × (ℤ × (Option Stamp × ℕ)) → Position
position_of fields = record {
  phase = fields.0;
  time = fields.1.0;
  stamp = fields.1.1.0;
  given =
      fields.1.1.1;
}

abbrev position_fields : Position → Phase × (ℤ × (Option Stamp × ℕ))
position_fields p = (p.phase, (p.time, (p.stamp, p.given)))

pub position_lawful : IsLawful position
unfolding position phase point_time stamp unsigned
position_lawful = fitting_lawful IsPosition (λ v h. ((tt, ((h.0, h.1), (h.2, h.3))), refl))
    (standing_lawful position_of position_fields (then_lawful phase_lawful
    (then_lawful time_lawful (then_lawful stamp_lawful u32_lawful))))

pub point_lawful : IsLawful point
unfolding point node_id details position vector
point_lawful = fitting_lawful IsPoint (λ v h. (
  ((((omega arith, refl), (h.archive, (h.node, (h.details, (h.position, h.vector))))), refl)),
  h.suits,
))
    (passing_lawful _ BadEncodingByte (standing_lawful of_fields fields_of
    (then_lawful (passing_lawful _ BadEncodingByte byte_lawful)
    (then_lawful (block_lawful 16) (then_lawful
    (canonical_lawful BadEncodingByte node_id_lawful)
    (then_lawful details_lawful (then_lawful position_lawful
    (raised_lawful _ vector_lawful))))))))

pub short_point_lawful : IsLawful short_point
unfolding short_point
short_point_lawful =
    passing_lawful _ BadEncodingByte (standing_lawful of_fields fields_of
    (then_lawful (passing_lawful _ BadEncodingByte byte_lawful)
    (then_lawful (block_lawful 16) (then_lawful short_node_lawful
    (then_lawful details_lawful (then_lawful position_lawful
    (raised_lawful _ vector_lawful)))))))

pub ruleset lawful = (point_lawful)

-- a node that has a spelling is short enough to be written
pub short_id : (v : NodeId) → IsNodeId v → IsShortNode v
short_id (Numeric ns id) h = tt
short_id (Named ns name) h = h.1
short_id (Global ns id) h = tt
short_id (Opaque ns id) h = h.1

pub ruleset written = (short_id)
