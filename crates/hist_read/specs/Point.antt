-- A continuation point as bytes, format 3: the byte 3, archive, node, what was asked, the place
-- where the page ended, and the vector of the first page (Part 4, 7.9).
use Rattle.std.specs.Prelude.{◌≡◌, ℕ, ◌^◌, ◌<◌, nat_lt, nat_le, ◌==◌, ℤ, pos, ◌≤ℤ◌, int_le, Bool, true, not, ◌&&◌, List, length, Option, Some, None, is_some, IfSome, if◌then◌else◌}
use Rattle.std.specs.Option.{option_map_or}
use Rattle.std.specs.Result.{result_ok}
use Rattle.std.specs.Ordering.{int_eq}
use Rattle.std.specs.Int.{w16, w32, w64}
use Rattle.std.specs.Int.RustNames.{FitsSigned}
use Rattle.stamp.specs.Limits.{greatest, IsReplica}
use Rattle.stamp.specs.declared.stamps.Stamp.{Stamp}
use Rattle.ua_binary.specs.declared.fault.BinaryFault.{BinaryFault}
use Rattle.ua_binary.specs.declared.fault.BinaryFault.TheVariants.{BadEncodingByte}
use Rattle.ua_binary.specs.declared.values.NodeId.{NodeId}
use Rattle.ua_binary.specs.Format.{Format, byte, block, ◌▸◌, standing_for, passing, canonical, fitting, raised, whole}
use Rattle.ua_binary.specs.Binary.{unsigned, signed, boolean, ticks, node_id, node_of, IsNodeId}
use Rattle.ua_services.specs.declared.history.ReadRawModifiedDetails.{ReadRawModifiedDetails as Details}
use Rattle.ua_services.specs.History.{raw_of, raw_fields}
use Rattle.stamp.specs.Numbers.{IsVector}
use Rattle.stamp.specs.Vector.{vector}
use Rattle.hist_read.specs.declared.point.Phase.{Phase}
use Rattle.hist_read.specs.declared.point.Phase.TheVariants.{Near, Body}
use Rattle.hist_read.specs.declared.point.Position.{Position}
use Rattle.hist_read.specs.declared.point.PagePoint.{PagePoint}
use Rattle.hist_read.specs.Asking.{has_both, first_time}
use Rattle.records.specs.Moments.{moment, ticks_of, pico_of}

-- ---- what was asked

-- what was asked has a spelling
abbrev pub IsDetails : Details → Type 0
IsDetails d =
    FitsSigned w64 d.start_time.0 × FitsSigned w64 d.end_time.0 × (d.num_values_per_node < 2 ^ 32)

-- whether modifications are meant, start, end, the most values, whether bounds are wanted, as the
-- request has them; a Boolean is 0 or 1
unfoldable pub details : Format BinaryFault Details
details =
    fitting IsDetails
    (standing_for raw_of raw_fields
    (canonical BadEncodingByte boolean ▸ ticks ▸ ticks ▸ unsigned w32
    ▸ canonical BadEncodingByte boolean))

-- ---- where the page ended

-- 1 for the near bound, 2 for an item behind it
unfoldable pub phase : Format BinaryFault Phase
phase =
    fitting (λ _. Unit {0})
    (standing_for (λ n. if n == 1 then Near else Body) (λ phase. elim phase [ Near ↦ 1 | Body ↦ 2 ])
    (passing (λ n. nat_le 1 n && nat_le n 2) BadEncodingByte byte))

-- a moment: its ticks, and then its picoseconds in tens
unfoldable pub point_time : Format BinaryFault ℤ
point_time =
    fitting (λ t. (first_time ≤ℤ t) × FitsSigned w64 (ticks_of t))
    (standing_for (λ p. moment p.0 p.1) (λ t. (ticks_of t, pico_of t))
    (passing (λ t. int_le (pos 1) t) BadEncodingByte (signed w64)
    ▸ passing (λ n. nat_le n 9999) BadEncodingByte (unsigned w16)))

-- the stamp, where there is one, has a spelling
abbrev pub IsStamp : Option Stamp → Type 0
IsStamp stamp =
    IfSome stamp (λ s. (pos 1 ≤ℤ s.tick) × (s.tick ≤ℤ pos greatest) × IsReplica s.origin)

-- no stamp is told by zeros; a tick and an origin are in their ranges
abbrev pub is_stamp : ℤ × ℕ → Bool
is_stamp (tick, origin) =
    if origin == 0 then int_eq tick (pos 0)
    else (nat_le origin 64 && (int_le (pos 1) tick && int_le tick (pos greatest)))

-- a record's tick and origin; zeros for none
unfoldable pub stamp : Format BinaryFault (Option Stamp)
stamp =
    fitting IsStamp
    (standing_for (λ p. if p.1 == 0 then None else Some (record { tick = p.0; origin = p.1 }))
    (λ stamp. option_map_or (λ s. (s.tick, s.origin)) stamp (pos 0, 0))
    (passing is_stamp BadEncodingByte (signed w64 ▸ byte)))

-- the position has a spelling
abbrev pub IsPosition : Position → Type 0
IsPosition p =
    (first_time ≤ℤ p.time) × FitsSigned w64 (ticks_of p.time) × IsStamp p.stamp × (p.given < 2 ^ 32)

-- phase, time, stamp, and how many items were given
unfoldable pub position : Format BinaryFault Position
position = fitting IsPosition (standing_for
    (λ (phase, (time, (stamp, given))). record
    { phase = phase; time = time; stamp = stamp; given = given })
    (λ p. (p.phase, (p.time, (p.stamp, p.given))))
    (phase ▸ point_time ▸ stamp ▸ unsigned w32))

-- ---- what suits what was asked

-- the near bound may have been the last item only where raw values are asked for with their bounds;
-- a modification has its record's stamp, a raw value none; no items are counted where both times
-- are given, else one at least was given, and fewer than are asked for
abbrev pub suits : Details → Position → Bool
suits d p =
    (elim p.phase [ Near ↦ d.return_bounds && not d.is_read_modified | Body ↦ true ])
    && ((if is_some p.stamp then d.is_read_modified else not d.is_read_modified)
    &&
    (if has_both d then p.given == 0
    else (nat_lt 0 p.given && nat_lt p.given d.num_values_per_node)))

-- ---- the whole

-- a continuation point's fields behind its first byte
pub record Point : Type 0 where
  pub archive : List ℕ
  pub node : NodeId
  pub details : Details
  pub position : Position
  pub vector : List ℕ

-- a borrowed one as these
abbrev pub point_of : PagePoint → Point
point_of p =
    record {
      archive = p.archive;
      node = node_of p.node;
      details = p.details;
      position = p.position;
      vector = p.vector;
    }

-- what has a spelling
pub record IsPoint (p : Point) : Type 0 where
  pub archive : length p.archive ≡ 16
  pub node : IsNodeId p.node
  pub details : IsDetails p.details
  pub position : IsPosition p.position
  pub suits : suits p.details p.position ≡ true
  pub vector : IsVector p.vector

-- a point by its fields, behind the format's number
abbrev pub point_in_fields : ℕ × (List ℕ × (NodeId × (Details × (Position × List ℕ)))) → Point
point_in_fields (format, (archive, (node, (details, (position, vector))))) =
    record {
      archive = archive;
      node = node;
      details = details;
      position = position;
      vector = vector;
    }

-- 3, the archive's id, the node as it is written and in no other way, what was asked, where the
-- page ended, and the vector
unfoldable pub point : Format BinaryFault Point
point = fitting IsPoint (passing (λ p. suits p.details p.position) BadEncodingByte
    (standing_for point_in_fields
    (λ p. (3, (p.archive, (p.node, (p.details, (p.position, p.vector))))))
    (passing (λ n. n == 3) BadEncodingByte byte ▸ block 16 ▸ canonical BadEncodingByte node_id
    ▸ details ▸ position ▸ raised (λ _. BadEncodingByte) vector)))

-- the continuation point that all of these bytes spell, if any
abbrev pub point_in : List ℕ → Option Point
point_in bytes = result_ok (whole BadEncodingByte point bytes)

-- a position that a page of what was asked may end at: with these, and a node that can be counted,
-- a point has a spelling
abbrev pub IsNext : Details → Position → Type 0
IsNext d p = (first_time ≤ℤ p.time) × IsStamp p.stamp × (suits d p ≡ true)
