-- How many bytes a record takes, and what that tells of it.
use Rattle.std.proofs.Common.{◌≡◌, ℕ, ◌+◌, ◌<◌, ◌≤◌, ◌^◌, ℤ, true, List, length, arith}
use Rattle.std.specs.Prelude.{IfSome}
use Rattle.std.specs.Int.{w64}
use Rattle.std.specs.Int.RustNames.{FitsSigned}
use Rattle.std.specs.Str.{is_utf8}
use Rattle.std.proofs.lemmas.List.{length-append}
use Rattle.stamp.specs.Limits.{IsReplica}
use Rattle.ua_binary.specs.Format.{◌▸◌}
use Rattle.ua_binary.specs.Binary.{node_id, IsNodeId, IsShortNode}
use Rattle.ua_binary.proofs.Sizes.{text_length}
use Rattle.ua_variant.specs.DataValue.{data_value, IsDataValue, IsShortData}
use Rattle.ua_variant.specs.Variant.{IsShortVariant}
use Rattle.records.specs.declared.record.Record.{Record}
use Rattle.ua_variant.specs.declared.update_type.HistoryUpdateType.{HistoryUpdateType}
use Rattle.records.specs.Moments.{ticks_of}
use Rattle.records.specs.Spelling.{time, front, fields, longest, HasLimits, IsLawfulRecord}
use Rattle.records.specs.Fields.{asked, user, value, parts_of}

time_length : (t : ℤ) → length (time.canon t) ≡ 10
unfolding time Rattle.ua_binary.specs.Binary.signed Rattle.ua_binary.specs.Binary.unsigned
time_length t = omega arith

late_length : (t : ℤ) (a : HistoryUpdateType) (u : List ℕ)
    → length ((time ▸ asked ▸ user).canon (t, (a, u))) ≡ 15 + length u
unfolding Rattle.ua_binary.specs.Binary.signed Rattle.ua_binary.specs.Binary.unsigned
late_length t a u = omega (
  arith,
  length-append (time.canon t) ((asked ▸ user).canon (a, u)),
  time_length t,
  text_length u,
)

front_length : (r : Record) → length (front.canon (parts_of r).0)
    ≡ 33 + (length (node_id.canon r.node) + length r.user)
unfolding Rattle.ua_binary.specs.Binary.signed Rattle.ua_binary.specs.Binary.unsigned
front_length r = omega (
  arith,
  length-append (node_id.canon r.node)
      ((time ▸ asked ▸ user).canon (r.time, (r.asked, r.user))),
  late_length r.time r.asked r.user,
)

pub fields_length : (r : Record) → length (fields.canon r)
    ≡ 33 + (length (node_id.canon r.node) + length r.user) + length (data_value.canon r.value)
unfolding fields
fields_length r = omega (
  arith,
  length-append (front.canon (parts_of r).0)
      (data_value.canon r.value),
  front_length r,
)

small : (r : Record) → length (fields.canon r) ≤ longest
    → (length (node_id.canon r.node) < 2 ^ 31) × (length (data_value.canon r.value) < 2 ^ 31)
small r h = (omega (arith, fields_length r, h), omega (arith, fields_length r, h))

-- what passes the tests has a spelling
pub lawful_by : (r : Record) → IsReplica r.origin → FitsSigned w64 (ticks_of r.time)
    → is_utf8 r.user ≡ true
    → (length (node_id.canon r.node) < 2 ^ 31 → IsShortNode r.node)
    → (IsShortNode r.node → IsNodeId r.node)
    → (length (data_value.canon r.value) < 2 ^ 31 → IfSome r.value.value IsShortVariant)
    → (IsShortData r.value → IsDataValue r.value)
    → HasLimits r → length (fields.canon r) ≤ longest → IsLawfulRecord r
lawful_by r origin fits utf8 few_node node few_value value limits size =
    let few = small r size in
    record {
      origin = origin;
      number = limits.number;
      node = node (few_node few.0);
      time = (limits.time, fits);
      user = (limits.user, utf8);
      value = value (few_value few.1, limits.picoseconds.0, limits.picoseconds.1);
      suits = limits.suits;
      size = size;
    }

pub lawful_limits : (r : Record) → IsLawfulRecord r → HasLimits r
lawful_limits r l = record {
  number = l.number;
  time = l.time.0;
  user = l.user.0;
  picoseconds =
      (l.value.3, l.value.5);
  suits = l.suits;
}

pub ruleset lawfulness = (lawful_by, lawful_limits)
