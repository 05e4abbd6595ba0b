-- Records that are lawful but for their size.
use Rattle.std.proofs.Common.{◌≡◌, ◌≤◌, true, false, arith}
use Rattle.std.specs.Str.{is_utf8}
use Rattle.ua_binary.specs.Binary.{IsNodeId, IsShortNode}
use Rattle.ua_binary.specs.declared.values.NodeId.{NodeId}
use Rattle.ua_binary.specs.declared.values.NodeId.TheVariants.{Numeric, Named, Global, Opaque}
use Rattle.std.proofs.lemmas.Bool.{ltb-false, le-ltb}
use Rattle.std.specs.Int.{w64}
use Rattle.std.specs.Int.RustNames.{FitsSigned}
use Rattle.stamp.specs.Limits.{IsReplica}
use Rattle.records.specs.declared.record.Record.{Record}
use Rattle.records.specs.Moments.{ticks_of}
use Rattle.records.specs.Spelling.{IsLawfulRecord}
use Rattle.archive.specs.Growth.{id_length}
use Rattle.ua_variant.specs.DataValue.{IsDataValue, IsShortData}
use Rattle.hist_update.specs.Operating.{IsDraft, is_long}

pub short_node : (node : NodeId) → id_length node ≤ 256 → IsShortNode node
short_node (Numeric ns id) h = tt
short_node (Named ns name) h = omega (arith, h)
short_node (Global ns id) h = tt
short_node (Opaque ns id) h = omega (arith, h)

pub draft_lawful : (r : Record) → IsReplica r.origin → FitsSigned w64 (ticks_of r.time)
    → (IsShortNode r.node → IsNodeId r.node) → is_utf8 r.user ≡ true
    → (IsShortData r.value → IsDataValue r.value) → IsDraft r → is_long r ≡ false → IsLawfulRecord r
draft_lawful r origin fits spelled text written d e =
    record {
      origin = origin;
      number = d.number;
      node = spelled (short_node r.node d.node);
      time =
          (d.time, fits);
      user = (d.user, text);
      value = written d.value;
      suits = d.suits;
      size =
          ltb-false _ _ e;
    }

pub lawful_short : (r : Record) → IsLawfulRecord r → is_long r ≡ false
lawful_short r l = le-ltb _ _ l.size

pub ruleset drafts = (draft_lawful, lawful_short)
