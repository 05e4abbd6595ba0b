use Rattle.std.proofs.Common.{ap, refl, ◌∙◌, arith}
use Rattle.std.proofs.lemmas.Float.{not_nan_f64_bits}
use Rattle.std.specs.Float.{binary64}
use Rattle.std.specs.Float.Parse.{parse_float}
use Rattle.history_text.proofs.FloatsLemmas.{double_nan, double_number}
use Rattle.history_text.proofs.floats.double_spelled.Goals as goal

pub returns-then-bits-gt9218868437227405312 : goal.returns-then-bits-gt9218868437227405312
returns-then-bits-gt9218868437227405312 c = double_nan c.args.bytes.now _ c.from_le_bytes-bits.result
    c.from_le_bytes-bits.ensures c.if-bits-gt9218868437227405312.true refl

pub float_from_bits-bits : goal.float_from_bits-bits
float_from_bits-bits c =
    not_nan_f64_bits c.from_le_bytes-bits.result
    (omega (arith, c.if-bits-gt9218868437227405312.false))

pub returns : goal.returns
returns c = double_number c.args.bytes.now _ c.from_le_bytes-bits.result
    c.from_le_bytes-bits.ensures (omega (arith, c.from_le_bytes-bits.type_inv)) c.told-bytes
    c.fits-bytes (omega (arith, c.if-bits-gt9218868437227405312.false)) c.format.ensures.parses
