use Rattle.std.proofs.Common.{ap, refl, ◌∙◌, arith}
use Rattle.std.proofs.lemmas.Float.{not_nan_f32_bits}
use Rattle.std.specs.Float.{binary32}
use Rattle.std.specs.Float.Parse.{parse_float}
use Rattle.history_text.proofs.FloatsLemmas.{single_nan, single_number}
use Rattle.history_text.proofs.floats.single_spelled.Goals as goal

pub returns-then-bits-gt2139095040 : goal.returns-then-bits-gt2139095040
returns-then-bits-gt2139095040 c = single_nan c.args.bytes.now _ c.from_le_bytes-bits.result
    c.from_le_bytes-bits.ensures c.if-bits-gt2139095040.true refl

pub float_from_bits-bits : goal.float_from_bits-bits
float_from_bits-bits c =
    not_nan_f32_bits c.from_le_bytes-bits.result
    (omega (arith, c.if-bits-gt2139095040.false))

pub returns : goal.returns
returns c = single_number c.args.bytes.now _ c.from_le_bytes-bits.result
    c.from_le_bytes-bits.ensures (omega (arith, c.from_le_bytes-bits.type_inv)) c.told-bytes
    c.fits-bytes (omega (arith, c.if-bits-gt2139095040.false)) c.format.ensures.parses
