use Rattle.std.proofs.Common.{arith}
use Rattle.std.proofs.lemmas.Float.{not_nan_f32_bits}
use Rattle.history_report.proofs.number.float_of.Goals as goal

pub float_from_bits-bits : goal.float_from_bits-bits
float_from_bits-bits c =
    not_nan_f32_bits c.args.bits (omega (arith, c.if-bits-gt2139095039.false))
