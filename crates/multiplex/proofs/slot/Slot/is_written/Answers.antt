use Rattle.std.proofs.Common.{ap, arith}
use Rattle.multiplex.specs.Slots.{Slot}
use Rattle.multiplex.proofs.Stepping.{written_all}
use Rattle.multiplex.proofs.slot.Slot.is_written.Goals as goal

pub returns : goal.returns
returns g c =
    written_all c.self.inside.sent c.len.result c.self.inside.out.items c.args.self.now.waiting
    (ap (λ (s : Slot _ _ _ _). s.waiting) c.self.view_is) c.self.invariant
    (omega (arith, c.len.ensures, c.self.inside.out.ok))
