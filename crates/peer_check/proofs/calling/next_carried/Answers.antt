use Rattle.std.proofs.Common.{refl}
use Rattle.peer_check.proofs.calling.next_carried.Goals as goal

pub returns-in-Carries-clause-hears : goal.returns-in-Carries-clause-hears
returns-in-Carries-clause-hears g c =
    (c.in-Carries.title, refl, rw c.in-Carries.is at c.in_ok-title.ensures.hears)
