use Rattle.std.proofs.Common.{refl, w64}
use Rattle.std.proofs.lemmas.Int.{to_z-of_z}
use Rattle.ua_server.proofs.Logged.{counted}
use Rattle.ua_server.proofs.log.ErrorLog.tell_counted.Goals as goal

pub returns : goal.returns
returns g c event is =
    counted g.E.Write.contents event c.args.self.now c.tell_line.new.self _ c.with_told-self.result
    c.args.at (c.tell_line.ensures.told event c.args.at is) c.tell_line.ensures.same refl
    (rw (to_z-of_z w64 c.args.at c.ranges.at) at c.with_told-self.ensures)
