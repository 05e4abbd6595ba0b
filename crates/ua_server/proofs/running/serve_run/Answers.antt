use Rattle.std.proofs.Common.{refl}
use Rattle.multiplex.specs.Turns.{state}
use Rattle.ua_server.proofs.running.serve_run.Goals as goal

pub returns : goal.returns
returns g c first =
    let (last, served) = c.serve-report.ensures first in (
      last,
      record {
        last = state c.serve-report.new.source c.serve-report.new.slots c.serve-report.new.world last;
        done = c.serve-report.result.is_done;
        longest = c.serve-report.result.longest_turn;
        served = served;
        turned = c.tell_turn.new.world;
        tells = c.tell_turn.ensures;
        breaks = c.tell_break.ensures;
        others = refl;
      },
    )
