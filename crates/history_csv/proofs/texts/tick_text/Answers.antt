use Rattle.std.specs.Int.{w64}
use Rattle.std.proofs.lemmas.Int.{to_z-of_z}
use Rattle.history_csv.proofs.texts.tick_text.Goals as goal

pub returns-clause-written : goal.returns-clause-written
returns-clause-written c =
    rw (to_z-of_z w64 c.args.ticks c.ranges.ticks) at c.in_ok-text.ensures.written
