use Rattle.std.specs.Int.{w64}
use Rattle.std.proofs.lemmas.Int.{to_z-of_z}
use Rattle.event_lines.proofs.parts.line_at.Goals as goal

pub returns : goal.returns
returns c = (
  c.in_ok-line.line.items,
  rw (to_z-of_z w64 c.args.at c.ranges.at) at c.in_ok-line.ensures.written,
  c.in_ok-push.ensures.items,
)
