use Rattle.std.specs.Int.{w64}
use Rattle.std.proofs.lemmas.Int.{to_z-of_z}
use Rattle.event_lines.specs.Lines.{connected_text}
use Rattle.event_lines.proofs.LinesLemmas.{line_goes_on}
use Rattle.event_lines.proofs.lines.connected_line.Goals as goal

pub returns : goal.returns
returns c =
    line_goes_on c.args.at (connected_text c.args.from c.args.door.now) c.in_ok-line.line.items
    c.put_connected.new.line.items (rw (to_z-of_z w64 c.args.at c.ranges.at) at c.in_ok-line.ensures)
    c.in_ok-put_connected.ensures
