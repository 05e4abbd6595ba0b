use Rattle.std.specs.Int.{w64}
use Rattle.std.proofs.lemmas.Int.{to_z-of_z}
use Rattle.event_lines.specs.Lines.{call_text}
use Rattle.event_lines.proofs.LinesLemmas.{line_goes_on}
use Rattle.event_lines.proofs.lines.call_line.Goals as goal

pub returns : goal.returns
returns c =
    line_goes_on c.args.at (call_text c.args.address.now c.args.reason.now c.args.moved) c.in_ok-line.line.items
    c.put_call.new.line.items (rw (to_z-of_z w64 c.args.at c.ranges.at) at c.in_ok-line.ensures)
    c.in_ok-put_call.ensures
