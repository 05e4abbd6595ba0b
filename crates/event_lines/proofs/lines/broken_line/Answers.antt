use Rattle.std.specs.Int.{w64}
use Rattle.std.proofs.lemmas.Int.{to_z-of_z}
use Rattle.event_lines.specs.Lines.{broken_text}
use Rattle.event_lines.proofs.LinesLemmas.{line_goes_on}
use Rattle.event_lines.proofs.lines.broken_line.Goals as goal

pub returns : goal.returns
returns c =
    line_goes_on c.args.at broken_text c.in_ok-line.line.items
    c.extend_from_slice.new.self.items (rw (to_z-of_z w64 c.args.at c.ranges.at) at c.in_ok-line.ensures)
    c.in_ok-extend_from_slice.ensures.items
