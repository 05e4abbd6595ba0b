use Rattle.std.specs.Int.{w64}
use Rattle.std.proofs.lemmas.Int.{to_z-of_z}
use Rattle.event_lines.specs.Lines.{denial_text}
use Rattle.event_lines.proofs.LinesLemmas.{line_goes_on}
use Rattle.event_lines.proofs.lines.denial_line.Goals as goal

pub returns : goal.returns
returns c =
    line_goes_on c.args.at (denial_text c.args.from) c.in_ok-line.line.items
    c.put_denial.new.line.items (rw (to_z-of_z w64 c.args.at c.ranges.at) at c.in_ok-line.ensures)
    c.in_ok-put_denial.ensures
