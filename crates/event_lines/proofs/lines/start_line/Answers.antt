use Rattle.std.proofs.Common.{◌++◌}
use Rattle.std.specs.Prelude.{option_copied}
use Rattle.std.specs.Int.{w64}
use Rattle.std.proofs.lemmas.Int.{to_z-of_z}
use Rattle.event_lines.specs.Lines.{doors_text, browsers_text, start_text}
use Rattle.event_lines.proofs.LinesLemmas.{line_goes_on}
use Rattle.event_lines.proofs.lines.start_line.Goals as goal

pub returns : goal.returns
returns c =
    let start = c.args.start.now in
    line_goes_on c.args.at (start_text start.version.now start.archive.now start.replica
    (doors_text start.clients.now (option_copied start.peers)
    ++ browsers_text (option_copied start.browsers)) start.records) c.in_ok-line.line.items
    c.put_start.new.line.items (rw (to_z-of_z w64 c.args.at c.ranges.at) at c.in_ok-line.ensures)
    c.in_ok-put_start.ensures
