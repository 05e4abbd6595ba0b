use Rattle.std.proofs.Common.{◌++◌, List, ℕ, ap, ◌∙◌}
use Rattle.history_report.proofs.DrawingLemmas.{line-put}
use Rattle.history_report.proofs.figure.put_line.Goals as goal

pub returns : goal.returns
returns c =
    line-put c.args.out.now.items c.extend_from_slice.new.self.items
    c.extend_from_slice-2.new.self.items c.extend_from_slice-3.new.self.items
    c.in_ok-path.path.items c.in_ok-path.ensures
    (c.in_ok-extend_from_slice.ensures.items
    ∙ ap (λ (l : List ℕ). c.args.out.now.items ++ l) c.figure_begin.ensures)
    (c.in_ok-extend_from_slice-2.ensures.items
    ∙ ap (λ (l : List ℕ). c.extend_from_slice.new.self.items ++ l) c.as_slice.ensures.value)
    c.in_ok-extend_from_slice-3.ensures.items
