use Rattle.std.proofs.Common.{◌++◌, List, ℕ, ap, ◌∙◌}
use Rattle.history_report.proofs.DrawingLemmas.{unmarked-put, marks-put}
use Rattle.history_report.proofs.figure.put_marks.Goals as goal

pub returns-then-is_empty : goal.returns-then-is_empty
returns-then-is_empty c = unmarked-put c.args.out.now.items

pub returns : goal.returns
returns c =
    marks-put c.args.out.now.items c.extend_from_slice.new.self.items
    c.extend_from_slice-2.new.self.items c.extend_from_slice-3.new.self.items
    c.in_ok-marks.marks.items c.in_ok-marks.ensures c.in_ok-extend_from_slice.ensures.items
    (c.in_ok-extend_from_slice-2.ensures.items
    ∙ ap (λ (l : List ℕ). c.extend_from_slice.new.self.items ++ l) c.as_slice.ensures.value)
    c.in_ok-extend_from_slice-3.ensures.items
