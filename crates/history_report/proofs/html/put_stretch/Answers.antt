use Rattle.std.proofs.Common.{◌++◌, List, ℕ, ap, ◌∙◌}
use Rattle.history_report.proofs.HeaderLemmas.{stretch-put}
use Rattle.history_report.proofs.html.put_stretch.Goals as goal

pub returns : goal.returns
returns c =
    stretch-put c.args.report.now c.args.out.now.items c.extend_from_slice.new.self.items
    c.put_bound.new.out.items c.put_bound-2.new.out.items
    (c.in_ok-extend_from_slice.ensures.items
    ∙ ap (λ (l : List ℕ). c.args.out.now.items ++ l) c.shown_word.ensures)
    c.in_ok-put_bound.ensures c.in_ok-put_bound-2.ensures
