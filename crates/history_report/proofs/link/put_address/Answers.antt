use Rattle.std.proofs.Common.{◌++◌, List, ℕ, ap, ◌∙◌}
use Rattle.history_report.proofs.HeaderLemmas.{address-put}
use Rattle.history_report.proofs.link.put_address.Goals as goal

pub returns : goal.returns
returns c =
    address-put c.args.report.now c.args.next c.as_slice.result.now c.args.out.now.items
    c.extend_from_slice.new.self.items c.put_serialized.new.out.items c.put_field.new.out.items
    c.put_field-2.new.out.items c.extend_from_slice-2.new.self.items
    (c.as_slice.ensures.value ∙ c.in_ok-node.ensures.written)
    c.in_ok-extend_from_slice.ensures.items c.in_ok-put_serialized.ensures
    c.in_ok-put_field.ensures c.in_ok-put_field-2.ensures
    (c.in_ok-extend_from_slice-2.ensures.items
    ∙ ap (λ (l : List ℕ). c.put_field-2.new.out.items ++ l) c.changes_field.ensures)
