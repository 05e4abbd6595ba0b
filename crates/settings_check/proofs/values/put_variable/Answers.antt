use Rattle.std.proofs.Common.{◌++◌, ap, ◌∙◌}
use Rattle.history_report.specs.Tables.{legible}
use Rattle.settings_check.proofs.ValueLemmas.{puts-variable}
use Rattle.settings_check.proofs.values.put_variable.Goals as goal

pub returns : goal.returns
returns c =
    puts-variable c.put_type.result c.args.out.now.items c.put_shown.new.out.items
    c.put_ends.new.out.items c.push.new.self.items c.put_type.new.out.items c.args.node.now
    c.args.ends.now
    (c.in_ok-put_shown.ensures ∙ ap (λ t. c.args.out.now.items ++ legible t) c.id_text.ensures)
    c.in_ok-put_ends.ensures c.in_ok-push.ensures.items c.put_type.ensures
