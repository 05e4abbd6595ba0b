use Rattle.history_report.proofs.HeaderLemmas.{field-put}
use Rattle.history_report.proofs.link.put_field.Goals as goal

pub returns : goal.returns
returns c =
    field-put c.args.word.now c.args.out.now.items c.extend_from_slice.new.self.items
    c.put_serialized.new.out.items c.as_slice.result.now c.in_ok-text.text.items c.args.bound
    c.in-Some.moment c.in-Some.is c.in_ok-extend_from_slice.ensures.items
    c.in_ok-put_serialized.ensures c.as_slice.ensures.value c.in_ok-text.ensures
