use Rattle.history_report.proofs.HeaderLemmas.{link-put}
use Rattle.history_report.proofs.link.put_next_link.Goals as goal

pub returns : goal.returns
returns c =
    link-put c.args.report.now c.in-Some.next c.new-address.result.items
    c.put_address.new.out.items c.as_slice.result.now
    c.args.out.now.items c.extend_from_slice.new.self.items c.put_escaped.new.out.items
    c.extend_from_slice-2.new.self.items c.in-Some.is c.new-address.ensures.items
    c.in_ok-put_address.ensures
    c.as_slice.ensures.value c.in_ok-extend_from_slice.ensures.items c.in_ok-put_escaped.ensures
    c.in_ok-extend_from_slice-2.ensures.items
