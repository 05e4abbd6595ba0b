use Rattle.std.proofs.Common.{◌∙◌}
use Rattle.history_report.proofs.HeaderLemmas.{header-put}
use Rattle.history_report.proofs.html.put_page_header.Goals as goal

pub returns : goal.returns
returns c =
    header-put c.args.report.now c.as_slice.result.now c.args.drawing.now c.args.out.now.items
    c.put_top.new.out.items c.put_stretch.new.out.items c.extend_from_slice.new.self.items
    c.put_next_link.new.out.items c.put_head.new.out.items
    (c.as_slice.ensures.value ∙ c.in_ok-node.ensures.written) c.requires c.in_ok-put_top.ensures
    c.in_ok-put_stretch.ensures c.in_ok-extend_from_slice.ensures.items
    c.in_ok-put_next_link.ensures c.in_ok-put_head.ensures
