use Rattle.std.proofs.Common.{codes}
use Rattle.history_report.specs.Html.{escaped}
use Rattle.web_page.proofs.RowLemmas.{five-put}
use Rattle.web_page.proofs.row.put_anchor.Goals as goal

pub returns : goal.returns
returns c =
    five-put c.extend_from_slice-3.result c.args.out.now.items (codes "<td><a href=\"")
    (escaped c.args.address.now) (codes "\">") (escaped c.args.text.now) (codes "</a></td>")
    c.extend_from_slice.new.self.items c.put_escaped.new.out.items
    c.extend_from_slice-2.new.self.items c.put_escaped-2.new.out.items
    c.extend_from_slice-3.new.self.items c.in_ok-extend_from_slice.ensures.items
    c.in_ok-put_escaped.ensures c.in_ok-extend_from_slice-2.ensures.items
    c.in_ok-put_escaped-2.ensures c.extend_from_slice-3.ensures.items
