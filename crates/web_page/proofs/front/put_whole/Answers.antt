use Rattle.web_page.specs.Calls.{overview_of}
use Rattle.web_page.specs.Front.{IsPageAround}
use Rattle.web_page.proofs.CallLemmas.{page-put}
use Rattle.web_page.proofs.front.put_whole.Goals as goal

pub returns-clause-put : goal.returns-clause-put
returns-clause-put c =
    page-put c.extend_from_slice.result
    (IsPageAround (overview_of c.args.overview) c.args.rows.now) c.args.out.now.items
    c.in_ok-page.page.items c.as_slice.result.now c.extend_from_slice.new.self.items
    c.as_slice.ensures.value c.in_ok-page.ensures c.extend_from_slice.ensures.items
