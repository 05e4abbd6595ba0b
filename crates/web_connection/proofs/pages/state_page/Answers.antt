use Rattle.stamp.specs.Numbers.{number_of}
use Rattle.web_page.specs.Calls.{overview_of}
use Rattle.web_connection.specs.Status.{IsStatusJson}
use Rattle.web_connection.proofs.PeerLemmas.{answer-told}
use Rattle.web_connection.proofs.pages.state_page.Goals as goal

pub returns : goal.returns
returns c =
    answer-told (λ text. text.items) c.page_text.result c.args.head_only
    (IsStatusJson (overview_of c.args.overview) (number_of c.args.vector.now))
    c.in_ok-page.page.items c.as_slice.result.now c.as_slice.ensures.value c.in_ok-page.ensures
    c.page_text.ensures
