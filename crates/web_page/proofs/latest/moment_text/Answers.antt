use Rattle.std.proofs.Common.{subst}
use Rattle.history_text.specs.Times.{IsTimeText}
use Rattle.web_page.proofs.latest.moment_text.Goals as goal

pub returns : goal.returns
returns c =
    subst (λ parts. IsTimeText parts c.in_ok-text.text.items) c.parts_of.ensures.same
    c.in_ok-text.ensures.written
