use Rattle.std.proofs.Common.{subst}
use Rattle.history_text.specs.Times.{IsTimeText}
use Rattle.web_page.proofs.calls.CallEnd.time_text.Goals as goal

pub returns : goal.returns
returns c =
    subst (λ moment. IsTimeText moment c.in_ok-text.text.items) c.end_time.ensures.same
    c.in_ok-text.ensures.written
