use Rattle.std.proofs.Common.{subst}
use Rattle.history_text.specs.Times.{IsTimeText}
use Rattle.history_csv.proofs.texts.moment_text.Goals as goal

pub returns-clause-written : goal.returns-clause-written
returns-clause-written c =
    subst (λ parts. IsTimeText parts c.in_ok-text.text.items) c.parts_of.ensures.same
    c.in_ok-text.ensures.written
