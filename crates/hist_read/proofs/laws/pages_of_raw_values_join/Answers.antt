use Rattle.hist_read.proofs.RawJoining.{raw_joins}
use Rattle.hist_read.proofs.laws.pages_of_raw_values_join.Goals as goal

pub returns : goal.returns
returns c = λ R lawful node p next is.
    raw_joins R node c.args.details c.body-span.result.from c.body-span.result.to lawful
    c.body-span.ensures p next is
