use Rattle.hist_read.proofs.Joining.{modified_join}
use Rattle.hist_read.proofs.laws.pages_of_modifications_join.Goals as goal

pub returns : goal.returns
returns c = λ R lawful node p next is.
    modified_join R node c.args.details c.body-span.result.from c.body-span.result.to lawful
    c.body-span.ensures p next is
