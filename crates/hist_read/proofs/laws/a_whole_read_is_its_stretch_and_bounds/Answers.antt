use Rattle.hist_read.proofs.Wholes.{whole_is, whole_modified_is}
use Rattle.hist_read.proofs.laws.a_whole_read_is_its_stretch_and_bounds.Goals as goal

pub returns-clause-raw : goal.returns-clause-raw
returns-clause-raw c = λ R node. whole_is R node c.args.details

pub returns-clause-modified : goal.returns-clause-modified
returns-clause-modified c = λ R node. whole_modified_is R node c.args.details
