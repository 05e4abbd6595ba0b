use Rattle.sql_opening.proofs.RenewLemmas.{moments1}
use Rattle.sql_archive.proofs.laws.moments_of_format_1_have_no_picoseconds.Goals as goal

pub returns : goal.returns
returns c = moments1
