use Rattle.std.proofs.Common.{refl}
use Rattle.sql_tables.proofs.AgreeLemmas.{none_risen}
use Rattle.sql_tables.proofs.integrity.no_ids.Goals as goal

pub returns : goal.returns
returns c = none_risen _ refl refl
