use Rattle.sql_archive.proofs.FileLemmas.{still_held, still_renewed, still_cleared, still_resumed}
use Rattle.sql_archive.proofs.laws.refused_openings_lose_nothing.Goals as goal

pub returns-clause-held : goal.returns-clause-held
returns-clause-held c = still_held

pub returns-clause-resumed : goal.returns-clause-resumed
returns-clause-resumed c = still_resumed

pub returns-clause-renewed : goal.returns-clause-renewed
returns-clause-renewed c = still_renewed

pub returns-clause-cleared : goal.returns-clause-cleared
returns-clause-cleared c = still_cleared
