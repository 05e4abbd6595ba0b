use Rattle.sqlite.proofs.Callers.{memory_is_clean}
use Rattle.sql_archive.proofs.laws.memory_is_honest.Goals as goal

pub returns : goal.returns
returns c = λ a. memory_is_clean a.conn
