use Rattle.ua_connection.proofs.Conversing.{served-conversed}
use Rattle.ua_connection.proofs.laws.connections_are_answered_chunk_by_chunk.Goals as goal

pub returns-clause-served : goal.returns-clause-served
returns-clause-served c = served-conversed
