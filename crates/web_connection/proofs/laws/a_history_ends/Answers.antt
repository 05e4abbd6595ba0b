use Rattle.web_connection.proofs.SentLemmas.{steps_few}
use Rattle.web_connection.proofs.laws.a_history_ends.Goals as goal

pub returns : goal.returns
returns c = steps_few
