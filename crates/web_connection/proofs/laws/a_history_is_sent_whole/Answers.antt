use Rattle.web_connection.proofs.SentLemmas.{csv_sent, page_sent}
use Rattle.web_connection.proofs.laws.a_history_is_sent_whole.Goals as goal

pub returns-clause-page : goal.returns-clause-page
returns-clause-page c = page_sent

pub returns-clause-csv : goal.returns-clause-csv
returns-clause-csv c = csv_sent
