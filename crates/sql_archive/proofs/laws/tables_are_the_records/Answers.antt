use Rattle.sql_reading.proofs.CurrentLemmas.{currents_are, lasts_are}
use Rattle.sql_archive.proofs.laws.tables_are_the_records.Goals as goal

pub returns-clause-currents : goal.returns-clause-currents
returns-clause-currents c R db l stand kept = currents_are R l db stand kept

pub returns-clause-vectors : goal.returns-clause-vectors
returns-clause-vectors c R db l stand kept = lasts_are R l db stand kept
