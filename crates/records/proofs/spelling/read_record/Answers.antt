-- What is read is a record.
use Rattle.std.proofs.Common.{rules}
use Rattle.records.proofs.Spelled.{record_read}
use Rattle.records.proofs.spelling.read_record.Goals as goal

pub returns-clause-reads : goal.returns-clause-reads
returns-clause-reads c = search rules

pub returns-clause-lawful : goal.returns-clause-lawful
returns-clause-lawful c = record_read _ _
    (returns-clause-reads c) c.in_ok-judge_spelling.ensures.spelled
