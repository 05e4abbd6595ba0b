-- What is read is few enough to be written.
use Rattle.std.proofs.Common.{rules}
use Rattle.records.specs.Spelling.{fields}
use Rattle.records.proofs.Spelled.{short_record}
use Rattle.records.proofs.spelling.read_fields.Goals as goal

pub returns-clause-reads : goal.returns-clause-reads
unfolding fields
returns-clause-reads c = search rules

pub returns-clause-short : goal.returns-clause-short
returns-clause-short c = short_record _ _ _ (returns-clause-reads c)
