-- What is read is few enough to be written.
use Rattle.std.proofs.Common.{rules}
use Rattle.ua_variant.specs.DataValue.{data_value}
use Rattle.ua_variant.proofs.Short.{short_data}
use Rattle.ua_variant.proofs.data.read_data_value.Goals as goal

pub returns-clause-reads : goal.returns-clause-reads
unfolding data_value
returns-clause-reads c = search rules

pub returns-clause-short : goal.returns-clause-short
returns-clause-short c = short_data _ _ _ (returns-clause-reads c)
