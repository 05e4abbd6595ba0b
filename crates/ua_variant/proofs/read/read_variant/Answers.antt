-- What is read is few enough to be written.
use Rattle.std.proofs.Common.{rules}
use Rattle.ua_variant.specs.Variant.{variant}
use Rattle.ua_variant.proofs.Short.{short_variant}
use Rattle.ua_variant.proofs.read.read_variant.Goals as goal

pub returns-clause-reads : goal.returns-clause-reads
unfolding variant
returns-clause-reads c = search rules

pub returns-clause-short : goal.returns-clause-short
returns-clause-short c = short_variant _ _ _ (returns-clause-reads c)
