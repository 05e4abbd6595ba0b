-- Values that are read may be written again.
use Rattle.std.proofs.Common.{rules}
use Rattle.ua_services.specs.Updates.{history_update_request}
use Rattle.ua_services.proofs.ShortUpdates.{short_request}
use Rattle.ua_services.proofs.updates.read_history_update_request.Goals as goal

pub returns-clause-reads : goal.returns-clause-reads
unfolding history_update_request
returns-clause-reads c = search rules

pub returns-clause-short : goal.returns-clause-short
returns-clause-short c = short_request _ _ _ (returns-clause-reads c)
