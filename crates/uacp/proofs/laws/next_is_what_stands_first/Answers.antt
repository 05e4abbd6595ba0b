use Rattle.uacp.proofs.Streams.{chunk-stands}
use Rattle.uacp.proofs.laws.next_is_what_stands_first.Goals as goal

pub returns-clause-given : goal.returns-clause-given
returns-clause-given c = chunk-stands
