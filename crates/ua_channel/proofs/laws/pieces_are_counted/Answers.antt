use Rattle.ua_channel.proofs.Wrapped.{pieces-count}
use Rattle.ua_channel.proofs.laws.pieces_are_counted.Goals as goal

pub returns : goal.returns
returns c = pieces-count
