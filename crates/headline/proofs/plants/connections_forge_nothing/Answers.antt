use Rattle.headline.proofs.Streams.{stream_unforged}
use Rattle.headline.proofs.plants.connections_forge_nothing.Goals as goal

pub returns : goal.returns
returns c = stream_unforged
