use Rattle.historian.proofs.Readers.{service-leaves}
use Rattle.historian.proofs.laws.readers_change_nothing.Goals as goal

pub returns : goal.returns
returns c config now token call sessions held marks reads =
    service-leaves config now token call sessions held marks reads
