use Rattle.headline.proofs.Turns.{frames_made}
use Rattle.headline.proofs.plants.frames_are_exchanges.Goals as goal

pub returns : goal.returns
returns g c b start last came out rest ending w i s R talks rests whole honest =
    frames_made (g.A.Archive.state c.args.archive.now) (g.A.Archive.state b) start last came out
    rest ending talks rests whole honest w i s R
    (record { id = c.is_party.ensures.id; own = c.is_party.ensures.own })
