use Rattle.headline.proofs.Turns.{answer_made}
use Rattle.headline.proofs.plants.answers_are_updates.Goals as goal

pub returns : goal.returns
returns g c settings a b link next used made ending w i s R advances rests whole honest =
    answer_made settings (g.A.Archive.state a) (g.A.Archive.state b) link next used made ending
    advances rests whole honest w i s R
