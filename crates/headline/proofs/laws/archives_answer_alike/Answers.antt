use Rattle.headline.proofs.Alike.{answered_so, answered_alike}
use Rattle.headline.proofs.laws.archives_answer_alike.Goals as goal

pub returns-clause-result : goal.returns-clause-result
returns-clause-result g c = λ p s t a c b d.
    answered_alike p s t (g.A.Archive.state a) (g.A.Archive.state c) (g.B.Archive.state b)
    (g.B.Archive.state d)

pub returns-clause-answer : goal.returns-clause-answer
returns-clause-answer g c = λ s a c. answered_so s (g.A.Archive.state a) (g.A.Archive.state c)
