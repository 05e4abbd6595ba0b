use Rattle.std.proofs.Common.{sym, inl}
use Rattle.archive.proofs.Acting.{left-alone, left-stays, learned-left, unlearned-left}
use Rattle.archive.proofs.laws.what_is_held_goes_on.Goals as goal

pub returns-clause-alone : goal.returns-clause-alone
returns-clause-alone g c = λ a R rests honest used.
    (left-alone (g.A.Archive.state a) R rests honest used, λ e. inl (used, sym e))

pub returns-clause-stays : goal.returns-clause-stays
returns-clause-stays g c = λ a b faults S stays passes honest h.
    left-stays (g.A.Archive.state a) (g.A.Archive.state b) faults S stays passes honest h

pub returns-clause-learned : goal.returns-clause-learned
returns-clause-learned g c = λ a b r result S p quiet honest h.
    let (was, answer, is) = learned-left (g.A.Archive.state a)
    (g.A.Archive.state b) r result S p quiet honest h in
    ((g.A.Archive.state a).content, was, answer, is)

pub returns-clause-unlearned : goal.returns-clause-unlearned
returns-clause-unlearned g c = λ a b r result fault S p met honest h.
    unlearned-left (g.A.Archive.state a) (g.A.Archive.state b) r result fault S p met honest h
