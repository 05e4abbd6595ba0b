use Rattle.headline.proofs.Times.{later_covers}
use Rattle.headline.proofs.Paging.{reading_shows, carried, point_refused, reading_ends}
use Rattle.headline.proofs.laws.pages_stay.Goals as goal

pub returns-clause-shows : goal.returns-clause-shows
returns-clause-shows c = λ p t node stamps pages past was spelled.
    reading_shows p past t was node spelled c.args.details c.whole_reads.ensures.details stamps
    c.whole_reads.ensures.shows pages

pub returns-clause-later : goal.returns-clause-later
returns-clause-later c = later_covers

pub returns-clause-carried : goal.returns-clause-carried
returns-clause-carried c = λ p t node stamps first bytes past was spelled.
    carried p past t was node spelled c.args.details c.whole_reads.ensures.details stamps first
    bytes

pub returns-clause-refused : goal.returns-clause-refused
returns-clause-refused c = λ p u node stamps bytes told origin.
    point_refused p u node c.args.details stamps bytes told origin

pub returns-clause-ends : goal.returns-clause-ends
returns-clause-ends c = λ p visits node stamps past go spelled.
    reading_ends p past visits go node spelled c.args.details c.whole_reads.ensures.details stamps
    c.whole_reads.ensures.ends
