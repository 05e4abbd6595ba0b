use Rattle.ua_session.proofs.Judging.{judged-Named}
use Rattle.ua_session.proofs.laws.identities_are_judged_by_the_first_of_equal_names.Goals as goal

pub returns-clause-named : goal.returns-clause-named
returns-clause-named c = judged-Named
