use Rattle.records.proofs.ContentLemmas.{closed_comm, closed_assoc, closed_idem, vec_join}
use Rattle.headline.proofs.Times.{lawful_was, together}
use Rattle.headline.proofs.Merging.{least_above, learns_join, delivers_join}
use Rattle.headline.proofs.laws.merging_is_a_join.Goals as goal

pub returns-clause-commutes : goal.returns-clause-commutes
returns-clause-commutes c = λ p s t past a b.
    closed_comm s.content t.content (lawful_was p s past a).closed (lawful_was p t past b).closed
    (together p s t past a b).compatible

pub returns-clause-associates : goal.returns-clause-associates
returns-clause-associates c = λ p s t u past a b d.
    closed_assoc s.content t.content u.content (lawful_was p s past a).closed
    (lawful_was p t past b).closed (lawful_was p u past d).closed
    (together p s t past a b).compatible (together p s u past a d).compatible
    (together p t u past b d).compatible

pub returns-clause-repeats : goal.returns-clause-repeats
returns-clause-repeats c = λ p s past a. closed_idem s.content (lawful_was p s past a).closed

pub returns-clause-least : goal.returns-clause-least
returns-clause-least c = least_above

pub returns-clause-vectors : goal.returns-clause-vectors
returns-clause-vectors c = λ p s t origin past a b.
    vec_join s.content t.content (together p s t past a b).compatible origin

pub returns-clause-learned : goal.returns-clause-learned
returns-clause-learned c = learns_join

pub returns-clause-delivered : goal.returns-clause-delivered
returns-clause-delivered c = delivers_join
