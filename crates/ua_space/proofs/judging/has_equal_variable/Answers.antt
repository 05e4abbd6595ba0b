use Rattle.std.proofs.Common.{rules, sym, ap}
use Rattle.std.proofs.lemmas.List.{get_or_default}
use Rattle.ua_space.proofs.PlanParts.{variable_id}
use Rattle.ua_space.proofs.Ids.{equal_on_alone, equal_later_alone}
use Rattle.ua_space.proofs.judging.has_equal_variable.Goals as goal

pub returns-then-has_variable : goal.returns-then-has_variable
returns-then-has_variable c = sym (equal_later_alone variable_id _ c.loop-i.i _ _ _
    (search rules) c.loop-i.invariant c.has_variable.ensures c.if-has_variable.true
    (λ d. ap variable_id (get_or_default _ c.loop-i.i _ d (search rules))))

pub loop-i-preserved : goal.loop-i-preserved
loop-i-preserved c = equal_on_alone variable_id _ c.loop-i.i _ _ _
    (search rules) c.loop-i.invariant c.has_variable.ensures c.if-has_variable.false
    (λ d. ap variable_id (get_or_default _ c.loop-i.i _ d (search rules)))
