use Rattle.std.proofs.Common.{rules, ap, ◌∙◌, ◌-◌, List, get_or}
use Rattle.ua_space.specs.declared.node.Variable.{Variable}
use Rattle.ua_space.proofs.Indexed.{more_variables}
use Rattle.ua_space.proofs.index.add_variables.Goals as goal

pub loop-i-preserved : goal.loop-i-preserved
loop-i-preserved c =
    let id = c.in_ok-id.ensures.ok ∙ c.as_str.ensures.same
    ∙ ap (λ (l : List Variable). (get_or l (c.loop-i.i - 1) c.index-variables-i.result).id)
    c.as_slice-variables.ensures in
    more_variables c.args.layout.now c.loop-i.places c.insert.new.self c.in_ok-id.id
    (c.loop-i.i - 1) c.loop-i.i c.index-variables-i.result (search rules)
    (search rules) id c.in_ok-insert.ensures.updates c.loop-i.invariant
