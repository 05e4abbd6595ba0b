use Rattle.std.proofs.Common.{rules, map, ◌∙◌, sym, ap}
use Rattle.std.proofs.lemmas.List.{get_or_default}
use Rattle.ua_space.proofs.PlanParts.{variable_id, folder_id}
use Rattle.ua_space.proofs.Ids.{equal_on, equal_later, equal_behind, list_any-map}
use Rattle.ua_space.proofs.judging.has_equal_folder.Goals as goal
use Rattle.ua_space.proofs.judging.has_equal_folder.Goals.{then-has_folder-via-then-has_folder, then-has_folder-via-else-has_folder+then-has_variable}

pub returns-then-has_folder : goal.returns-then-has_folder
returns-then-has_folder c =
    elim c.then-has_folder.branch [
      | then-has_folder-via-then-has_folder w ↦
          equal_later folder_id (map variable_id c.args.variables.now) _ c.loop-i.i _ _ _
          (search rules) c.loop-i.invariant c.has_folder.ensures w.if-has_folder.true
          (λ d. ap folder_id (get_or_default _ c.loop-i.i _ d (search rules)))
      | then-has_folder-via-else-has_folder+then-has_variable w ↦
          equal_behind folder_id (map variable_id c.args.variables.now) _ c.loop-i.i _ _ _ _
          (search rules) c.loop-i.invariant c.has_folder.ensures w.if-has_folder.false
          (w.has_variable.ensures ∙ sym (list_any-map _ variable_id c.args.variables.now))
          w.if-has_variable.true (λ d.
          ap folder_id (get_or_default _ c.loop-i.i _ d (search rules)))
    ]

pub loop-i-preserved : goal.loop-i-preserved
loop-i-preserved c = equal_on folder_id (map variable_id c.args.variables.now) _ c.loop-i.i _ _ _ _
    (search rules) c.loop-i.invariant c.has_folder.ensures c.if-has_folder.false
    (c.has_variable.ensures ∙ sym (list_any-map _ variable_id c.args.variables.now))
    c.if-has_variable.false (λ d. ap folder_id (get_or_default _ c.loop-i.i _ d (search rules)))
