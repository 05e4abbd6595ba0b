use Rattle.std.proofs.Common.{codes, ap, refl, subst, ◌∙◌}
use Rattle.std.specs.Result.{result_map_both}
use Rattle.ua_settings.specs.File.{text_at}
use Rattle.toml.specs.View.{table_view}
use Rattle.ua_settings.specs.Reading.{IsSpaceOrStarved, space_fault}
use Rattle.ua_settings.proofs.Plans.{ids_planned, folders_planned, plan_short, space_built}
use Rattle.ua_settings.proofs.reading.build_space.Goals as goal

pub build-requires-clause-ids : goal.build-requires-clause-ids
build-requires-clause-ids c = ids_planned c.requires.sound.0
    (table_view c.args.document.now) c.requires.sound.1 c.args.folders.now c.args.variables.now
    c.requires.folders c.requires.variables

pub build-requires-clause-folders : goal.build-requires-clause-folders
build-requires-clause-folders c = folders_planned c.requires.sound.0
    (table_view c.args.document.now) c.requires.sound.1 c.args.folders.now c.args.variables.now
    c.requires.folders c.requires.variables

pub build-requires-clause-texts : goal.build-requires-clause-texts
build-requires-clause-texts c =
    plan_short c.requires.sound.0 (table_view c.args.document.now) c.requires.sound.1
    c.args.folders.now
    c.args.variables.now c.requires.folders c.requires.variables _ refl refl
    (c.text.ensures ∙ ap (text_at (codes "namespace")) c.requires.same)

pub returns-in-Ok : goal.returns-in-Ok
returns-in-Ok c =
    subst (λ result. IsSpaceOrStarved (table_view c.args.document.now)
    (result_map_both (λ space. space) space_fault result)) c.in-Ok.is
    (space_built (table_view c.args.document.now)
    (record {
      namespace = c.text.result;
      folders = c.args.folders;
      variables =
          c.args.variables;
    }) c.build.result
    (c.text.ensures ∙ ap (text_at (codes "namespace")) c.requires.same) c.requires.folders
    c.requires.variables
    c.build.ensures)

pub returns-in-Err : goal.returns-in-Err
returns-in-Err c =
    rw c.space_fault.ensures
    (subst (λ result. IsSpaceOrStarved (table_view c.args.document.now)
    (result_map_both (λ space. space) space_fault result)) c.in-Err.is
    (space_built (table_view c.args.document.now)
    (record {
      namespace = c.text.result;
      folders = c.args.folders;
      variables =
          c.args.variables;
    }) c.build.result
    (c.text.ensures ∙ ap (text_at (codes "namespace")) c.requires.same) c.requires.folders
    c.requires.variables
    c.build.ensures))
