use Rattle.std.proofs.Common.{◌≡◌, ◌∙◌, inl, Some, None, sym, ap}
use Rattle.std.specs.Prelude.{option_copied}
use Rattle.std.specs.Result.{result_map_both}
use Rattle.csv.specs.Records.{fields_of}
use Rattle.historian.specs.UserSpaces.{space_for}
use Rattle.historian.specs.Updating.{type_granted}
use Rattle.history_import.specs.Rows.{node_field}
use Rattle.history_import.specs.declared.row_end.RowEnd.TheVariants.{Answered}
use Rattle.history_import.proofs.RowLemmas.{type-without, type-nodeless, type-given}
use Rattle.history_import.proofs.rows.row_type.Goals as goal

pub returns-in_default : goal.returns-in_default
returns-in_default c =
    type-without (space_for c.args.settings.now c.args.user.now) (fields_of c.args.row.now)
    (sym c.node_field.ensures ∙ ap option_copied c.in_default.is)

pub returns-in-Err : goal.returns-in-Err
returns-in-Err c =
    type-nodeless (space_for c.args.settings.now c.args.user.now) (fields_of c.args.row.now)
    c.in-Some.text.now c.in-Err.fault (sym c.node_field.ensures ∙ ap option_copied c.in-Some.is)
    c.in-Err.ensures

pub returns-in-Ok-granted_type : goal.returns-in-Ok-granted_type
returns-in-Ok-granted_type c =
    let seen = space_for c.args.settings.now c.args.user.now in
    inl (ap (result_map_both (λ type. type) Answered) (sym c.in-Ok-granted_type.is)
    ∙ type-given seen (fields_of c.args.row.now) c.in-Some.text.now c.in-Ok.node
    c.granted_type.result (sym c.node_field.ensures ∙ ap option_copied c.in-Some.is)
    c.in-Ok.ensures
    (c.granted_type.ensures.told
    ∙ ap (λ id. type_granted seen (Some id)) c.as_ref.ensures.same))

pub returns : goal.returns
returns c =
    let seen = space_for c.args.settings.now c.args.user.now in
    inl (ap (result_map_both (λ type. type) Answered) (sym c.in-Err-granted_type.is)
    ∙ type-given seen (fields_of c.args.row.now) c.in-Some.text.now c.in-Ok.node
    c.granted_type.result (sym c.node_field.ensures ∙ ap option_copied c.in-Some.is)
    c.in-Ok.ensures
    (c.granted_type.ensures.told
    ∙ ap (λ id. type_granted seen (Some id)) c.as_ref.ensures.same))
