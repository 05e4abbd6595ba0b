use Rattle.std.proofs.lemmas.Option.{slice_get-get_or}
use Rattle.std.proofs.Common.{rules, sym, ◌∙◌, ◌≡◌, Some, ap, [], ◌∷◌}
use Rattle.sqlite_value.specs.declared.keys.Collation.TheVariants as collation
use Rattle.sqlite_sql.specs.declared.ops.BinaryOp.TheVariants.{Compare}
use Rattle.sqlite_sql.specs.declared.ops.CompareOp.TheVariants.{Eq}
use Rattle.sqlite_sql.specs.declared.expr.Node.TheVariants as node
use Rattle.sql_schema.proofs.StandingLemmas.{check_made, check_parts}
use Rattle.sql_schema.proofs.recognize.is_check_of_meta.Goals as goal

pub returns-then-is_column_one : goal.returns-then-is_column_one
returns-then-is_column_one c =
    let l = c.in-Some-Binary-Compare-Eq-Binary-default-default.left in
    let r = c.in-Some-Binary-Compare-Eq-Binary-default-default.right in
    let h = c.in-Some-Binary-Compare-Eq-Binary-default-default.ensures.lookup in
    let it : c.in-Some-Binary-Compare-Eq-Binary-default-default.field-0.now
    ≡ node.Binary (Compare Eq collation.Binary) l r = cc in
    let here = slice_get-get_or c.args.nodes.now c.args.at
    c.in-Some-Binary-Compare-Eq-Binary-default-default.field-0.now h.3.0
    ∙ ap Some (sym (h.3.1 c.in-Some-Binary-Compare-Eq-Binary-default-default.field-0.now) ∙ it)
    in
    let left = c.is_column_one.ensures.0 c.if-is_column_one.true in (
      λ told. ap (λ t. t ∷ []) (check_made c.args.nodes.now c.args.at l r here left
          (c.is_number_one.ensures.0 told)),
      λ is. let one =
          check_parts c.args.nodes.now c.args.at l r here cc in c.is_number_one.ensures.1 one.1,
    )

pub returns-else-is_column_one : goal.returns-else-is_column_one
returns-else-is_column_one c =
    let l = c.in-Some-Binary-Compare-Eq-Binary-default-default.left in
    let r = c.in-Some-Binary-Compare-Eq-Binary-default-default.right in
    let h = c.in-Some-Binary-Compare-Eq-Binary-default-default.ensures.lookup in
    let it : c.in-Some-Binary-Compare-Eq-Binary-default-default.field-0.now
    ≡ node.Binary (Compare Eq collation.Binary) l r = cc in
    let here = slice_get-get_or c.args.nodes.now c.args.at
    c.in-Some-Binary-Compare-Eq-Binary-default-default.field-0.now h.3.0
    ∙ ap Some (sym (h.3.1 c.in-Some-Binary-Compare-Eq-Binary-default-default.field-0.now) ∙ it)
    in (
      λ told. absurd (search rules),
      λ is. let one =
          check_parts c.args.nodes.now c.args.at l r here cc in c.is_column_one.ensures.1 one.0,
    )
