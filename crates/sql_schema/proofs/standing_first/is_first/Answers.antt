use Rattle.std.proofs.Common.{rules, ap, ◌∙◌, ◌≡◌, [], ◌∷◌}
use Rattle.sql_schema.specs.Tables.{first_table, second_table1, third_table1, fourth_table, indexes1}
use Rattle.sql_schema.proofs.StandingLemmas.{first_written_out, is_first}
use Rattle.sql_schema.proofs.standing_first.is_first.Goals as goal

pub returns-then-are_indexes : goal.returns-then-are_indexes
returns-then-are_indexes c = (
  λ told.
      let tables : c.args.schema.now.tables
      ≡ first_table ∷ second_table1 ∷ third_table1 ∷ fourth_table ∷ [] = search rules in
      let indexes : c.args.schema.now.indexes ≡ indexes1 = search rules in
      is_first c.args.schema.now tables indexes (c.is_empty.ensures.0 told),
  λ is. c.is_empty.ensures.1 (ap (λ s. s.views) is),
)

pub returns-else-are_indexes : goal.returns-else-are_indexes
returns-else-are_indexes c = (
  λ told. absurd (search rules),
  λ is. c.are_indexes.ensures.1 (c.as_slice-2.ensures
      ∙ ap (λ s. s.indexes) (is ∙ first_written_out)),
)
