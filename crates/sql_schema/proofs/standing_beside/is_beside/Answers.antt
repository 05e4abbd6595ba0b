use Rattle.std.proofs.Common.{rules, ap, ◌∙◌, ◌≡◌, [], ◌∷◌, ◌++◌}
use Rattle.sql_schema.specs.Tables.{first_table, second_table, third_table, fourth_table, records_beside, currents_beside, key_indexes, indexes_beside}
use Rattle.sql_schema.proofs.StandingLemmas.{beside_written_out, is_beside}
use Rattle.sql_schema.proofs.standing_beside.is_beside.Goals as goal

pub returns-then-are_indexes : goal.returns-then-are_indexes
returns-then-are_indexes c = (
  λ told.
      let tables : c.args.schema.now.tables
      ≡ first_table ∷ second_table ∷ third_table ∷ fourth_table ∷ records_beside
      ∷ currents_beside ∷ [] = search rules in
      let indexes : c.args.schema.now.indexes ≡ key_indexes ++ indexes_beside = search rules in
      is_beside c.args.schema.now tables indexes (c.is_empty.ensures.0 told),
  λ is. c.is_empty.ensures.1 (ap (λ s. s.views) is),
)

pub returns-else-are_indexes : goal.returns-else-are_indexes
returns-else-are_indexes c = (
  λ told. absurd (search rules),
  λ is. c.are_indexes.ensures.1 (c.as_slice-2.ensures
      ∙ ap (λ s. s.indexes) (is ∙ beside_written_out)),
)
