use Rattle.std.proofs.Common.{rules, ap, sym, ◌∙◌, ◌≡◌, [], ◌∷◌, ◌++◌}
use Rattle.sql_schema.specs.Tables.{first_table, second_table, third_table, fourth_table, key_indexes, live_indexes}
use Rattle.sql_schema.proofs.StandingLemmas.{written_out, is_whole}
use Rattle.sql_schema.proofs.recognize.is_archive.Goals as goal

pub returns-then-are_indexes : goal.returns-then-are_indexes
returns-then-are_indexes c = (
  λ told.
      let tables : c.args.schema.now.tables
      ≡ first_table ∷ second_table ∷ third_table ∷ fourth_table ∷ [] = search rules in
      let found = c.are_indexes.ensures.0 c.if-are_indexes.true in
      let indexes : c.args.schema.now.indexes ≡ key_indexes ++ live_indexes found.0 =
      sym c.as_slice-2.ensures ∙ found.1 in
      (found.0, is_whole found.0 c.args.schema.now tables indexes (c.is_empty.ensures.0 told)),
  λ is. c.is_empty.ensures.1 (ap (λ s. s.views) is.1),
)

pub returns-else-are_indexes : goal.returns-else-are_indexes
returns-else-are_indexes c = (
  λ told. absurd (search rules),
  λ is. c.are_indexes.ensures.1 (
    is.0,
    c.as_slice-2.ensures ∙ ap (λ s. s.indexes) (is.1 ∙ written_out is.0),
  ),
)
