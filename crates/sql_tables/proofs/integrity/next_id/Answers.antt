use Rattle.std.proofs.Common.{refl, rules, inl}
use Rattle.sql_tables.proofs.AgreeLemmas.{risen_more, not_whole, reached_by}
use Rattle.sql_tables.proofs.integrity.next_id.Goals as goal

pub returns-in-Some-clause-risen : goal.returns-in-Some-clause-risen
returns-in-Some-clause-risen c rows w =
    risen_more rows c.args.row.now c.args.ids _ _ w (search rules)
    (c.is_reached.ensures.below c.if-is_reached.false) refl (search rules)

pub returns-in-Err-clause-refused : goal.returns-in-Err-clause-refused
returns-in-Err-clause-refused c rows w =
    inl (λ ids rising. not_whole rows c.args.row.now ids c.in-Err.ensures.other rising.are)

pub returns-then-is_reached-clause-refused : goal.returns-then-is_reached-clause-refused
returns-then-is_reached-clause-refused c rows w =
    reached_by rows c.args.row.now c.args.ids _ w (search rules)
    (c.is_reached.ensures.reached c.if-is_reached.true)
