use Rattle.std.proofs.Common.{◌≤◌, arith, length}
use Rattle.sql_opening.proofs.RenewLemmas.{lawful_rows}
use Rattle.sql_opening.proofs.migrate.check_records.Goals as goal

pub returns-clause-lawful : goal.returns-clause-lawful
returns-clause-lawful c =
    let whole : length c.args.rows.now ≤ c.loop-row.row-index =
    omega (arith, c.loop-row.auto.row-index-end, c.loop-row-test.false) in
    lawful_rows c.args.rows.now c.loop-row.row-index c.loop-row.walk whole c.loop-row.invariant
