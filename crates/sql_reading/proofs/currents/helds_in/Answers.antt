use Rattle.std.proofs.Common.{rules}
use Rattle.sql_reading.proofs.ReadableLemmas.{has_unreadable}
use Rattle.sql_reading.proofs.currents.helds_in.Goals as goal

pub returns-in_err-one-clause-unread : goal.returns-in_err-one-clause-unread
returns-in_err-one-clause-unread c =
    let none = has_unreadable c.args.rows.now c.loop-row.row-index c.row-item.result
    c.in_err-one.field-0.0 c.loop-row-test.true c.row-item.is c.in_err-one.ensures.unread in
    search rules
