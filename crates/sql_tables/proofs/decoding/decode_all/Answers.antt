use Rattle.std.proofs.Common.{rules}
use Rattle.sql_tables.proofs.UnreadLemmas.{has_unread, read_more}
use Rattle.sql_tables.proofs.decoding.decode_all.Goals as goal

pub returns-in_err-one-clause-unread : goal.returns-in_err-one-clause-unread
returns-in_err-one-clause-unread c =
    let none = has_unread c.args.rows.now c.loop-row.row-index c.row-item.result
    c.in_err-one.field-0.0 c.loop-row-test.true c.row-item.is c.in_err-one.ensures.unread in
    search rules

pub loop-row-preserved : goal.loop-row-preserved
loop-row-preserved c =
    read_more c.args.rows.now c.loop-row.row-index c.row-item.result c.in_ok-one.one
    c.loop-row.all.items c.push.new.self.items c.loop-row-test.true c.row-item.is
    c.loop-row.invariant c.in_ok-one.ensures.found (search rules)
