use Rattle.std.proofs.Common.{rules}
use Rattle.sql_opening.proofs.OpenLemmas.{unread_as}
use Rattle.sql_opening.proofs.checking.read_row.Goals as goal

pub returns-in_err-decode-clause-met : goal.returns-in_err-decode-clause-met
returns-in_err-decode-clause-met c =
    let told =
    unread_as c.args.row.now c.in_err-decode.field-0.0 c.in_err-decode.ensures.unread in
    search rules
