use Rattle.std.proofs.Common.{◌≡◌, ◌∙◌, sym, ap, subst}
use Rattle.std.specs.Prelude.{IfSome}
use Rattle.csv.specs.Records.{fields_of}
use Rattle.ua_variant.specs.DataValue.{IsPicoseconds}
use Rattle.historian.specs.UserSpaces.{space_for}
use Rattle.history_import.proofs.RowLemmas.{judged-untyped, judged-faulty, judged-read}
use Rattle.history_import.proofs.rows.row_judged.Goals as goal

pub returns-in-Err-clause-judged : goal.returns-in-Err-clause-judged
returns-in-Err-clause-judged c =
    judged-untyped (space_for c.args.settings.now c.args.user.now) (fields_of c.args.row.now)
    c.in-Err.end c.in-Err.ensures

pub returns-in-Err-read_row-clause-judged : goal.returns-in-Err-read_row-clause-judged
returns-in-Err-read_row-clause-judged c =
    judged-faulty (space_for c.args.settings.now c.args.user.now) (fields_of c.args.row.now)
    c.in-Ok.value_type c.in-Err-read_row.fault c.in-Ok.ensures c.in-Err-read_row.ensures

pub returns-in-Ok-read_row-clause-judged : goal.returns-in-Ok-read_row-clause-judged
returns-in-Ok-read_row-clause-judged c =
    judged-read (space_for c.args.settings.now c.args.user.now) (fields_of c.args.row.now)
    c.in-Ok.value_type c.in-Ok-read_row.read c.update_by.result c.unless_too_long.result
    c.in-Ok.ensures c.in-Ok-read_row.ensures c.update_by.ensures.asked
    c.unless_too_long.ensures.judged
