use Rattle.std.proofs.lemmas.Bool.{false≢true}
use Rattle.csv.specs.Records.{fields_of}
use Rattle.historian.specs.UserSpaces.{space_for}
use Rattle.history_import.proofs.RowLemmas.{asked-text, asked-bytes}
use Rattle.history_import.proofs.rows.row_asked.Goals as goal

pub returns-in-Ok-clause-judged : goal.returns-in-Ok-clause-judged
returns-in-Ok-clause-judged c =
    asked-text (space_for c.args.settings.now c.args.user.now) (fields_of c.args.row)
    (fields_of c.in-Ok.row) c.row_judged.result c.in-Ok.ensures.same c.in-Ok.ensures.text
    c.row_judged.ensures.judged

pub returns-clause-judged : goal.returns-clause-judged
returns-clause-judged c =
    asked-bytes (space_for c.args.settings.now c.args.user.now) (fields_of c.args.row)
    (λ all. false≢true (c.in-Err.ensures.refused all))
