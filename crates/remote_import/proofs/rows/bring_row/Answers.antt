use Rattle.csv.specs.Records.{fields_of}
use Rattle.historian.specs.UserSpaces.{space_for}
use Rattle.remote_import.specs.Bringing.{state_of}
use Rattle.remote_import.proofs.BroughtRows.{row-answered, row-broken, row-unsent}
use Rattle.remote_import.proofs.rows.bring_row.Goals as goal

pub returns-in-Ok-clause-brings : goal.returns-in-Ok-clause-brings
returns-in-Ok-clause-brings g c =
    row-answered (space_for c.args.settings.now c.args.asked.now.user.now) c.args.asked.now
    (fields_of c.args.row) c.in-Ok.update
    (state_of g.R.Read.remaining g.W.Write.contents c.args.session.now)
    (state_of g.R.Read.remaining g.W.Write.contents c.send_update.new.session)
    c.send_update.result c.in-Ok.ensures.judged c.send_update.ensures.answered

pub returns-in-Ok-clause-part : goal.returns-in-Ok-clause-part
returns-in-Ok-clause-part g c =
    row-broken (space_for c.args.settings.now c.args.asked.now.user.now) c.args.asked.now
    (fields_of c.args.row) c.in-Ok.update
    (state_of g.R.Read.remaining g.W.Write.contents c.args.session.now)
    (state_of g.R.Read.remaining g.W.Write.contents c.send_update.new.session)
    c.send_update.result c.in-Ok.ensures.judged c.send_update.ensures.part

pub returns-in-Err-clause-brings : goal.returns-in-Err-clause-brings
returns-in-Err-clause-brings g c =
    row-unsent (space_for c.args.settings.now c.args.asked.now.user.now) c.args.asked.now
    (fields_of c.args.row) c.in-Err.end
    (state_of g.R.Read.remaining g.W.Write.contents c.args.session.now) c.in-Err.ensures.judged
