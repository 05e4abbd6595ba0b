use Rattle.csv.specs.Records.{fields_of}
use Rattle.historian.specs.UserSpaces.{space_for}
use Rattle.history_import.proofs.RowLemmas.{text-asks, text-ends}
use Rattle.history_import.proofs.rows.text_done.Goals as goal

pub returns-in-Ok-clause-acts : goal.returns-in-Ok-clause-acts
returns-in-Ok-clause-acts g c =
    let s = g.A.Archive.state c.args.server.now.replica.archive in
    text-asks s (g.A.Archive.state c.row_updated.new.server.replica.archive) s.own
    (space_for c.args.server.now.settings c.args.asked.now.user.now) c.args.asked.now
    (fields_of c.args.row.now) c.in-Ok.update c.row_updated.result c.in-Ok.ensures.judged
    c.row_updated.ensures.acts

pub returns-in-Err-clause-acts : goal.returns-in-Err-clause-acts
returns-in-Err-clause-acts g c =
    let s = g.A.Archive.state c.args.server.now.replica.archive in
    text-ends s s.own (space_for c.args.server.now.settings c.args.asked.now.user.now)
    c.args.asked.now (fields_of c.args.row.now) c.in-Err.end c.in-Err.ensures.judged
