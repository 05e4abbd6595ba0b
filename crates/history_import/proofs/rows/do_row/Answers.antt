use Rattle.std.proofs.lemmas.Bool.{false≢true}
use Rattle.csv.specs.Records.{fields_of}
use Rattle.historian.specs.UserSpaces.{space_for}
use Rattle.history_import.proofs.RowLemmas.{done-text, done-bytes}
use Rattle.history_import.proofs.rows.do_row.Goals as goal

pub returns-in-Ok-clause-acts : goal.returns-in-Ok-clause-acts
returns-in-Ok-clause-acts g c =
    let s = g.A.Archive.state c.args.server.now.replica.archive in
    done-text s (g.A.Archive.state c.text_done.new.server.replica.archive) s.own
    (space_for c.args.server.now.settings c.args.asked.now.user.now) c.args.asked.now
    (fields_of c.args.row) (fields_of c.in-Ok.row) c.text_done.result c.in-Ok.ensures.same
    c.in-Ok.ensures.text c.text_done.ensures.acts

pub returns-clause-acts : goal.returns-clause-acts
returns-clause-acts g c =
    let s = g.A.Archive.state c.args.server.now.replica.archive in
    done-bytes s s.own (space_for c.args.server.now.settings c.args.asked.now.user.now)
    c.args.asked.now (fields_of c.args.row) (λ all. false≢true (c.in-Err.ensures.refused all))
