use Rattle.std.proofs.Common.{ℤ, ◌∷◌, [], ap, subst}
use Rattle.history_import.specs.declared.row_end.RowEnd.TheVariants.{Answered}
use Rattle.history_import.proofs.RowLemmas.{perform-again}
use Rattle.ua_client.specs.Answers.{update_in}
use Rattle.ua_client.specs.Talking.{flow_of, update_request, Updates}
use Rattle.remote_import.proofs.rows.send_update.Goals as goal

pub returns-clause-answered : goal.returns-clause-answered
returns-clause-answered g c =
    let R = g.R.Read.remaining in
    let W = g.W.Write.contents in
    let session = c.args.session.now in
    let asked = c.args.asked.now in
    let told = update_in c.in_ok-told.told in
    let P : ℤ → Type 0 = λ perform.
    Updates session.client c.update_history.new.self (update_request session.client asked.reading
    (c.args.update.node, (perform, c.args.update.value ∷ []))) told (flow_of R W session.line)
    (flow_of R W c.update_history.new.line) in
    let sent = subst P (perform-again asked.perform c.number.result c.number.ensures)
    c.in_ok-told.ensures.updates in (told, sent, ap Answered c.told_code.ensures)
