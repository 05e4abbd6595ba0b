use Rattle.std.proofs.Common.{sym, subst, IsTrue}
use Rattle.std.proofs.lemmas.Bool.{true≢false}
use Rattle.hist_read.specs.Short.{IsWritableHistory}
use Rattle.hist_read.proofs.Askings.{page_made}
use Rattle.hist_read.proofs.Fitting.{read_writable}
use Rattle.hist_read.proofs.node.short_page.Goals as goal

pub returns-else-is_short_history-clause-finds : goal.returns-else-is_short_history-clause-finds
returns-else-is_short_history-clause-finds g c =
    let s = g.A.Archive.state c.args.archive.now in
    page_made s (g.A.Archive.state c.page_from.new.archive) c.args.longest c.in_ok-read.read
    c.refused.result _ _ _ _
    c.in_ok-read.ensures.finds (λ lawful is.
    let all = subst (λ r. IsWritableHistory r.history_data) (sym is)
    (read_writable s.content s.id c.args.node.now c.args.query.now c.args.behind.now lawful) in
    absurd (true≢false (sym
    (subst IsTrue c.if-is_short_history.false (c.is_short_history.ensures.fits all)))))
