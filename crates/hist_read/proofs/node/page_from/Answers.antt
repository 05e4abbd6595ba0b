use Rattle.std.proofs.Common.{◌≡◌, ◌∙◌, sym, subst}
use Rattle.hist_read.specs.Node.{page_from}
use Rattle.hist_read.specs.Carrying.{IsReadTooLong}
use Rattle.hist_read.specs.Finding.{Finds}
use Rattle.hist_read.proofs.Nodes.{first_page, later_page}
use Rattle.hist_read.proofs.node.page_from.Goals as goal

pub returns-in-None-clause-finds : goal.returns-in-None-clause-finds
returns-in-None-clause-finds g c =
    let s = g.A.Archive.state c.args.archive.now in
    let node = c.args.node.now in
    let query = c.args.query.now in
    subst (λ o. Finds s (g.A.Archive.state c.page_result.new.archive) c.args.longest
    c.page_result.result (λ x. x ≡ page_from s.content s.id node query o)
    (IsReadTooLong (page_from s.content s.id node query o))) (sym c.in-None.is)
    (first_page s (g.A.Archive.state c.own_vector.new.archive)
    (g.A.Archive.state c.page_result.new.archive) c.in_ok-own.own c.page_result.result node query
    c.args.longest c.in_ok-own.ensures.asks c.page_result.ensures.finds)

pub returns-else-not-is_covered-clause-finds : goal.returns-else-not-is_covered-clause-finds
returns-else-not-is_covered-clause-finds g c =
    let s = g.A.Archive.state c.args.archive.now in
    let node = c.args.node.now in
    let query = c.args.query.now in
    subst (λ o. Finds s (g.A.Archive.state c.page_result-in-Some.new.archive) c.args.longest
    c.page_result-in-Some.result (λ x. x ≡ page_from s.content s.id node query o)
    (IsReadTooLong (page_from s.content s.id node query o))) (sym c.in-Some.is)
    (later_page s (g.A.Archive.state c.own_vector.new.archive)
    (g.A.Archive.state c.page_result-in-Some.new.archive) c.in_ok-own.own
    c.page_result-in-Some.result node query c.args.longest c.in_ok-own.ensures.asks
    c.in-Some.position c.in-Some.vector
    (sym c.is_covered.ensures ∙ c.if-not-is_covered.false) c.page_result-in-Some.ensures.finds)
