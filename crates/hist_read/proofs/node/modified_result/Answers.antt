use Rattle.std.proofs.Common.{◌≡◌, ◌∙◌, cond, ap, sym, subst, arith, map, option_map, IfSome, Some, Err}
use Rattle.std.specs.Prelude.{Result}
use Rattle.std.proofs.lemmas.Result.{err_from_is_err_and}
use Rattle.stamp.specs.Numbers.{number_of}
use Rattle.ua_services.specs.declared.history.HistoryData.TheVariants.{Modified}
use Rattle.records.specs.Contents.{cut}
use Rattle.hist_read.specs.Point.{IsNext}
use Rattle.hist_read.specs.Reads.{page, modified}
use Rattle.hist_read.specs.Node.{point_at, status_for, modified_page, page_result}
use Rattle.hist_read.specs.Carrying.{IsReadTooLong}
use Rattle.hist_read.specs.Finding.{Finds}
use Rattle.hist_read.specs.declared.fault.PageFault.{PageFault}
use Rattle.ua_services.specs.declared.history.HistoryReadResult.{HistoryReadResult}
use Rattle.hist_read.proofs.Carried.{modified_exceeds}
use Rattle.hist_read.specs.Showing.{shown_entry, info}
use Rattle.hist_read.proofs.Askings.{page_made, page_passed}
use Rattle.hist_read.proofs.Cutting.{lawful_cut}
use Rattle.hist_read.proofs.Results.{raw_result, modified_result}
use Rattle.hist_read.proofs.Nodes.{result_is}
use Rattle.hist_read.proofs.Nexts.{modified_next_lawful}
use Rattle.hist_read.proofs.node.modified_result.Goals as goal

pub returns-clause-finds : goal.returns-clause-finds
returns-clause-finds g c =
    let R = cut (g.A.Archive.state c.args.archive.now).content (number_of c.args.scope.now.within) in
    let v = c.args.scope.now.within in
    let node = c.args.node.now in
    let id = (g.A.Archive.state c.args.archive.now).id in
    let query = c.args.query.now in
    let q = query.details in
    let p = c.args.position.now in
    page_made _ _ _ c.in_ok-page.page _ _ _ _ _ c.in_ok-page.ensures.finds (λ lawful is.
    let next = c.in_ok-continuation_point.ensures.point
    (subst (λ o. IfSome o (IsNext q)) (sym is.next)
    (modified_next_lawful R node q p (lawful_cut _ (number_of v) lawful) c.requires.modified))
    in
    let values = c.of.ensures ∙ c.in_ok-values.ensures.0 in
    result_is (shown_entry c.args.query.now.stamps)
    (page q p (modified R node q p)) c.in_ok-page.page.entries.items _ _ _ _ _ _
    is.items values
    (c.status_for.ensures ∙ ap status_for (c.deref.ensures.value ∙ sym c.of.ensures))
    (next ∙ (ap (λ i. option_map (point_at i node q v) c.in_ok-page.page.next) c.id-id.ensures
    ∙ ap (option_map (point_at (g.A.Archive.state c.args.archive.now).id node q v)) is.next))
    (ap (λ l. Modified l c.of-2.result) (values
    ∙ ap (map (shown_entry c.args.query.now.stamps)) is.items)
    ∙ ap (λ l. Modified (map (shown_entry c.args.query.now.stamps) (page q p (modified R node q p)))
    l) (c.of-2.ensures ∙ (c.in_ok-values.ensures.1 ∙ ap (map info) is.items)))
    ∙ sym (ap (λ b. cond b (modified_result R v id node query p) (raw_result R v id node query p))
    c.requires.modified))

-- where the page is too long, so is the result
pub returns-in_err-page-clause-finds : goal.returns-in_err-page-clause-finds
returns-in_err-page-clause-finds g c =
    let a = g.A.Archive.state c.args.archive.now in
    let b = g.A.Archive.state c.read_modified.new.archive in
    let v = c.args.scope.now.within in
    let R = cut a.content (number_of v) in
    let node = c.args.node.now in
    let query = c.args.query.now in
    let p = c.args.position.now in
    let longest = c.args.scope.now.longest in
    let result = page_result R v a.id node query p in
    let shown : modified_page R v a.id node query p ≡ result =
    sym (ap (λ b. cond b (modified_result R v a.id node query p) (raw_result R v a.id node query p))
    c.requires.modified) in
    let e = err_from_is_err_and c.from_residual.result c.from_residual.ensures.1 in
    subst (λ (r : Result HistoryReadResult PageFault).
    Finds a b longest r (λ x. x ≡ result) (IsReadTooLong result)) (sym (e.1 ∙ ap Err e.2))
    (page_passed a b longest c.in_err-page.field-0.0 _ (λ x. x ≡ result) _ (IsReadTooLong result)
    c.in_err-page.ensures.finds (λ limit lawful long. subst (λ r. IsReadTooLong r limit) shown
    (modified_exceeds R v a.id node query p (Some limit) long.0 (omega (arith, long.1)) long.2)))
