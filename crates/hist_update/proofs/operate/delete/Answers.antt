use Rattle.std.proofs.Common.{rules, ◌≡◌, Err, subst, sym}
use Rattle.ua_binary.specs.declared.codes.TheConstants.Status.{BAD_INVALID_TIMESTAMP}
use Rattle.archive.specs.declared.setback.StepError.TheVariants as setback
use Rattle.hist_update.specs.declared.operate.OperationError.TheVariants as undone
use Rattle.hist_update.specs.Operating.{Operates}
use Rattle.hist_update.specs.Outcome.{DeleteAt, change_by}
use Rattle.hist_update.proofs.OutcomeParts.{deletion}
use Rattle.hist_update.proofs.Drafts.{short_node}
use Rattle.hist_update.proofs.Operating.{refused-early, survey-failed, draft-starved, settled, deletion_timed, deleted_by}
use Rattle.hist_update.proofs.operate.delete.Goals as goal

pub returns-then-ticks-lt1 : goal.returns-then-ticks-lt1
returns-then-ticks-lt1 g c =
    let early : change_by c.args.request.now (g.A.Archive.state c.args.archive.now).own
    (DeleteAt c.args.time) ≡ Err BAD_INVALID_TIMESTAMP = search rules in
    refused-early (g.A.Archive.state c.args.archive.now) c.args.request.now
    (DeleteAt c.args.time) BAD_INVALID_TIMESTAMP early

pub returns-in_err-place : goal.returns-in_err-place
returns-in_err-place g c =
    let told : c.from_residual.result
    ≡ Err (undone.Failed (setback.Store c.in_err-place.field-0.0)) = search rules in
    subst (λ r. Operates (g.A.Archive.state c.args.archive.now)
    (g.A.Archive.state c.read_state.new.archive) c.args.request.now (DeleteAt c.args.time) r)
    (sym told)
    (survey-failed _ _ _ _ _ _ (c.in_err-place.ensures).asks)

pub returns-in_err-candidate : goal.returns-in_err-candidate
returns-in_err-candidate g c =
    let told : c.from_residual-in_err-candidate.result ≡ Err (undone.Failed setback.OutOfMemory) =
    search rules in
    subst (λ r. Operates (g.A.Archive.state c.args.archive.now)
    (g.A.Archive.state c.read_state.new.archive) c.args.request.now (DeleteAt c.args.time) r)
    (sym told)
    (draft-starved _ _ _ _ _ _ (c.in_ok-place.ensures).asks)

pub returns : goal.returns
returns g c =
    let is = rw c.empty_value.ensures at c.in_ok-candidate.ensures in
    let asks = (c.in_ok-place.ensures).asks in
    settled g.A.Archive.state c.args.archive.now c.read_state.new.archive c.apply.new.archive
    c.args.request.now (DeleteAt c.args.time)
    (deletion c.args.time) c.in_ok-place.place c.in_ok-candidate.candidate c.apply.result
    c.requires (deletion_timed c.args.time) (deleted_by c.args.request.now
    (g.A.Archive.state c.args.archive.now).own c.args.time
    (c.as_ref-node.ensures.spelled (short_node c.args.request.now.node c.requires.node))
    c.requires (search rules)) asks is c.apply.ensures.refused c.apply.ensures.submitted
