use Rattle.std.proofs.Common.{rules, ◌≡◌, Err}
use Rattle.hist_update.specs.Outcome.{Write, writing}
use Rattle.archive.specs.declared.setback.StepError.TheVariants as setback
use Rattle.hist_update.specs.Operating.{candidate_of, Operates, IsDraft}
use Rattle.hist_update.specs.declared.operate.OperationError.TheVariants as undone
use Rattle.hist_update.proofs.Operating.{refused-early, survey-failed, draft-starved, write_draft, written_timed, written_by, unwritten, settled}
use Rattle.std.proofs.Common.{subst, sym}
use Rattle.hist_update.proofs.operate.write.Goals as goal

pub returns-in-Err : goal.returns-in-Err
returns-in-Err g c = refused-early _ _ _ _ (unwritten c.args.request.now
    (g.A.Archive.state c.args.archive.now).own c.args.asked c.args.value_type c.args.value.now
    c.in-Err.code (sym c.in-Err.ensures))

pub returns-in_err-place : goal.returns-in_err-place
returns-in_err-place g c =
    let told : c.from_residual.result
    ≡ Err (undone.Failed (setback.Store c.in_err-place.field-0.0)) = search rules in
    subst (λ r. Operates (g.A.Archive.state c.args.archive.now)
    (g.A.Archive.state c.read_state.new.archive) c.args.request.now
    (Write c.args.asked c.args.value_type c.args.value.now) r) (sym told)
    (survey-failed _ _ _ _ _ _ (c.in_err-place.ensures).asks)

pub returns-in_err-candidate : goal.returns-in_err-candidate
returns-in_err-candidate g c =
    let told : c.from_residual-in_err-candidate.result ≡ Err (undone.Failed setback.OutOfMemory) =
    search rules in
    subst (λ r. Operates (g.A.Archive.state c.args.archive.now)
    (g.A.Archive.state c.read_state.new.archive) c.args.request.now
    (Write c.args.asked c.args.value_type c.args.value.now) r) (sym told)
    (draft-starved _ _ _ _ _ _ (c.in_ok-place.ensures).asks)

pub apply-requires : goal.apply-requires
apply-requires g c =
    let is = c.in_ok-candidate.ensures in
    subst IsDraft (sym {b = candidate_of c.args.request.now c.in_ok-place.place
    (writing c.args.asked c.args.value.now c.in-Ok.time)} is)
    (write_draft c.args.request.now c.in_ok-place.place c.args.asked c.args.value_type
    c.args.value.now c.in-Ok.time c.requires.request
    (c.in_ok-place.ensures).number c.requires.asked c.requires.value (sym c.in-Ok.ensures))

pub returns : goal.returns
returns g c =
    let is = c.in_ok-candidate.ensures in
    let asks = (c.in_ok-place.ensures).asks in
    settled g.A.Archive.state c.args.archive.now c.read_state.new.archive c.apply.new.archive
    c.args.request.now (Write c.args.asked c.args.value_type c.args.value.now)
    (writing c.args.asked c.args.value.now c.in-Ok.time) c.in_ok-place.place
    c.in_ok-candidate.candidate c.apply.result
    c.requires.request (written_timed c.args.asked c.args.value_type c.args.value.now c.in-Ok.time
    c.requires.value (sym c.in-Ok.ensures)) (written_by c.args.request.now
    (g.A.Archive.state c.args.archive.now).own c.args.asked c.args.value_type c.args.value.now
    c.in-Ok.time (sym c.in-Ok.ensures)) asks is c.apply.ensures.refused
    c.apply.ensures.submitted
