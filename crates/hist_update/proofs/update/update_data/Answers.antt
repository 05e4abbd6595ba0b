use Rattle.std.proofs.Common.{length, sym, ap, ◌∙◌}
use Rattle.std.specs.Int.{w32}
use Rattle.std.proofs.lemmas.Int.{to_z-of_z}
use Rattle.hist_update.specs.Codes.{asked_by}
use Rattle.hist_update.specs.Updates.{data_refusal}
use Rattle.ua_binary.specs.declared.codes.TheConstants.Status.{BAD_HISTORY_OPERATION_INVALID}
use Rattle.hist_update.proofs.Answering.{data-refused, data-begun}
use Rattle.hist_update.proofs.update.update_data.Goals as goal

pub returns-in_default-clause-acts : goal.returns-in_default-clause-acts
returns-in_default-clause-acts g c =
    let none = c.in_default.ensures ∙ ap asked_by (to_z-of_z w32 c.args.perform c.ranges.perform) in
    data-refused (g.A.Archive.state c.args.archive.now) c.args.request.now c.args.value_type
    (asked_by c.args.perform) c.args.values.now BAD_HISTORY_OPERATION_INVALID c.refused.result
    (ap (λ o. data_refusal o (length c.args.values.now)) (sym none)) c.refused.ensures

pub returns-in-Some-count_refusal-clause-acts : goal.returns-in-Some-count_refusal-clause-acts
returns-in-Some-count_refusal-clause-acts g c =
    let some = c.in-Some.ensures ∙ ap asked_by (to_z-of_z w32 c.args.perform c.ranges.perform) in
    data-refused (g.A.Archive.state c.args.archive.now) c.args.request.now c.args.value_type
    (asked_by c.args.perform) c.args.values.now c.in-Some-count_refusal.status
    c.refused-in-Some-count_refusal.result
    (ap (λ o. data_refusal o (length c.args.values.now)) (sym some)
    ∙ sym c.in-Some-count_refusal.ensures.tested) c.refused-in-Some-count_refusal.ensures

pub returns-clause-acts : goal.returns-clause-acts
returns-clause-acts g c =
    let some = c.in-Some.ensures ∙ ap asked_by (to_z-of_z w32 c.args.perform c.ranges.perform) in
    data-begun (g.A.Archive.state c.args.archive.now)
    (g.A.Archive.state c.write_all.new.archive) c.args.request.now c.args.value_type
    (asked_by c.args.perform) c.in-Some.asked c.args.values.now c.write_all.result
    some (sym c.in_default-count_refusal.ensures.tested) c.write_all.ensures.begins
