use Rattle.std.proofs.Common.{◌≡◌, [], ◌∷◌, take, Some, Err, refl, ap, subst}
use Rattle.ua_binary.specs.Binary.{node_of}
use Rattle.ua_binary.specs.declared.codes.TheConstants.Status.{BAD_OUT_OF_MEMORY}
use Rattle.ua_binary.specs.declared.values.NodeId.{NodeId}
use Rattle.archive.specs.declared.reading.Direction.TheVariants.{Backward}
use Rattle.archive.specs.Reading.{range_of}
use Rattle.archive.specs.Steps.{step, Refines}
use Rattle.archive.specs.Store.{StepResult, NoMemory, StoreFailed}
use Rattle.hist_read.specs.Asking.{first_time}
use Rattle.hist_read.specs.Reads.{greatest_time}
use Rattle.archive.specs.Fault.{status_told}
use Rattle.historian.specs.Reading.{latest, value_step}
use Rattle.historian.proofs.Values.{value-here, value-found, value-failed}
use Rattle.historian.proofs.reading.archived_value.Goals as goal

pub returns-in_default-clause-acts : goal.returns-in_default-clause-acts
returns-in_default-clause-acts g c = (
  NoMemory,
  value-here (g.A.Archive.state c.args.archive.now) (step status_told)
      (latest (node_of c.args.node)) NoMemory (Some BAD_OUT_OF_MEMORY)
      (Err BAD_OUT_OF_MEMORY) refl (λ later. refl) (λ R. refl),
)

pub returns-in-Ok-newest-clause-acts : goal.returns-in-Ok-newest-clause-acts
returns-in-Ok-newest-clause-acts g c =
    let a = g.A.Archive.state c.args.archive.now in
    let b = g.A.Archive.state c.newest.new.archive in
    let P : NodeId → Type 0 = λ node. (mark : StepResult)
    × Refines a b (mark ∷ []) (value_step (step status_told) (latest node)) c.latest.result in
    subst P c.in-Ok.ensures (value-found a b c.in-Ok.node
    (λ v. v.items) c.in-Ok-newest.lives c.latest.result c.in-Ok-newest.ensures
    c.latest.ensures.told)

pub returns-clause-acts : goal.returns-clause-acts
returns-clause-acts g c =
    let a = g.A.Archive.state c.args.archive.now in
    let b = g.A.Archive.state c.newest.new.archive in
    let P : NodeId → Type 0 = λ node. (mark : StepResult)
    × Refines a b (mark ∷ []) (value_step (step status_told) (latest node))
    (Err c.status.result) in
    subst P c.in-Ok.ensures (
      StoreFailed c.in-Err.fault,
      value-failed a b c.in-Ok.node (λ v. v.items
          ≡ take 1 (range_of a.content c.in-Ok.node first_time greatest_time Backward))
          c.in-Err.fault
          (Err c.status.result) c.in-Err.ensures (ap Err c.status.ensures),
    )
