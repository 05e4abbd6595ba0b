use Rattle.std.proofs.Common.{pos, subst, ap, ◌∙◌, arith}
use Rattle.std.specs.Int.{w32}
use Rattle.std.specs.Int.RustNames.{FitsSigned}
use Rattle.std.proofs.lemmas.Int.{ints, to_z-of_z}
use Rattle.exchange.specs.Running.{IsAsked}
use Rattle.exchange.proofs.RunLemmas.{one_written, one_deleted}
use Rattle.exchange.proofs.world.perform.Goals as goal

pub returns-in-Write : goal.returns-in-Write
returns-in-Write g c =
    let fits = subst IsAsked c.in-Write.is c.requires.operation in
    let small : FitsSigned w32 c.from.result = omega (arith, ints) in
    let acts = one_written (g.A.Archive.state c.args.archive.now)
    (g.A.Archive.state c.update_data.new.archive) c.update_data.ensures.acts.0
    c.args.request.now c.in-Write.value_type c.in-Write.asked c.in-Write.value _
    c.from_ref.result.now c.update_data.result
    (to_z-of_z w32 c.from.result small ∙ (c.from.ensures ∙ ap pos c.number.ensures))
    c.update_data.ensures.acts.1 fits.0 c.from_ref.ensures.value in
    (c.update_data.ensures.acts.0, rw c.in-Write.is acts)

pub returns-in-Delete : goal.returns-in-Delete
returns-in-Delete g c =
    let acts = one_deleted (g.A.Archive.state c.args.archive.now)
    (g.A.Archive.state c.delete_at.new.archive) c.delete_at.ensures.acts.0 c.args.request.now
    c.in-Delete.time c.from_ref-in-Delete.result.now c.delete_at.result
    c.from_ref-in-Delete.ensures.value c.delete_at.ensures.acts.1 in
    (c.delete_at.ensures.acts.0, rw c.in-Delete.is acts)
