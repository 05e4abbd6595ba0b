use Rattle.std.proofs.Common.{◌∙◌, Ok, Err, refl, ap}
use Rattle.counted_io.specs.Bytes.{counted}
use Rattle.ua_server.proofs.CheckingParts.{told-archive, told-nothing}
use Rattle.ua_server.proofs.checks.check_over.Goals as goal

pub returns-in-Err-clause-read : goal.returns-in-Err-clause-read
returns-in-Err-clause-read g c = λ e. c.check_fault.ensures.read cc

pub returns-in-Err-clause-write : goal.returns-in-Err-clause-write
returns-in-Err-clause-write g c =
    λ e. c.in-Err.ensures.write (ap Err (c.check_fault.ensures.write cc))

pub returns-in-Err-clause-tells : goal.returns-in-Err-clause-tells
returns-in-Err-clause-tells g c =
    (Err c.in-Err.fault, _, c.in-Err.ensures.prints, (ap Err c.check_fault.ensures.same, refl, refl))

pub returns-then-store-clause-write : goal.returns-then-store-clause-write
returns-then-store-clause-write g c =
    λ e. c.archive_over.ensures.write e ∙ ap counted (c.in-Ok.ensures.kept (λ w. cc))

pub returns-then-store-clause-tells : goal.returns-then-store-clause-tells
returns-then-store-clause-tells g c = (
  Ok tt,
  g.W.Write.contents c.print_check.new.output.inner,
  c.in-Ok.ensures.prints,
  told-archive g.A.Archive.state c.args.server.now.settings c.args.store
      c.args.server.now.replica.archive c.archive_over.new.server.replica.archive
      (g.W.Write.contents c.print_check.new.output.inner)
      (g.W.Write.contents c.archive_over.new.output.inner) c.archive_over.result
      c.if-store.true c.archive_over.ensures.tells,
)

pub returns-else-store-clause-tells : goal.returns-else-store-clause-tells
returns-else-store-clause-tells g c = (
  Ok tt,
  g.W.Write.contents c.print_check.new.output.inner,
  c.in-Ok.ensures.prints,
  told-nothing g.A.Archive.state c.args.server.now.settings c.args.store
      c.args.server.now.replica.archive (g.W.Write.contents c.print_check.new.output.inner)
      c.if-store.false,
)
