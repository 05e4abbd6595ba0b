use Rattle.std.proofs.Common.{Ok, Err, refl, ap}
use Rattle.ua_server.proofs.checks.archive_over.Goals as goal

pub returns-in-Ok-clause-tells : goal.returns-in-Ok-clause-tells
returns-in-Ok-clause-tells g c = (Ok tt, c.in-Ok.ensures.prints, refl)

pub returns-in-Err-clause-read : goal.returns-in-Err-clause-read
returns-in-Err-clause-read g c = λ e. c.check_fault.ensures.read cc

pub returns-in-Err-clause-write : goal.returns-in-Err-clause-write
returns-in-Err-clause-write g c =
    λ e. c.in-Err.ensures.write (ap Err (c.check_fault.ensures.write cc))

pub returns-in-Err-clause-tells : goal.returns-in-Err-clause-tells
returns-in-Err-clause-tells g c =
    (Err c.in-Err.fault, c.in-Err.ensures.prints, ap Err c.check_fault.ensures.same)
