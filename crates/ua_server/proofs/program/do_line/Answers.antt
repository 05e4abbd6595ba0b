use Rattle.std.proofs.Common.{Ok, Err, refl, rules}
use Rattle.ua_server.proofs.program.do_line.Goals as goal

pub returns-in-Err-clause-does : goal.returns-in-Err-clause-does
returns-in-Err-clause-does g c = (
  Err c.in-Err.fault,
  c.open_server.new.host,
  c.in-Err.ensures.opens,
  (search rules, refl),
)

pub returns-in-Ok-clause-does : goal.returns-in-Ok-clause-does
returns-in-Ok-clause-does g c = (
  Ok (c.in-Ok.server.settings, c.in-Ok.server.replica.archive),
  c.open_server.new.host,
  c.in-Ok.ensures.opens,
  rw c.new-log.ensures at (rw c.new-world.ensures at c.do_over.ensures.does),
)
