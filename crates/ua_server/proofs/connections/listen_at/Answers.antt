use Rattle.std.proofs.Common.{inr}
use Rattle.ua_server.proofs.connections.listen_at.Goals as goal

pub returns-in-Err-listen-clause-refused : goal.returns-in-Err-listen-clause-refused
returns-in-Err-listen-clause-refused g c =
    inr (inr (
      c.in-Ok.listening,
      c.in-Ok.ensures.ok,
      c.in-Err-listen.door,
      c.in-Err-listen.ensures,
      c.door_fault.ensures,
    ))
