use Rattle.std.proofs.Common.{refl}
use Rattle.ua_server.proofs.Logged.{where-told, where-untold}
use Rattle.ua_server.proofs.log.ErrorLog.log_start.Goals as goal

pub returns-then-self : goal.returns-then-self
returns-then-self g c = where-told _ _ _ c.if-self.true c.log_begin.ensures

pub returns-else-self : goal.returns-else-self
returns-else-self g c = where-untold _ _ _ c.if-self.false refl
