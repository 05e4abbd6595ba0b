use Rattle.std.proofs.Common.{refl, subst}
use Rattle.std.specs.Prelude.{Option}
use Rattle.counted_io.specs.declared.fault.ServeFault.{ServeFault}
use Rattle.ua_server.specs.Logging.{LogsFaultOf}
use Rattle.ua_server.proofs.Logged.{where-told, where-untold}
use Rattle.ua_server.proofs.log.ErrorLogLog.tell_parted.Goals as goal

pub returns-then-self : goal.returns-then-self
returns-then-self g c = (
  c.log_fault.new.self,
  subst (λ (fault : Option ServeFault).
      LogsFaultOf g.E.Write.contents fault c.args.self.now c.log_fault.new.self)
      c.connection_fault.ensures c.log_fault.ensures,
  where-told _ _ _ c.if-self.true c.log_end.ensures,
)

pub returns-else-self : goal.returns-else-self
returns-else-self g c = (
  c.log_fault.new.self,
  subst (λ (fault : Option ServeFault).
      LogsFaultOf g.E.Write.contents fault c.args.self.now c.log_fault.new.self)
      c.connection_fault.ensures c.log_fault.ensures,
  where-untold _ _ _ c.if-self.false refl,
)
