use Rattle.multiplex.proofs.OwnSteps.{own_steps, own_bytes}
use Rattle.multiplex.proofs.laws.each_connection_is_alone.Goals as goal

pub returns : goal.returns
returns g c limits old new k slot turns is got stays-open =
    let (last, there, own) = own_steps g.S.Source.effects g.S.Reader.NonBlockingRead.input
    g.S.Writer.NonBlockingWrite.output g.H.Handler.behavior limits g.met.H.Handler.moves_add_up old
    new k slot
    turns is got stays-open in
    record {
      last = last;
      there = there;
      own = own;
      bytes = own_bytes g.S.Source.effects g.S.Reader.NonBlockingRead.input
          g.S.Writer.NonBlockingWrite.output
          g.H.Handler.behavior limits g.met.H.Handler.moves_add_up old.world new.world slot last _
          own;
    }
