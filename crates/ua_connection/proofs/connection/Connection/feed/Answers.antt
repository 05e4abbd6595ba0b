use Rattle.ua_connection.proofs.Cutting.{fed-keeps, same-keeps}
use Rattle.ua_connection.proofs.connection.Connection.feed.Goals as goal
use Rattle.ua_connection.proofs.connection.Connection.feed.Goals.{in-Ok, in-Err}

pub invariant_of-self : goal.invariant_of-self
invariant_of-self c = elim c.match-feed.branch [
  | in-Ok w ↦ fed-keeps c.self.inside.client.taken c.self.inside.intake c.feed.new.self
      c.args.piece.now c.self.invariant w.in-Ok.ensures.ok
  | in-Err w ↦ same-keeps c.self.inside.client.taken c.self.inside.intake c.feed.new.self
      c.self.invariant w.in-Err.ensures.err.1
]
