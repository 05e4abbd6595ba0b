use Rattle.std.proofs.Common.{codes}
use Rattle.counted_io.proofs.Parts.{part-first, part-after}
use Rattle.ua_server.specs.Telling.{behind_name}
use Rattle.ua_server.proofs.log.tell_call.Goals as goal

pub returns-in-Ok-clause-part : goal.returns-in-Ok-clause-part
returns-in-Ok-clause-part g c =
    part-after c.tell_peer.result (g.W.Write.contents c.args.errors.now.inner)
    (g.W.Write.contents c.send.new.self.inner) (g.W.Write.contents c.tell_peer.new.errors.inner)
    (codes "uahist: peer ") (behind_name c.args.address.now c.args.text.now)
    c.in-Ok.ensures.ok c.tell_peer.ensures.part

pub returns-in-Err-clause-part : goal.returns-in-Err-clause-part
returns-in-Err-clause-part g c =
    part-first (g.W.Write.contents c.args.errors.now.inner)
    (g.W.Write.contents c.send.new.self.inner) (codes "uahist: peer ")
    (behind_name c.args.address.now c.args.text.now) c.in-Err.ensures.part
