use Rattle.std.proofs.Common.{[], ◌∷◌}
use Rattle.counted_io.proofs.Parts.{part-first, part-after}
use Rattle.counted_io.proofs.counted.Counted.send_line.Goals as goal

pub returns-in-Ok-clause-part : goal.returns-in-Ok-clause-part
returns-in-Ok-clause-part g c =
    let contents = g.W.Write.contents in
    part-after c.send-in-Ok.result (contents c.args.self.now.inner) (contents c.send.new.self.inner)
    (contents c.send-in-Ok.new.self.inner) c.args.line.now
    (10 ∷ []) c.in-Ok.ensures.ok c.send-in-Ok.ensures.part

pub returns-in-Err-clause-part : goal.returns-in-Err-clause-part
returns-in-Err-clause-part g c = part-first (g.W.Write.contents c.args.self.now.inner)
    (g.W.Write.contents c.send.new.self.inner) c.args.line.now (10 ∷ []) c.in-Err.ensures.part
