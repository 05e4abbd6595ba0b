use Rattle.std.proofs.Common.{[], ◌∷◌, ◌++◌, codes}
use Rattle.counted_io.proofs.Parts.{part-first, part-after}
use Rattle.ua_server.proofs.log.tell_text.Goals as goal

pub returns-in-Ok-clause-part : goal.returns-in-Ok-clause-part
returns-in-Ok-clause-part g c =
    part-after c.send_line.result (g.W.Write.contents c.args.errors.now.inner)
    (g.W.Write.contents c.send.new.self.inner) (g.W.Write.contents c.send_line.new.self.inner)
    (codes ": ") (c.args.text.now ++ 10 ∷ []) c.in-Ok.ensures.ok c.send_line.ensures.part

pub returns-in-Err-clause-part : goal.returns-in-Err-clause-part
returns-in-Err-clause-part g c =
    part-first (g.W.Write.contents c.args.errors.now.inner)
    (g.W.Write.contents c.send.new.self.inner) (codes ": ") (c.args.text.now ++ 10 ∷ [])
    c.in-Err.ensures.part
