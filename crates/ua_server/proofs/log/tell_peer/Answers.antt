use Rattle.std.proofs.Common.{ℕ, List, ◌++◌, subst}
use Rattle.std.specs.Prelude.{OnErr}
use Rattle.counted_io.specs.Bytes.{AppendsPart}
use Rattle.counted_io.proofs.Parts.{part-first, part-after}
use Rattle.ua_server.specs.Telling.{behind_peer}
use Rattle.ua_server.proofs.log.tell_peer.Goals as goal

pub returns-in-Ok-clause-part : goal.returns-in-Ok-clause-part
returns-in-Ok-clause-part g c =
    let old = g.W.Write.contents c.args.errors.now.inner in
    let middle = g.W.Write.contents c.send.new.self.inner in
    let new = g.W.Write.contents c.tell_text.new.errors.inner in
    let text = behind_peer c.args.text.now in
    subst (λ (name : List ℕ). OnErr c.tell_text.result (AppendsPart old new (name ++ text)))
    c.as_bytes.ensures.value
    (part-after c.tell_text.result old middle new c.as_bytes.result.now text c.in-Ok.ensures.ok
    c.tell_text.ensures.part)

pub returns-in-Err-clause-part : goal.returns-in-Err-clause-part
returns-in-Err-clause-part g c =
    let old = g.W.Write.contents c.args.errors.now.inner in
    let middle = g.W.Write.contents c.send.new.self.inner in
    let text = behind_peer c.args.text.now in
    subst (λ (name : List ℕ). AppendsPart old middle (name ++ text)) c.as_bytes.ensures.value
    (part-first old middle c.as_bytes.result.now text c.in-Err.ensures.part)
