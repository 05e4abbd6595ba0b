use Rattle.std.proofs.Common.{List, ℕ, inl, inr, subst, ◌∙◌}
use Rattle.counted_io.specs.Bytes.{AppendsPart}
use Rattle.ua_server.proofs.Clashes.{sent_part}
use Rattle.ua_server.proofs.calls.print_clash.Goals as goal

pub returns-in-Ok : goal.returns-in-Ok
returns-in-Ok g c =
    let before = g.W.Write.contents c.args.output.now.inner in
    let after = g.W.Write.contents c.send.new.self.inner in
    inl (
      c.in-Ok.table.items,
      c.in-Ok.ensures,
      subst (λ (bytes : List ℕ). AppendsPart before after bytes) c.as_slice.ensures.value
          (sent_part c.send.result before after c.as_slice.result.now c.send.ensures.ok
          c.send.ensures.part),
    )

pub returns-in-Err : goal.returns-in-Err
returns-in-Err g c =
    let before = g.W.Write.contents c.args.output.now.inner in
    let after = g.W.Write.contents c.send-in-Err.new.self.inner in
    inr (subst (λ (bytes : List ℕ). AppendsPart before after bytes)
    (c.as_bytes.ensures.value ∙ (c.as_str.ensures.value ∙ c.unshown_line.ensures))
    (sent_part c.send-in-Err.result before after c.as_bytes.result.now
    c.send-in-Err.ensures.ok c.send-in-Err.ensures.part))
