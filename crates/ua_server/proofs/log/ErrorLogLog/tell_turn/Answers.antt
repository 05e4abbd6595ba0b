use Rattle.std.proofs.Common.{◌∙◌, List, ℕ, arith, inr, refl, subst}
use Rattle.ua_server.specs.Telling.{LogsLine, told_line}
use Rattle.ua_server.proofs.TellingParts.{line-logged}
use Rattle.ua_server.proofs.log.ErrorLogLog.tell_turn.Goals as goal

pub returns-then-longest-self : goal.returns-then-longest-self
returns-then-longest-self g c =
    let told = c.tell.ensures in
    let contents = g.E.Write.contents in
    inr (
      omega (arith, c.if-longest-self.true),
      refl,
      subst (λ (text : List ℕ).
          LogsLine contents c.args.self.now.errors c.tell.new.errors (told_line text))
          (c.as_bytes.ensures.value ∙ (c.as_str.ensures.value ∙ c.turn_text.ensures))
          (line-logged contents c.args.self.now.errors c.tell.new.errors c.tell.result _ told.ok
          told.kept told.part told.write),
    )
