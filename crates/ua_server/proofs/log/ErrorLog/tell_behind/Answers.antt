use Rattle.std.proofs.Common.{List, ℕ, inl, inr, refl, subst}
use Rattle.ua_server.specs.Telling.{LogsLine, told_line}
use Rattle.ua_server.specs.Logging.{starved_text}
use Rattle.ua_server.proofs.TellingParts.{line-logged}
use Rattle.ua_server.proofs.log.ErrorLog.tell_behind.Goals as goal

pub returns-in-Ok-clause-told : goal.returns-in-Ok-clause-told
returns-in-Ok-clause-told g c =
    let told = c.tell.ensures in (
      c.in-Ok.text.items,
      inl c.in-Ok.ensures,
      subst (λ (text : List ℕ).
          LogsLine g.E.Write.contents c.args.self.now.errors c.tell.new.errors (told_line text))
          c.as_slice.ensures.value
          (line-logged g.E.Write.contents c.args.self.now.errors c.tell.new.errors c.tell.result
          (told_line c.as_slice.result.now) told.ok told.kept told.part told.write),
    )

pub returns-in-Err-clause-told : goal.returns-in-Err-clause-told
returns-in-Err-clause-told g c =
    let told = c.tell-in-Err.ensures in (
      starved_text,
      inr refl,
      line-logged g.E.Write.contents c.args.self.now.errors c.tell-in-Err.new.errors
          c.tell-in-Err.result (told_line starved_text) told.ok told.kept told.part told.write,
    )
