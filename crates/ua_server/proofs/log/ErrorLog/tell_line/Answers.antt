use Rattle.std.proofs.Common.{◌∙◌, inl, inr, refl, ap, subst}
use Rattle.std.specs.Prelude.{IfOk}
use Rattle.event_lines.specs.Lines.{IsEventLine}
use Rattle.ua_server.specs.Telling.{told_line}
use Rattle.ua_server.specs.Logging.{behind_left_out, starved_text}
use Rattle.ua_server.proofs.TellingParts.{line-logged}
use Rattle.ua_server.proofs.log.ErrorLog.tell_line.Goals as goal

pub returns-in_default-clause-told : goal.returns-in_default-clause-told
returns-in_default-clause-told g c event at is =
    let told = c.tell.ensures in (
      starved_text,
      inr refl,
      line-logged g.E.Write.contents c.args.self.now.errors c.tell.new.errors c.tell.result
          (told_line starved_text) told.ok told.kept told.part told.write,
    )

pub returns-clause-told : goal.returns-clause-told
returns-clause-told g c event at is =
    let (text, so, line) = c.tell_behind.ensures.told in (
      text,
      elim so [
        | inl behind ↦ inl (
          c.in-Ok.line.items,
          subst (λ r. IfOk r (λ line. IsEventLine at event line.items)) c.in-Ok.is is,
          behind ∙ ap (behind_left_out c.args.left_out) c.as_slice.ensures.value,
        )
        | inr starved ↦ inr starved
      ],
      line,
    )
