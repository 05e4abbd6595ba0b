use Rattle.std.proofs.Common.{ℕ, List, Err, IsUtf8, refl, ap, subst, ◌∙◌}
use Rattle.ua_connection.proofs.Outsides.{empty_environment}
use Rattle.ua_server.proofs.Hexing.{idle, made-digits, made-read, made-bad, made-none}
use Rattle.ua_server.proofs.single.hex_answer.Goals as goal

pub returns-in-Err-clause-digits : goal.returns-in-Err-clause-digits
returns-in-Err-clause-digits g c = (
  empty_environment,
  g.met.C.Clock.gave_none c.args.clock.now,
  made-read c.args.server.now.settings (g.A.Archive.state c.args.server.now.replica.archive)
      (g.R.Read.remaining c.args.input.now.inner) c.in-Err.fault
      (λ e. c.in-Err.ensures.no_write (ap Err e)) (λ e. c.in-Err.ensures.no_long (ap Err e)),
)

pub returns-in_default-clause-digits : goal.returns-in_default-clause-digits
returns-in_default-clause-digits g c =
    let P : List ℕ → Type 0 = λ b. IsUtf8 b → ⊥ in (
      empty_environment,
      g.met.C.Clock.gave_none c.args.clock.now,
      (
        made-bad (g.R.Read.remaining c.args.input.now.inner)
            (g.R.Read.remaining c.read_all.new.input.inner) c.in-Ok.bytes.items
            c.in-Ok.ensures.bytes.0 c.in-Ok.ensures.bytes.1
            (subst P c.as_slice.ensures.value c.in_default.ensures.cases.0),
        idle (g.A.Archive.state c.args.server.now.replica.archive) empty_environment refl refl,
      ),
    )

pub returns-clause-digits : goal.returns-clause-digits
returns-clause-digits g c =
    let answers = c.answer_hex.ensures.answers in (
      answers.0,
      answers.1,
      made-none c.args.server.now.settings (g.A.Archive.state c.args.server.now.replica.archive)
          (g.A.Archive.state c.answer_hex.new.server.replica.archive)
          (g.R.Read.remaining c.args.input.now.inner)
          (g.R.Read.remaining c.read_all.new.input.inner) c.in-Ok-from_utf8.text.now
          c.in-Ok.bytes.items answers.0 c.new-digits.result.items c.answer_hex.new.out.items
          c.answer_hex.result c.in-Err-answer_hex.fault
          c.in-Ok.ensures.bytes.0 c.in-Ok.ensures.bytes.1
          (c.in-Ok-from_utf8.ensures.cases.0 ∙ c.as_slice.ensures.value) c.in-Err-answer_hex.is
          answers.2,
    )

pub returns-in-Ok-answer_hex-clause-digits : goal.returns-in-Ok-answer_hex-clause-digits
returns-in-Ok-answer_hex-clause-digits g c =
    let answers = c.answer_hex.ensures.answers in (
      answers.0,
      answers.1,
      made-digits c.args.server.now.settings (g.A.Archive.state c.args.server.now.replica.archive)
          (g.A.Archive.state c.answer_hex.new.server.replica.archive)
          (g.R.Read.remaining c.args.input.now.inner)
          (g.R.Read.remaining c.read_all.new.input.inner) c.in-Ok-from_utf8.text.now
          c.in-Ok.bytes.items answers.0 c.new-digits.result.items c.answer_hex.new.out.items
          c.answer_hex.result c.in-Ok-answer_hex.field-0
          c.in-Ok.ensures.bytes.0 c.in-Ok.ensures.bytes.1
          (c.in-Ok-from_utf8.ensures.cases.0 ∙ c.as_slice.ensures.value)
          c.new-digits.ensures.items c.in-Ok-answer_hex.is answers.2,
    )
