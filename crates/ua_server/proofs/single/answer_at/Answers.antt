use Rattle.std.proofs.Common.{ℤ, refl, sym, subst, w64, rules}
use Rattle.std.specs.Prelude.{Option}
use Rattle.std.specs.Int.RustNames.{FitsSigned}
use Rattle.std.proofs.lemmas.Int.{to_z-of_z}
use Rattle.ua_connection.specs.Readings.{AllAre}
use Rattle.ua_server.specs.Single.{AnswersAt}
use Rattle.ua_connection.proofs.Outsides.{empty_environment}
use Rattle.ua_server.proofs.single.answer_at.Goals as goal

pub returns-in-Some-clause-does : goal.returns-in-Some-clause-does
returns-in-Some-clause-does g c =
    let does = c.answer_either-in-Some.ensures.does in
    let now = c.in-Some.now in
    let fits : FitsSigned w64 now = search rules in
    let P : ℤ → Type 0 = λ n. AllAre n does.0.readings in
    let Q : Option ℤ → Type 0 = λ o.
    AnswersAt c.args.server.now.settings (g.A.Archive.state c.args.server.now.replica.archive)
    (g.A.Archive.state c.answer_either-in-Some.new.server.replica.archive) c.args.terms.hex o
    (g.R.Read.remaining c.args.input.now.inner)
    (g.R.Read.remaining c.answer_either-in-Some.new.input.inner)
    (g.W.Write.contents c.args.output.now.inner)
    (g.W.Write.contents c.answer_either-in-Some.new.output.inner) empty_environment
    c.answer_either-in-Some.result in (
      empty_environment,
      g.met.C.Clock.gave_none c.args.clock.now,
      subst Q (sym c.in-Some.is) (
        refl,
        (does.0, subst P (to_z-of_z w64 now fits) does.1.1, does.2),
      ),
    )
