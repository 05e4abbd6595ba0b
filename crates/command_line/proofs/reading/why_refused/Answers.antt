use Rattle.std.proofs.Common.{◌≡◌, List, map, subst, sym, true}
use Rattle.std.specs.Prelude.{Option, None, Some, IfSome}
use Rattle.clap.specs.Words.{App, Text, app_of}
use Rattle.clap.specs.Takes.{takes}
use Rattle.command_line.specs.Line.{uahist}
use Rattle.command_line.proofs.reading.why_refused.Goals as goal

-- where something would be none if this held, what is there says that it doesn't
unless : {T P : Type 0} (o : Option T) → (P → o ≡ None) → IfSome o (λ _. P → ⊥)
unless None none = tt
unless (Some x) none = λ holds. let both : Some x ≡ None = none holds in absurd cc

pub returns : goal.returns
returns g c =
    let words = map g.S.AsStr.text c.args.words.now in
    let taken : App → Type 0 = λ app. takes app words ≡ true in
    unless c.refusal_said.result
    (λ takes_it. c.refusal_said.ensures (c.in-Err.ensures.passes
    (subst taken (sym c.in-Ok.ensures) takes_it)))
