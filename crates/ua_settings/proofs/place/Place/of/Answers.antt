use Rattle.std.proofs.Common.{◌≡◌, List, Option, None, IfOk, Result, Ok, Err, sym, subst}
use Rattle.toml.specs.Data.{Members}
use Rattle.toml.specs.Errors.{IsMemory}
use Rattle.ua_settings.specs.declared.password.PasswordLine.{PasswordLine}
use Rattle.ua_settings.specs.declared.place.Place.{Place}
use Rattle.ua_settings.specs.Place.{IsLineNumber, IsPlaceOf}
use Rattle.ua_settings.proofs.place.Place.of.Goals as goal

told_line : {E : Type 0} (lines : List PasswordLine) (document : Option Members) (M : Type 0)
    (result : Result Place E)
    → (¬ M → document ≡ None) → IfOk result (λ place. IsLineNumber place × ¬ M)
    → IfOk result (IsPlaceOf lines document)
told_line lines document M (Ok place) refused told =
    subst (λ d. IsPlaceOf lines d place) (sym (refused told.1)) told.0
told_line lines document M (Err e) refused told = tt

pub returns-in-Err : goal.returns-in-Err
returns-in-Err c = told_line c.args.passwords.now _
    (IsMemory c.in-Err.error) c.in_text.result c.in-Err.ensures.refused
    c.in_text.ensures
