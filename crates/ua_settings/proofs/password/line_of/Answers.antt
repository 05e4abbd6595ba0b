use Rattle.std.proofs.Common.{Option, ap, ◌∙◌, []}
use Rattle.std.specs.Option.{option_map_or}
use Rattle.ua_settings.specs.declared.password.PasswordLine.{PasswordLine}
use Rattle.ua_settings.proofs.password.line_of.Goals as goal

pub returns-in-Some : goal.returns-in-Some
returns-in-Some c =
    c.as_str.ensures.same
    ∙ ap (λ (found : Option PasswordLine). option_map_or (λ p. p.line) found []) c.in-Some.ensures

pub returns-in-None : goal.returns-in-None
returns-in-None c =
    ap (λ (found : Option PasswordLine). option_map_or (λ p. p.line) found []) c.in-None.ensures
