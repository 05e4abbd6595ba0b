-- Names for parts of the definitions in specs/File, for the lemmas on these parts.
use Rattle.std.specs.Prelude.{ℕ, List, Option, option_map}
use Rattle.ua_settings.specs.declared.keys.Section.{Section}
use Rattle.std.specs.Option.{option_or}
use Rattle.toml.specs.Data.{Members}
use Rattle.ua_settings.specs.declared.keys.Wrong.{Wrong}
use Rattle.ua_settings.specs.declared.password.PasswordLine.{PasswordLine}
use Rattle.ua_settings.specs.File.{Rule, names_in, tables}
use Rattle.ua_settings.specs.Judging.{Spot, wrong_from}

abbrev pub or_else : {A : Type 0} → Option A → Option A → Option A
or_else = option_or

-- the key where there is one, else what is found later
abbrev pub or_later : Section → ℕ → Option (List ℕ) → Option Spot → Option Spot
or_later section number given later =
    option_or (option_map (λ key. record { section = section; number = number; key = key }) given)
    later

abbrev pub name_of : Rule → List ℕ
name_of rule = rule.name

abbrev pub wrong_in : List PasswordLine → Members → Wrong → Section → Option Spot
wrong_in lines document wrong section =
    wrong_from (names_in lines document) wrong section 1 (tables document section)
