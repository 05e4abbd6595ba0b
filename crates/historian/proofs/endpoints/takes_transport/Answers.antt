use Rattle.std.proofs.Common.{◌∙◌, rules, tests}
use Rattle.std.specs.Option.{option_copied}
use Rattle.std.proofs.lemmas.Iterator.{YieldsList-from_slice}
use Rattle.std.proofs.lemmas.Iterator.Search.{any_from_yields_List}
use Rattle.historian.proofs.EndpointsParts.{is_served_profile}
use Rattle.historian.proofs.Profiles.{takes_copied}
use Rattle.historian.proofs.endpoints.takes_transport.Goals as goal

pub returns-else-is_empty : goal.returns-else-is_empty
returns-else-is_empty c =
    any_from_yields_List (λ p. is_served_profile (option_copied p)) _ _ _ c.any.ensures.ran
    (YieldsList-from_slice c.args.profiles.now cc) (λ x b q k. search (rules, tests))
    ∙ takes_copied c.args.profiles.now (λ e. search (rules, tests))
