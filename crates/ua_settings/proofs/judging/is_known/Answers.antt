use Rattle.std.proofs.Common.{◌∙◌}
use Rattle.ua_settings.proofs.Mapped.{any_of_rules}
use Rattle.ua_settings.proofs.judging.is_known.Goals as goal

pub returns : goal.returns
returns c = c.has_name.ensures ∙ any_of_rules c.args.section c.args.name.now _ c.keys_of.ensures
