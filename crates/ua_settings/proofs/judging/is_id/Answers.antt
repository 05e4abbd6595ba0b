use Rattle.std.proofs.Common.{◌∙◌}
use Rattle.ua_settings.proofs.Mapped.{id_told}
use Rattle.ua_settings.proofs.judging.is_id.Goals as goal

pub returns : goal.returns
returns c = c.is_ok.ensures.value ∙ id_told c.parse_str.result _ c.parse_str.ensures.ok
