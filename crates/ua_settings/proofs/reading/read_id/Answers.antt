use Rattle.std.proofs.Common.{ap, sym, ◌∙◌, is_ok}
use Rattle.std.proofs.lemmas.Bool.{false≢true}
use Rattle.ua_settings.specs.Judging.{is_id}
use Rattle.ua_settings.proofs.Mapped.{id_told}
use Rattle.ua_settings.proofs.reading.read_id.Goals as goal

pub unreachable-requires : goal.unreachable-requires
unreachable-requires c = false≢true (sym (ap is_ok c.in-Err.is)
    ∙ id_told c.parse_str.result _ c.parse_str.ensures.ok ∙ ap is_id c.text.ensures ∙ c.requires)
