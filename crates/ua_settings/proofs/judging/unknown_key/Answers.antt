use Rattle.std.proofs.Common.{Some, None, ap, ◌∙◌}
use Rattle.ua_settings.proofs.Wrongs.{unknown_found}
use Rattle.ua_settings.proofs.judging.unknown_key.Goals as goal

pub returns-in-Some : goal.returns-in-Some
returns-in-Some c = ap Some c.as_str.ensures.value
    ∙ unknown_found c.args.section c.args.table.now.entries (Some c.in-Some.key) c.in-Some.ensures

pub returns-in-None : goal.returns-in-None
returns-in-None c = unknown_found c.args.section c.args.table.now.entries None c.in-None.ensures
