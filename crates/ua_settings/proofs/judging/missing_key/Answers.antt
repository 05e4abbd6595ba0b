use Rattle.std.proofs.Common.{Some, None}
use Rattle.toml.specs.View.{table_view}
use Rattle.ua_settings.specs.Judging.{is_missing}
use Rattle.ua_settings.proofs.Wrongs.{rule_found}
use Rattle.ua_settings.proofs.judging.missing_key.Goals as goal

pub returns-in-Some : goal.returns-in-Some
returns-in-Some c = rule_found (is_missing (table_view c.args.table.now)) c.args.section _
    (Some c.in-Some.key) c.keys_of.ensures c.in-Some.ensures

pub returns-in-None : goal.returns-in-None
returns-in-None c = rule_found (is_missing (table_view c.args.table.now)) c.args.section _ None
    c.keys_of.ensures c.in-None.ensures
