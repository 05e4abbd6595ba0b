use Rattle.std.proofs.Common.{ap, unwrap_or}
use Rattle.toml.specs.Data.{no_members}
use Rattle.toml.specs.View.{table_view}
use Rattle.ua_settings.proofs.Plans.{accepted, unspaced}
use Rattle.ua_settings.proofs.reading.read_document.Goals as goal

pub returns-in-Err : goal.returns-in-Err
returns-in-Err c = unspaced c.args.passwords.now (table_view c.args.document.now) c.in-Err.fault
    c.in-Err.ensures

pub returns-in_ok-listed-in-Ok : goal.returns-in_ok-listed-in-Ok
returns-in_ok-listed-in-Ok c =
    accepted c.args.passwords.now (table_view c.args.document.now)
    (table_view c.in-Some.archive.now)
    (table_view c.in-Some-table_at.server.now) c.in_ok-listed-in-Ok.listed c.in-Ok.space
    c.settings_of.result (ap (λ table. unwrap_or table no_members) c.in-Some.ensures)
    (ap (λ table. unwrap_or table no_members) c.in-Some-table_at.ensures)
    c.in_ok-listed-in-Ok.ensures.ok
    c.in-Ok.ensures c.settings_of.ensures.ok c.settings_of.ensures.err
