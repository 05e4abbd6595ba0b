use Rattle.std.proofs.Common.{rules, ◌≡◌, Err}
use Rattle.sqlite.specs.Held.{state}
use Rattle.sql_opening.proofs.OpenLemmas.{opened_all_err, opened_kept_err}
use Rattle.sql_opening.proofs.opening.open_all.Goals as goal

pub returns-in_err-latest : goal.returns-in_err-latest
returns-in_err-latest g c =
    let told : c.from_residual.result ≡ Err c.in_err-latest.field-0.0 = search rules in
    rw told (opened_all_err c.args.id.now c.args.number (state g.S.Store c.args.conn.now)
    (state g.S.Store c.open_tables.new.conn) c.in_err-latest.field-0.0 _ _
    c.in_err-latest.ensures)

pub returns-in_err-check_kept : goal.returns-in_err-check_kept
returns-in_err-check_kept g c =
    let told : c.from_residual-in_err-check_kept.result ≡ Err c.in_err-check_kept.field-0.0 =
    search rules in
    rw told (opened_kept_err c.args.id.now c.args.number (state g.S.Store c.args.conn.now)
    (state g.S.Store c.open_tables.new.conn) (state g.S.Store c.check_kept.new.conn)
    c.in_ok-latest.latest c.in_err-check_kept.field-0.0 _ _ _ c.in_ok-latest.ensures
    c.in_err-check_kept.ensures)
