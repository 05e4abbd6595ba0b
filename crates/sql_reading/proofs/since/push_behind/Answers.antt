use Rattle.std.proofs.Common.{rules, ◌≡◌, Err, ◌∙◌, ap, arith}
use Rattle.std.specs.List.{flat_map}
use Rattle.sqlite.specs.Held.{state}
use Rattle.archive.specs.Fault.{of_record}
use Rattle.sql_tables.specs.Words.{cells}
use Rattle.sql_tables.specs.Rows.{records_in, HasNoRecords}
use Rattle.sql_reading.proofs.FewLemmas.{unread_told, all_read, among_page}
use Rattle.sql_reading.proofs.SinceLemmas.{behind_found, pushed}
use Rattle.sql_reading.proofs.since.push_behind.Goals as goal

pub returns-in_err-more : goal.returns-in_err-more
returns-in_err-more g c =
    let e = c.in_ok-rows.ensures in
    let a = state g.S.Store c.args.conn.now in
    let rows = c.in_ok-rows.rows.items in
    let told : c.from_residual-in_err-more.result ≡ Err (of_record c.in_err-more.field-0.0) =
    search rules in
    let unread = rw c.deref.ensures.value at c.in_err-more.ensures.unread in
    rw told (unread_told a (state g.S.Store c.rows_behind.new.conn) c.in_ok-rows.rows _
    c.in_err-more.field-0.0 (HasNoRecords rows) _ e unread (λ clean none whole.
    all_read a.now.trees rows whole.filled (among_page _ _ _ (cells (a.now.trees 1)) rows
    (e.answer clean)) none))

pub returns : goal.returns
returns g c =
    let a = state g.S.Store c.args.conn.now in
    let b = state g.S.Store c.rows_behind.new.conn in
    let e = c.in_ok-rows.ensures in
    let asked = c.behind-asked in
    pushed a b c.in_ok-rows.rows _ c.push_all.result _ _ e c.push_all.ensures.value
    c.push_all.ensures.memory
    (λ clean page all.
    behind_found a.now.trees c.args.origin c.args.number c.args.limit _ asked.result.origin
    asked.result.number asked.result.count c.in_ok-rows.rows.items c.args.found.now.items
    c.in_ok-more.more.items c.push_all.new.found.items
    (c.requires.filled (omega (arith, e.crash.clean, clean))) asked.ensures.origin
    asked.ensures.number (omega (arith, c.len.ensures, c.requires.room, c.args.found.now.ok.0))
    asked.ensures.count page (c.in_ok-more.ensures.read
    ∙ ap (flat_map records_in) c.deref.ensures.value) all)
