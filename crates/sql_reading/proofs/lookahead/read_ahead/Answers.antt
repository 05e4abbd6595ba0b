use Rattle.std.proofs.Common.{rules, ◌≡◌, Err, ◌∙◌, arith, ap, ap₂, sym, refl, length, nat_lt, pos, Some}
use Rattle.std.specs.List.{flat_map}
use Rattle.sqlite.specs.Held.{state}
use Rattle.sqlite_value.specs.declared.value.Value.TheVariants.{Int}
use Rattle.sqlite_sql.specs.Query.{as_count}
use Rattle.sql_tables.specs.Words.{cells, AreNextRows}
use Rattle.archive.specs.Fault.{of_record}
use Rattle.sql_tables.specs.Rows.{records_in, content_in, HasNoRecords}
use Rattle.sql_reading.proofs.FewLemmas.{unread_told, all_read, among_next}
use Rattle.sql_reading.specs.Walking.{moment_at, records_beyond}
use Rattle.sql_reading.proofs.PageLemmas.{rows_found}
use Rattle.sql_reading.proofs.AheadLemmas.{read_ahead_is}
use Rattle.sql_reading.proofs.lookahead.read_ahead.Goals as goal

pub returns-in_err-records : goal.returns-in_err-records
returns-in_err-records g c =
    let e = c.in_ok-rows.ensures in
    let a = state g.S.Store c.args.conn.now in
    let p = c.args.place.now in
    let d = c.args.reading.now.direction in
    let rows = c.in_ok-rows.rows.items in
    let told : c.from_residual-in_err-records.result
    ≡ Err (of_record c.in_err-records.field-0.0) = search rules in
    let unread = rw c.deref.ensures.value at c.in_err-records.ensures.unread in
    rw told (unread_told a (state g.S.Store c.rows_next.new.conn) c.in_ok-rows.rows _
    c.in_err-records.field-0.0 (HasNoRecords rows) _ e unread (λ clean none whole.
    let page : AreNextRows d c.args.reading.now.bytes.now p.ticks p.pico
    (as_count (Int (pos c.args.count))) (cells (a.now.trees 1)) rows =
    rw (
      c.rows_beyond-next.ensures.ticks,
      c.rows_beyond-next.ensures.pico,
      c.rows_beyond-next.ensures.count,
    ) at (e.answer clean) in
    all_read a.now.trees rows whole.filled (among_next d c.args.reading.now.bytes.now p.ticks p.pico
    (as_count (Int (pos c.args.count))) (cells (a.now.trees 1)) rows page) none))

pub returns : goal.returns
returns g c =
    let e = c.in_ok-rows.ensures in
    let db = (state g.S.Store c.args.conn.now).now.trees in
    let p = c.args.place.now in
    let d = c.args.reading.now.direction in
    let rows = c.in_ok-rows.rows.items in
    record {
      answer = λ clean.
          let page : AreNextRows d c.args.reading.now.bytes.now p.ticks p.pico
          (as_count (Int (pos c.args.count))) (cells (db 1)) rows =
          rw (
            c.rows_beyond-next.ensures.ticks,
            c.rows_beyond-next.ensures.pico,
            c.rows_beyond-next.ensures.count,
          ) at (e.answer clean) in
          let items = rows_found d db c.args.reading.now.node.now c.args.reading.now.bytes.now
          p.ticks p.pico
          (Some c.args.count) rows c.in_ok-records.records.items
          (c.requires.filled (omega (arith, e.crash.clean, clean))) c.requires.lawful
          c.requires.spelled c.requires.place page
          (c.in_ok-records.ensures.read ∙ ap (flat_map records_in) c.deref.ensures.value) in
          read_ahead_is (records_beyond (content_in db) c.args.reading.now.node.now d
          (moment_at p.ticks p.pico)) c.from-2.result.items c.args.count
          (nat_lt c.len.result c.from.result) (c.from-2.ensures.0 ∙ items) c.requires.some
          (ap₂ nat_lt (c.len.ensures ∙ (c.in_ok-records.records.ok.0
          ∙ ap length (sym c.from-2.ensures.0))) c.from.ensures);
      kept = λ clean ok. e.kept clean refl;
      met = tt;
      refused = λ clean. tt;
      crash = e.crash;
    }
