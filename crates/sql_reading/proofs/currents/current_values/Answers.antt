use Rattle.std.proofs.Common.{rules, ◌≡◌, Err, ◌∙◌, ap, arith, refl, pos, map}
use Rattle.std.specs.List.{flat_map}
use Rattle.sqlite.specs.Held.{state}
use Rattle.sqlite.specs.State.{HasCleanDisk}
use Rattle.sqlite_value.specs.declared.value.Value.TheVariants.{Int}
use Rattle.sqlite_sql.specs.Query.{as_count}
use Rattle.records.specs.Moments.{ticks_of, pico_of}
use Rattle.sql_tables.specs.Derived.{current_columns}
use Rattle.sql_tables.specs.Currents.{AreNextCurrents, ShowValues, helds_in}
use Rattle.sql_reading.proofs.CurrentLemmas.{currents_found, first_limited}
use Rattle.archive.specs.Fault.{of_record}
use Rattle.sql_reading.specs.Readable.{HasUnreadable}
use Rattle.sql_reading.proofs.FewLemmas.{unread_told, currents_read}
use Rattle.sql_reading.proofs.currents.current_values.Goals as goal

pub returns-in_err-found : goal.returns-in_err-found
returns-in_err-found g c =
    let e = c.in_ok-rows.ensures in
    let told : c.from_residual-in_err-found.result
    ≡ Err (of_record c.in_err-found.field-0.0) = search rules in
    let db = (state g.S.Store c.args.conn.now).now.trees in
    let s = c.args.span.start in
    let d = c.args.reading.now.direction in
    let rows = c.in_ok-rows.rows.items in
    let limit = as_count (Int c.stretch_of-along.result.count) in
    let unread = rw c.deref.ensures.value at c.in_err-found.ensures.unread in
    rw told (unread_told (state g.S.Store c.args.conn.now)
    (state g.S.Store c.currents_next.new.conn) c.in_ok-rows.rows _ c.in_err-found.field-0.0
    (HasUnreadable rows) _ e unread (λ clean none whole.
    let page : ShowValues (AreNextCurrents d c.args.reading.now.bytes.now s.ticks s.pico
    (ticks_of c.args.span.far)
    (pos (pico_of c.args.span.far)) limit (map current_columns (db 4))) rows =
    rw (
      c.stretch_of-along.ensures.near.0,
      c.stretch_of-along.ensures.near.1,
      c.stretch_of-along.ensures.far.0,
      c.stretch_of-along.ensures.far.1,
    ) at
    (e.answer clean) in
    currents_read d db c.args.reading.now.bytes.now s.ticks s.pico (ticks_of c.args.span.far)
    (pos (pico_of c.args.span.far)) limit rows whole page none))

pub returns : goal.returns
returns g c =
    let e = c.in_ok-rows.ensures in
    let db = (state g.S.Store c.args.conn.now).now.trees in
    let s = c.args.span.start in
    let d = c.args.reading.now.direction in
    let rows = c.in_ok-rows.rows.items in
    let limit = as_count (Int c.stretch_of-along.result.count) in
    record {
      answer = λ clean.
          let before : HasCleanDisk (state g.S.Store c.args.conn.now) =
          omega (arith, e.crash.clean, clean) in
          let page : ShowValues (AreNextCurrents d c.args.reading.now.bytes.now s.ticks s.pico
          (ticks_of c.args.span.far)
          (pos (pico_of c.args.span.far)) limit (map current_columns (db 4))) rows =
          rw (
            c.stretch_of-along.ensures.near.0,
            c.stretch_of-along.ensures.near.1,
            c.stretch_of-along.ensures.far.0,
            c.stretch_of-along.ensures.far.1,
          ) at
          (e.answer clean) in
          let items = currents_found d db c.args.reading.now.node.now c.args.reading.now.bytes.now
          s.ticks s.pico c.args.span.far
          limit rows c.in_ok-found.found.items (c.requires.filled before)
          (c.requires.kept before) c.requires.lawful c.requires.spelled c.requires.place page
          (c.in_ok-found.ensures.found ∙ ap (flat_map helds_in) c.deref.ensures.value) in
          c.truncate.ensures.items
          ∙ first_limited c.args.limit limit c.in_ok-found.found.items _
          c.stretch_of-along.ensures.count items;
      kept = λ clean ok. e.kept clean refl;
      met = tt;
      refused = λ clean. tt;
      crash = e.crash;
    }
