use Rattle.std.proofs.Common.{rules, ◌≡◌, Err, ◌∙◌, arith, ap, refl}
use Rattle.std.specs.List.{flat_map}
use Rattle.sqlite.specs.Held.{state}
use Rattle.archive.specs.Fault.{of_record}
use Rattle.sql_tables.specs.Words.{cells}
use Rattle.sql_tables.specs.Rows.{records_in, HasNoRecords}
use Rattle.sql_reading.proofs.FewLemmas.{unread_told, all_read, among_sorted}
use Rattle.sql_reading.proofs.StoryLemmas.{records_found}
use Rattle.sql_reading.proofs.reads.story_at.Goals as goal

pub returns-in_err-decode_all : goal.returns-in_err-decode_all
returns-in_err-decode_all g c =
    let e = c.in_ok-rows.ensures in
    let a = state g.S.Store c.args.conn.now in
    let rows = c.in_ok-rows.rows.items in
    let told : c.from_residual-in_err-decode_all.result
    ≡ Err (of_record c.in_err-decode_all.field-0.0) = search rules in
    let unread = rw c.deref.ensures.value at c.in_err-decode_all.ensures.unread in
    rw told (unread_told a (state g.S.Store c.rows_at.new.conn) c.in_ok-rows.rows _
    c.in_err-decode_all.field-0.0 (HasNoRecords rows) _ e unread (λ clean none whole.
    all_read a.now.trees rows whole.filled (among_sorted _ (cells (a.now.trees 1)) rows
    (e.answer clean).same) none))

pub returns : goal.returns
returns g c =
    let e = c.in_ok-rows.ensures in
    record {
      answer = λ clean. records_found
          (state g.S.Store c.args.conn.now).now.trees c.args.node.now c.args.time c.args.bytes.now
          c.in_ok-rows.rows.items _
          (c.requires.filled (omega (arith, e.crash.clean, clean))) c.requires.lawful
          c.requires.spelled
          (rw (c.place_of-place.ensures.0, c.place_of-place.ensures.1) at (e.answer clean))
          (c.in_ok-decode_all.ensures.read ∙ ap (flat_map records_in) c.deref.ensures.value);
      kept = λ clean ok. e.kept clean refl;
      met = tt;
      refused = λ clean. tt;
      crash = e.crash;
    }
