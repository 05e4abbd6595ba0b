use Rattle.std.proofs.Common.{refl, arith, []}
use Rattle.sqlite.specs.Held.{state}
use Rattle.sql_tables.proofs.AnsweredLemmas.{some_at_answered}
use Rattle.sql_tables.proofs.FreeLemmas.{none_at, none_shown}
use Rattle.sql_tables.proofs.writes.is_first.Goals as goal

pub select-requires-clause-answered : goal.select-requires-clause-answered
select-requires-clause-answered g c =
    let r = c.args.r.now in
    rw (c.params-to_sql.ensures, c.params-to_sql-2.ensures, c.params-to_sql-3.ensures)
    (some_at_answered r.node.items r.time r.pico)

pub returns : goal.returns
returns g c =
    let e = c.in_ok-rows.ensures in
    let old = state g.S.Store c.args.conn.now in
    let r = c.args.r.now in
    record {
      answer = λ clean.
          let tables = (c.requires (omega (arith, e.crash.clean, clean))).tables in
          let shown = rw (
            c.params-to_sql.ensures,
            c.params-to_sql-2.ensures,
            c.params-to_sql-3.ensures,
          ) at (e.answer clean) in (
            λ first. none_at old (state g.S.Store c.select.new.conn) r.node.items r.time r.pico
                c.in_ok-rows.rows.items tables shown
                ((rw c.deref.ensures.value at c.are_none.ensures.none) first),
            λ more none. (rw c.deref.ensures.value at c.are_none.ensures.some) more
                (none_shown old (state g.S.Store c.select.new.conn) r.node.items r.time r.pico
                c.in_ok-rows.rows.items tables shown none),
          );
      kept = λ clean ok. e.kept clean refl;
      met = tt;
      refused = λ clean. tt;
      crash = e.crash;
    }
