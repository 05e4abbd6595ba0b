use Rattle.std.proofs.Common.{rules, Err, ◌≡◌, ◌≤◌, arith, length, List, Vec}
use Rattle.std.specs.declared.alloc.Global.{Global}
use Rattle.sqlite.specs.Held.{state}
use Rattle.stamp.specs.Numbers.{number_of}
use Rattle.records.specs.declared.record.Record.{Record}
use Rattle.sql_reading.proofs.SinceLemmas.{gathered_start, gathered_on, gathered_enough, gathered_ends}
use Rattle.sql_tables.proofs.AskLemmas.{passed_err}
use Rattle.sql_reading.proofs.since.records_since.Goals as goal

abbrev items_of : Vec Record Global → List Record
items_of v = v.items

pub loop-number-init : goal.loop-number-init
loop-number-init g c = (
  gathered_start (state g.S.Store c.args.conn.now)
      (number_of c.args.vector.now) c.args.limit c.new-found.result.items c.requires.idles
      c.requires.filled c.new-found.ensures.items,
  omega arith,
)

pub returns-then-len-limit : goal.returns-then-len-limit
returns-then-len-limit g c =
    let reached : c.args.limit ≤ length c.loop-number.found.items =
    omega (arith, c.loop-number.found.ok.0) in
    gathered_enough items_of (state g.S.Store c.args.conn.now) (state g.S.Store c.loop-number.conn)
    (number_of c.args.vector.now) c.args.limit c.loop-number.number c.loop-number.found
    c.loop-number.invariant.0 reached

pub loop-number-preserved : goal.loop-number-preserved
loop-number-preserved g c = (
  gathered_on (state g.S.Store c.args.conn.now) (state g.S.Store c.loop-number.conn)
      (state g.S.Store c.push_lacked.new.conn)
      (number_of c.args.vector.now) c.args.limit c.loop-number.number c.loop-number.found.items
      c.push_lacked.new.found.items c.in_ok-push_lacked.field-0 c.loop-number.invariant.0
      c.in_ok-push_lacked.ensures,
  omega arith,
)

pub returns : goal.returns
returns g c =
    let end : 65 ≤ c.loop-number.number = omega arith in
    gathered_ends items_of (state g.S.Store c.args.conn.now) (state g.S.Store c.loop-number.conn)
    (number_of c.args.vector.now) c.args.limit c.loop-number.number c.loop-number.found
    c.loop-number.invariant.0 end

pub returns-in_err-push_lacked : goal.returns-in_err-push_lacked
returns-in_err-push_lacked g c =
    let a = state g.S.Store c.args.conn.now in
    let b = state g.S.Store c.loop-number.conn in
    let told : c.from_residual.result ≡ Err c.in_err-push_lacked.field-0.0 = search rules in
    rw told (passed_err a b (state g.S.Store c.push_lacked.new.conn)
    c.in_err-push_lacked.field-0.0 _ _ c.loop-number.invariant.0.passed
    c.in_err-push_lacked.ensures)
