use Rattle.std.proofs.Common.{refl, arith}
use Rattle.sqlite.specs.State.{HasCleanDisk}
use Rattle.sqlite.specs.Held.{state}
use Rattle.sqlite.proofs.StateLemmas.{survives_weaker, survives_then}
use Rattle.sql_tables.proofs.WriteLemmas.{stays_behind}
use Rattle.sql_tables.proofs.FreeLemmas.{free_by}
use Rattle.sql_tables.proofs.KeptLemmas.{adds_by_keeping}
use Rattle.sql_tables.proofs.writes.write_cells.Goals as goal

pub keep-requires-clause-free : goal.keep-requires-clause-free
keep-requires-clause-free g c alone clean =
    let r = c.args.r.now in free_by r.node.items r.time r.pico
    (state g.S.Store c.args.conn.now).now.trees (c.requires.kept clean)
    (c.requires.none alone clean)

pub returns-then-not-is_autocommit-clause-refused :
    goal.returns-then-not-is_autocommit-clause-refused
returns-then-not-is_autocommit-clause-refused g c clean own =
    record { idles = c.requires.idles clean; same = refl }

pub returns-in-Ok-clause-added : goal.returns-in-Ok-clause-added
returns-in-Ok-clause-added g c clean =
    let r = c.args.r.now in
    let old = state g.S.Store c.args.conn.now in
    let new = state g.S.Store c.keep.new.conn in
    let early : HasCleanDisk old = omega (arith, c.in-Ok.ensures.crash.clean, clean) in
    let made = c.in-Ok.ensures.made clean in (
      made.0,
      adds_by_keeping r.origin r.number r.tick r.node.items r.time r.pico r.asked r.who.items
          r.value.items old.now.trees new.now.trees made.1 (c.requires.kept early)
          (c.requires.next early),
    )

pub returns-in-Ok-clause-crash : goal.returns-in-Ok-clause-crash
returns-in-Ok-clause-crash g c =
    let r = c.args.r.now in
    let old = state g.S.Store c.args.conn.now in
    let new = state g.S.Store c.keep.new.conn in
    survives_weaker old new _ _ (λ clean db keeps.
    let early : HasCleanDisk old = omega (arith, c.in-Ok.ensures.crash.clean, clean) in
    adds_by_keeping r.origin r.number r.tick r.node.items r.time r.pico r.asked r.who.items
    r.value.items old.now.trees db keeps (c.requires.kept early) (c.requires.next early))
    c.in-Ok.ensures.crash

pub returns-in-Err-clause-refused : goal.returns-in-Err-clause-refused
returns-in-Err-clause-refused g c clean own =
    let old = state g.S.Store c.args.conn.now in
    let mid = state g.S.Store c.keep.new.conn in
    let new = state g.S.Store c.fault_of.new.conn in
    let same = c.fault_of.ensures.alive clean own in
    let late : HasCleanDisk mid = omega (arith, c.fault_of.ensures.crash.clean, clean) in
    let early : HasCleanDisk old = omega (arith, c.in-Err.ensures.crash.clean, late) in
    let back = c.in-Err.ensures.refused late same.0.was_open in
    stays_behind old mid new (c.requires.idles early) back.0 back.1 same

pub returns-in-Err-clause-crash : goal.returns-in-Err-clause-crash
returns-in-Err-clause-crash g c =
    let r = c.args.r.now in
    let old = state g.S.Store c.args.conn.now in
    let mid = state g.S.Store c.keep.new.conn in
    survives_then old mid (state g.S.Store c.fault_of.new.conn) _ _ _ (λ clean db keeps.
    let early : HasCleanDisk old =
    omega (arith, c.fault_of.ensures.crash.clean, c.in-Err.ensures.crash.clean, clean) in
    adds_by_keeping r.origin r.number r.tick r.node.items r.time r.pico r.asked r.who.items
    r.value.items old.now.trees db keeps (c.requires.kept early) (c.requires.next early))
    (λ clean db none. absurd none) c.in-Err.ensures.crash c.fault_of.ensures.crash
