use Rattle.std.proofs.Common.{sym, ◌∙◌}
use Rattle.sqlite.specs.Held.{state}
use Rattle.sql_tables.proofs.IndexLemmas.{plainly, stands_already, not_begun, index_made, index_failed}
use Rattle.sql_tables.proofs.indexing.index_live_values.Goals as goal

pub returns-then-is_indexed : goal.returns-then-is_indexed
returns-then-is_indexed g c =
    stands_already (state g.S.Store c.args.conn.now) c.requires
    (λ indexed is. sym c.if-is_indexed.true
    ∙ c.is_indexed.ensures indexed (c.schema.ensures.value ∙ is))

pub returns-then-not-is_autocommit : goal.returns-then-not-is_autocommit
returns-then-not-is_autocommit g c = not_begun (state g.S.Store c.args.conn.now) c.requires

pub add_index-requires-clause-plain : goal.add_index-requires-clause-plain
add_index-requires-clause-plain g c clean =
    plainly (state g.S.Store c.args.conn.now) _ (c.requires clean).tables
    (λ indexed is. sym c.if-is_indexed.false
    ∙ c.is_indexed.ensures indexed (c.schema.ensures.value ∙ is))

pub returns-in-Ok : goal.returns-in-Ok
returns-in-Ok g c =
    let e = c.in-Ok.ensures in
    index_made (state g.S.Store c.args.conn.now) (state g.S.Store c.add_index.new.conn) e.made
    e.indexed e.crash

pub returns-in-Err : goal.returns-in-Err
returns-in-Err g c =
    let e = c.in-Err.ensures in
    index_failed (state g.S.Store c.args.conn.now) (state g.S.Store c.add_index.new.conn)
    (state g.S.Store c.fault_of.new.conn) c.fault_of.result c.requires e.refused e.crash
    c.fault_of.ensures.alive c.fault_of.ensures.met c.fault_of.ensures.crash
