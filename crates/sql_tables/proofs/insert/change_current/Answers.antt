use Rattle.sqlite.specs.Held.{state}
use Rattle.sql_tables.proofs.KeptLemmas.{changes_take_in}
use Rattle.sql_tables.proofs.insert.change_current.Goals as goal

pub returns-clause-made : goal.returns-clause-made
returns-clause-made g c clean =
    let r = c.args.r.now in
    let made = c.in_ok-add_first.ensures.made clean in (
      made.0,
      made.1,
      made.2,
      changes_take_in r.origin r.number r.tick r.node.items r.time r.pico r.asked r.who.items
          r.value.items (state g.S.Store c.args.tx.now.conn.now).now.trees
          (state g.S.Store c.add_first.new.tx.conn.now).now.trees made.3,
    )
