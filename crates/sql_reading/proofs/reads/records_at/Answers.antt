use Rattle.std.proofs.Common.{◌∙◌}
use Rattle.sqlite.specs.Held.{state}
use Rattle.sql_reading.proofs.StoryLemmas.{none_found}
use Rattle.sql_tables.proofs.AskLemmas.{asked_nothing}
use Rattle.sql_reading.proofs.reads.records_at.Goals as goal

pub returns-in-None : goal.returns-in-None
returns-in-None g c =
    asked_nothing (state g.S.Store c.args.conn.now) _ _ c.requires.idles
    (λ clean. c.new.ensures.items
    ∙ none_found (state g.S.Store c.args.conn.now).now.trees c.args.node.now c.args.time
    (c.requires.filled clean) (c.in_ok-bytes.ensures.long c.in-None.is))
