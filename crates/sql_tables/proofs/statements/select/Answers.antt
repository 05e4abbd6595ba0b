use Rattle.sqlite.specs.Values.{bound}
use Rattle.sqlite.specs.Held.{state}
use Rattle.sql_tables.proofs.AnsweredLemmas.{answered_in}
use Rattle.sql_tables.proofs.AskLemmas.{asked_of, rests_of}
use Rattle.sql_tables.proofs.statements.select.Goals as goal

pub ask-requires-clause-rests : goal.ask-requires-clause-rests
ask-requires-clause-rests g c clean =
    rests_of (state g.S.Store c.args.conn.now) (c.requires.idles clean)

pub ask-requires-clause-answered : goal.ask-requires-clause-answered
ask-requires-clause-answered g c clean =
    answered_in (state g.S.Store c.args.conn.now).now.schema c.args.sql.now
    (bound c.args.params.now) (c.requires.idles clean).tables c.requires.answered

pub returns : goal.returns
returns g c = asked_of (state g.S.Store c.args.conn.now)
    (state g.S.Store c.ask.new.conn) c.ask.result _ c.requires.idles c.ask.ensures
