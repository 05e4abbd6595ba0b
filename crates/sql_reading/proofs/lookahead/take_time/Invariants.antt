use Rattle.sql_reading.proofs.AheadLemmas.{Taking}
use Rattle.sql_reading.proofs.lookahead.take_time.Given as goal

abbrev pub invariant-loop : goal.invariant-loop
invariant-loop l = Taking l.time l.fn.records.items l.taken.items l.records.items l.counter
