use Rattle.std.proofs.Common.{◌≡◌}
use Rattle.csv.specs.Records.{fields_of}
use Rattle.history_import.proofs.DoingLemmas.{done-none}
use Rattle.history_import.proofs.importing.do_next.Goals as goal

pub returns-in-Ok-Some-clause-does : goal.returns-in-Ok-Some-clause-does
returns-in-Ok-Some-clause-does g c = λ known rows stands. (
  fields_of c.in-Ok-Some.row,
  c.do_row.ensures.acts,
  rw c.in-Ok-Some.field-0-is at (c.in-Ok-Some.ensures.reads known rows stands),
)

pub returns-in-Ok-None-clause-does : goal.returns-in-Ok-None-clause-does
returns-in-Ok-None-clause-does g c = λ known rows stands. (
  rw c.in-Ok-None.field-0-is at (c.in-Ok-None.ensures.reads known rows stands),
  done-none c.args.server.now.settings c.args.asked.now
      (g.A.Archive.state c.args.server.now.replica.archive),
)

pub returns-in-Err-clause-does : goal.returns-in-Err-clause-does
returns-in-Err-clause-does g c = λ known rows stands. (
  done-none c.args.server.now.settings c.args.asked.now
      (g.A.Archive.state c.args.server.now.replica.archive),
  c.in-Err.ensures.reads known rows stands,
)
