use Rattle.std.proofs.Common.{Err}
use Rattle.historian.proofs.reading.put_archived.Goals as goal

pub returns-in-Err : goal.returns-in-Err
returns-in-Err g c = (
  c.in-Err.ensures.acts.0,
  Err c.in-Err.status,
  c.in-Err.ensures.acts.1,
  c.put_refused.ensures.puts c.args.terms.stamps c.args.terms.now,
  c.put_refused.ensures.spelled c.args.terms.stamps c.args.terms.now,
)
