use Rattle.std.proofs.Common.{refl}
use Rattle.history_text.proofs.times.put_calendar.Goals as goal

pub returns : goal.returns
returns c = (_, c.in_ok-put_day.ensures, (c.date_of.result, c.date_of.ensures, refl))
