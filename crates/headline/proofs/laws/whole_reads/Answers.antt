use Rattle.std.proofs.Common.{◌∙◌, sym}
use Rattle.headline.proofs.Paging.{never_read}
use Rattle.headline.proofs.laws.whole_reads.Goals as goal

pub returns-else-is_timed-clause-shows : goal.returns-else-is_timed-clause-shows
returns-else-is_timed-clause-shows c =
    never_read c.args.details (sym c.is_timed.ensures ∙ c.if-is_timed.false)
