use Rattle.std.proofs.Common.{arith}
use Rattle.std.proofs.lemmas.Grind.{common_steps}
use Rattle.std.proofs.lemmas.List.Elements.{filter_map-append}
use Rattle.archive.proofs.list_archive.lives_at.Goals as goal

pub loop-time-preserved : goal.loop-time-preserved
loop-time-preserved c = grind (arith, common_steps, filter_map-append)
