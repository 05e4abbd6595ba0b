use Rattle.std.proofs.Common.{arith}
use Rattle.std.proofs.lemmas.Grind.{common_steps}
use Rattle.std.proofs.lemmas.List.Elements.{filter_map-append}
use Rattle.ua_settings.proofs.password.paths_in.Goals as goal

pub loop-user-preserved : goal.loop-user-preserved
loop-user-preserved c = grind (arith, common_steps, filter_map-append)
