use Rattle.std.proofs.Common.{arith}
use Rattle.std.proofs.lemmas.Int.{ints, clamps, to_z-of_z}
use Rattle.archive.proofs.ListLemmas.{last_more}
use Rattle.archive.proofs.list_archive.last_tick_of.Goals as goal

pub loop-r-preserved : goal.loop-r-preserved
loop-r-preserved c =
    let more = last_more c.args.records.now c.loop-r.r-index c.r-item.result c.args.origin
    (omega arith) in
    grind (arith, ints, clamps, to_z-of_z)
