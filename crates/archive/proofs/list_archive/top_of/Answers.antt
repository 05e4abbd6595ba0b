use Rattle.std.proofs.Common.{arith}
use Rattle.std.proofs.lemmas.Int.{ints, clamps, to_z-of_z}
use Rattle.archive.proofs.ListLemmas.{top_more}
use Rattle.archive.proofs.list_archive.top_of.Goals as goal

pub loop-r-preserved : goal.loop-r-preserved
loop-r-preserved c =
    let more = top_more c.args.records.now c.loop-r.r-index c.r-item.result (omega arith) in
    grind (arith, ints, clamps, to_z-of_z)
