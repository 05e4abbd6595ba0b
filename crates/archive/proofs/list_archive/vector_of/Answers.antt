use Rattle.std.proofs.Common.{arith, subst, sym}
use Rattle.records.specs.Lists.{Has}
use Rattle.archive.proofs.ListLemmas.{has_at, raised_more}
use Rattle.archive.proofs.list_archive.vector_of.Goals as goal

pub raise-requires : goal.raise-requires
raise-requires c =
    let held = has_at c.args.records.now c.loop-r.r-index c.r-item.result (omega arith) in
    (c.requires.records _ (subst (Has c.args.records.now) (sym c.r-item.is) held)).number.1

pub loop-r-preserved : goal.loop-r-preserved
loop-r-preserved c = raised_more c.args.records.now c.loop-r.r-index c.r-item.result c.loop-r.vector
    c.raise.new.self (omega arith) c.loop-r.invariant (rw (← c.r-item.is) c.raise.ensures.raised)
    (rw (← c.r-item.is) c.raise.ensures.others)
