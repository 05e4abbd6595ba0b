use Rattle.std.proofs.Common.{◌≡◌, ℤ, take, subst}
use Rattle.archive.specs.declared.reading.Direction.TheVariants.{Backward}
use Rattle.archive.specs.Reading.{range_of}
use Rattle.archive.specs.Store.{Asks}
use Rattle.hist_read.specs.Reads.{greatest_time}
use Rattle.historian.proofs.Values.{listed}
use Rattle.historian.proofs.reading.newest.Goals as goal

pub returns : goal.returns
returns g c =
    let a = g.A.Archive.state c.args.archive.now in
    let b = g.A.Archive.state c.range.new.self in
    let P : ℤ → Type 0 = λ from. Asks a b c.range.result
    (λ v. v.items ≡ take 1 (range_of a.content c.args.node.now from greatest_time Backward)) in
    subst P c.at.ensures (listed a
    (g.A.Archive.state c.vector.new.self) b c.in_ok-all.all c.args.node.now c.at.result
    greatest_time Backward 1 (λ v. v.items) c.range.result c.in_ok-all.ensures.asks
    c.range.ensures.asks)
