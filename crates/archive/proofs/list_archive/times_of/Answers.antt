use Rattle.std.proofs.Common.{◌≡◌, arith, filter, map}
use Rattle.std.proofs.lemmas.List.{take_all}
use Rattle.records.specs.declared.record.Record.{Record}
use Rattle.archive.specs.Reading.{is_of}
use Rattle.archive.proofs.SetLemmas.{times_set}
use Rattle.archive.proofs.list_archive.times_of.Goals as goal

pub returns : goal.returns
returns c =
    let all = take_all c.loop-r.r-index c.args.records.now (omega arith) in
    let found : c.loop-r.found.items
    ≡ map (λ (r : Record). r.time) (filter (is_of c.args.node.now) c.args.records.now) =
    rw (← all) c.loop-r.invariant in
    record {
      value = times_set _ _ _
          (rw found at c.in_ok-sort.ensures.permutation) c.in_ok-sort.ensures.sorted
          c.dedup.ensures.filtered;
      memory = tt;
    }
