use Rattle.std.proofs.Common.{rules}
use Rattle.std.proofs.lemmas.List.Sorted.{answers_always}
use Rattle.records.specs.Records.{record_stamp_cmp, is_at}
use Rattle.records.proofs.Orders.{stamp_total}
use Rattle.records.proofs.Sorting.{sorted_is, pairwise-filter}
use Rattle.records.proofs.story.sorted_at.Goals as goal

pub returns : goal.returns
returns c =
    let sorted = c.in_ok-sort_by_key.ensures.sorted (λ r. (r.tick, r.origin))
    (answers_always _ _ _ (λ a r q k. search rules)) in
    sorted_is record_stamp_cmp stamp_total _ _ (pairwise-filter _
    (is_at c.args.node.now c.args.time) _ c.requires)
    (rw c.in_ok-found.ensures at c.sort_by_key.ensures.permutation) sorted
