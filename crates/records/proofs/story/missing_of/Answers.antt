use Rattle.std.proofs.Common.{rules, take, ap, ◌∙◌}
use Rattle.stamp.specs.Numbers.{number_of}
use Rattle.std.proofs.lemmas.List.Sorted.{answers_always}
use Rattle.records.specs.Records.{name_cmp, is_beyond}
use Rattle.records.proofs.Orders.{name_total}
use Rattle.records.proofs.Sorting.{sorted_is, pairwise-filter}
use Rattle.records.proofs.story.missing_of.Goals as goal

pub returns : goal.returns
returns c =
    let sorted = c.in_ok-sort_by_key.ensures.sorted (λ r. (r.origin, r.number))
    (answers_always _ _ _ (λ a r q k. search rules)) in
    c.of.ensures ∙ (c.truncate.ensures.items
    ∙ ap (take c.args.limit) (sorted_is name_cmp name_total _ _
    (pairwise-filter _ (is_beyond (number_of c.args.vector.now)) _ c.requires)
    (rw c.in_ok-found.ensures at c.sort_by_key.ensures.permutation) sorted))
