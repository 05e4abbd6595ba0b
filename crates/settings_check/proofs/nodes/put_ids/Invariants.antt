use Rattle.std.proofs.Common.{◌≡◌, ◌++◌, map}
use Rattle.std.specs.Vec.Iter.{into_iter_items}
use Rattle.settings_check.proofs.nodes.put_ids.Given as goal

abbrev pub invariant-loop-reference : goal.invariant-loop-reference
invariant-loop-reference l = record {
  moves : l.out.items ++ map (λ r. r.node_id) (into_iter_items l.reference-iterator)
      ≡ l.initial.out.items ++ map (λ r. r.node_id) l.fn.references;
}
