use Rattle.std.proofs.Common.{◌≡◌, length}
use Rattle.history_text.specs.Arrays.{all_said}
use Rattle.history_text.proofs.ItemsLemmas.{with_front}
use Rattle.history_text.proofs.arrays.items_in.Given as goal

abbrev pub invariant-loop-item : goal.invariant-loop-item
invariant-loop-item g l = with_front l.items.items (all_said g.T.Item.said l.reader)
    ≡ all_said g.T.Item.said l.initial.reader

abbrev pub decreases-loop-item : goal.decreases-loop-item
decreases-loop-item g l = length l.reader
