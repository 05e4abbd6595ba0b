use Rattle.std.proofs.Common.{◌≡◌, ◌++◌, map}
use Rattle.std.specs.Vec.Iter.{into_iter_items}
use Rattle.hist_read.specs.Showing.{shown_entry, info}
use Rattle.hist_read.proofs.showing.show_entries.Given as goal

-- what is shown so far, and the modifications that are left
abbrev pub invariant-loop-entry : goal.invariant-loop-entry
invariant-loop-entry l = record {
  values : l.values.items ++ map (shown_entry l.fn.stamps) (into_iter_items l.entry-iterator)
      ≡ map (shown_entry l.fn.stamps) l.fn.entries.items;
  infos : l.infos.items ++ map info (into_iter_items l.entry-iterator)
      ≡ map info l.fn.entries.items;
}
