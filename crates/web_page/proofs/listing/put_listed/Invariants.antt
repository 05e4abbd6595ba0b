use Rattle.std.proofs.Common.{◌≡◌, ◌++◌, map}
use Rattle.std.specs.Vec.Iter.{into_iter_items}
use Rattle.web_page.specs.Listing.{told_in}
use Rattle.web_page.proofs.listing.put_listed.Given as goal

abbrev pub invariant-loop-reference : goal.invariant-loop-reference
invariant-loop-reference l = record {
  moves : l.out.items ++ map (told_in l.folder) (into_iter_items l.reference-iterator)
      ≡ l.initial.out.items ++ map (told_in l.folder) l.fn.references;
}
