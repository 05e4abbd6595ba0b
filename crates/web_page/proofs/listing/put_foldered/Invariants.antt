use Rattle.std.proofs.Common.{◌≡◌, ◌++◌}
use Rattle.web_page.specs.Listing.{listed_in_folders}
use Rattle.web_page.proofs.ListingLemmas.{in_folders}
use Rattle.web_page.proofs.listing.put_foldered.Given as goal

abbrev pub invariant-loop-folder : goal.invariant-loop-folder
invariant-loop-folder l = record {
  appends : l.out.items ++ in_folders l.space l.folder-index
      ≡ l.initial.out.items ++ listed_in_folders l.space;
}
