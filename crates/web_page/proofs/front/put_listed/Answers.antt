use Rattle.std.proofs.Common.{List, [], ap, subst, ◌∙◌}
use Rattle.std.specs.Prelude.{⊤, MatchResult}
use Rattle.history_report.specs.Paging.{IsPut}
use Rattle.settings_check.specs.Stored.{IsVectorOf, Reads}
use Rattle.web_page.specs.declared.listing.Listed.{Listed}
use Rattle.web_page.specs.Listing.{listed_variables}
use Rattle.web_page.specs.Front.{AreRows, page_faults}
use Rattle.settings_check.proofs.StoredLemmas.{reads-none}
use Rattle.web_page.proofs.front.put_listed.Goals as goal

pub returns-in-Err-clause-answers : goal.returns-in-Err-clause-answers
returns-in-Err-clause-answers g c = reads-none (g.A.Archive.state c.args.archive.now) _ (λ R. tt)

pub returns-clause-answers : goal.returns-clause-answers
returns-clause-answers g c =
    let state = g.A.Archive.state in
    subst (λ (listed : List Listed). MatchResult c.put_rows.result
    (λ done. Reads (state c.args.archive.now) (state c.put_rows.new.archive) []
    (λ R. IsVectorOf c.args.within.now R → IsPut c.args.out.now.items c.put_rows.new.out.items
    (AreRows c.args.overview.settings.now.space c.args.overview.now R listed)))
    (λ why. Reads (state c.args.archive.now) (state c.put_rows.new.archive) (page_faults why)
    (λ R. ⊤)))
    (c.as_slice.ensures.value ∙ c.in-Ok.ensures ∙ ap listed_variables c.space.ensures)
    c.put_rows.ensures.answers
