use Rattle.std.proofs.Common.{[]}
use Rattle.std.specs.Prelude.{⊤}
use Rattle.records.specs.Contents.{Content}
use Rattle.history_report.specs.Paging.{IsPut}
use Rattle.web_page.specs.Calls.{overview_of}
use Rattle.web_page.specs.Listing.{listed_variables}
use Rattle.web_page.specs.Front.{AreRows, IsFront}
use Rattle.settings_check.proofs.StoredLemmas.{reads-as}
use Rattle.web_page.proofs.RowLemmas.{front-put}
use Rattle.web_page.proofs.front.put_front.Goals as goal

pub returns-in-Ok-put_whole-clause-answers : goal.returns-in-Ok-put_whole-clause-answers
returns-in-Ok-put_whole-clause-answers g c =
    let state = g.A.Archive.state in
    let overview = overview_of c.args.overview in
    let space = overview.settings.space in
    let rows = c.put_table.new.out.items in
    let empty = c.new-rows.result.items in
    reads-as (state c.args.archive.now) (state c.put_table.new.archive) []
    (λ (R : Content). IsPut empty rows (AreRows space overview.now R (listed_variables space)))
    (λ (R : Content). IsPut c.args.out.now.items c.put_whole.new.out.items (IsFront overview R))
    (λ R p. front-put overview R empty rows c.as_slice.result.now c.args.out.now.items
    c.put_whole.new.out.items c.new-rows.ensures.items c.as_slice.ensures.value p
    c.in-Ok-put_whole.ensures.put) c.in-Ok.ensures.answers

pub returns-clause-answers : goal.returns-clause-answers
returns-clause-answers g c =
    let state = g.A.Archive.state in
    let overview = overview_of c.args.overview in
    let space = overview.settings.space in
    let empty = c.new-rows.result.items in
    reads-as (state c.args.archive.now) (state c.put_table.new.archive) []
    (λ (R : Content). IsPut empty c.put_table.new.out.items
    (AreRows space overview.now R (listed_variables space)))
    (λ R. ⊤) (λ R p. tt) c.in-Ok.ensures.answers
