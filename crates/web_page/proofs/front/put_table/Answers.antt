use Rattle.std.proofs.Common.{ℕ, List}
use Rattle.records.specs.Contents.{Content}
use Rattle.settings_check.specs.Stored.{IsVectorOf}
use Rattle.settings_check.proofs.StoredLemmas.{reads-answer, reads-fault}
use Rattle.web_page.proofs.RowLemmas.{rows-told}
use Rattle.web_page.proofs.front.put_table.Goals as goal

pub returns-in-Err-clause-answers : goal.returns-in-Err-clause-answers
returns-in-Err-clause-answers g c =
    let state = g.A.Archive.state in
    reads-fault (state c.args.archive.now) (state c.vector.new.self) c.in-Err.fault _
    c.in-Err.ensures.asks

pub returns-clause-answers : goal.returns-clause-answers
returns-clause-answers g c =
    let state = g.A.Archive.state in
    let within = c.in-Ok.within in
    rows-told c.put_listed.result (state c.args.archive.now) (state c.vector.new.self)
    (state c.put_listed.new.archive) c.args.overview.settings.now.space c.args.overview.now within
    c.args.out.now.items
    c.put_listed.new.out.items
    (reads-answer (state c.args.archive.now) (state c.vector.new.self)
    (λ (R : Content) (v : List ℕ). IsVectorOf v R) within c.in-Ok.ensures.asks)
    c.put_listed.ensures.answers
