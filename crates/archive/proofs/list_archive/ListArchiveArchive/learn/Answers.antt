use Rattle.std.proofs.Common.{rules, ◌≡◌, ◌∙◌, sym, subst, Err}
use Rattle.records.specs.Contents.{Content, finding}
use Rattle.archive.specs.Store.{IsLawfulContent, answer_to}
use Rattle.archive.proofs.Listing.{answered}
use Rattle.archive.proofs.Results.{err-ok}
use Rattle.archive.proofs.list_archive.ListArchiveArchive.learn.Goals as goal

pub returns-in_err-judge-clause-learns : goal.returns-in_err-judge-clause-learns
returns-in_err-judge-clause-learns c =
    let lawful = subst IsLawfulContent c.held.ensures.same c.held.ensures.lawful in
    let judged = subst (λ (l : Content). c.judge.result
    ≡ answer_to (finding l c.args.candidate.now)) c.held.ensures.same c.judge.ensures in
    let told : c.from_residual.result ≡ Err c.in_err-judge.field-0.0 = search rules in
    answered c.args.self.now c.args.candidate.now c.from_residual.result lawful
    (told ∙ (sym c.in_err-judge.was ∙ judged)) (err-ok _ _ _ told)
