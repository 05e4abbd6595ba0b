use Rattle.std.proofs.Common.{◌≡◌, [], subst}
use Rattle.std.specs.Prelude.{⊤}
use Rattle.records.specs.Contents.{Content}
use Rattle.history_report.specs.Paging.{IsPut}
use Rattle.settings_check.specs.declared.asking.Ends.{Ends}
use Rattle.settings_check.specs.Stored.{IsVectorOf, ends_of, TellsVariable}
use Rattle.settings_check.proofs.StoredLemmas.{reads-as}
use Rattle.settings_check.proofs.storing.tell_variable.Goals as goal

pub returns-in-Err-clause-answers : goal.returns-in-Err-clause-answers
returns-in-Err-clause-answers g c = (λ e. absurd cc, c.in-Err.ensures.answers)

pub returns-in-Ok-put_variable-clause-answers : goal.returns-in-Ok-put_variable-clause-answers
returns-in-Ok-put_variable-clause-answers g c =
    let state = g.A.Archive.state in
    let old = c.args.out.now.items in
    let new = c.put_variable.new.out.items in
    let node = c.args.node.now in
    reads-as (state c.args.archive.now) (state c.ends_of.new.archive) []
    (λ (R : Content). IsVectorOf c.args.within.now R
    → c.in-Ok.ends ≡ ends_of c.args.space.now R node)
    (λ (R : Content). IsVectorOf c.args.within.now R
    → IsPut old new (TellsVariable node (ends_of c.args.space.now R node)))
    (λ R p same. subst (λ (e : Ends). IsPut old new (TellsVariable node e)) (p same)
    c.in-Ok-put_variable.ensures) c.in-Ok.ensures.answers

pub returns-in-Err-put_variable-clause-answers : goal.returns-in-Err-put_variable-clause-answers
returns-in-Err-put_variable-clause-answers g c =
    let state = g.A.Archive.state in (
      λ e. absurd cc,
      reads-as (state c.args.archive.now) (state c.ends_of.new.archive) []
          (λ (R : Content). IsVectorOf c.args.within.now R
          → c.in-Ok.ends ≡ ends_of c.args.space.now R c.args.node.now)
          (λ R. ⊤) (λ R p. tt) c.in-Ok.ensures.answers,
    )
