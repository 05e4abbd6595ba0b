use Rattle.std.proofs.Common.{ℕ, List, []}
use Rattle.std.specs.Prelude.{⊤}
use Rattle.records.specs.Contents.{Content}
use Rattle.archive.specs.Store.{IsLawfulContent}
use Rattle.settings_check.specs.Stored.{IsVectorOf}
use Rattle.settings_check.proofs.StoredLemmas.{reads-answer, reads-fault, reads-as, store-told}
use Rattle.settings_check.proofs.storing.tell_store.Goals as goal

pub returns-in-Err-clause-answers : goal.returns-in-Err-clause-answers
returns-in-Err-clause-answers g c =
    let state = g.A.Archive.state in (
      λ e. absurd cc,
      reads-fault (state c.args.archive.now) (state c.vector.new.self) c.in-Err.fault _
          c.in-Err.ensures.asks,
    )

pub returns-in-Err-put_records-clause-answers : goal.returns-in-Err-put_records-clause-answers
returns-in-Err-put_records-clause-answers g c =
    let state = g.A.Archive.state in
    let within = c.in-Ok.within in (
      λ e. absurd cc,
      reads-as (state c.args.archive.now) (state c.vector.new.self) []
          (λ (R : Content). IsLawfulContent R × IsVectorOf within R) (λ R. ⊤) (λ R p. tt)
          (reads-answer (state c.args.archive.now) (state c.vector.new.self)
          (λ (R : Content) (v : List ℕ). IsVectorOf v R) within c.in-Ok.ensures.asks),
    )

pub returns-clause-answers : goal.returns-clause-answers
returns-clause-answers g c =
    let state = g.A.Archive.state in
    let within = c.in-Ok.within in
    store-told c.tell_variables.result (state c.args.archive.now) (state c.vector.new.self)
    (state c.tell_variables.new.archive) c.args.space.now within c.args.out.now.items
    c.put_records.new.out.items c.tell_variables.new.out.items
    (reads-answer (state c.args.archive.now) (state c.vector.new.self)
    (λ (R : Content) (v : List ℕ). IsVectorOf v R) within c.in-Ok.ensures.asks) c.in-Ok-put_records.ensures
    c.tell_variables.ensures.answers
