use Rattle.std.proofs.Common.{◌≢◌, List, [], subst, ◌∙◌}
use Rattle.std.specs.Prelude.{⊤, Err, MatchResult}
use Rattle.ua_binary.specs.declared.values.NodeId.{NodeId}
use Rattle.history_report.specs.Paging.{IsPut}
use Rattle.settings_check.specs.declared.fault.CheckFault.TheVariants as fault
use Rattle.settings_check.specs.Stored.{IsVectorOf, TellsVariables, Reads, check_faults}
use Rattle.settings_check.proofs.StoredLemmas.{reads-none}
use Rattle.settings_check.proofs.storing.tell_variables.Goals as goal

pub returns-in-Err-clause-answers : goal.returns-in-Err-clause-answers
returns-in-Err-clause-answers g c =
    (λ e. absurd cc, reads-none (g.A.Archive.state c.args.archive.now) _ (λ R. tt))

pub returns-clause-answers : goal.returns-clause-answers
returns-clause-answers g c =
    let state = g.A.Archive.state in
    subst (λ (nodes : List NodeId). MatchResult c.tell_each.result
    (λ done. Reads (state c.args.archive.now) (state c.tell_each.new.archive) []
    (λ R. IsVectorOf c.args.within.now R → IsPut c.args.out.now.items c.tell_each.new.out.items
    (TellsVariables c.args.space.now R nodes)))
    (λ why. (why ≢ fault.Write) × Reads (state c.args.archive.now)
    (state c.tell_each.new.archive) (check_faults (Err why)) (λ R. ⊤)))
    (c.as_slice.ensures.value ∙ c.in-Ok.ensures) c.tell_each.ensures.answers
