use Rattle.std.proofs.Common.{List, ap, ◌∙◌}
use Rattle.std.specs.Prelude.{is_some, slice_get}
use Rattle.records.specs.declared.shown.Held.{Held}
use Rattle.hist_update.proofs.Surveys.{some_copied, asked_live}
use Rattle.hist_update.proofs.operate.is_live.Goals as goal

pub returns-clause-asks : goal.returns-clause-asks
returns-clause-asks g c =
    asked_live (g.A.Archive.state c.args.archive.now) (g.A.Archive.state c.range.new.self)
    c.args.node.now c.args.time _ (λ v. v.items) c.in_ok-found.found c.is_some.result
    c.in_ok-found.ensures.asks
    (c.is_some.ensures ∙ (some_copied c.first.result ∙ (ap is_some c.first.ensures.value
    ∙ ap (λ (xs : List Held). is_some (slice_get xs 0)) c.deref.ensures.value)))
