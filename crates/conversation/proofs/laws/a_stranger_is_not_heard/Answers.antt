use Rattle.std.proofs.Common.{◌≡◌, ◌∙◌, refl, subst}
use Rattle.conversation.specs.declared.other_end.OtherEnd.{OtherEnd}
use Rattle.conversation.specs.declared.other_end.OtherEnd.TheVariants.{Stranger}
use Rattle.conversation.specs.Answering.{AnswersFirst, IsIncomplete}
use Rattle.conversation.proofs.laws.a_stranger_is_not_heard.Goals as goal

pub returns-clause-turned_away : goal.returns-clause-turned_away
returns-clause-turned_away g c stay origin u v w first next made ending stranger begins answers =
    let known : first ≡ Stranger = begins.0 ∙ (rw stranger refl) in
    let so = subst (λ (other : OtherEnd).
    AnswersFirst g.A.Archive.state g.C.Clock.gave g.L.Log.told stay v other made ending w next) known answers in
    record { silent = so.0; ended = so.1; same = so.2; over = so.3 }

pub returns-clause-unread : goal.returns-clause-unread
returns-clause-unread g c origin u v first stranger begins lacks =
    let known : first ≡ Stranger = begins.0 ∙ (rw stranger refl) in subst IsIncomplete known lacks
