use Rattle.std.proofs.Common.{sym, subst}
use Rattle.multiplex.specs.Progress.{end_in}
use Rattle.conversation.specs.OtherEnds.{unless_over}
use Rattle.conversation.specs.declared.other_end.OtherEnd.TheVariants.{Peer}
use Rattle.conversation.specs.Answering.{AnswersFirst}
use Rattle.conversation.proofs.answering.answer_first.Goals as goal

pub returns-in-Peer-clause-answers : goal.returns-in-Peer-clause-answers
returns-in-Peer-clause-answers g c =
    let (made, out, meets) = c.answer_compared-progress.ensures.answers in
    let answered = AnswersFirst g.A.Archive.state g.C.Clock.gave g.L.Log.told c.args.stay
    c.args.world.now in
    let after = c.answer_compared-progress.new in (
      made,
      out,
      subst (λ other. answered other made (end_in c.leave_at_end-in-Peer.result) after.world
          c.leave_at_end-in-Peer.new.other) (sym c.in-Peer.is)
          (subst (λ next. answered (Peer c.in-Peer.peer) made
          (end_in c.leave_at_end-in-Peer.result) after.world next)
          (sym c.leave_at_end-in-Peer.ensures.left)
          (subst (λ progress. answered (Peer c.in-Peer.peer) made (end_in progress) after.world
          (unless_over (end_in c.answer_compared-progress.result) (Peer after.peer)))
          (sym c.leave_at_end-in-Peer.ensures.same) meets)),
    )
