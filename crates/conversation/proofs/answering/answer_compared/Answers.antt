use Rattle.std.proofs.Common.{inl, sym}
use Rattle.conversation.proofs.Compared.{finds-none}
use Rattle.conversation.proofs.answering.answer_compared.Goals as goal

pub returns-in-None-clause-answers : goal.returns-in-None-clause-answers
returns-in-None-clause-answers g c =
    let (found, compares, logs, told) = c.in-None.ensures.judges in
    let (made, out, meets) = c.answer_peer.ensures.answers in (
      made,
      out,
      inl (
        c.judge_call.new.world,
        finds-none g.A.Archive.state g.L.Log.told c.args.stay.party c.args.peer.now
            c.args.world.now c.judge_call.new.world found compares logs (sym told)
            c.in-None.ensures.same,
        meets,
      ),
    )
