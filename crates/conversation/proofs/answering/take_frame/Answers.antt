use Rattle.std.proofs.Common.{◌≡◌, ◌∙◌, Ok, None, ap, sym, subst}
use Rattle.std.specs.Prelude.{Option, Result}
use Rattle.exchange.specs.declared.fault.ExchangeFault.{ExchangeFault}
use Rattle.exchange.specs.declared.message.State.{State}
use Rattle.exchange.specs.Frames.{frame_header, ReceivedFrames}
use Rattle.ua_peers.specs.Peers.{is_silent, TalksOnce}
use Rattle.ua_peers.specs.Talking.{ending_of, LeavesOne}
use Rattle.conversation.specs.declared.other_end.PeerDialog.{PeerDialog}
use Rattle.conversation.proofs.Framing.{nothing_said}
use Rattle.conversation.proofs.answering.take_frame.Goals as goal
use Rattle.conversation.proofs.answering.take_frame.Goals.{then-is_some, else-is_some}

pub returns-clause-lacks : goal.returns-clause-lacks
returns-clause-lacks g c lacks =
    let peer = c.args.peer.now in
    let new = c.take_first-first.new in
    let a = g.A.Archive.state c.args.server.now.replica.archive in
    let b = g.A.Archive.state new.replica.archive in
    let none = c.peer_progress.ensures.lacks lacks in
    let leaves = subst (λ (o : Option (Result State ExchangeFault)).
    LeavesOne peer.frames new.frames peer.dialog new.dialog o) none
    c.take_first-first.ensures.leaves in
    let talks = subst (λ (o : Option (Result State ExchangeFault)).
    TalksOnce peer.dialog a b peer.frames.waiting new.out.items new.frames.waiting
    (ending_of new.dialog.code (is_silent new.out.items) o) new.dialog) none
    c.take_first-first.ensures.talks in
    let short = ap (λ (f : ReceivedFrames). frame_header f.waiting) leaves.1 ∙ leaves.0 in (
      nothing_said a b peer.dialog new.dialog peer.frames.waiting new.out.items new.frames.waiting
          talks.talks leaves.0,
      elim c.if-is_some.branch [
        | then-is_some w ↦ subst (λ (p : PeerDialog). frame_header p.frames.waiting ≡ Ok None)
            (sym w.peer-is) short
        | else-is_some w ↦ subst (λ (p : PeerDialog). frame_header p.frames.waiting ≡ Ok None)
            (sym w.peer-is) short
      ],
    )
