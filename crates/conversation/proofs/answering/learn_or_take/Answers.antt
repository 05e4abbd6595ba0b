use Rattle.std.proofs.Common.{ℕ, Option, Ok, inl, subst}
use Rattle.exchange.specs.Ahead.{first_records, LearnsAhead}
use Rattle.exchange.specs.Dialogs.{DialogState, party_of}
use Rattle.ua_peers.specs.Peers.{TalksOnce}
use Rattle.conversation.proofs.Asked.{talks_once_behind}
use Rattle.conversation.proofs.answering.learn_or_take.Goals as goal

pub returns-in-Ok-None-clause-answers : goal.returns-in-Ok-None-clause-answers
returns-in-Ok-None-clause-answers g c =
    let a = g.A.Archive.state c.args.server.now.replica.archive in
    let b = g.A.Archive.state c.learn_ahead.new.replica.archive in
    let new = c.take_frame.new in
    let d = g.A.Archive.state new.server.replica.archive in
    let peer = c.args.peer.now in
    let rs = first_records (party_of a) peer.dialog peer.frames.waiting in
    let learns = subst (λ (o : Option ℕ).
    LearnsAhead a b peer.dialog c.learn_ahead.new.self rs (Ok o)) c.in-Ok-None.field-0-is
    c.in-Ok-None.ensures.learns in
    let (ends, is, once) = c.take_frame.ensures.talks in
    let taken = subst (λ (s : DialogState). TalksOnce s b d peer.frames.waiting new.said.items
    new.peer.frames.waiting ends new.peer.dialog) learns.stands once in (
      ends,
      is,
      inl (talks_once_behind a b d peer.dialog _ _ _ _ ends learns.tells learns.passes taken),
    )
