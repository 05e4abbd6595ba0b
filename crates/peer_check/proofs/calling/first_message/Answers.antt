use Rattle.peer_check.proofs.Hearing.{says-first}
use Rattle.peer_check.proofs.calling.first_message.Goals as goal

pub returns-in-Ok-Some-clause-first : goal.returns-in-Ok-Some-clause-first
returns-in-Ok-Some-clause-first c =
    let gives = rw c.in-Ok-Some.field-0-is at c.in-Ok-Some.ensures.value in
    says-first c.args.party.now c.args.frames.now c.next_frame.follows.lender-at-none
    c.in-Ok-Some.frame c.read_message.result c.requires gives
    c.next_frame.follows.holds-at-none c.read_message.ensures.gives
