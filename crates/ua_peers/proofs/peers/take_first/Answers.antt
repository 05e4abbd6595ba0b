use Rattle.ua_peers.proofs.Talking.{first-none, leaves-none, first-some, leaves-some, first-malformed}
use Rattle.ua_peers.proofs.peers.take_first.Goals as goal

pub returns-in-Ok-None-clause-talks : goal.returns-in-Ok-None-clause-talks
returns-in-Ok-None-clause-talks g c =
    let gives = rw c.in-Ok-None.field-0-is at c.in-Ok-None.ensures.value in
    first-none (g.A.Archive.state c.args.replica.now.archive) c.args.dialog.now c.args.frames.now
    c.next_frame.follows.lender-at-none c.args.out.now.items c.requires.sound gives
    c.next_frame.follows.holds-at-none c.requires.empty

pub returns-in-Ok-None-clause-leaves : goal.returns-in-Ok-None-clause-leaves
returns-in-Ok-None-clause-leaves g c =
    let gives = rw c.in-Ok-None.field-0-is at c.in-Ok-None.ensures.value in
    leaves-none c.args.dialog.now c.args.frames.now c.next_frame.follows.lender-at-none
    c.requires.sound gives c.next_frame.follows.holds-at-none

pub returns-in-Ok-Some-clause-talks : goal.returns-in-Ok-Some-clause-talks
returns-in-Ok-Some-clause-talks g c =
    let gives = rw c.in-Ok-Some.field-0-is at c.in-Ok-Some.ensures.value in
    first-some (g.A.Archive.state c.args.replica.now.archive)
    (g.A.Archive.state c.take.new.replica.archive) c.args.dialog.now c.take.new.self
    c.args.frames.now c.next_frame.follows.lender-at-none c.in-Ok-Some.frame
    c.args.out.now.items c.take.new.out.items c.take.result
    c.requires.sound gives c.next_frame.follows.holds-at-none c.requires.empty c.take.ensures.takes

pub returns-in-Ok-Some-clause-leaves : goal.returns-in-Ok-Some-clause-leaves
returns-in-Ok-Some-clause-leaves g c =
    let gives = rw c.in-Ok-Some.field-0-is at c.in-Ok-Some.ensures.value in
    leaves-some (g.A.Archive.state c.args.replica.now.archive)
    (g.A.Archive.state c.take.new.replica.archive) c.args.dialog.now c.take.new.self
    c.args.frames.now c.next_frame.follows.lender-at-none c.in-Ok-Some.frame
    c.args.out.now.items c.take.new.out.items c.take.result
    c.requires.sound gives c.next_frame.follows.holds-at-none c.take.ensures.takes

pub returns-in-Err-clause-talks : goal.returns-in-Err-clause-talks
returns-in-Err-clause-talks g c =
    first-malformed (g.A.Archive.state c.args.replica.now.archive) c.args.dialog.now
    c.args.frames.now
    c.next_frame.follows.lender-at-none _ c.refuse_bytes.result c.refuse_bytes.new.out.items
    c.requires.sound c.in-Err.ensures.value c.next_frame.follows.holds-at-none
    c.refuse_bytes.ensures
