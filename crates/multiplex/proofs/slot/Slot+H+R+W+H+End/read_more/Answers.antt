use Rattle.std.proofs.Common.{refl, take, subst, sym}
use Rattle.std.proofs.KnownBytes.{Keeps-refl}
use Rattle.multiplex.specs.Slots.{Slot}
use Rattle.multiplex.specs.declared.handler.SlotEnd.TheVariants.{EndOfInput, ReadFailed}
use Rattle.multiplex.proofs.Stepping.{some_taken, received, found_empty, stopped}
use Rattle.multiplex.proofs.slot.Slot+H+R+W+H+End.read_more.Goals as goal

pub returns-in-Read-clause-steps : goal.returns-in-Read-clause-steps
returns-in-Read-clause-steps g c v room =
    let did = rw c.in-Read.is at c.try_read.ensures in
    let taken = c.receive-end.ensures in
    received g.R.NonBlockingRead.input g.W.NonBlockingWrite.output g.H.Handler.behavior room
    c.args.now v _ _
    c.receive-end.new.self c.try_read.new.self (take c.in-Read.n c.try_read.new.piece) taken.0
    c.receive-end.result
    c.finished-self-inside.result c.self.inside.sent c.self.inside.out.items
    c.receive-end.new.out.items
    (some_taken c.in-Read.n _ did.0 did.1) c.self.view_is c.requires.responsive c.requires.lacks
    did.2 taken.2
    c.finished-self-inside.ensures refl
    c.self.invariant taken.1

pub returns-in-EndOfInput-clause-steps : goal.returns-in-EndOfInput-clause-steps
returns-in-EndOfInput-clause-steps g c v room =
    let did = rw c.in-EndOfInput.is at c.try_read.ensures in
    stopped g.R.NonBlockingRead.input g.W.NonBlockingWrite.output g.H.Handler.behavior 0 1 0 room
    c.args.now v _ _
    c.try_read.new.self c.self.inside.writer EndOfInput c.self.view_is did.0 (Keeps-refl _) tt (
      did.1,
      subst (λ (s : Slot _ _ _ _). g.H.Handler.behavior.needs_more s.handler) (sym c.self.view_is)
          c.requires.lacks,
    )

pub returns-in-WouldBlock-clause-steps : goal.returns-in-WouldBlock-clause-steps
returns-in-WouldBlock-clause-steps g c v room =
    let did = rw c.in-WouldBlock.is at c.try_read.ensures in
    found_empty g.R.NonBlockingRead.input g.W.NonBlockingWrite.output g.H.Handler.behavior 0 1 0
    room
    c.args.now v _ _
    c.try_read.new.self c.self.view_is did.0 did.1

pub returns-in-Failed-clause-steps : goal.returns-in-Failed-clause-steps
returns-in-Failed-clause-steps g c v room =
    let did = rw c.in-Failed.is at c.try_read.ensures in
    stopped g.R.NonBlockingRead.input g.W.NonBlockingWrite.output g.H.Handler.behavior 0 1 0 room
    c.args.now v _ _
    c.try_read.new.self c.self.inside.writer ReadFailed c.self.view_is did.0 (Keeps-refl _)
    tt did.1
