use Rattle.std.proofs.Common.{length, take, drop, ◌+◌, ◌-◌, ap, ◌∙◌}
use Rattle.std.proofs.KnownBytes.{Keeps-refl}
use Rattle.multiplex.specs.declared.handler.SlotEnd.TheVariants.{WriteFailed}
use Rattle.multiplex.proofs.Stepping.{some_taken, wrote, found_full, stopped, first_of}
use Rattle.multiplex.proofs.slot.Slot+H+R+W+H+End.write_some.Goals as goal

pub returns-in-Written-clause-steps : goal.returns-in-Written-clause-steps
returns-in-Written-clause-steps g c v room =
    let did = rw (c.in-Written.is, c.deref.ensures.value) at c.try_write.ensures in
    let i = c.self.inside in
    wrote g.R.NonBlockingRead.input g.W.NonBlockingWrite.output g.H.Handler.behavior room c.args.now
    v _ _
    c.try_write.new.self (take c.in-Written.n (take (length i.out.items - i.sent)
    (drop i.sent i.out.items)))
    (drop (i.sent + c.in-Written.n) i.out.items) (some_taken c.in-Written.n _ did.0 did.1)
    c.self.view_is (ap (λ s. s.held) c.self.view_is ∙ c.requires.free)
    (first_of i.sent c.in-Written.n i.out.items) did.2

pub returns-in-WouldBlock-clause-steps : goal.returns-in-WouldBlock-clause-steps
returns-in-WouldBlock-clause-steps g c v room =
    let did = rw c.in-WouldBlock.is at c.try_write.ensures in
    found_full g.R.NonBlockingRead.input g.W.NonBlockingWrite.output g.H.Handler.behavior 0 0 1 room
    c.args.now v _ _
    c.try_write.new.self c.self.view_is did.0 did.1

pub returns-in-Failed-clause-steps : goal.returns-in-Failed-clause-steps
returns-in-Failed-clause-steps g c v room =
    let did = rw c.in-Failed.is at c.try_write.ensures in
    stopped g.R.NonBlockingRead.input g.W.NonBlockingWrite.output g.H.Handler.behavior 0 0 1 room
    c.args.now v _ _
    c.self.inside.reader c.try_write.new.self WriteFailed c.self.view_is (Keeps-refl _) did.0
    tt did.1
