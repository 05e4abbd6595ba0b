use Rattle.std.proofs.Common.{false, inl, inr}
use Rattle.multiplex.proofs.Stepping.{more}
use Rattle.multiplex.proofs.slot.Slot+H+R+W+H+End.visit.Goals as goal

pub returns-clause-steps : goal.returns-clause-steps
returns-clause-steps g c =
    let v = c.args.world.now in
    let w = c.advance-advanced.new.world in
    let room = c.args.room in
    let now = c.args.now in
    let wrote = c.write_next-wrote.result in
    let advanced = c.advance-advanced.result in
    let all = c.either.result in
    more g.R.NonBlockingRead.input g.W.NonBlockingWrite.output g.H.Handler.behavior 0 0 0 1 1 1
    false all all room now v v w _ _ _ (λ done. inr done)
    (c.wake_if.ensures.steps v room now)
    (more g.R.NonBlockingRead.input g.W.NonBlockingWrite.output g.H.Handler.behavior 0 0 0 1 1 1
    false all all room now v v w _ _ _ (λ done. inr done)
    (c.release.ensures.steps v room)
    (more g.R.NonBlockingRead.input g.W.NonBlockingWrite.output g.H.Handler.behavior 1 1 0 0 0 1
    advanced wrote all room now v w w _ _ _ c.either.ensures.some
    c.advance-advanced.ensures.steps
    (more g.R.NonBlockingRead.input g.W.NonBlockingWrite.output g.H.Handler.behavior 0 0 1 0 0 0
    wrote false wrote room now w w w _ _ _ (λ done. inl done)
    (c.write_next-wrote.ensures.steps w room) (c.stop_if_idle.ensures.steps w room))))

pub returns-clause-rest : goal.returns-clause-rest
returns-clause-rest g c none =
    let both = c.either.ensures.none none in
    let read = c.write_next-wrote.ensures.read c.args.room both.1
    (c.advance-advanced.ensures.rest both.0) in
    c.stop_if_idle.ensures.rest c.args.room (read, c.write_next-wrote.ensures.rest both.1)
