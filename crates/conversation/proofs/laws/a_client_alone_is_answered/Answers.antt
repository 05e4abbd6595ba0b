use Rattle.std.proofs.Common.{[], refl}
use Rattle.conversation.proofs.Alone.{from-letters}
use Rattle.conversation.proofs.laws.a_client_alone_is_answered.Goals as goal

pub returns : goal.returns
returns g c v w old new door steps is of own =
    from-letters g.R.NonBlockingRead.input g.W.NonBlockingWrite.output g.A.Archive.state
    g.C.Clock.gave g.L.Log.told
    g.met.C.Clock.gave_none
    g.met.C.Clock.gave_more v w door [] old new steps is refl of.2 of.0 of.1 own
