use Rattle.std.proofs.Common.{refl}
use Rattle.conversation.proofs.ClientsDoor.{bytes-at-door, answer-at-door}
use Rattle.conversation.proofs.laws.a_clients_door_takes_no_peer.Goals as goal

pub returns-clause-begins : goal.returns-clause-begins
returns-clause-begins g c = refl

pub returns-clause-receives : goal.returns-clause-receives
returns-clause-receives g c = bytes-at-door

pub returns-clause-answers : goal.returns-clause-answers
returns-clause-answers g c = answer-at-door g.A.Archive.state g.C.Clock.gave g.L.Log.told
