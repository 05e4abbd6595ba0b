use Rattle.headline.proofs.Conversations.{client_turns, peer_turns, learning_turns, refusal_turns, comparing_turns, call_turns}
use Rattle.headline.proofs.plants.conversations_take_turns.Goals as goal

pub returns-clause-client : goal.returns-clause-client
returns-clause-client g c = client_turns g.A.Archive.state g.C.Clock.gave g.L.Log.told

pub returns-clause-peer : goal.returns-clause-peer
returns-clause-peer g c = peer_turns g.A.Archive.state g.C.Clock.gave

pub returns-clause-learning : goal.returns-clause-learning
returns-clause-learning g c = learning_turns g.A.Archive.state g.C.Clock.gave

pub returns-clause-refusal : goal.returns-clause-refusal
returns-clause-refusal g c = refusal_turns g.A.Archive.state g.C.Clock.gave

pub returns-clause-comparing : goal.returns-clause-comparing
returns-clause-comparing g c = comparing_turns g.A.Archive.state g.L.Log.told

pub returns-clause-call : goal.returns-clause-call
returns-clause-call g c =
    call_turns g.A.Archive.state g.C.Clock.gave g.L.Log.told
