use Rattle.headline.proofs.Steps.{plant_begun, client_served, peer_served, peer_learned, peer_refused, peer_called, one_restarted, all_stepped}
use Rattle.headline.proofs.plants.plants_simulate_an_execution.Goals as goal

pub returns-clause-begin : goal.returns-clause-begin
returns-clause-begin g c = plant_begun g.A.Archive.state

pub returns-clause-client : goal.returns-clause-client
returns-clause-client g c = client_served g.A.Archive.state

pub returns-clause-peer : goal.returns-clause-peer
returns-clause-peer g c = peer_served g.A.Archive.state

pub returns-clause-learning : goal.returns-clause-learning
returns-clause-learning g c = peer_learned g.A.Archive.state

pub returns-clause-refusal : goal.returns-clause-refusal
returns-clause-refusal g c = peer_refused g.A.Archive.state

pub returns-clause-call : goal.returns-clause-call
returns-clause-call g c = peer_called g.A.Archive.state

pub returns-clause-restart : goal.returns-clause-restart
returns-clause-restart g c = one_restarted g.A.Archive.state

pub returns-clause-steps : goal.returns-clause-steps
returns-clause-steps g c = all_stepped g.A.Archive.state
