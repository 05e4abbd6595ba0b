use Rattle.headline.proofs.Machines.{begun, served, met, restarted, replica_now, alike}
use Rattle.headline.proofs.laws.machines_simulate_an_execution.Goals as goal

pub returns-clause-begin : goal.returns-clause-begin
returns-clause-begin g c = begun g.A.Archive.state

pub returns-clause-serve : goal.returns-clause-serve
returns-clause-serve g c = served g.A.Archive.state

pub returns-clause-meet : goal.returns-clause-meet
returns-clause-meet g c = met g.A.Archive.state

pub returns-clause-restart : goal.returns-clause-restart
returns-clause-restart g c = restarted g.A.Archive.state

pub returns-clause-replicas : goal.returns-clause-replicas
returns-clause-replicas g c = replica_now g.A.Archive.state

pub returns-clause-alike : goal.returns-clause-alike
returns-clause-alike g c = alike g.A.Archive.state
