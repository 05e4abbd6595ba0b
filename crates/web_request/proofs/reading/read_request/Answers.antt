use Rattle.web_request.proofs.Firsts.{first_is}
use Rattle.web_request.proofs.reading.read_request.Goals as goal

pub returns-clause-found : goal.returns-clause-found
returns-clause-found c = first_is c.args.came.now c.request_in.result c.request_in.ensures.reads
