use Rattle.std.proofs.Common.{List, map, ap}
use Rattle.ua_binary.specs.declared.codes.Status.{Status}
use Rattle.ua_binary.specs.declared.codes.TheConstants.Status.{GOOD}
use Rattle.ua_services.specs.declared.updates.HistoryUpdateResult.{HistoryUpdateResult}
use Rattle.hist_update.specs.Outcome.{Write}
use Rattle.hist_update.proofs.UpdatesParts.{all_good}
use Rattle.hist_update.proofs.Answering.{begins-starved, begins-run}
use Rattle.hist_update.proofs.update.write_all.Goals as goal

pub returns-in_default-clause-begins : goal.returns-in_default-clause-begins
returns-in_default-clause-begins g c =
    begins-starved (g.A.Archive.state c.args.archive.now) c.args.request.now all_good
    (map (Write c.args.asked c.args.value_type) c.args.values.now) c.refused.result
    c.refused.ensures

pub returns-clause-begins : goal.returns-clause-begins
returns-clause-begins g c =
    begins-run (g.A.Archive.state c.args.archive.now)
    (g.A.Archive.state c.write_each.new.archive) c.args.request.now all_good
    (map (Write c.args.asked c.args.value_type) c.args.values.now) c.write_each.new.codes.items
    (record { status = GOOD; operation_results = c.of.result }) c.write_each.ensures
    (ap (λ (l : List Status). let r : HistoryUpdateResult =
    record { status = GOOD; operation_results = l } in r) c.of.ensures)
