use Rattle.std.proofs.Common.{◌≡◌, take, subst, arith}
use Rattle.std.specs.List.{All}
use Rattle.std.proofs.lemmas.Grind.{common_steps}
use Rattle.std.proofs.lemmas.List.{take_all}
use Rattle.std.proofs.lemmas.List.Elements.{All-more}
use Rattle.ua_services.specs.History.{history_fields, history_read_result}
use Rattle.ua_services.proofs.Fits.{few_fit, history_fits}
use Rattle.ua_services.proofs.history.put_history_results_parts.Goals as goal

pub returns-clause-spelled : goal.returns-clause-spelled
returns-clause-spelled c =
    let all : take c.loop-v.v-index c.args.results.now ≡ c.args.results.now =
    take_all _ _ c.loop-v-test.false in
    few_fit history_fields history_read_result c.args.results.now c.requires.0
    (subst (λ rs. All (λ r. history_read_result.Fits (history_fields r)) rs) all
    c.loop-v.invariant.spelled)

pub loop-v-preserved : goal.loop-v-preserved
loop-v-preserved c = record {
  puts = grind (arith, common_steps);
  spelled = All-more (λ r. history_read_result.Fits (history_fields r)) c.args.results.now
      c.loop-v.v-index c.v-item.result c.loop-v-test.true c.loop-v.invariant.spelled
      (subst (λ r. history_read_result.Fits (history_fields r)) c.v-item.is
      (history_fits _ (c.in_ok-put_history_read_result.ensures.spelled)));
}
