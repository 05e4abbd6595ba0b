use Rattle.std.proofs.Common.{◌≡◌, take, subst, arith}
use Rattle.std.specs.List.{All}
use Rattle.std.proofs.lemmas.Grind.{common_steps}
use Rattle.std.proofs.lemmas.List.{take_all}
use Rattle.std.proofs.lemmas.List.Elements.{All-more, recursion_from_All}
use Rattle.ua_variant.specs.DataValue.{data_value}
use Rattle.ua_services.proofs.Fits.{data_fits}
use Rattle.ua_services.proofs.attributes.put_data_values_parts.Goals as goal

pub returns-clause-spelled : goal.returns-clause-spelled
returns-clause-spelled c =
    let all : take c.loop-value.value-index c.args.values.now ≡ c.args.values.now =
    take_all _ _ c.loop-value-test.false in (
      c.requires.0,
      recursion_from_All data_value.Fits c.args.values.now
          (subst (λ vs. All data_value.Fits vs) all c.loop-value.invariant.spelled),
    )

pub loop-value-preserved : goal.loop-value-preserved
loop-value-preserved c = record {
  puts = grind (arith, common_steps);
  spelled = All-more data_value.Fits c.args.values.now c.loop-value.value-index c.value-item.result
      c.loop-value-test.true c.loop-value.invariant.spelled
      (subst data_value.Fits c.value-item.is (data_fits _
      (c.in_ok-put_data_value.ensures.spelled)));
}
