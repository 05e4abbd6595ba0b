use Rattle.std.proofs.Common.{◌≡◌, rules, take, subst}
use Rattle.std.specs.List.{All}
use Rattle.std.proofs.lemmas.List.{take_all}
use Rattle.std.proofs.lemmas.List.Elements.{All-more}
use Rattle.ua_variant.specs.DataValue.{IsShortData}
use Rattle.ua_client.proofs.requests.are_short_values.Goals as goal

pub loop-value-preserved : goal.loop-value-preserved
loop-value-preserved c = All-more IsShortData c.args.values.now c.loop-value.value-index
    c.value-item.result (search rules) c.loop-value.invariant
    (subst IsShortData c.value-item.is (c.is_short_value.ensures c.if-not-is_short_value.false))

pub returns : goal.returns
returns c = λ few.
    let all : take c.loop-value.value-index c.args.values.now ≡ c.args.values.now =
    take_all _ _ c.loop-value-test.false in
    (search rules, subst (All IsShortData) all c.loop-value.invariant)
