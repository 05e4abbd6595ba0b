use Rattle.std.proofs.Common.{◌≡◌, ◌+◌, take, length, subst}
use Rattle.std.specs.List.{flat_map}
use Rattle.std.proofs.lemmas.List.{take_all}
use Rattle.ua_binary.specs.Format.{saturated}
use Rattle.ua_binary.proofs.Sizes.{array_length}
use Rattle.ua_variant.specs.Raise.{variant_fault}
use Rattle.ua_variant.specs.DataValue.{data_value}
use Rattle.ua_client.proofs.requests.values_size.Goals as goal

pub returns : goal.returns
returns c =
    let all : take c.loop-value.value-index c.args.values.now ≡ c.args.values.now =
    take_all _ _ c.loop-value-test.false in
    rw (array_length variant_fault data_value c.args.values.now)
    (subst (λ vs. c.loop-value.size ≡ saturated (4 + length (flat_map data_value.canon vs))) all
    c.loop-value.invariant)
