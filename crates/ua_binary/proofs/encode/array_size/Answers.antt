use Rattle.std.proofs.Common.{◌≡◌, ◌+◌, map, take, length, subst, arith}
use Rattle.std.specs.List.{All, flat_map}
use Rattle.std.proofs.lemmas.Grind.{common_steps}
use Rattle.std.proofs.lemmas.List.{take_all}
use Rattle.std.proofs.lemmas.List.Elements.{All-more}
use Rattle.ua_binary.specs.Format.{saturated}
use Rattle.ua_binary.proofs.Sizes.{sizes, array_length, IsSome, IsShort, array_short}
use Rattle.ua_binary.proofs.encode.array_size.Goals as goal

pub returns-clause-counted : goal.returns-clause-counted
returns-clause-counted g c =
    let all : take c.loop-item.item-index c.args.items.now ≡ c.args.items.now =
    take_all _ _ c.loop-item-test.false in
    rw (array_length g.T.Fault.Fault.told g.T.Encode.format (map g.T.Encode.view c.args.items.now))
    (subst (λ xs. c.loop-item.size
    ≡ saturated (4 + length (flat_map g.T.Encode.format.canon (map g.T.Encode.view xs)))) all
    c.loop-item.invariant.counted)

pub returns-clause-short : goal.returns-clause-short
returns-clause-short g c =
    let all : take c.loop-item.item-index c.args.items.now ≡ c.args.items.now =
    take_all _ _ c.loop-item-test.false in
    let some : All (IsSome g.T.Encode.view g.T.Encode.format) c.args.items.now =
    subst (λ xs. All (IsSome g.T.Encode.view g.T.Encode.format) xs) all
    c.loop-item.invariant.some in
    let short : All (IsShort g.T.Encode.can_put g.T.Encode.view g.T.Encode.format) c.args.items.now
    = subst (λ xs. All (IsShort g.T.Encode.can_put g.T.Encode.view g.T.Encode.format) xs) all
    c.loop-item.invariant.short in
    array_short g.T.Fault.Fault.told g.T.Encode.can_put g.T.Encode.view g.T.Encode.format
    c.args.items.now some short

pub loop-item-preserved : goal.loop-item-preserved
loop-item-preserved g c = record {
  counted = grind (arith, common_steps, sizes);
  some = grind (arith, common_steps);
  short =
      let P = IsShort g.T.Encode.can_put g.T.Encode.view g.T.Encode.format in
      All-more P c.args.items.now c.loop-item.item-index c.item-item.result c.loop-item-test.true
      c.loop-item.invariant.short (subst P c.item-item.is c.size.ensures.short);
  spelled = grind (arith, common_steps);
}
