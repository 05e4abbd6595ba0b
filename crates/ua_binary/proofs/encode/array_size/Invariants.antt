use Rattle.std.proofs.Common.{◌≡◌, ◌+◌, ◌<◌, ◌^◌, map, take, length}
use Rattle.std.specs.List.{All, flat_map}
use Rattle.ua_binary.specs.Format.{saturated}
use Rattle.ua_binary.proofs.encode.array_size.Given as goal

abbrev pub invariant-loop-item : goal.invariant-loop-item
invariant-loop-item g l = record {
  counted : l.size ≡ saturated (4 + length
      (flat_map g.T.Encode.format.canon (map g.T.Encode.view (take l.item-index l.items))));
  some : All (λ v. 0 < length (g.T.Encode.format.canon (g.T.Encode.view v)))
      (take l.item-index l.items);
  short : All (λ v. length (g.T.Encode.format.canon (g.T.Encode.view v)) < 2 ^ 31
      → g.T.Encode.can_put v) (take l.item-index l.items);
  spelled : All (λ v. g.T.Encode.can_put v → g.T.Encode.format.Fits (g.T.Encode.view v))
      (take l.item-index l.items);
}
