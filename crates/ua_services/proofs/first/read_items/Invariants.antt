use Rattle.std.proofs.Common.{◌≡◌, ◌-◌, ◌≤◌, [], length, map}
use Rattle.ua_binary.specs.Format.{items_at}
use Rattle.ua_services.proofs.Firsts.{firsts}
use Rattle.ua_services.proofs.first.read_items.Given as goal

abbrev pub invariant-loop : goal.invariant-loop
invariant-loop g l = record {
  few : length l.items.items ≤ l.most;
  reads : firsts l.most (map g.T.Decode.view l.items.items)
      (items_at g.T.Decode.format.read (l.count - l.counter) l.cursor)
      ≡ firsts l.most [] (items_at g.T.Decode.format.read l.count l.fn.cursor);
}
