use Rattle.std.proofs.Common.{◌≡◌, ◌++◌, ◌∷◌, [], map, take}
use Rattle.std.proofs.lemmas.Result.{err_from_is_err_and}
use Rattle.ua_binary.specs.Format.{items_at}
use Rattle.ua_services.proofs.Firsts.{firsts, goes_on, ends, taken_length, map_take}
use Rattle.ua_services.proofs.first.read_items.Goals as goal

pub returns-in_err-item : goal.returns-in_err-item
returns-in_err-item g c =
    let p = err_from_is_err_and c.from_residual-in_err-item.result
    c.from_residual-in_err-item.ensures.1 in
    rw (p.1, p.2) (λ h. ends g.T.Decode.format.read c.args.most
    (map g.T.Decode.view c.loop.items.items) c.args.count c.loop.counter c.loop.cursor _
    (firsts c.args.most [] (items_at g.T.Decode.format.read c.args.count c.args.cursor.now))
    c.loop-test.true (c.in_err-item.ensures.0 h) c.loop.invariant.reads)

pub loop-preserved : goal.loop-preserved
loop-preserved g c =
    let kept : map g.T.Decode.view c.keep.new.items.items
    ≡ take c.args.most (map g.T.Decode.view c.loop.items.items
    ++ g.T.Decode.view c.in_ok-item.item ∷ []) =
    rw c.in_ok-keep.ensures (map_take g.T.Decode.view c.args.most c.loop.items.items
    c.in_ok-item.item) in
    record {
      few = rw c.in_ok-keep.ensures (taken_length c.args.most
          (c.loop.items.items ++ c.in_ok-item.item ∷ []));
      reads = rw kept (goes_on g.T.Decode.format.read c.args.most
          (map g.T.Decode.view c.loop.items.items) c.args.count c.loop.counter c.loop.cursor
          (g.T.Decode.view c.in_ok-item.item) c.decode.new.cursor
          (firsts c.args.most [] (items_at g.T.Decode.format.read c.args.count c.args.cursor.now))
          c.loop-test.true c.in_ok-item.ensures c.loop.invariant.reads);
    }
