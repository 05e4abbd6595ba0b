use Rattle.std.proofs.Common.{[], ◌∷◌, ◌++◌, map, ap, ◌∙◌}
use Rattle.json.specs.Token.{begin_array}
use Rattle.history_text.proofs.ItemsLemmas.{spelled_written, spelled_is}
use Rattle.history_text.proofs.arrays.spelled.Goals as goal

pub returns-clause-written : goal.returns-clause-written
returns-clause-written g c =
    spelled_written g.T.Item.said c.begin_array.new.self c.put_items.new.out c.end_array.new.self
    (map g.T.Item.alone c.args.items.now) (map g.T.Item.again c.args.items.now)
    c.into_inner.result.items
    (c.begin_array.ensures.room.0 ∙ c.new-out.ensures.before ∙ c.new.ensures.items)
    (c.in_ok-begin_array.ensures.ok ∙ ap (λ ts. ts ++ begin_array ∷ []) c.new-out.ensures.tokens)
    c.in_ok-put_items.ensures.put c.end_array.ensures.room.0 c.in_ok-end_array.ensures.ok
    c.into_inner.ensures.items

pub returns-clause-read : goal.returns-clause-read
returns-clause-read g c =
    spelled_is g.T.Item.said c.begin_array.new.self c.put_items.new.out c.end_array.new.self
    (map g.T.Item.alone c.args.items.now) (map g.T.Item.again c.args.items.now)
    c.into_inner.result.items
    (c.begin_array.ensures.room.0 ∙ c.new-out.ensures.before ∙ c.new.ensures.items)
    (c.in_ok-begin_array.ensures.ok ∙ ap (λ ts. ts ++ begin_array ∷ []) c.new-out.ensures.tokens)
    c.in_ok-put_items.ensures.put c.end_array.ensures.room.0 c.in_ok-end_array.ensures.ok
    c.into_inner.ensures.items c.into_inner.ensures.reads_back
