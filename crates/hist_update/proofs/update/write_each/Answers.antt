use Rattle.std.proofs.Common.{rules, ◌++◌, [], ◌∷◌, ◌+◌, vec_len, sym, ap, ◌∙◌, subst, arith}
use Rattle.hist_update.specs.Outcome.{Write}
use Rattle.hist_update.specs.Operating.{Operations}
use Rattle.hist_update.proofs.Updating.{pushed, operations-none, operations-next}
use Rattle.hist_update.proofs.update.write_each.Goals as goal

pub loop-value-init : goal.loop-value-init
loop-value-init g c = record {
  done = subst (λ told. Operations (g.A.Archive.state c.args.archive.now)
      (g.A.Archive.state c.args.archive.now) c.args.request.now [] told) (sym c.requires.codes)
      (operations-none (g.A.Archive.state c.args.archive.now) c.args.request.now);
  count = search rules;
  room = c.requires.room;
}

pub loop-value-preserved : goal.loop-value-preserved
loop-value-preserved g c = record {
  done = operations-next _ (g.A.Archive.state c.loop-value.archive) _ c.args.request.now
      (Write c.args.asked c.args.value_type) c.args.values.now c.loop-value.value-index
      c.value-item.result c.value-item.result c.write-done.result c.loop-value.codes.items _
      c.code_of.result
      c.loop-value.invariant.done c.write-done.ensures c.loop-value-test.true c.value-item.is
      c.code_of.ensures
      (pushed c.push.result c.unwrap.result
      (c.loop-value.codes.items ++ c.code_of.result ∷ []) c.loop-value.codes.items
      c.push.new.self.items c.push.ensures.items c.unwrap.ensures);
  count = pushed c.push.result c.unwrap.result (vec_len c.loop-value.codes + 1)
      (vec_len c.loop-value.codes) (vec_len c.push.new.self) c.push.ensures.len c.unwrap.ensures
      ∙ ap (λ n. n + 1) c.loop-value.invariant.count;
  room = omega (arith, c.push.ensures.capacity, c.loop-value.invariant.room);
}
