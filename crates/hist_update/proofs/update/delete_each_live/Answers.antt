use Rattle.std.proofs.Common.{rules, ◌++◌, [], ◌∷◌, ◌+◌, vec_len, sym, ap, ◌∙◌, subst, arith}
use Rattle.records.specs.declared.shown.Held.{Held}
use Rattle.hist_update.specs.Outcome.{DeleteAt}
use Rattle.hist_update.specs.Operating.{Operations}
use Rattle.hist_update.proofs.Updating.{pushed, operations-none, operations-next}
use Rattle.hist_update.proofs.update.delete_each_live.Goals as goal

pub loop-held-init : goal.loop-held-init
loop-held-init g c = record {
  done = subst (λ told. Operations (g.A.Archive.state c.args.archive.now)
      (g.A.Archive.state c.args.archive.now) c.args.request.now [] told) (sym c.requires.codes)
      (operations-none (g.A.Archive.state c.args.archive.now) c.args.request.now);
  count = search rules;
  room = c.requires.room;
}

pub loop-held-preserved : goal.loop-held-preserved
loop-held-preserved g c = record {
  done = operations-next _ (g.A.Archive.state c.loop-held.archive) _ c.args.request.now
      (λ (h : Held). DeleteAt h.time) c.args.lives.now c.loop-held.held-index c.held-item.result
      c.held-item.result c.delete-done.result c.loop-held.codes.items _ c.code_of.result
      c.loop-held.invariant.done c.delete-done.ensures c.loop-held-test.true c.held-item.is
      c.code_of.ensures
      (pushed c.push.result c.unwrap.result
      (c.loop-held.codes.items ++ c.code_of.result ∷ []) c.loop-held.codes.items
      c.push.new.self.items c.push.ensures.items c.unwrap.ensures);
  count = pushed c.push.result c.unwrap.result (vec_len c.loop-held.codes + 1)
      (vec_len c.loop-held.codes) (vec_len c.push.new.self) c.push.ensures.len c.unwrap.ensures
      ∙ ap (λ n. n + 1) c.loop-held.invariant.count;
  room = omega (arith, c.push.ensures.capacity, c.loop-held.invariant.room);
}
