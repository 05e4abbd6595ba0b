use Rattle.std.proofs.Common.{rules, ◌++◌, [], ◌∷◌, ◌+◌, vec_len, pos, get_or, refl, sym, ap, ◌∙◌, subst, arith}
use Rattle.ua_binary.specs.declared.values.Ticks.{Ticks}
use Rattle.records.specs.Moments.{moment}
use Rattle.hist_update.specs.Outcome.{DeleteAt}
use Rattle.hist_update.specs.Operating.{Operates, Operations}
use Rattle.hist_update.proofs.Updating.{pushed, operations-none, operations-next}
use Rattle.hist_update.proofs.update.delete_each.Goals as goal

pub loop-time-init : goal.loop-time-init
loop-time-init g c = record {
  done = subst (λ told. Operations (g.A.Archive.state c.args.archive.now)
      (g.A.Archive.state c.args.archive.now) c.args.request.now [] told) (sym c.requires.codes)
      (operations-none (g.A.Archive.state c.args.archive.now) c.args.request.now);
  count = search rules;
  room = c.requires.room;
}

pub loop-time-preserved : goal.loop-time-preserved
loop-time-preserved g c =
    let none : Ticks = record { 0 = pos 0 } in
    let item = get_or c.args.times.now c.loop-time.time-index none in record {
      done = operations-next _ (g.A.Archive.state c.loop-time.archive) _ c.args.request.now
          (λ (t : Ticks). DeleteAt (moment t.0 0)) c.args.times.now c.loop-time.time-index none item
          c.delete-done.result c.loop-time.codes.items _ c.code_of.result
          c.loop-time.invariant.done (subst
          (λ m. Operates (g.A.Archive.state c.loop-time.archive)
          (g.A.Archive.state c.delete-done.new.archive) c.args.request.now
          (DeleteAt m) c.delete-done.result) c.moment_of.ensures c.delete-done.ensures)
          c.loop-time-test.true refl c.code_of.ensures
          (pushed c.push.result c.unwrap.result
          (c.loop-time.codes.items ++ c.code_of.result ∷ []) c.loop-time.codes.items
          c.push.new.self.items c.push.ensures.items c.unwrap.ensures);
      count = pushed c.push.result c.unwrap.result (vec_len c.loop-time.codes + 1)
          (vec_len c.loop-time.codes) (vec_len c.push.new.self) c.push.ensures.len c.unwrap.ensures
          ∙ ap (λ n. n + 1) c.loop-time.invariant.count;
      room = omega (arith, c.push.ensures.capacity, c.loop-time.invariant.room);
    }
