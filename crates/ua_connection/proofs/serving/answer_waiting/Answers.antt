use Rattle.std.proofs.Common.{◌≡◌, ◌∷◌, ◌++◌, [], Err, arith, refl, ◌∙◌}
use Rattle.std.proofs.lemmas.Result.{err_from_is_err_and}
use Rattle.counted_io.specs.declared.fault.ServeFault.TheVariants.{Write}
use Rattle.ua_connection.specs.Environments.{before}
use Rattle.ua_connection.specs.Passing.{Went}
use Rattle.ua_connection.specs.Turns.{ending_of}
use Rattle.ua_connection.proofs.Outsides.{empty_environment}
use Rattle.ua_connection.proofs.Flow.{drains-start, drains-end, drains-more, drains-part, more-shorter, own-end, no-less-then}
use Rattle.ua_connection.proofs.serving.answer_waiting.Goals as goal

pub parts-init : goal.parts-init
parts-init g c = record {
  small = c.requires;
  settings = refl;
  no_less = omega arith;
  writes = refl;
  reads = refl;
  so_far = (
    empty_environment,
    g.met.C.Clock.gave_none c.args.clock.now,
    [],
    g.X.Line.passed_none c.args.line.now,
    drains-start c.args.server.now.settings
        (g.A.Archive.state c.args.server.now.replica.archive) c.args.connection.now,
  );
}

pub returns-in_err-send-clause-drained : goal.returns-in_err-send-clause-drained
returns-in_err-send-clause-drained g c =
    let so = c.parts.invariant.so_far in
    let turned = rw c.parts.invariant.settings at c.answer_some-turn.ensures.turned in
    let state = g.A.Archive.state in
    let part = rw c.as_slice.ensures.value at c.in_err-send.ensures.part in
    let p = err_from_is_err_and c.from_residual.result c.from_residual.ensures.1 in
    let fault = c.in_err-send.ensures.fault.0 in
    let is : c.from_residual.result ≡ Err Write = cc (fault, p.1, p.2) in (
      before so.0 turned.0,
      g.met.C.Clock.gave_more _ _ _ _ _ so.1 turned.1,
      so.2 ++ Went part.0 ∷ [],
      g.X.Line.passed_more _ _ _ _ _ so.3 part.3,
      drains-part c.args.server.now.settings (state c.args.server.now.replica.archive)
          (state c.parts.server.replica.archive)
          (state c.answer_some-turn.new.server.replica.archive) c.args.connection.now
          c.parts.connection c.answer_some-turn.new.connection so.0 turned.0 so.2
          c.clear.new.self.items c.answer_some-turn.new.out.items part.0 part.1
          (ending_of c.answer_some-turn.result) c.from_residual.result so.4
          c.clear.ensures.items turned.2 part.2 is,
    )

pub returns-in-Some-clause-drained : goal.returns-in-Some-clause-drained
returns-in-Some-clause-drained g c =
    let so = c.parts.invariant.so_far in
    let turned = rw c.parts.invariant.settings at c.answer_some-turn.ensures.turned in
    let state = g.A.Archive.state in
    let out = c.answer_some-turn.new.out.items in
    let all = rw c.as_slice.ensures.value at c.in_ok-send.ensures.went in (
      before so.0 turned.0,
      g.met.C.Clock.gave_more _ _ _ _ _ so.1 turned.1,
      so.2 ++ Went out ∷ [],
      g.X.Line.passed_more _ _ _ _ _ so.3 all,
      drains-end c.args.server.now.settings (state c.args.server.now.replica.archive)
          (state c.parts.server.replica.archive)
          (state c.answer_some-turn.new.server.replica.archive) c.args.connection.now
          c.parts.connection c.answer_some-turn.new.connection so.0 turned.0 so.2
          c.clear.new.self.items out c.answer_some-turn.result c.in-Some.end c.in-Some.ensures so.4
          c.clear.ensures.items turned.2,
    )

pub returns-in-Some-clause-own : goal.returns-in-Some-clause-own
returns-in-Some-clause-own g c =
    own-end _ c.args.connection.now c.parts.connection c.answer_some-turn.new.connection
    c.answer_some-turn.result c.in-Some.end c.in-Some.ensures c.answer_some-turn.ensures.own
    c.parts.invariant.no_less c.answer_some-turn.ensures.shorter

pub parts-preserved : goal.parts-preserved
parts-preserved g c =
    let so = c.parts.invariant.so_far in
    let turned = rw c.parts.invariant.settings at c.answer_some-turn.ensures.turned in
    let state = g.A.Archive.state in
    let out = c.answer_some-turn.new.out.items in
    let all = rw c.as_slice.ensures.value at c.in_ok-send.ensures.went in
    let less = more-shorter c.parts.connection c.answer_some-turn.new.connection
    c.answer_some-turn.result c.in-None.ensures c.answer_some-turn.ensures.shorter in
    record {
      small = c.answer_some-turn.ensures.small;
      settings = c.answer_some-turn.ensures.settings ∙ c.parts.invariant.settings;
      no_less = no-less-then c.args.connection.now c.parts.connection
          c.answer_some-turn.new.connection c.parts.invariant.no_less less.1;
      writes = c.in_ok-send.ensures.faults ∙ c.parts.invariant.writes;
      reads = c.in_ok-send.ensures.reads ∙ c.parts.invariant.reads;
      so_far = (
        before so.0 turned.0,
        g.met.C.Clock.gave_more _ _ _ _ _ so.1 turned.1,
        so.2 ++ Went out ∷ [],
        g.X.Line.passed_more _ _ _ _ _ so.3 all,
        drains-more c.args.server.now.settings (state c.args.server.now.replica.archive)
            (state c.parts.server.replica.archive)
            (state c.answer_some-turn.new.server.replica.archive) c.args.connection.now
            c.parts.connection c.answer_some-turn.new.connection so.0 turned.0 so.2
            c.clear.new.self.items out c.answer_some-turn.result c.in-None.ensures so.4
            c.clear.ensures.items turned.2,
      );
    }

pub parts-smaller : goal.parts-smaller
parts-smaller g c = (more-shorter c.parts.connection c.answer_some-turn.new.connection
    c.answer_some-turn.result c.in-None.ensures c.answer_some-turn.ensures.shorter).0
