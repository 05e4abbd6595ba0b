use Rattle.std.proofs.Common.{◌≡◌, ◌<◌, ◌∷◌, ◌++◌, [], List, ℤ, Some, None, Ok, Err, ◌∙◌, arith, take, refl, ap, length, subst, sym}
use Rattle.std.proofs.lemmas.Result.{err_from_is_err_and}
use Rattle.std.proofs.lemmas.List.{length-append, length-take, append-nil}
use Rattle.counted_io.specs.declared.fault.ServeFault.TheVariants.{Read}
use Rattle.ua_connection.specs.Environments.{before}
use Rattle.ua_connection.specs.Passing.{Came}
use Rattle.ua_connection.specs.Turns.{ConnectionState, NeedsBytes, IsNoLess, SentAll}
use Rattle.ua_connection.proofs.Outsides.{empty_environment}
use Rattle.ua_connection.proofs.Flow.{fresh-small, short-length}
use Rattle.ua_connection.proofs.Whole.{serves-start, serves-read, serves-end, serves-fed, serves-drained, serves-ended, serves-failed, serves-starved}
use Rattle.ua_settings.specs.Settings.{SettingsValues}
use Rattle.ua_connection.proofs.serving.serve_on.Goals as goal

pub reads-init : goal.reads-init
reads-init g c = record {
  small = fresh-small c.args.connection.now c.requires.fresh;
  settings = refl;
  short = c.requires.short;
  reads = refl;
  writes = refl;
  so_far = (
    empty_environment,
    g.met.C.Clock.gave_none c.args.clock.now,
    [],
    g.X.Line.passed_none c.args.line.now,
    serves-start c.args.server.now.settings
        (g.A.Archive.state c.args.server.now.replica.archive) c.args.connection.now
        c.requires.fresh,
  );
}

pub returns-in_err-n-clause-serves : goal.returns-in_err-n-clause-serves
returns-in_err-n-clause-serves g c =
    let so = c.reads.invariant.so_far in
    let p = err_from_is_err_and c.from_residual.result c.from_residual.ensures.1 in
    let fault = c.in_err-n.ensures.fault.0 in
    let is : c.from_residual.result ≡ Err Read = cc (fault, p.1, p.2) in
    let state = g.A.Archive.state in
    let end = serves-read c.args.server.now.settings (state c.args.server.now.replica.archive)
    (state c.reads.server.replica.archive) c.args.connection.now.waiting so.2 so.0
    c.reads.connection so.4 c.reads.invariant.short in
    let P : List ℤ → Type 0 = λ r. g.C.Clock.gave c.args.clock.now r c.reads.clock in (
      before so.0 end.0,
      subst P (sym (append-nil so.0.readings) ∙ ap (λ (r : List ℤ). so.0.readings ++ r) (sym end.1))
          so.1,
      so.2 ++ Came None ∷ [],
      g.X.Line.passed_more _ _ _ _ _ so.3 c.in_err-n.ensures.none,
      rw is end.2,
    )

pub returns-then-n-eq0-clause-serves : goal.returns-then-n-eq0-clause-serves
returns-then-n-eq0-clause-serves g c =
    let so = c.reads.invariant.so_far in
    let n = c.in_ok-n.n in
    let bytes = take n c.receive.new.piece in
    let none : n ≡ 0 = omega arith in
    let state = g.A.Archive.state in
    let end = serves-end c.args.server.now.settings (state c.args.server.now.replica.archive)
    (state c.reads.server.replica.archive) c.args.connection.now.waiting so.2 so.0
    c.reads.connection bytes so.4
    (ap (λ k. take k c.receive.new.piece) none) c.reads.invariant.short in
    let P : List ℤ → Type 0 = λ r. g.C.Clock.gave c.args.clock.now r c.reads.clock in (
      before so.0 end.0,
      subst P (sym (append-nil so.0.readings) ∙ ap (λ (r : List ℤ). so.0.readings ++ r) (sym end.1))
          so.1,
      so.2 ++ Came (Some bytes) ∷ [],
      g.X.Line.passed_more _ _ _ _ _ so.3 c.in_ok-n.ensures.came,
      end.2,
    )

pub returns-in-Err-clause-serves : goal.returns-in-Err-clause-serves
returns-in-Err-clause-serves g c =
    let so = c.reads.invariant.so_far in
    let n = c.in_ok-n.n in
    let bytes = take n c.receive.new.piece in
    let within = c.in_ok-n.ensures.within in
    let sends = c.send_starved.ensures.sends in
    let state = g.A.Archive.state in
    let end = serves-starved c.args.server.now.settings (state c.args.server.now.replica.archive)
    (state c.reads.server.replica.archive) c.args.connection.now.waiting so.2 sends.0 so.0
    c.reads.connection bytes c.send_starved.result so.4 c.reads.invariant.short
    (omega (arith, length-take n c.receive.new.piece)) sends.2 in
    let P : List ℤ → Type 0 = λ r. g.C.Clock.gave c.args.clock.now r c.reads.clock in (
      before so.0 end.0,
      subst P (sym (append-nil so.0.readings) ∙ ap (λ (r : List ℤ). so.0.readings ++ r) (sym end.1))
          so.1,
      (so.2 ++ Came (Some bytes) ∷ []) ++ sends.0,
      g.X.Line.passed_more _ _ _ _ _
          (g.X.Line.passed_more _ _ _ _ _ so.3 c.in_ok-n.ensures.came) sends.1,
      end.2,
    )

pub returns-in-Ok-Some-clause-serves : goal.returns-in-Ok-Some-clause-serves
returns-in-Ok-Some-clause-serves g c =
    let so = c.reads.invariant.so_far in
    let bytes = take c.in_ok-n.n c.receive.new.piece in
    let after = so.2 ++ Came (Some bytes) ∷ [] in
    let state = g.A.Archive.state in
    let fed = serves-fed c.args.server.now.settings (state c.args.server.now.replica.archive)
    (state c.reads.server.replica.archive) c.args.connection.now.waiting so.2 so.0
    c.reads.connection c.feed.new.self bytes so.4 c.reads.invariant.short c.in-Ok.ensures.ok in
    let drained = rw c.in-Ok-Some.field-0-is at c.in-Ok-Some.ensures.drained in
    let sent = subst
    (λ (s : SettingsValues).
    SentAll s (state c.reads.server.replica.archive)
    (state c.answer_waiting.new.server.replica.archive)
    c.feed.new.self drained.0 drained.2
    (Ok (Some c.in-Ok-Some.served)) c.answer_waiting.new.connection)
    c.reads.invariant.settings drained.4 in
    let own = rw c.in-Ok-Some.field-0-is at c.in-Ok-Some.ensures.own in (
      before so.0 drained.0,
      g.met.C.Clock.gave_more _ _ _ _ _ so.1 drained.1,
      after ++ drained.2,
      g.X.Line.passed_more _ _ _ _ _
          (g.X.Line.passed_more _ _ _ _ _ so.3 c.in_ok-n.ensures.came) drained.3,
      serves-ended c.args.server.now.settings (state c.args.server.now.replica.archive)
          (state c.reads.server.replica.archive)
          (state c.answer_waiting.new.server.replica.archive) c.args.connection.now.waiting after
          drained.2 so.0 drained.0 c.feed.new.self c.answer_waiting.new.connection
          (NeedsBytes c.answer_waiting.new.connection
          × IsNoLess c.feed.new.self c.answer_waiting.new.connection) c.in-Ok-Some.served fed
          sent own,
    )

pub returns-in-Err-answer_waiting-clause-serves : goal.returns-in-Err-answer_waiting-clause-serves
returns-in-Err-answer_waiting-clause-serves g c =
    let so = c.reads.invariant.so_far in
    let bytes = take c.in_ok-n.n c.receive.new.piece in
    let after = so.2 ++ Came (Some bytes) ∷ [] in
    let state = g.A.Archive.state in
    let fed = serves-fed c.args.server.now.settings (state c.args.server.now.replica.archive)
    (state c.reads.server.replica.archive) c.args.connection.now.waiting so.2 so.0
    c.reads.connection c.feed.new.self bytes so.4 c.reads.invariant.short c.in-Ok.ensures.ok in
    let drained = c.in-Err-answer_waiting.ensures.drained in
    let sent = subst
    (λ (s : SettingsValues).
    SentAll s (state c.reads.server.replica.archive)
    (state c.answer_waiting.new.server.replica.archive)
    c.feed.new.self drained.0 drained.2
    (Err c.in-Err-answer_waiting.fault) c.answer_waiting.new.connection)
    c.reads.invariant.settings drained.4 in (
      before so.0 drained.0,
      g.met.C.Clock.gave_more _ _ _ _ _ so.1 drained.1,
      after ++ drained.2,
      g.X.Line.passed_more _ _ _ _ _
          (g.X.Line.passed_more _ _ _ _ _ so.3 c.in_ok-n.ensures.came) drained.3,
      serves-failed c.args.server.now.settings (state c.args.server.now.replica.archive)
          (state c.reads.server.replica.archive)
          (state c.answer_waiting.new.server.replica.archive) c.args.connection.now.waiting after
          drained.2 so.0 drained.0 c.feed.new.self c.answer_waiting.new.connection
          (NeedsBytes c.answer_waiting.new.connection
          × IsNoLess c.feed.new.self c.answer_waiting.new.connection)
          c.in-Err-answer_waiting.fault fed sent c.in-Err-answer_waiting.ensures.own,
    )

pub reads-smaller : goal.reads-smaller
reads-smaller g c =
    let own = rw c.in-Ok-None.field-0-is at c.in-Ok-None.ensures.own in
    let small = c.in-Ok-None.ensures.small in
    let short : length c.answer_waiting.new.connection.waiting < 65536 =
    short-length c.answer_waiting.new.connection small.1 own.0 in
    let now = ap (λ (l : ConnectionState). length l.waiting) c.in-Ok.ensures.ok in
    let taken = ap (λ (l : ConnectionState). l.client.taken) c.in-Ok.ensures.ok in
    let within = c.in_ok-n.ensures.within in
    let more = own.1 in
    let most = small.0 in
    omega (
      arith,
      length-append c.reads.connection.waiting (take c.in_ok-n.n c.receive.new.piece),
      length-take c.in_ok-n.n c.receive.new.piece,
    )

pub reads-preserved : goal.reads-preserved
reads-preserved g c =
    let so = c.reads.invariant.so_far in
    let bytes = take c.in_ok-n.n c.receive.new.piece in
    let after = so.2 ++ Came (Some bytes) ∷ [] in
    let state = g.A.Archive.state in
    let fed = serves-fed c.args.server.now.settings (state c.args.server.now.replica.archive)
    (state c.reads.server.replica.archive) c.args.connection.now.waiting so.2 so.0
    c.reads.connection c.feed.new.self bytes so.4 c.reads.invariant.short c.in-Ok.ensures.ok in
    let drained = rw c.in-Ok-None.field-0-is at c.in-Ok-None.ensures.drained in
    let sent = subst
    (λ (s : SettingsValues).
    SentAll s (state c.reads.server.replica.archive)
    (state c.answer_waiting.new.server.replica.archive)
    c.feed.new.self drained.0 drained.2 (Ok None) c.answer_waiting.new.connection)
    c.reads.invariant.settings drained.4 in
    let own = rw c.in-Ok-None.field-0-is at c.in-Ok-None.ensures.own in
    record {
      small = c.in-Ok-None.ensures.small;
      settings = c.in-Ok-None.ensures.settings ∙ c.reads.invariant.settings;
      short = own.0;
      reads = c.in-Ok-None.ensures.reads ∙ (c.in_ok-n.ensures.faults ∙ c.reads.invariant.reads);
      writes = (rw c.in-Ok-None.field-0-is at c.in-Ok-None.ensures.writes.keeps) (λ e. cc)
          ∙ (c.in_ok-n.ensures.writes ∙ c.reads.invariant.writes);
      so_far = (
        before so.0 drained.0,
        g.met.C.Clock.gave_more _ _ _ _ _ so.1 drained.1,
        after ++ drained.2,
        g.X.Line.passed_more _ _ _ _ _
            (g.X.Line.passed_more _ _ _ _ _ so.3 c.in_ok-n.ensures.came) drained.3,
        serves-drained c.args.server.now.settings (state c.args.server.now.replica.archive)
            (state c.reads.server.replica.archive)
            (state c.answer_waiting.new.server.replica.archive) c.args.connection.now.waiting after
            drained.2 so.0 drained.0 c.feed.new.self c.answer_waiting.new.connection
            fed sent,
      );
    }
