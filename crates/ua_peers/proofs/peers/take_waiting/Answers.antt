use Rattle.std.proofs.Common.{◌≡◌, ◌∙◌, Err, arith, refl, ap, List, ℕ, Bool}
use Rattle.std.specs.Prelude.{Option}
use Rattle.std.proofs.lemmas.Result.{err_from_is_err_and}
use Rattle.counted_io.specs.declared.fault.ServeFault.TheVariants.{Write}
use Rattle.ua_peers.specs.Peers.{is_silent}
use Rattle.ua_peers.specs.Talking.{ending_of, stop_of}
use Rattle.ua_peers.proofs.Talking.{drains-start, drains-more, drains-end, drains-part, ready-more, no-less-more}
use Rattle.ua_peers.proofs.peers.take_waiting.Goals as goal

pub turns-init : goal.turns-init
turns-init g c = record {
  ready = c.requires.ready;
  sound = c.requires.sound;
  no_less = omega arith;
  faults = refl;
  so_far = drains-start c.args.dialog.now (g.A.Archive.state c.args.replica.now.archive)
      (g.W.Write.contents c.args.writer.now.inner) c.args.frames.now.waiting;
}

pub returns-in_err-send-clause-drained : goal.returns-in_err-send-clause-drained
returns-in_err-send-clause-drained g c =
    let state = g.A.Archive.state in
    let contents = g.W.Write.contents in
    let part = rw c.as_slice.ensures.value at c.in_err-send.ensures.part in
    let p = err_from_is_err_and c.from_residual.result c.from_residual.ensures.1 in
    let fault = c.in_err-send.ensures.fault.0 in
    let is : c.from_residual.result ≡ Err Write = cc (fault, p.1, p.2) in
    drains-part c.args.dialog.now c.turns.dialog c.take_first-first.new.dialog
    (state c.args.replica.now.archive) (state c.turns.replica.archive)
    (state c.take_first-first.new.replica.archive)
    (contents c.args.writer.now.inner) (contents c.turns.writer.inner)
    (contents c.send.new.self.inner) c.args.frames.now.waiting c.turns.frames.waiting
    c.take_first-first.new.frames.waiting c.take_first-first.new.out.items
    (ending_of c.take_first-first.new.dialog.code
    (is_silent c.take_first-first.new.out.items) c.take_first-first.result)
    c.from_residual.result c.turns.invariant.so_far c.take_first-first.ensures.talks.talks part is

pub returns-in-Some-clause-drained : goal.returns-in-Some-clause-drained
returns-in-Some-clause-drained g c =
    let state = g.A.Archive.state in
    let contents = g.W.Write.contents in
    let all = rw c.as_slice.ensures.value at c.in_ok-send.ensures.ok in
    let code : c.peer_code.result ≡ c.take_first-first.new.dialog.code = c.peer_code.ensures in
    let silent : c.is_empty-silent.result ≡ is_silent c.take_first-first.new.out.items =
    c.is_empty-silent.ensures ∙ ap
    (λ (b : List ℕ). is_silent b) c.as_slice-in-turns.ensures.value in
    let same : stop_of c.peer_code.result c.is_empty-silent.result c.take_first-first.result
    ≡ stop_of c.take_first-first.new.dialog.code
    (is_silent c.take_first-first.new.out.items) c.take_first-first.result =
    ap (λ (o : Option ℕ). stop_of o c.is_empty-silent.result c.take_first-first.result) code
    ∙ ap (λ (b : Bool). stop_of c.take_first-first.new.dialog.code b c.take_first-first.result)
    silent in
    drains-end c.args.dialog.now c.turns.dialog c.take_first-first.new.dialog
    (state c.args.replica.now.archive) (state c.turns.replica.archive)
    (state c.take_first-first.new.replica.archive)
    (contents c.args.writer.now.inner) (contents c.turns.writer.inner)
    (contents c.send.new.self.inner) c.args.frames.now.waiting c.turns.frames.waiting
    c.take_first-first.new.frames.waiting c.take_first-first.new.out.items
    (is_silent c.take_first-first.new.out.items) c.take_first-first.result c.in-Some.end
    c.turns.invariant.so_far c.take_first-first.ensures.talks.talks (c.in-Some.ensures ∙ same) all

pub turns-preserved : goal.turns-preserved
turns-preserved g c =
    let state = g.A.Archive.state in
    let contents = g.W.Write.contents in
    let all = rw c.as_slice.ensures.value at c.in_ok-send.ensures.ok in
    let code : c.peer_code.result ≡ c.take_first-first.new.dialog.code = c.peer_code.ensures in
    let silent : c.is_empty-silent.result ≡ is_silent c.take_first-first.new.out.items =
    c.is_empty-silent.ensures ∙ ap
    (λ (b : List ℕ). is_silent b) c.as_slice-in-turns.ensures.value in
    let same : stop_of c.peer_code.result c.is_empty-silent.result c.take_first-first.result
    ≡ stop_of c.take_first-first.new.dialog.code
    (is_silent c.take_first-first.new.out.items) c.take_first-first.result =
    ap (λ (o : Option ℕ). stop_of o c.is_empty-silent.result c.take_first-first.result) code
    ∙ ap (λ (b : Bool). stop_of c.take_first-first.new.dialog.code b c.take_first-first.result)
    silent in
    let none = c.in-None.ensures ∙ same in
    let more = ready-more c.turns.dialog c.take_first-first.new.dialog c.turns.frames
    c.take_first-first.new.frames c.take_first-first.new.dialog.code
    (is_silent c.take_first-first.new.out.items) c.take_first-first.result none
    c.take_first-first.ensures.started c.take_first-first.ensures.leaves in
    record {
      ready = more.0;
      sound = more.1.sound;
      no_less = no-less-more c.args.dialog.now c.turns.dialog c.take_first-first.new.dialog
          c.args.frames.now c.turns.frames c.take_first-first.new.frames c.turns.invariant.no_less
          more.1;
      faults = c.in_ok-send.ensures.faults ∙ c.turns.invariant.faults;
      so_far = drains-more c.args.dialog.now c.turns.dialog c.take_first-first.new.dialog
          (state c.args.replica.now.archive) (state c.turns.replica.archive)
          (state c.take_first-first.new.replica.archive)
          (contents c.args.writer.now.inner) (contents c.turns.writer.inner)
          (contents c.send.new.self.inner) c.args.frames.now.waiting c.turns.frames.waiting
          c.take_first-first.new.frames.waiting c.take_first-first.new.out.items
          (is_silent c.take_first-first.new.out.items) c.take_first-first.result
          c.turns.invariant.so_far c.take_first-first.ensures.talks.talks none all;
    }
