use Rattle.std.proofs.Common.{◌≡◌, length, take, drop, [], OnErr, Ok, Err, List, ℕ, sym, arith, ◌∙◌, ◌-◌}
use Rattle.std.specs.Prelude.{Result}
use Rattle.std.proofs.KnownBytes.{Appends-trans}
use Rattle.std.proofs.Math.Seq.{take-add}
use Rattle.std.proofs.lemmas.List.{take-append-drop, append-nil, take_all, length-drop}
use Rattle.counted_io.proofs.counted.Counted.send.Goals as goal

on_err : {T E P : Type 0} (r : Result T E) → P → OnErr r P
on_err (Ok x) p = tt
on_err (Err e) p = p

pub returns-in_err-n-clause-part : goal.returns-in_err-n-clause-part
returns-in_err-n-clause-part g c =
    let sent = take c.loop-sent.sent c.args.bytes.now in
    let contents = g.W.Write.contents in
    let both = Appends-trans (contents c.args.self.now.inner) (contents c.loop-sent.self.inner)
    (contents c.write_some.new.self.inner) sent [] c.loop-sent.invariant.written
    c.in_err-n.ensures.none in
    on_err c.from_residual.result (
      sent,
      drop c.loop-sent.sent c.args.bytes.now,
      sym (take-append-drop c.loop-sent.sent c.args.bytes.now),
      rw append-nil at both,
    )

-- what is left of the bytes is all of them from there on
left : (bytes : List ℕ) (sent : ℕ) → take (length bytes - sent) (drop sent bytes) ≡ drop sent bytes
left bytes sent = take_all _ _ (omega (arith, length-drop sent bytes))

pub loop-sent-preserved : goal.loop-sent-preserved
loop-sent-preserved g c =
    let contents = g.W.Write.contents in
    let n = c.in_ok-n.n in
    let sent = c.loop-sent.sent in
    let bytes = c.args.bytes.now in
    let ensured = c.in_ok-n.ensures in
    let written = rw (left bytes sent) at ensured.bytes in
    let within = rw (left bytes sent) at ensured.within in
    record {
      within = omega (arith, within.1, length-drop sent bytes, c.loop-sent-test.true);
      faults = c.in_ok-n.ensures.faults ∙ c.loop-sent.invariant.faults;
      written = rw (take-add sent n bytes)
          (Appends-trans (contents c.args.self.now.inner) (contents c.loop-sent.self.inner)
          (contents c.write_some.new.self.inner) _ _ c.loop-sent.invariant.written written);
    }
