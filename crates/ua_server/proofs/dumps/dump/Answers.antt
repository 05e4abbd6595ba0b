use Rattle.std.proofs.Common.{◌≡◌, ◌⊎◌, ◌++◌, ℕ, max, List, refl, sym, ap, ◌∙◌, subst, arith}
use Rattle.std.specs.List.{AllByRecursion}
use Rattle.records.specs.Contents.{vec}
use Rattle.records.specs.Records.{missing}
use Rattle.records.specs.Spelling.{IsRecord}
use Rattle.archive.specs.declared.fault.StoreFault.TheVariants.{Refused}
use Rattle.ua_server.specs.declared.dumps.DumpFault.TheVariants as dump
use Rattle.stamp.specs.Numbers.{number_of}
use Rattle.records.specs.declared.record.Record.{Record}
use Rattle.counted_io.specs.Bytes.{AppendsPart}
use Rattle.ua_server.specs.Dumping.{lines_of}
use Rattle.std.specs.Io.KnownBytes.{Appends}
use Rattle.ua_server.proofs.DumpLemmas.{begun, asked, asked-none, failed, ended, unwritten, cut_off, goes-on, endless, no-items}
use Rattle.ua_server.proofs.dumps.dump.Goals as goal

pub loop-init : goal.loop-init
loop-init g c = record {
  so_far = begun (g.A.Archive.state c.args.archive.now) c.new-known.result
      (g.W.Write.contents c.args.output.now.inner) c.new-known.ensures.none;
  faults = refl;
  asked = omega arith;
}

pub returns-in-Err-clause-dumps : goal.returns-in-Err-clause-dumps
returns-in-Err-clause-dumps g c =
    let state = g.A.Archive.state in
    failed (state c.args.archive.now) (state c.loop.archive) (state c.since.new.self) c.loop.known
    (g.W.Write.contents c.args.output.now.inner) (g.W.Write.contents c.loop.output.inner)
    (g.W.Write.contents c.loop.output.inner) c.loop.invariant.so_far c.in-Err.fault
    (asked-none (state c.loop.archive) (state c.since.new.self) c.in-Err.fault
    (λ v. v.items ≡ missing (state c.loop.archive).content (number_of c.loop.known) 16)
    c.in-Err.ensures.asks)

pub returns-then-is_empty-clause-dumps : goal.returns-then-is_empty-clause-dumps
returns-then-is_empty-clause-dumps g c =
    let state = g.A.Archive.state in
    let known = c.loop.known in
    let now = g.W.Write.contents c.loop.output.inner in
    let q = asked (state c.loop.archive) (state c.since.new.self) (λ v. v.items)
    (number_of known) 16 c.in-Ok.records c.in-Ok.ensures.asks in
    ended (state c.args.archive.now) (state c.loop.archive) (state c.since.new.self) known
    (g.W.Write.contents c.args.output.now.inner) now now c.loop.invariant.so_far 16
    c.in-Ok.records.items q (omega arith) (sym c.as_slice-batch.ensures.value
    ∙ no-items c.as_slice-batch.result.now (sym c.if-is_empty.ensures))

pub returns-in-Err-put_lines-clause-dumps : goal.returns-in-Err-put_lines-clause-dumps
returns-in-Err-put_lines-clause-dumps g c =
    let state = g.A.Archive.state in
    let known = c.loop.known in
    let now = g.W.Write.contents c.loop.output.inner in
    let q = asked (state c.loop.archive) (state c.since.new.self) (λ v. v.items)
    (number_of known) 16 c.in-Ok.records c.in-Ok.ensures.asks in
    unwritten (state c.args.archive.now) (state c.loop.archive) (state c.since.new.self) known
    (g.W.Write.contents c.args.output.now.inner) now now c.loop.invariant.so_far 16
    c.in-Ok.records.items q c.in-Err-put_lines.fault
    (subst (λ (l : List Record). (c.in-Err-put_lines.fault ≡ dump.OutOfMemory)
    ⊎ ((c.in-Err-put_lines.fault ≡ dump.Store Refused) × (AllByRecursion IsRecord l → ⊥)))
    c.as_slice-batch.ensures.value c.in-Err-put_lines.ensures.err)

pub returns-in-Err-send-clause-dumps : goal.returns-in-Err-send-clause-dumps
returns-in-Err-send-clause-dumps g c =
    let state = g.A.Archive.state in
    let known = c.loop.known in
    let now = g.W.Write.contents c.loop.output.inner in
    let after = g.W.Write.contents c.send.new.self.inner in
    let q = asked (state c.loop.archive) (state c.since.new.self) (λ v. v.items)
    (number_of known) 16 c.in-Ok.records c.in-Ok.ensures.asks in
    let text : c.as_bytes.result.now ≡ lines_of c.in-Ok.records.items =
    c.as_bytes.ensures.value ∙ (c.in-Ok-put_lines.ensures.lines
    ∙ (ap (λ (l : List ℕ). l ++ lines_of c.as_slice-batch.result.now) c.clear.ensures.bytes
    ∙ ap lines_of c.as_slice-batch.ensures.value)) in
    cut_off (state c.args.archive.now) (state c.loop.archive) (state c.since.new.self) known
    (g.W.Write.contents c.args.output.now.inner) now after c.loop.invariant.so_far 16
    c.in-Ok.records.items q (subst (AppendsPart now after) text c.in-Err-send.ensures.part)

pub loop-preserved : goal.loop-preserved
loop-preserved g c =
    let state = g.A.Archive.state in
    let known = c.loop.known in
    let now = g.W.Write.contents c.loop.output.inner in
    let after = g.W.Write.contents c.send.new.self.inner in
    let q = asked (state c.loop.archive) (state c.since.new.self) (λ v. v.items)
    (number_of known) 16 c.in-Ok.records c.in-Ok.ensures.asks in
    let text : c.as_bytes.result.now ≡ lines_of c.in-Ok.records.items =
    c.as_bytes.ensures.value ∙ (c.in-Ok-put_lines.ensures.lines
    ∙ (ap (λ (l : List ℕ). l ++ lines_of c.as_slice-batch.result.now) c.clear.ensures.bytes
    ∙ ap lines_of c.as_slice-batch.ensures.value)) in
    record {
      so_far = goes-on (state c.args.archive.now) (state c.loop.archive)
          (state c.since.new.self) known
          (g.W.Write.contents c.args.output.now.inner) now after c.loop.invariant.so_far 16
          c.in-Ok.records.items q c.put_lines.new.known
          (λ o. c.in-Ok-put_lines.ensures.known o
          ∙ ap (λ (l : List Record). max (number_of known o) (vec l o))
          c.as_slice-batch.ensures.value) (subst (Appends now after) text c.in-Ok-send.ensures.ok);
      faults = c.in-Ok-send.ensures.faults ∙ c.loop.invariant.faults;
      asked = omega (arith, c.loop.invariant.asked, c.in-Ok.ensures.asked);
    }

pub returns-clause-dumps : goal.returns-clause-dumps
returns-clause-dumps g c =
    let state = g.A.Archive.state in
    let now = g.W.Write.contents c.loop.output.inner in
    endless (state c.args.archive.now) (state c.loop.archive) (state c.loop.archive) c.loop.known
    (g.W.Write.contents c.args.output.now.inner) now now c.loop.invariant.so_far
