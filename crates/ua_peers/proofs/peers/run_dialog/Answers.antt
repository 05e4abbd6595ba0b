use Rattle.std.proofs.Common.{◌∙◌, arith, take, refl, ap, length}
use Rattle.std.proofs.lemmas.List.{length-append, length-take}
use Rattle.exchange.specs.Frames.{ReceivedFrames}
use Rattle.ua_peers.proofs.Talking.{starts-short, short-cut, meets-start, meets-unfed, meets-fed, meets-drained, meets-starved, meets-stop, meets-fault}
use Rattle.ua_peers.proofs.peers.run_dialog.Goals as goal

pub reads-init : goal.reads-init
reads-init g c =
    let short = starts-short c.new-frames.result c.feed.new.self c.args.first.now
    c.new-frames.ensures c.in-Ok.ensures.ok c.requires.few in
    record {
      ready = c.requires.ready;
      sound = short.0;
      short = short.1;
      read_faults = refl;
      write_faults = refl;
      so_far = meets-start c.args.dialog.now (g.A.Archive.state c.args.replica.now.archive)
          (g.R.Read.remaining c.args.reader.now.inner)
          (g.W.Write.contents c.args.writer.now.inner) c.args.first.now c.new-frames.result
          c.feed.new.self c.new-frames.ensures c.in-Ok.ensures.ok;
    }

pub returns-in-Err-clause-meets : goal.returns-in-Err-clause-meets
returns-in-Err-clause-meets g c =
    let contents = g.W.Write.contents in
    meets-unfed c.args.dialog.now (g.A.Archive.state c.args.replica.now.archive)
    (g.R.Read.remaining c.args.reader.now.inner) (contents c.args.writer.now.inner)
    (contents c.send_starved.new.writer.inner) c.args.first.now c.send_starved.result
    c.send_starved.ensures.tells

pub returns-in-Err-feed-clause-meets : goal.returns-in-Err-feed-clause-meets
returns-in-Err-feed-clause-meets g c =
    let state = g.A.Archive.state in
    let left = g.R.Read.remaining in
    let contents = g.W.Write.contents in
    meets-starved c.args.dialog.now c.reads.dialog (state c.args.replica.now.archive)
    (state c.reads.replica.archive) c.args.first.now (left c.args.reader.now.inner)
    (left c.reads.reader.inner) (left c.read_piece.new.self.inner)
    (contents c.args.writer.now.inner) (contents c.reads.writer.inner)
    (contents c.send_starved-in-Err-feed.new.writer.inner) c.reads.frames.waiting
    (take c.in_ok-n.n c.read_piece.new.piece) c.send_starved-in-Err-feed.result
    c.reads.invariant.so_far c.in_ok-n.ensures.bytes c.send_starved-in-Err-feed.ensures.tells

pub returns-in-Ok-Some-clause-meets : goal.returns-in-Ok-Some-clause-meets
returns-in-Ok-Some-clause-meets g c =
    let state = g.A.Archive.state in
    let left = g.R.Read.remaining in
    let contents = g.W.Write.contents in
    let fed = meets-fed c.args.dialog.now c.reads.dialog (state c.args.replica.now.archive)
    (state c.reads.replica.archive) c.args.first.now (left c.args.reader.now.inner)
    (left c.reads.reader.inner) (left c.read_piece.new.self.inner)
    (contents c.args.writer.now.inner)
    (contents c.reads.writer.inner) c.reads.frames c.feed-in-reads.new.self
    (take c.in_ok-n.n c.read_piece.new.piece) c.reads.invariant.so_far c.in_ok-n.ensures.bytes
    c.in-Ok-feed.ensures.ok in
    let drained = rw c.in-Ok-Some.field-0-is at c.in-Ok-Some.ensures.drained in
    let leaves = rw c.in-Ok-Some.field-0-is at c.in-Ok-Some.ensures.leaves in
    meets-stop c.args.dialog.now c.reads.dialog c.take_waiting.new.dialog
    (state c.args.replica.now.archive) (state c.reads.replica.archive)
    (state c.take_waiting.new.replica.archive) c.args.first.now (left c.args.reader.now.inner)
    (left c.read_piece.new.self.inner)
    (contents c.args.writer.now.inner) (contents c.reads.writer.inner)
    (contents c.take_waiting.new.writer.inner) c.feed-in-reads.new.self
    c.take_waiting.new.frames c.in-Ok-Some.parted fed drained leaves

pub returns-in-Err-take_waiting-clause-meets : goal.returns-in-Err-take_waiting-clause-meets
returns-in-Err-take_waiting-clause-meets g c =
    let state = g.A.Archive.state in
    let left = g.R.Read.remaining in
    let contents = g.W.Write.contents in
    let fed = meets-fed c.args.dialog.now c.reads.dialog (state c.args.replica.now.archive)
    (state c.reads.replica.archive) c.args.first.now (left c.args.reader.now.inner)
    (left c.reads.reader.inner) (left c.read_piece.new.self.inner)
    (contents c.args.writer.now.inner)
    (contents c.reads.writer.inner) c.reads.frames c.feed-in-reads.new.self
    (take c.in_ok-n.n c.read_piece.new.piece) c.reads.invariant.so_far c.in_ok-n.ensures.bytes
    c.in-Ok-feed.ensures.ok in
    meets-fault c.args.dialog.now c.reads.dialog c.take_waiting.new.dialog
    (state c.args.replica.now.archive) (state c.reads.replica.archive)
    (state c.take_waiting.new.replica.archive) c.args.first.now (left c.args.reader.now.inner)
    (left c.read_piece.new.self.inner)
    (contents c.args.writer.now.inner) (contents c.reads.writer.inner)
    (contents c.take_waiting.new.writer.inner) c.feed-in-reads.new.self
    c.take_waiting.new.frames c.in-Err-take_waiting.fault fed
    c.in-Err-take_waiting.ensures.drained c.in-Err-take_waiting.ensures.leaves

pub reads-smaller : goal.reads-smaller
reads-smaller g c =
    let drained = rw c.in-Ok-None.field-0-is at c.in-Ok-None.ensures.leaves in
    let short = short-cut c.take_waiting.new.frames.waiting drained.short in
    let now = ap (λ (h : ReceivedFrames). length h.waiting) c.in-Ok-feed.ensures.ok in
    let within = c.in_ok-n.ensures.within in
    let more = drained.no_less in
    let most = drained.ready.few in
    omega (
      arith,
      length-append c.reads.frames.waiting (take c.in_ok-n.n c.read_piece.new.piece),
      length-take c.in_ok-n.n c.read_piece.new.piece,
    )

pub reads-preserved : goal.reads-preserved
reads-preserved g c =
    let state = g.A.Archive.state in
    let left = g.R.Read.remaining in
    let contents = g.W.Write.contents in
    let fed = meets-fed c.args.dialog.now c.reads.dialog (state c.args.replica.now.archive)
    (state c.reads.replica.archive) c.args.first.now (left c.args.reader.now.inner)
    (left c.reads.reader.inner) (left c.read_piece.new.self.inner)
    (contents c.args.writer.now.inner)
    (contents c.reads.writer.inner) c.reads.frames c.feed-in-reads.new.self
    (take c.in_ok-n.n c.read_piece.new.piece) c.reads.invariant.so_far c.in_ok-n.ensures.bytes
    c.in-Ok-feed.ensures.ok in
    let drained = rw c.in-Ok-None.field-0-is at c.in-Ok-None.ensures.drained in
    let leaves = rw c.in-Ok-None.field-0-is at c.in-Ok-None.ensures.leaves in
    record {
      ready = leaves.ready;
      sound = leaves.sound;
      short = leaves.short;
      read_faults = c.in_ok-n.ensures.faults ∙ c.reads.invariant.read_faults;
      write_faults = (rw c.in-Ok-None.field-0-is at c.in-Ok-None.ensures.writes.keeps) (λ e. cc)
          ∙ c.reads.invariant.write_faults;
      so_far = meets-drained c.args.dialog.now c.reads.dialog c.take_waiting.new.dialog
          (state c.args.replica.now.archive) (state c.reads.replica.archive)
          (state c.take_waiting.new.replica.archive) c.args.first.now (left c.args.reader.now.inner)
          (left c.read_piece.new.self.inner)
          (contents c.args.writer.now.inner) (contents c.reads.writer.inner)
          (contents c.take_waiting.new.writer.inner) c.feed-in-reads.new.self.waiting
          c.take_waiting.new.frames.waiting fed drained;
    }
