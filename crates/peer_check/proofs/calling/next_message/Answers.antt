use Rattle.std.proofs.Common.{◌≡◌, ℕ, List, [], ◌++◌, ◌∙◌, refl, sym, append_assoc, arith, length, take, ap}
use Rattle.std.proofs.KnownBytes.{Consumes-nil, Consumes-trans}
use Rattle.std.proofs.lemmas.List.{append-nil, length-append, length-take}
use Rattle.exchange.specs.Frames.{ReceivedFrames}
use Rattle.ua_peers.proofs.Talking.{short-cut}
use Rattle.peer_check.proofs.calling.next_message.Goals as goal

pub reads-init : goal.reads-init
reads-init g c = record {
  sound = c.requires;
  came = [];
  read = Consumes-nil (g.R.Read.remaining c.args.reader.now.inner);
  waits = sym (append-nil c.args.frames.now.waiting);
  faults = refl;
}

pub reads-preserved : goal.reads-preserved
reads-preserved g c =
    let none = c.first_message.ensures.none c.in-None.is in
    let piece = take c.in_ok-n.n c.read_piece.new.piece in
    let fed = c.in_ok-feed.ensures.ok in
    let same : c.feed.new.self ≡ record c.reads.frames { waiting = c.reads.frames.waiting ++ piece } =
    fed ∙ ap (λ (h : ReceivedFrames). let r : ReceivedFrames =
    record h { waiting = h.waiting ++ piece } in r) none.0 in
    record {
      sound = ap (λ (h : ReceivedFrames). h.failed) same ∙ c.reads.invariant.sound;
      came = c.reads.invariant.came ++ piece;
      read = Consumes-trans (g.R.Read.remaining c.args.reader.now.inner)
          (g.R.Read.remaining c.reads.reader.inner) (g.R.Read.remaining c.read_piece.new.self.inner)
          c.reads.invariant.came piece c.reads.invariant.read c.in_ok-n.ensures.bytes;
      waits = ap (λ (h : ReceivedFrames). h.waiting) same
          ∙ ap (λ (w : List ℕ). w ++ piece) c.reads.invariant.waits
          ∙ append_assoc c.args.frames.now.waiting c.reads.invariant.came piece;
      faults = c.in_ok-n.ensures.faults ∙ c.reads.invariant.faults;
    }

pub reads-smaller : goal.reads-smaller
reads-smaller g c =
    let none = c.first_message.ensures.none c.in-None.is in
    let fed = ap (λ (h : ReceivedFrames). length h.waiting) c.in_ok-feed.ensures.ok in
    let same = ap (λ (h : ReceivedFrames). length h.waiting) none.0 in
    let piece = take c.in_ok-n.n c.read_piece.new.piece in
    omega (
      arith,
      fed,
      same,
      short-cut c.reads.frames.waiting none.1,
      length-append c.first_message.new.frames.waiting piece,
      length-take c.in_ok-n.n c.read_piece.new.piece,
      c.in_ok-n.ensures.within,
      c.if-n-eq0.false,
    )
