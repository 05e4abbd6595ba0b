use Rattle.std.proofs.Common.{◌≡◌, ◌++◌, length, subst, sym, ap, ◌∙◌, arith, length-append}
use Rattle.std.specs.Io.KnownBytes.{Consumes}
use Rattle.std.proofs.KnownBytes.{Consumes-nil, Consumes-trans}
use Rattle.ua_client.proofs.client.read_exactly.Goals as goal

pub reads-init : goal.reads-init
reads-init g c =
    let unread = g.R.Read.remaining c.args.reader.now.inner in
    let none = c.new-bytes.ensures.items in
    record {
      read = subst (Consumes unread unread) (sym none) (Consumes-nil unread);
      within = omega (arith, ap length none);
    }

pub reads-preserved : goal.reads-preserved
reads-preserved g c =
    let remaining = g.R.Read.remaining in
    let more = c.in_ok-part.part.items in
    let grown : c.extend_from_slice.new.self.items ≡ c.reads.bytes.items ++ more =
    c.in_ok-extend_from_slice.ensures.items
    ∙ ap (λ b. c.reads.bytes.items ++ b) c.as_slice.ensures.value in
    record {
      read = subst
          (Consumes (remaining c.args.reader.now.inner) (remaining c.read_part.new.reader.inner))
          (sym grown)
          (Consumes-trans (remaining c.args.reader.now.inner) (remaining c.reads.reader.inner)
          (remaining c.read_part.new.reader.inner) c.reads.bytes.items more
          c.reads.invariant.read c.in_ok-part.ensures.bytes);
      within = omega (
        arith,
        ap length grown,
        length-append c.reads.bytes.items more,
        c.in_ok-part.ensures.within.1,
        c.reads.invariant.within,
      );
    }
