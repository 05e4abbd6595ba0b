use Rattle.std.proofs.Common.{◌∙◌, Some, None, Ok, Err, arith, refl}
use Rattle.ua_connection.specs.Environments.{before}
use Rattle.ua_connection.proofs.Outsides.{empty_environment}
use Rattle.ua_connection.proofs.Flow.{into-none, into-then, no-less-then, shorter-then}
use Rattle.ua_connection.proofs.serving.answer_some.Goals as goal

pub items-init : goal.items-init
items-init g c = record {
  small = c.requires;
  settings = refl;
  short = omega arith;
  no_less = omega arith;
  so_far = (
    empty_environment,
    g.met.C.Clock.gave_none c.args.clock.now,
    into-none c.args.server.now.settings
        (g.A.Archive.state c.args.server.now.replica.archive) c.args.connection.now
        c.args.out.now.items,
  );
}

pub returns-in-Ok-NeedsInput-clause-turned : goal.returns-in-Ok-NeedsInput-clause-turned
returns-in-Ok-NeedsInput-clause-turned g c =
    let so = c.items.invariant.so_far in
    let turned = rw c.items.invariant.settings at
    (rw c.in-Ok-NeedsInput.field-0-is at c.in-Ok-NeedsInput.ensures.turned) in
    let state = g.A.Archive.state in (
      before so.0 turned.0,
      g.met.C.Clock.gave_more _ _ _ _ _ so.1 turned.1,
      into-then c.args.server.now.settings (state c.args.server.now.replica.archive)
          (state c.items.server.replica.archive)
          (state c.advance.new.server.replica.archive) c.args.connection.now c.items.connection
          c.advance.new.self so.0 turned.0 c.args.out.now.items c.items.out.items
          c.advance.new.out.items None so.2 turned.2,
    )

pub returns-in-Ok-NeedsInput-clause-shorter : goal.returns-in-Ok-NeedsInput-clause-shorter
returns-in-Ok-NeedsInput-clause-shorter g c =
    no-less-then c.args.connection.now c.items.connection c.advance.new.self
    c.items.invariant.no_less (rw c.in-Ok-NeedsInput.field-0-is at
    c.in-Ok-NeedsInput.ensures.shorter)

pub returns-in-Ok-Ended-clause-turned : goal.returns-in-Ok-Ended-clause-turned
returns-in-Ok-Ended-clause-turned g c =
    let so = c.items.invariant.so_far in
    let turned = rw c.items.invariant.settings at
    (rw c.in-Ok-Ended.field-0-is at c.in-Ok-Ended.ensures.turned) in
    let state = g.A.Archive.state in (
      before so.0 turned.0,
      g.met.C.Clock.gave_more _ _ _ _ _ so.1 turned.1,
      into-then c.args.server.now.settings (state c.args.server.now.replica.archive)
          (state c.items.server.replica.archive)
          (state c.advance.new.server.replica.archive) c.args.connection.now c.items.connection
          c.advance.new.self so.0 turned.0 c.args.out.now.items c.items.out.items
          c.advance.new.out.items
          (Some (Ok c.in-Ok-Ended.served)) so.2 turned.2,
    )

pub returns-in-Err-clause-turned : goal.returns-in-Err-clause-turned
returns-in-Err-clause-turned g c =
    let so = c.items.invariant.so_far in
    let turned = rw c.items.invariant.settings at c.in-Err.ensures.turned in
    let state = g.A.Archive.state in (
      before so.0 turned.0,
      g.met.C.Clock.gave_more _ _ _ _ _ so.1 turned.1,
      into-then c.args.server.now.settings (state c.args.server.now.replica.archive)
          (state c.items.server.replica.archive)
          (state c.advance.new.server.replica.archive) c.args.connection.now c.items.connection
          c.advance.new.self so.0 turned.0 c.args.out.now.items c.items.out.items
          c.advance.new.out.items
          (Some (Err c.in-Err.fault)) so.2 turned.2,
    )

pub returns-then-len-ge-PIECE-clause-turned : goal.returns-then-len-ge-PIECE-clause-turned
returns-then-len-ge-PIECE-clause-turned g c =
    let so = c.items.invariant.so_far in
    let turned = rw c.items.invariant.settings at
    (rw c.in-Ok-Acknowledged.field-0-is at c.in-Ok-Acknowledged.ensures.turned) in
    let state = g.A.Archive.state in (
      before so.0 turned.0,
      g.met.C.Clock.gave_more _ _ _ _ _ so.1 turned.1,
      into-then c.args.server.now.settings (state c.args.server.now.replica.archive)
          (state c.items.server.replica.archive)
          (state c.advance.new.server.replica.archive) c.args.connection.now c.items.connection
          c.advance.new.self so.0 turned.0 c.args.out.now.items c.items.out.items
          c.advance.new.out.items None so.2 turned.2,
    )

pub returns-then-len-ge-PIECE-clause-shorter : goal.returns-then-len-ge-PIECE-clause-shorter
returns-then-len-ge-PIECE-clause-shorter g c =
    shorter-then c.args.connection.now c.items.connection c.advance.new.self c.items.invariant.short
    c.items.invariant.no_less (rw c.in-Ok-Acknowledged.field-0-is at
    c.in-Ok-Acknowledged.ensures.shorter)

pub returns-then-len-ge-PIECE-2-clause-turned : goal.returns-then-len-ge-PIECE-2-clause-turned
returns-then-len-ge-PIECE-2-clause-turned g c =
    let so = c.items.invariant.so_far in
    let turned = rw c.items.invariant.settings at
    (rw c.in-Ok-Continues.field-0-is at c.in-Ok-Continues.ensures.turned) in
    let state = g.A.Archive.state in (
      before so.0 turned.0,
      g.met.C.Clock.gave_more _ _ _ _ _ so.1 turned.1,
      into-then c.args.server.now.settings (state c.args.server.now.replica.archive)
          (state c.items.server.replica.archive)
          (state c.advance.new.server.replica.archive) c.args.connection.now c.items.connection
          c.advance.new.self so.0 turned.0 c.args.out.now.items c.items.out.items
          c.advance.new.out.items None so.2 turned.2,
    )

pub returns-then-len-ge-PIECE-2-clause-shorter : goal.returns-then-len-ge-PIECE-2-clause-shorter
returns-then-len-ge-PIECE-2-clause-shorter g c =
    shorter-then c.args.connection.now c.items.connection c.advance.new.self c.items.invariant.short
    c.items.invariant.no_less (rw c.in-Ok-Continues.field-0-is at c.in-Ok-Continues.ensures.shorter)

pub items-preserved-else-len-ge-PIECE : goal.items-preserved-else-len-ge-PIECE
items-preserved-else-len-ge-PIECE g c =
    let so = c.items.invariant.so_far in
    let turned = rw c.items.invariant.settings at
    (rw c.in-Ok-Acknowledged.field-0-is at c.in-Ok-Acknowledged.ensures.turned) in
    let less = shorter-then c.args.connection.now c.items.connection c.advance.new.self
    c.items.invariant.short c.items.invariant.no_less
    (rw c.in-Ok-Acknowledged.field-0-is at c.in-Ok-Acknowledged.ensures.shorter) in
    let state = g.A.Archive.state in
    record {
      small = c.in-Ok-Acknowledged.ensures.small;
      settings = c.in-Ok-Acknowledged.ensures.settings ∙ c.items.invariant.settings;
      short = omega (arith, less.0);
      no_less = less.1;
      so_far = (
        before so.0 turned.0,
        g.met.C.Clock.gave_more _ _ _ _ _ so.1 turned.1,
        into-then c.args.server.now.settings (state c.args.server.now.replica.archive)
            (state c.items.server.replica.archive)
            (state c.advance.new.server.replica.archive) c.args.connection.now c.items.connection
            c.advance.new.self so.0 turned.0 c.args.out.now.items c.items.out.items
            c.advance.new.out.items None so.2 turned.2,
      );
    }

pub items-preserved : goal.items-preserved
items-preserved g c =
    let so = c.items.invariant.so_far in
    let turned = rw c.items.invariant.settings at
    (rw c.in-Ok-Continues.field-0-is at c.in-Ok-Continues.ensures.turned) in
    let less = shorter-then c.args.connection.now c.items.connection c.advance.new.self
    c.items.invariant.short c.items.invariant.no_less
    (rw c.in-Ok-Continues.field-0-is at c.in-Ok-Continues.ensures.shorter) in
    let state = g.A.Archive.state in
    record {
      small = c.in-Ok-Continues.ensures.small;
      settings = c.in-Ok-Continues.ensures.settings ∙ c.items.invariant.settings;
      short = omega (arith, less.0);
      no_less = less.1;
      so_far = (
        before so.0 turned.0,
        g.met.C.Clock.gave_more _ _ _ _ _ so.1 turned.1,
        into-then c.args.server.now.settings (state c.args.server.now.replica.archive)
            (state c.items.server.replica.archive)
            (state c.advance.new.server.replica.archive) c.args.connection.now c.items.connection
            c.advance.new.self so.0 turned.0 c.args.out.now.items c.items.out.items
            c.advance.new.out.items None so.2 turned.2,
      );
    }
