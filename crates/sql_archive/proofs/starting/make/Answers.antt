use Rattle.std.proofs.Common.{pos, w64, SFits, arith}
use Rattle.std.proofs.lemmas.Int.{to_z-of_z}
use Rattle.sqlite.specs.State.{HasCleanDisk}
use Rattle.sqlite.specs.Held.{state}
use Rattle.sql_tables.specs.State.{IsNewArchive}
use Rattle.sql_archive.proofs.BeginLemmas.{made_then}
use Rattle.sql_archive.proofs.StartLemmas.{never_wrong, opened_then, left_then}
use Rattle.sql_archive.proofs.starting.make.Goals as goal

pub returns-in-Ok-clause-made : goal.returns-in-Ok-clause-made
returns-in-Ok-clause-made g c =
    let fits : SFits w64 (pos c.args.number) = omega (arith, c.number_of-own.ensures.small) in
    let new : HasCleanDisk (state g.S.Store c.first_open.new.conn)
    → IsNewArchive c.args.id (pos c.args.number)
    (state g.S.Store c.first_open.new.conn).now.trees =
    λ clean. (rw (
      c.number_of-own.ensures.same,
      to_z-of_z w64 (pos c.args.number) fits,
      c.as_bytes.ensures,
    ) at (c.in-Ok.ensures.made clean)).1 in
    made_then g.S.Store (state g.S.Store c.first_open.new.conn)
    (IsNewArchive c.args.id (pos c.args.number)) c.over.result new c.over.ensures.same
    c.over.ensures.opened

pub returns-in-Ok-clause-wrong : goal.returns-in-Ok-clause-wrong
returns-in-Ok-clause-wrong g c =
    let fits : SFits w64 (pos c.args.number) = omega (arith, c.number_of-own.ensures.small) in
    let new : HasCleanDisk (state g.S.Store c.first_open.new.conn)
    → IsNewArchive c.args.id (pos c.args.number)
    (state g.S.Store c.first_open.new.conn).now.trees =
    λ clean. (rw (
      c.number_of-own.ensures.same,
      to_z-of_z w64 (pos c.args.number) fits,
      c.as_bytes.ensures,
    ) at (c.in-Ok.ensures.made clean)).1 in
    never_wrong g.S.Store (state g.S.Store c.args.conn)
    (state g.S.Store c.first_open.new.conn) c.over.result c.args.id c.args.number new
    c.over.ensures.wrong c.over.ensures.left

pub returns-in-Ok-clause-opened : goal.returns-in-Ok-clause-opened
returns-in-Ok-clause-opened g c =
    let fits : SFits w64 (pos c.args.number) = omega (arith, c.number_of-own.ensures.small) in
    opened_then g.S.Store (state g.S.Store c.args.conn)
    (state g.S.Store c.first_open.new.conn) c.over.result
    (IsNewArchive c.args.id (pos c.args.number))
    (rw (c.number_of-own.ensures.same, to_z-of_z w64 (pos c.args.number) fits, c.as_bytes.ensures)
    at c.first_open.ensures.crash) c.over.ensures.opened

pub returns-in-Ok-clause-left : goal.returns-in-Ok-clause-left
returns-in-Ok-clause-left g c =
    let fits : SFits w64 (pos c.args.number) = omega (arith, c.number_of-own.ensures.small) in
    left_then g.S.Store (state g.S.Store c.args.conn)
    (state g.S.Store c.first_open.new.conn) c.over.result
    (IsNewArchive c.args.id (pos c.args.number))
    (rw (c.number_of-own.ensures.same, to_z-of_z w64 (pos c.args.number) fits, c.as_bytes.ensures)
    at c.first_open.ensures.crash) c.over.ensures.left
