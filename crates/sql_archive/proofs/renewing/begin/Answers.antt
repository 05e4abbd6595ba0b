use Rattle.std.proofs.Common.{pos, w64, SFits, arith}
use Rattle.std.proofs.lemmas.Int.{to_z-of_z}
use Rattle.sqlite.specs.State.{HasCleanDisk}
use Rattle.sqlite.specs.Held.{state}
use Rattle.sql_opening.specs.Renewing.{cells1}
use Rattle.sql_archive.proofs.StartLemmas.{never_another}
use Rattle.sql_opening.proofs.RenewLemmas.{renewed_is_own}
use Rattle.sql_archive.proofs.BeginLemmas.{opened_turned, left_turned, begun_turned, crash_turned}
use Rattle.sql_archive.proofs.renewing.begin.Goals as goal

pub over-requires : goal.over-requires
over-requires g c clean = (c.in-Ok.ensures.made clean).0

pub returns-in-Ok-clause-renewed : goal.returns-in-Ok-clause-renewed
returns-in-Ok-clause-renewed g c =
    let old = state g.S.Store c.args.conn in
    let mid = state g.S.Store c.turn.new.conn in
    let fits : SFits w64 (pos c.args.number) = omega (arith, c.number_of-replica.ensures.small) in
    let early : HasCleanDisk mid → HasCleanDisk old =
    λ clean. omega (arith, c.turn.ensures.crash.clean, clean) in
    begun_turned g.S.Store old mid c.args.id c.args.number c.args.rows.now
    (λ clean. (
      c.requires.first (early clean),
      c.requires.meta (early clean),
      c.requires.read (early clean),
    )) c.over.result
    (λ clean. (rw (c.number_of-replica.ensures.same, to_z-of_z w64 (pos c.args.number) fits) at
    (c.in-Ok.ensures.made clean)).1) c.over.ensures.same c.over.ensures.opened

pub returns-in-Ok-clause-wrong : goal.returns-in-Ok-clause-wrong
returns-in-Ok-clause-wrong g c =
    let old = state g.S.Store c.args.conn in
    let mid = state g.S.Store c.turn.new.conn in
    let fits : SFits w64 (pos c.args.number) = omega (arith, c.number_of-replica.ensures.small) in
    never_another g.S.Store old mid c.over.result c.args.id c.args.number
    (λ clean. renewed_is_own c.args.id c.args.number (cells1 old.now.trees) mid.now.trees
    (rw (c.number_of-replica.ensures.same, to_z-of_z w64 (pos c.args.number) fits) at
    (c.in-Ok.ensures.made clean)).1.renewed) c.over.ensures.wrong c.over.ensures.left

pub returns-in-Ok-clause-opened : goal.returns-in-Ok-clause-opened
returns-in-Ok-clause-opened g c =
    let old = state g.S.Store c.args.conn in
    let mid = state g.S.Store c.turn.new.conn in
    let fits : SFits w64 (pos c.args.number) = omega (arith, c.number_of-replica.ensures.small) in
    let early : HasCleanDisk mid → HasCleanDisk old =
    λ clean. omega (arith, c.turn.ensures.crash.clean, clean) in
    opened_turned g.S.Store old mid c.args.id c.args.number c.args.rows.now
    (λ clean. (
      c.requires.first (early clean),
      c.requires.meta (early clean),
      c.requires.read (early clean),
    )) c.over.result
    (rw (c.number_of-replica.ensures.same, to_z-of_z w64 (pos c.args.number) fits) at
    c.turn.ensures.crash) c.over.ensures.opened

pub returns-in-Ok-clause-left : goal.returns-in-Ok-clause-left
returns-in-Ok-clause-left g c =
    let old = state g.S.Store c.args.conn in
    let mid = state g.S.Store c.turn.new.conn in
    let fits : SFits w64 (pos c.args.number) = omega (arith, c.number_of-replica.ensures.small) in
    let early : HasCleanDisk mid → HasCleanDisk old =
    λ clean. omega (arith, c.turn.ensures.crash.clean, clean) in
    left_turned g.S.Store old mid c.args.id c.args.number c.args.rows.now
    (λ clean. (
      c.requires.first (early clean),
      c.requires.meta (early clean),
      c.requires.read (early clean),
    )) c.over.result
    (rw (c.number_of-replica.ensures.same, to_z-of_z w64 (pos c.args.number) fits) at
    c.turn.ensures.crash) c.over.ensures.left

pub returns-in-Err-clause-left : goal.returns-in-Err-clause-left
returns-in-Err-clause-left g c =
    let old = state g.S.Store c.args.conn in
    let mid = state g.S.Store c.turn.new.conn in
    let fits : SFits w64 (pos c.args.number) = omega (arith, c.number_of-replica.ensures.small) in
    let early : HasCleanDisk mid → HasCleanDisk old =
    λ clean. omega (arith, c.turn.ensures.crash.clean, clean) in
    crash_turned g.S.Store old mid c.args.id c.args.number c.args.rows.now
    (λ clean. (
      c.requires.first (early clean),
      c.requires.meta (early clean),
      c.requires.read (early clean),
    )) (state g.S.Store c.fault_of-fault.new.conn)
    (rw (c.number_of-replica.ensures.same, to_z-of_z w64 (pos c.args.number) fits) at
    c.turn.ensures.crash) c.fault_of-fault.ensures.crash
