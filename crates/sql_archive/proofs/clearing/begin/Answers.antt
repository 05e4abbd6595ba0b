use Rattle.std.proofs.Common.{arith}
use Rattle.sqlite.specs.State.{HasCleanDisk}
use Rattle.sqlite.specs.Held.{state}
use Rattle.sql_archive.proofs.StartLemmas.{never_another}
use Rattle.sql_archive.proofs.ClearLemmas.{own_before, begun_cleared, stored_cleared, kept_cleared, opened_clear, left_clear, crash_clear}
use Rattle.sql_archive.proofs.clearing.begin.Goals as goal

pub returns-in-Ok-clause-cleared : goal.returns-in-Ok-clause-cleared
returns-in-Ok-clause-cleared g c =
    let old = state g.S.Store c.args.conn in
    let mid = state g.S.Store c.clear.new.conn in
    let early : HasCleanDisk mid → HasCleanDisk old =
    λ clean. omega (arith, c.clear.ensures.crash.clean, clean) in
    begun_cleared g.S.Store old mid c.args.id c.args.number
    (λ clean. (
      c.requires.beside (early clean),
      c.requires.bare (early clean),
      c.requires.meta (early clean),
    )) c.over.result
    (λ clean. (c.in-Ok.ensures.made clean).1) c.over.ensures.same c.over.ensures.opened

pub returns-in-Ok-clause-stored : goal.returns-in-Ok-clause-stored
returns-in-Ok-clause-stored g c =
    stored_cleared g.S.Store (state g.S.Store c.args.conn)
    (state g.S.Store c.clear.new.conn) c.args.id c.args.number c.over.result
    (λ clean. (c.in-Ok.ensures.made clean).1) c.over.ensures.stored c.over.ensures.opened

pub returns-in-Ok-clause-kept : goal.returns-in-Ok-clause-kept
returns-in-Ok-clause-kept g c =
    kept_cleared g.S.Store (state g.S.Store c.args.conn)
    (state g.S.Store c.clear.new.conn) c.over.result
    (λ clean. (c.in-Ok.ensures.made clean).1) c.over.ensures.kept c.over.ensures.opened

pub returns-in-Ok-clause-wrong : goal.returns-in-Ok-clause-wrong
returns-in-Ok-clause-wrong g c =
    let old = state g.S.Store c.args.conn in
    let mid = state g.S.Store c.clear.new.conn in
    let early : HasCleanDisk mid → HasCleanDisk old =
    λ clean. omega (arith, c.clear.ensures.crash.clean, clean) in
    never_another g.S.Store old mid c.over.result c.args.id c.args.number
    (λ clean. own_before c.args.id c.args.number old.now.trees mid.now.trees
    (c.in-Ok.ensures.made clean).1 (c.requires.meta (early clean))) c.over.ensures.wrong
    c.over.ensures.left

pub returns-in-Ok-clause-opened : goal.returns-in-Ok-clause-opened
returns-in-Ok-clause-opened g c =
    let old = state g.S.Store c.args.conn in
    let mid = state g.S.Store c.clear.new.conn in
    let early : HasCleanDisk mid → HasCleanDisk old =
    λ clean. omega (arith, c.clear.ensures.crash.clean, clean) in
    opened_clear g.S.Store old mid c.args.id c.args.number
    (λ clean. (
      c.requires.beside (early clean),
      c.requires.bare (early clean),
      c.requires.meta (early clean),
    )) c.over.result c.clear.ensures.crash c.over.ensures.opened

pub returns-in-Ok-clause-left : goal.returns-in-Ok-clause-left
returns-in-Ok-clause-left g c =
    let old = state g.S.Store c.args.conn in
    let mid = state g.S.Store c.clear.new.conn in
    let early : HasCleanDisk mid → HasCleanDisk old =
    λ clean. omega (arith, c.clear.ensures.crash.clean, clean) in
    left_clear g.S.Store old mid c.args.id c.args.number
    (λ clean. (
      c.requires.beside (early clean),
      c.requires.bare (early clean),
      c.requires.meta (early clean),
    )) c.over.result c.clear.ensures.crash c.over.ensures.left

pub returns-in-Err-clause-left : goal.returns-in-Err-clause-left
returns-in-Err-clause-left g c =
    let old = state g.S.Store c.args.conn in
    let mid = state g.S.Store c.clear.new.conn in
    let early : HasCleanDisk mid → HasCleanDisk old =
    λ clean. omega (arith, c.clear.ensures.crash.clean, clean) in
    crash_clear g.S.Store old mid c.args.id c.args.number
    (λ clean. (
      c.requires.beside (early clean),
      c.requires.bare (early clean),
      c.requires.meta (early clean),
    )) (state g.S.Store c.fault_of-fault.new.conn)
    c.clear.ensures.crash c.fault_of-fault.ensures.crash
