use Rattle.std.proofs.Common.{rules, ◌≡◌, sym, subst}
use Rattle.sqlite.specs.State.{Survives}
use Rattle.sqlite.specs.Held.{state}
use Rattle.sql_tables.specs.Words.{row_of_cells}
use Rattle.sql_tables.specs.Keeping.{Keeps}
use Rattle.sql_tables.specs.Connections.{tables_of}
use Rattle.sql_tables.proofs.WriteLemmas.{crash_behind}
use Rattle.sql_tables.proofs.insert.keep.Goals as goal

pub returns-in_err-commit-clause-crash : goal.returns-in_err-commit-clause-crash
returns-in_err-commit-clause-crash g c =
    let e = c.in_ok-write_all.ensures in
    let conn = c.args.conn.now in
    let row = row_of_cells c.args.r.now in
    let written = c.write_all.new.tx.conn.now in
    let left : c.conn-2-1.given.0 ≡ c.commit.new.self.0 = search rules in
    subst (λ h. Survives (state g.S.Store conn) (state g.S.Store h)
    (Keeps row (tables_of g.S.Store conn))) (sym left)
    (crash_behind g.S.Store conn (state g.S.Store written) (state g.S.Store c.commit.new.self.0)
    (Keeps row (tables_of g.S.Store conn))
    (subst (λ h. Survives (state g.S.Store h) (state g.S.Store written) (λ _. ⊥))
    c.transaction-tx.ensures.begun e.crash) c.in_err-commit.ensures.survives
    (λ clean. subst (λ h. Keeps row (tables_of g.S.Store h) (tables_of g.S.Store written))
    c.transaction-tx.ensures.begun (e.made clean).3))
