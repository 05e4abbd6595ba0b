use Rattle.std.proofs.Common.{◌≡◌, ◌∷◌, List, refl, subst, arith, []}
use Rattle.sqlite_value.specs.Order.{Row}
use Rattle.sqlite.specs.Effect.{Database}
use Rattle.sqlite.specs.Held.{state}
use Rattle.sql_tables.specs.Agreeing.{ShowsOf, ShowsSome}
use Rattle.sql_tables.proofs.AnsweredLemmas.{answered_in, answered_plain}
use Rattle.sql_tables.proofs.AgreeLemmas.{shows_of}
use Rattle.sql_tables.proofs.integrity.shows_none.Goals as goal

some_of : (sql : List Rattle.std.specs.Prelude.ℕ) (d : Database) (rows : List Row)
    → (rows ≡ [] → ⊥) → ShowsOf sql d rows → ShowsSome sql d
some_of sql d [] some h = absurd (some refl)
some_of sql d (r ∷ rows) some h = (r, rows, h)

pub returns : goal.returns
returns g c =
    let e = c.in_ok-rows.ensures in
    let old = state g.S.Store c.args.conn.now in
    record {
      answer = λ clean.
          let tables = (c.requires.idles (omega (arith, e.crash.clean, clean))).tables in
          let answer = answered_in old.now.schema c.args.sql.now [] tables c.requires.answered in
          let shown = shows_of c.args.sql.now old
          (state g.S.Store c.select.new.conn) c.in_ok-rows.rows.items
          (answered_plain old.now.schema c.args.sql.now [] answer) answer.unlisted
          (e.answer clean) in (
            λ none.
                let empty : c.in_ok-rows.rows.items ≡ [] =
                (rw c.deref.ensures.value at c.are_none.ensures.none) none in
                subst (λ rows. ShowsOf c.args.sql.now old.now rows) empty shown,
            λ more. some_of c.args.sql.now old.now c.in_ok-rows.rows.items
                ((rw c.deref.ensures.value at c.are_none.ensures.some) more) shown,
          );
      kept = λ clean ok. e.kept clean refl;
      met = tt;
      refused = λ clean. tt;
      crash = e.crash;
    }
