use Rattle.std.proofs.Common.{◌≡◌, ◌≤◌, ℕ, sym, subst, arith, take}
use Rattle.std.specs.List.{flat_map}
use Rattle.sqlite.specs.Held.{state}
use Rattle.stamp.specs.Numbers.{number_of}
use Rattle.archive.specs.Reading.{times}
use Rattle.sql_tables.specs.Rows.{content_in}
use Rattle.sql_reading.specs.Walking.{moment_at, stretch, values_at}
use Rattle.sql_tables.proofs.AskLemmas.{asked_as}
use Rattle.sql_reading.proofs.CurrentLemmas.{cut_all}
use Rattle.sql_reading.proofs.ranges.live_values.Goals as goal

pub returns-then-at_least : goal.returns-then-at_least
returns-then-at_least g c =
    let a = state g.S.Store c.args.conn.now in
    let b = state g.S.Store c.current_values.new.conn in
    let R = content_in a.now.trees in
    let v = number_of c.args.reading.now.within.now in
    let s = c.args.span.start in
    let covers : (o : ℕ) → number_of c.args.latest.now o ≤ v o =
    c.at_least.ensures.0 c.if-at_least.true in
    asked_as a b c.current_values.result _ _
    (λ clean w is. subst (λ S. w.items
    ≡ take c.args.limit (flat_map (values_at S c.args.reading.now.node.now)
    (stretch c.args.reading.now.direction (moment_at s.ticks s.pico) c.args.span.far
    (times R c.args.reading.now.node.now))))
    (sym (cut_all R v (λ o. let last =
    c.requires.latest (omega (arith, c.current_values.ensures.crash.clean, clean)) o in
    omega (arith, last, covers o)))) is) c.current_values.ensures
