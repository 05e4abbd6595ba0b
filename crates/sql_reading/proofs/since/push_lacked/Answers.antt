use Rattle.std.proofs.Common.{◌≤◌, ◌+◌, ◌++◌, ◌∙◌, take, ap, rules}
use Rattle.sqlite.specs.Held.{state}
use Rattle.stamp.specs.Numbers.{number_of}
use Rattle.sql_tables.specs.Rows.{content_in}
use Rattle.sql_reading.specs.Lacked.{lacked_of}
use Rattle.sql_tables.proofs.AskLemmas.{asked_nothing, asked_as}
use Rattle.sql_reading.proofs.SinceLemmas.{none_lacked, nothing_pushed, not_behind, behind_lacked}
use Rattle.sql_reading.proofs.since.push_lacked.Goals as goal

pub returns-then-covers : goal.returns-then-covers
returns-then-covers g c =
    let a = state g.S.Store c.args.conn.now in
    let b = state g.S.Store c.push_behind.new.conn in
    asked_as a b c.push_behind.result _ _
    (λ clean told is. is ∙ ap (λ l. take c.args.lacking.now.limit (c.args.found.now.items ++ l))
    (behind_lacked (content_in a.now.trees)
    (number_of c.args.lacking.now.vector.now) c.in-Some.origin c.get-held.result
    c.get-held.ensures.number
    ∙ ap (lacked_of (content_in a.now.trees) (number_of c.args.lacking.now.vector.now))
    c.in-Some.ensures.0))
    c.push_behind.ensures

pub returns : goal.returns
returns g c =
    let a = state g.S.Store c.args.conn.now in
    let v = number_of c.args.lacking.now.vector.now in
    let no : c.get-held.result + 1 ≤ number_of c.args.lacking.now.own.now c.in-Some.origin → ⊥ =
    search rules in
    asked_nothing a _ _ c.requires.idles
    (λ clean.
    nothing_pushed c.args.lacking.now.limit c.args.found.now.items
    (lacked_of (content_in a.now.trees) v c.args.number) c.requires.room
    (none_lacked (content_in a.now.trees) v c.args.number
    (not_behind (content_in a.now.trees)
    (number_of c.args.lacking.now.own.now) v c.args.number c.in-Some.origin c.get-held.result
    (c.requires.own clean) c.in-Some.ensures.0 c.get-held.ensures.number no)))
