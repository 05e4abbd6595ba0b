use Rattle.std.proofs.Common.{◌≡◌, true, rules, inr}
use Rattle.sql_opening.specs.Opening.{comes_next}
use Rattle.sql_opening.proofs.OpenLemmas.{walked_more, no_turn, not_next}
use Rattle.sql_opening.proofs.checking.go_on.Goals as goal

pub returns-clause-walked : goal.returns-clause-walked
returns-clause-walked c rows w =
    let read = c.in_ok-r.ensures.read in
    let next : comes_next c.args.walk.last c.in_ok-r.r ≡ true = search rules in
    walked_more rows c.args.row.now c.args.walk _ c.in_ok-r.r w read.0 read.1 next
    (search rules) c.raised.ensures

pub returns-in_err-r-clause-refused : goal.returns-in_err-r-clause-refused
returns-in_err-r-clause-refused c rows w = let told =
    no_turn rows c.args.row.now c.in_err-r.field-0.0 c.in_err-r.ensures.met in search rules

pub returns-then-not-comes_next-clause-refused : goal.returns-then-not-comes_next-clause-refused
returns-then-not-comes_next-clause-refused c rows w = let read = c.in_ok-r.ensures.read in
    inr (not_next rows c.args.row.now c.args.walk c.in_ok-r.r w read.0 read.1 (search rules))
