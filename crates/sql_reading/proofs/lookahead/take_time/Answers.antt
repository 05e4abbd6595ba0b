use Rattle.std.proofs.Common.{◌≤◌, length, arith, rules, subst}
use Rattle.sql_reading.specs.Walking.{IsTaken}
use Rattle.sql_reading.proofs.AheadLemmas.{taking_starts, taking_goes, taking_stops, taking_ends}
use Rattle.sql_reading.proofs.lookahead.take_time.Goals as goal

pub loop-init : goal.loop-init
loop-init c = taking_starts c.args.time c.args.records.now.items c.new-taken.result.items
    c.new-taken.ensures.items

pub returns-in_default-clause-value : goal.returns-in_default-clause-value
returns-in_default-clause-value c =
    taking_stops c.args.time c.args.records.now.items c.loop.taken.items c.loop.records.items
    c.pop_at.new.records.items c.loop.counter c.loop.invariant
    (subst (λ o. IsTaken c.args.time c.loop.records.items o c.pop_at.new.records.items)
    c.in_default.is c.pop_at.ensures)

pub loop-preserved : goal.loop-preserved
loop-preserved c =
    taking_goes c.args.time c.args.records.now.items c.loop.taken.items c.loop.records.items
    c.push.new.self.items c.pop_at.new.records.items c.loop.counter c.in-Some.r c.loop.invariant
    (subst (λ o. IsTaken c.args.time c.loop.records.items o c.pop_at.new.records.items) c.in-Some.is
    c.pop_at.ensures) (search rules)

pub returns-clause-value : goal.returns-clause-value
returns-clause-value c =
    let end : length c.args.records.now.items ≤ c.loop.counter =
    omega (arith, c.args.records.now.ok.0) in
    taking_ends c.args.time c.args.records.now.items c.loop.taken.items c.loop.records.items
    c.loop.counter c.loop.invariant end
