-- A record of a row's columns.
use Rattle.std.proofs.Common.{rules, inr, ◌≡◌, pos, to_z, of_z, sym, subst}
use Rattle.std.specs.Int.{w64}
use Rattle.std.proofs.lemmas.Int.{to_z-of_z}
use Rattle.sqlite_value.specs.Order.{column}
use Rattle.sqlite_value.specs.declared.value.Value.TheVariants.{Int}
use Rattle.sql_tables.proofs.UnreadLemmas.{row_is, read_by, unspelled}
use Rattle.sql_tables.proofs.decoding.decode.Goals as goal

pub returns-then-not-is_spelled-clause-unread : goal.returns-then-not-is_spelled-clause-unread
returns-then-not-is_spelled-clause-unread c =
    let tick = c.in_ok-marks.marks.tick in
    let fits = sym (to_z-of_z w64 tick c.in_ok-marks.ensures.fits) in
    let name = c.in_ok-marks.ensures.name in
    inr (unspelled c.args.row.now
    (record {
      origin = c.in_ok-marks.marks.origin;
      number = c.in_ok-marks.marks.number;
      tick = to_z w64 (of_z w64 tick);
      node = c.in_ok-node.node;
      time = c.in_ok-marks.marks.time;
      asked = c.in_ok-marks.marks.asked;
      user = c.in_ok-user.user;
      value = c.in_ok-value.value;
    }) c.is_spelled.result
    (row_is c.args.row.now _
    (name.0, name.1, subst (λ t. column c.args.row.now 2 ≡ Int t) fits name.2)
    c.in_ok-node.ensures.found c.in_ok-marks.ensures.place c.in_ok-marks.ensures.asked
    c.in_ok-user.ensures.found c.in_ok-value.ensures.found) c.in_ok-node.ensures.spelled
    c.in_ok-value.ensures.spelled c.is_spelled.ensures (search rules))

pub returns-clause-found : goal.returns-clause-found
returns-clause-found c =
    let tick = c.in_ok-marks.marks.tick in
    let fits = sym (to_z-of_z w64 tick c.in_ok-marks.ensures.fits) in
    let name = c.in_ok-marks.ensures.name in
    read_by c.args.row.now _ (row_is c.args.row.now _
    (name.0, name.1, subst (λ t. column c.args.row.now 2 ≡ Int t) fits name.2)
    c.in_ok-node.ensures.found c.in_ok-marks.ensures.place c.in_ok-marks.ensures.asked
    c.in_ok-user.ensures.found c.in_ok-value.ensures.found) (search rules)
