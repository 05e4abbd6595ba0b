use Rattle.std.proofs.Common.{◌≡◌, arith, length}
use Rattle.std.proofs.lemmas.List.{ext_get_or}
use Rattle.sqlite_value.specs.declared.value.Value.TheVariants.{Null}
use Rattle.sql_opening.proofs.migrate.is_same_row.Goals as goal

pub returns : goal.returns
returns c told =
    let lengths : length c.args.old.now ≡ length c.args.new.now =
    omega (
      arith,
      c.column_count-width.ensures,
      c.column_count.ensures,
      c.if-width-column_count.false,
    ) in
    ext_get_or Null c.args.old.now c.args.new.now lengths
    (λ i within. c.loop-at.invariant i (omega
    (arith, within, c.column_count-width.ensures, c.loop-at-test.false)))
