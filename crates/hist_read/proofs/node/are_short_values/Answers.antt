use Rattle.std.proofs.Common.{rules, sym, subst, IsTrue}
use Rattle.ua_variant.specs.DataValue.{IsShortData}
use Rattle.hist_read.specs.Short.{IsWritable}
use Rattle.hist_read.proofs.Lists.{all_next, all_taken}
use Rattle.hist_read.proofs.node.are_short_values.Goals as goal

pub loop-value-preserved : goal.loop-value-preserved
loop-value-preserved c = all_next IsShortData c.args.values.now c.loop-value.value-index
    c.value-item.result (search rules) (c.value-item.is)
    (c.is_short_value.ensures.short c.if-not-is_short_value.false) c.loop-value.invariant

pub returns-clause-short : goal.returns-clause-short
returns-clause-short c = λ few. (
  search rules,
  all_taken IsShortData c.args.values.now c.loop-value.value-index
      (search rules) c.loop-value.invariant,
)

pub returns-then-not-is_short_value-clause-fits : goal.returns-then-not-is_short_value-clause-fits
returns-then-not-is_short_value-clause-fits c = λ all.
    subst IsTrue c.if-not-is_short_value.true (c.is_short_value.ensures.fits
    (subst IsWritable (sym c.value-item.is) (all.0 c.loop-value.value-index c.value-item.result
    (search rules))))
