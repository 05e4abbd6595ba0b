use Rattle.std.proofs.Common.{ℕ, arith, ◌+◌, ◌-◌}
use Rattle.std.specs.List.{flat_map, range_with_len}
use Rattle.stamp.specs.Numbers.{number_of}
use Rattle.settings_check.specs.Stored.{record_line}
use Rattle.settings_check.proofs.TextLemmas.{step}
use Rattle.settings_check.proofs.ValueLemmas.{numbers-step}
use Rattle.settings_check.proofs.values.put_records.Goals as goal

pub loop-number-preserved : goal.loop-number-preserved
loop-number-preserved c =
    let n = c.loop-number.number in
    let line = λ (replica : ℕ). record_line replica (number_of c.args.vector.now replica) in
    record {
      counts = step c.loop-number.out.items c.put_numbered.new.out.items _
          (flat_map line (range_with_len n (65 - n))) (line n)
          (flat_map line (range_with_len (n + 1) (65 - (n + 1))))
          (numbers-step line n (omega arith)) c.loop-number.invariant.counts
          c.in_ok-put_numbered.ensures;
      from = omega (arith, c.loop-number.invariant.from);
    }
