use Rattle.std.proofs.Common.{ℕ, arith, ◌+◌, ◌-◌}
use Rattle.std.specs.List.{flat_map, range_with_len}
use Rattle.stamp.specs.Numbers.{number_of}
use Rattle.web_connection.specs.Status.{member_text}
use Rattle.web_connection.proofs.StatusLemmas.{step, numbers-step}
use Rattle.web_connection.proofs.status.members_text.Goals as goal

pub loop-number-preserved : goal.loop-number-preserved
loop-number-preserved c =
    let n = c.loop-number.number in
    let text = λ (replica : ℕ). member_text replica (number_of c.args.vector.now replica) in
    record {
      comes = step c.loop-number.out.items c.put_numbered.new.out.items _
          (flat_map text (range_with_len n (65 - n))) (text n)
          (flat_map text (range_with_len (n + 1) (65 - (n + 1))))
          (numbers-step text n (omega arith)) c.loop-number.invariant.comes
          c.in_ok-put_numbered.ensures;
      from = omega (arith, c.loop-number.invariant.from);
    }
