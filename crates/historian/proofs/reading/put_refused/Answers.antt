use Rattle.std.proofs.Common.{subst}
use Rattle.ua_binary.specs.Format.{Puts}
use Rattle.ua_binary.specs.declared.fault.BinaryFault.TheVariants.{OutOfMemory}
use Rattle.std.specs.Prelude.{IfOk}
use Rattle.ua_variant.specs.DataValue.{data_value, IsDataValue}
use Rattle.ua_variant.specs.declared.data.DataValue.{DataValue}
use Rattle.historian.proofs.reading.put_refused.Goals as goal

pub returns-clause-puts : goal.returns-clause-puts
returns-clause-puts c stamps now =
    subst (λ (value : DataValue). Puts OutOfMemory c.put_data_value.result c.args.out.now.items
    c.put_data_value.new.out.items (data_value.canon value))
    (c.status_alone.ensures.told stamps now) c.put_data_value.ensures.puts

pub returns-clause-spelled : goal.returns-clause-spelled
returns-clause-spelled c stamps now =
    subst (λ (value : DataValue). IfOk c.put_data_value.result (λ _. IsDataValue value))
    (c.status_alone.ensures.told stamps now) c.put_data_value.ensures.spelled
