-- What a fault is called outside: by its number.
use Rattle.std.specs.Prelude.{ℕ}
use Rattle.ua_space.specs.declared.fault.BuildFault.{BuildFault}
use Rattle.ua_space.specs.declared.fault.BuildFault.TheVariants.{DuplicateNode, BadType, TooMany, OutOfMemory}

abbrev pub build_fault_number : BuildFault → ℕ
build_fault_number DuplicateNode = 1
build_fault_number BadType = 2
build_fault_number TooMany = 3
build_fault_number OutOfMemory = 4
