-- The numbers of faults.
use Rattle.std.specs.Prelude.{ℕ}
use Rattle.counted_io.specs.declared.fault.ServeFault.{ServeFault}
use Rattle.counted_io.specs.declared.fault.ServeFault.TheVariants.{Read, Write, TooLong, OutOfMemory}

-- the number that the program prints for the end of a connection
abbrev pub serve_fault_number : ServeFault → ℕ
serve_fault_number Read = 1
serve_fault_number Write = 2
serve_fault_number TooLong = 3
serve_fault_number OutOfMemory = 4
