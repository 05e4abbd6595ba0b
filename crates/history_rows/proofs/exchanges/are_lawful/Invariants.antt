use Rattle.std.proofs.Common.{take}
use Rattle.std.specs.List.{AllByRecursion}
use Rattle.records.specs.Spelling.{IsLawfulRecord}
use Rattle.history_rows.proofs.exchanges.are_lawful.Given as goal

abbrev pub invariant-loop-held : goal.invariant-loop-held
invariant-loop-held l = AllByRecursion IsLawfulRecord (take l.held-index l.records)
