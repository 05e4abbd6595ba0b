-- What a fault of a record is told as that came only for want of memory.
use Rattle.std.proofs.Common.{◌≡◌, Ok, Err, refl, sym, ap, ◌∙◌}
use Rattle.sqlite.specs.State.{State, HasCleanDisk}
use Rattle.records.specs.declared.fault.RecordFault.{RecordFault}
use Rattle.records.specs.declared.fault.RecordFault.TheVariants as memory
use Rattle.archive.specs.Fault.{of_record}
use Rattle.sql_tables.specs.State.{LeavesUnchanged}
use Rattle.sql_reading.proofs.ReadableLemmas.{never_opening}

pub memory_told : {A B : Type 0} (a b : State) (v : A) (P : A → Type 0) (fault : RecordFault)
    (Q : B → Type 0) → LeavesUnchanged a b (Ok v) P → (HasCleanDisk b → fault ≡ memory.OutOfMemory)
    → LeavesUnchanged {A = B} a b (Err (of_record fault)) Q
memory_told a b v P fault Q h wanting = record {
  answer = λ clean. tt;
  kept = λ clean ok. h.kept clean refl;
  met = never_opening fault;
  refused = λ clean is. absurd (let bad = sym (ap of_record (wanting clean)) ∙ is in cc);
  crash = h.crash;
}
