-- The numbers of faults, as scripts and logs show them, and what answers tell of them.
use Rattle.std.specs.Prelude.{ℕ, Option, Some, None}
use Rattle.ua_binary.specs.declared.codes.Status.{Status}
use Rattle.ua_binary.specs.declared.codes.TheConstants.Status.{BAD_OUT_OF_MEMORY, BAD_RESOURCE_UNAVAILABLE}
use Rattle.records.specs.declared.fault.RecordFault.{RecordFault}
use Rattle.records.specs.declared.fault.RecordFault.TheVariants as memory
use Rattle.archive.specs.declared.fault.StoreFault.{StoreFault}
use Rattle.archive.specs.declared.fault.StoreFault.TheVariants as store
use Rattle.archive.specs.declared.fault.LearnFault.{LearnFault}
use Rattle.archive.specs.declared.fault.LearnFault.TheVariants as learn
use Rattle.archive.specs.declared.setback.StepError.{StepError}
use Rattle.archive.specs.declared.setback.StepError.TheVariants as setback
use Rattle.archive.specs.Store.{StepResult, Done, NoMemory, RecordStands, StoreFailed}

-- the number that the program prints for a store's fault
abbrev pub store_number : StoreFault → ℕ
store_number fault =
    elim fault [
      | store.OutOfMemory ↦ 1
      | store.Refused ↦ 2
      | store.WrongReplica ↦ 3
      | store.WrongArchive ↦ 4
      | store.Broken ↦ 5
    ]

abbrev pub learn_number : LearnFault → ℕ
learn_number (learn.Gap held got) = 1
learn_number learn.Clash = 2
learn_number learn.TickNotRising = 3
learn_number learn.TickTooFar = 4
learn_number (learn.Store fault) = 5

-- a fault of a record that a store met
abbrev pub of_record : RecordFault → StoreFault
of_record memory.OutOfMemory = store.OutOfMemory
of_record fault = store.Refused

-- ---- what is told of what came in the way of a step

-- want of memory, the store's too, and other faults of the store (Part 4, 7.39)
abbrev pub store_fault_status : StoreFault → Status
store_fault_status fault =
    elim fault [ store.OutOfMemory ↦ BAD_OUT_OF_MEMORY | _ ↦ BAD_RESOURCE_UNAVAILABLE ]

-- the status that a step's result is told by; none where it was done
abbrev pub status_told : StepResult → Option Status
status_told mark =
    elim mark [
      | Done ↦ None
      | NoMemory ↦ Some BAD_OUT_OF_MEMORY
      | RecordStands ↦ Some (store_fault_status store.Broken)
      | StoreFailed fault ↦ Some (store_fault_status fault)
    ]

abbrev pub mark_of : StepError → StepResult
mark_of setback.OutOfMemory = NoMemory
mark_of (setback.Store fault) = StoreFailed fault

abbrev pub step_error_status : StepError → Status
step_error_status setback.OutOfMemory = BAD_OUT_OF_MEMORY
step_error_status (setback.Store fault) = store_fault_status fault
