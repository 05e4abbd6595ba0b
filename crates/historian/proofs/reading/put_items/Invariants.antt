use Rattle.std.proofs.Common.{◌≡◌, ◌++◌, List, map, length, take}
use Rattle.std.specs.Prelude.{OnOk, IfErr}
use Rattle.ua_binary.specs.declared.fault.BinaryFault.TheVariants.{OutOfMemory}
use Rattle.ua_variant.specs.DataValue.{data_value}
use Rattle.ua_variant.specs.declared.data.DataValue.{DataValue}
use Rattle.ua_services.specs.Attributes.{read_fields}
use Rattle.archive.specs.Store.{StepResult}
use Rattle.archive.specs.Steps.{Refines, each}
use Rattle.historian.specs.Reading.{read_item}
use Rattle.historian.specs.Telling.{Appends}
use Rattle.historian.specs.UserSpaces.{seen_by}
use Rattle.historian.proofs.reading.put_items.Given as goal

abbrev pub invariant-loop-item : goal.invariant-loop-item
invariant-loop-item g l = record {
  told : (used : List StepResult) × (values : List DataValue) × (length values ≡ l.item-index)
      × Refines (g.A.Archive.state l.fn.archive) (g.A.Archive.state l.archive) used
      (each (read_item (seen_by l.space l.terms.access) l.terms.now l.terms.stamps)
      (map read_fields (take l.item-index l.items))) values
      × OnOk l.put (Appends data_value values l.fn.out.items l.out.items);
  err : IfErr l.put (λ fault. fault ≡ OutOfMemory);
}
