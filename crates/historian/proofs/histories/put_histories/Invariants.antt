use Rattle.std.proofs.Common.{◌≡◌, List, map, length, take}
use Rattle.ua_services.specs.History.{history_read_fields, history_fields, history_read_result}
use Rattle.ua_services.specs.declared.history.HistoryReadResult.{HistoryReadResult}
use Rattle.archive.specs.Store.{StepResult}
use Rattle.archive.specs.Steps.{Refines, each}
use Rattle.historian.specs.Reading.{read_history_of}
use Rattle.historian.specs.Telling.{AppendsAll}
use Rattle.historian.proofs.histories.put_histories.Given as goal

abbrev pub invariant-loop-item : goal.invariant-loop-item
invariant-loop-item g l = record {
  id : (g.A.Archive.state l.archive).id ≡ (g.A.Archive.state l.fn.archive).id;
  told : (used : List StepResult) × (values : List HistoryReadResult)
      × (length values ≡ l.item-index)
      × Refines (g.A.Archive.state l.fn.archive) (g.A.Archive.state l.archive) used
      (each (read_history_of (g.A.Archive.state l.fn.archive).id l.space l.terms.query
      l.terms.release) (map history_read_fields (take l.item-index l.items))) values
      × AppendsAll history_read_result (map history_fields values) l.put l.fn.out.items l.out.items;
}
