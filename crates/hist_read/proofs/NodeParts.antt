-- Names for parts of the definitions in specs/Node, for the lemmas on these parts.
use Rattle.std.specs.Prelude.{nat_eq, nat_le, Bool, ◌&&◌, ℕ, List, Option, Result, Ok, Err}
use Rattle.std.specs.Option.{option_map_or}
use Rattle.std.specs.Cmp.Lexicographic.{pointwise}
use Rattle.ua_binary.specs.declared.values.NodeId.{NodeId}
use Rattle.ua_binary.specs.declared.codes.Status.{Status}
use Rattle.ua_services.specs.declared.history.ReadRawModifiedDetails.{ReadRawModifiedDetails as Details}
use Rattle.ua_services.specs.declared.history.HistoryReadResult.{HistoryReadResult}
use Rattle.records.specs.Contents.{Content, numbers_of}
use Rattle.records.specs.Same.{is_same, same_node}
use Rattle.archive.specs.Fault.{status_told}
use Rattle.archive.specs.Store.{StepResult}
use Rattle.archive.specs.Steps.{Fallible, give, step}
use Rattle.hist_read.specs.declared.query.Query.{Query}
use Rattle.hist_read.specs.Point.{Point}
use Rattle.ua_services.specs.contracts.history.ReadRawModifiedDetails as details
use Rattle.hist_read.specs.Node.{Behind, page_from, refused_read}

-- the point is one of this archive, of this node, and of what is asked
abbrev pub agrees : List ℕ → NodeId → Details → Point → Bool
agrees id node q p = pointwise nat_eq p.archive id
    && (same_node p.node node && is_same details.the_row.coded p.details q)

-- the answer, or what came in the way of the read
abbrev pub told : HistoryReadResult → StepResult → HistoryReadResult
told answer mark = option_map_or refused_read (status_told mark) answer

-- each of its numbers is among those that the content has
abbrev pub covers : Content → List ℕ → Bool
covers R v = pointwise nat_le v (numbers_of R)

abbrev pub read_from : List ℕ → NodeId → Query → Content → Result (Option Behind) Status
    → Fallible (HistoryReadResult × Content)
read_from id node query R result = elim result [
  | Err status ↦
      give (refused_read status, R)
  | Ok behind ↦
      step (λ mark. (
        option_map_or refused_read (status_told mark) (page_from R id node query behind),
        R,
      ))
]
