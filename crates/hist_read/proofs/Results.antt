-- The two kinds of pages that an answer may be.
use Rattle.std.specs.Prelude.{ℕ, List, map, Option}
use Rattle.ua_binary.specs.declared.values.NodeId.{NodeId}
use Rattle.ua_services.specs.declared.history.HistoryReadResult.{HistoryReadResult}
use Rattle.ua_services.specs.declared.history.HistoryData.TheVariants.{Raw, Modified}
use Rattle.records.specs.Contents.{Content}
use Rattle.hist_read.specs.declared.query.Query.{Query}
use Rattle.hist_read.specs.declared.point.Position.{Position}
use Rattle.hist_read.specs.Reads.{raw, raw_position, modified, modified_position}
use Rattle.hist_read.specs.Showing.{shown, shown_entry, info}
use Rattle.hist_read.specs.Node.{page_of}

abbrev pub raw_result : Content → List ℕ → List ℕ → NodeId → Query → Option Position
    → HistoryReadResult
raw_result R v id node query p =
    let q = query.details in
    page_of (λ xs. Raw (map (shown query.stamps) xs)) (raw_position q p) v id node q p
    (raw R node q p)

abbrev pub modified_result : Content → List ℕ → List ℕ → NodeId → Query → Option Position
    → HistoryReadResult
modified_result R v id node query p =
    let q = query.details in
    page_of (λ es. Modified (map (shown_entry query.stamps) es) (map info es))
    (modified_position q p) v id node q p (modified R node q p)
