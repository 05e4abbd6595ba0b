-- Whole reads, and pages that are read one after the other.
use Rattle.std.specs.Prelude.{◌≡◌, ℕ, zero, suc, ◌+◌, ◌≤◌, if◌then◌else◌, List, [], ◌∷◌, map, take, length, Option, Some, None}
use Rattle.std.specs.List.{flat_map}
use Rattle.ua_binary.specs.declared.values.NodeId.{NodeId}
use Rattle.ua_binary.specs.Binary.{IsNodeId}
use Rattle.ua_variant.specs.declared.data.DataValue.{DataValue}
use Rattle.ua_services.specs.declared.history.ReadRawModifiedDetails.{ReadRawModifiedDetails as Details}
use Rattle.ua_services.specs.declared.history.ModificationInfo.{ModificationInfo}
use Rattle.ua_services.specs.declared.history.HistoryData.{HistoryData}
use Rattle.ua_services.specs.declared.history.HistoryData.TheVariants.{Raw, Modified, Nothing}
use Rattle.ua_services.specs.declared.history.HistoryReadResult.{HistoryReadResult}
use Rattle.records.specs.Contents.{Content, AreCompatible, vec}
use Rattle.archive.specs.Store.{Done, IsLawfulContent}
use Rattle.archive.specs.Steps.{Yields}
use Rattle.hist_read.specs.declared.query.Query.{Query}
use Rattle.hist_read.specs.Asking.{has_both}
use Rattle.hist_read.specs.Point.{IsDetails}
use Rattle.hist_read.specs.Reads.{raw, modified}
use Rattle.hist_read.specs.Node.{read_node}
use Rattle.hist_read.specs.Showing.{shown, shown_entry, info}

-- ---- the whole

-- where a time is open, no more than the count
abbrev pub limited : {X : Type 0} → Details → List X → List X
limited q xs = if has_both q then xs else take q.num_values_per_node xs

-- the whole read of a content, as it is shown
abbrev pub whole_read : Content → NodeId → Query → HistoryData
whole_read R node query =
    let q = query.details in
    let entries = limited q (modified R node q None) in
    if q.is_read_modified then Modified (map (shown_entry query.stamps) entries) (map info entries)
    else Raw (map (shown query.stamps) (limited q (raw R node q None)))

-- ---- pages

-- the values of an answer
abbrev pub values_in : HistoryData → List DataValue
values_in v = elim v [ Nothing ↦ [] | Raw shown ↦ shown | Modified shown infos ↦ shown ]

-- the modification infos of an answer
abbrev pub infos_in : HistoryData → List ModificationInfo
infos_in v = elim v [ Nothing ↦ [] | Raw shown ↦ [] | Modified shown infos ↦ infos ]

-- what was answered, and over which content
abbrev pub Page : Type 0
Page = record { content : Content; result : HistoryReadResult }

-- the page was read from this point, with nothing in the way
abbrev pub IsRead : List ℕ → NodeId → Query → Option (List ℕ) → Page → Type 0
IsRead id node query point page =
    Yields (read_node id node query point page.content) (Done ∷ []) (page.result, page.content)

-- pages read one after the other, each over a content of its own: the first from this point, each
-- further one from the point that the one before it answered, until one answers none
abbrev pub Chain : List ℕ → NodeId → Query → Option (List ℕ) → List Page → Type 0
Chain id node query point [] = ⊥
Chain id node query point (page ∷ []) =
    IsRead id node query point page × (page.result.continuation_point ≡ None)
Chain id node query point (page ∷ next ∷ pages) =
    IsRead id node query point page × (bytes : List ℕ)
    × (page.result.continuation_point ≡ Some bytes)
    × Chain id node query (Some bytes) (next ∷ pages)

-- the values of all pages, joined
abbrev pub joined_values : List Page → List DataValue
joined_values pages = flat_map (λ page. values_in page.result.history_data) pages

-- what is told of modifications on all pages, joined
abbrev pub joined_infos : List Page → List ModificationInfo
joined_infos pages = flat_map (λ page. infos_in page.result.history_data) pages

-- a content that covers another one's vector: that one after whatever was learned or updated, or
-- what another replica of a consistent world holds
pub record IsLater (R S : Content) : Type 0 where
  pub lawful : IsLawfulContent S
  pub compatible : AreCompatible R S
  pub covers : (origin : ℕ) → vec R origin ≤ vec S origin

-- what the types of an id, a node and details see to
pub record IsAsked (id : List ℕ) (node : NodeId) (q : Details) : Type 0 where
  pub sixteen : length id ≡ 16
  pub spelled : IsNodeId node
  pub details : IsDetails q

-- the contents from this place on, so many of them
abbrev pub contents_from : (ℕ → Content) → ℕ → ℕ → List Content
contents_from contents start zero = []
contents_from contents start (suc count) = contents start ∷ contents_from contents (start + 1) count
