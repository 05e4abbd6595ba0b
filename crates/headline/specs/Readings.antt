-- Reads of a node's history in an execution, page by page, and what they show of a record.
use Rattle.std.specs.Prelude.{◌≡◌, ℕ, ℤ, Bool, true, false, List, ◌∷◌, map, filter, slice_get, Some, None, Ok}
use Rattle.std.specs.List.{AllByRecursion}
use Rattle.std.specs.Ordering.{int_eq}
use Rattle.ua_binary.specs.declared.values.NodeId.{NodeId}
use Rattle.ua_services.specs.declared.attributes.TimestampsToReturn.{TimestampsToReturn}
use Rattle.ua_services.specs.declared.history.ReadRawModifiedDetails.{ReadRawModifiedDetails as Details}
use Rattle.records.specs.Lists.{Has}
use Rattle.records.specs.Records.{live_value}
use Rattle.records.specs.Contents.{Content}
use Rattle.records.specs.declared.shown.Held.{Held}
use Rattle.records.specs.declared.shown.Entry.{Entry}
use Rattle.hist_read.specs.declared.query.Query.{Query}
use Rattle.hist_read.specs.Asking.{has_both}
use Rattle.hist_read.specs.Reads.{in_body, value_items}
use Rattle.hist_read.specs.Showing.{shown, shown_entry, info}
use Rattle.archive.specs.Store.{IsLawfulContent}
use Rattle.hist_read.specs.Node.{checked_read}
use Rattle.hist_read.specs.Chains.{Page, Chain, joined_values, joined_infos, whole_read, values_in, infos_in, IsLater, IsAsked, contents_from}
use Rattle.exchange.specs.Worlds.{ReplicaState}
use Rattle.headline.specs.Executions.{Execution, IsReachable, Covers}

-- ---- pages

-- a page was read at some replica, at some time, that covers what this one held
abbrev pub IsPageBehind : Execution → ReplicaState → Page → Type 0
IsPageBehind p t page =
    (u : ReplicaState) × IsReachable p u × (page.content ≡ u.content) × Covers u t

-- pages of one read: the first at this replica, each further one from the point that the one before
-- it answered, until one answers none
abbrev pub IsReading : Execution → ReplicaState → NodeId → Query → List Page → Type 0
IsReading p t node query pages =
    (first : Page) × (further : List Page) × (pages ≡ first ∷ further) × (first.content ≡ t.content)
    × AllByRecursion (IsPageBehind p t) further × Chain t.id node query None pages

-- ---- what they show

-- both times are given, and this one lies in the stretch between them
abbrev pub Reaches : Details → ℤ → Type 0
Reaches q time = (has_both q ≡ true) × (in_body q time ≡ true)

-- all moments of one time, live values or modifications
abbrev pub at_one_time : (ticks : ℤ) → (modified : Bool) → Details
at_one_time ticks modified =
    record {
      is_read_modified = modified;
      start_time = record { 0 = ticks };
      end_time = record { 0 = ticks };
      num_values_per_node = 0;
      return_bounds = false;
    }

-- raw values are asked for, without bounds
abbrev pub IsOfRaw : Details → Type 0
IsOfRaw q = (q.is_read_modified ≡ false) × (q.return_bounds ≡ false)

-- the modification is shown: its value, and in the same place what is told of it
abbrev pub ShowsModification : TimestampsToReturn → List Page → Entry → Type 0
ShowsModification stamps pages e =
    (place : ℕ) × (slice_get (joined_values pages) place ≡ Some (shown_entry stamps e))
    × (slice_get (joined_infos pages) place ≡ Some (info e))

-- live values that are held of the node are shown, and nothing else, of which these are the ones of
-- this time
abbrev pub ShowsAt : TimestampsToReturn → List Page → Content → NodeId → ℤ → List Held → Type 0
ShowsAt stamps pages R node time held =
    (live : List Held) × ((h : Held) → Has live h → live_value R node h.time ≡ Some h)
    × (joined_values pages ≡ map (shown stamps) (value_items live))
    × (filter (λ h. int_eq h.time time) live ≡ held)

-- ---- pages of one read, by what they are read of

-- pages that are read of later and later contents show the whole of the first one
abbrev pub ShowWhole : Details → Type 0
ShowWhole q =
    (id : List ℕ) (node : NodeId) (stamps : TimestampsToReturn) (first : Page) (pages : List Page)
    → IsAsked id node q → IsLawfulContent first.content
    → AllByRecursion (λ page. IsLater first.content page.content) pages
    → Chain id node (record { details = q; stamps = stamps }) None (first ∷ pages)
    → (joined_values (first ∷ pages)
    ≡ values_in (whole_read first.content node (record { details = q; stamps = stamps })))
    × (joined_infos (first ∷ pages)
    ≡ infos_in (whole_read first.content node (record { details = q; stamps = stamps })))

-- and they come to an end
abbrev pub HavePages : Details → Type 0
HavePages q =
    (id : List ℕ) (node : NodeId) (stamps : TimestampsToReturn) (contents : ℕ → Content)
    → IsAsked id node q → checked_read id node q None ≡ Ok None → IsLawfulContent (contents 0)
    → ((n : ℕ) → IsLater (contents 0) (contents n))
    → (pages : List Page) × (count : ℕ)
    × (map (λ page. page.content) pages ≡ contents_from contents 0 count)
    × Chain id node (record { details = q; stamps = stamps }) None pages
