-- What a read of a node's history is answered (Part 11, HistoryRead).
use Rattle.std.specs.Prelude.{◌≡◌, ◌==◌, nat_eq, nat_le, Bool, not, ◌&&◌, ◌||◌, ℕ, if◌then◌else◌, List, [], ◌∷◌, map, Option, Some, None, option_map, Result, Ok, Err}
use Rattle.std.specs.Option.{option_map_or, ok_or}
use Rattle.std.specs.Cmp.Lexicographic.{pointwise}
use Rattle.stamp.specs.Numbers.{number_of}
use Rattle.ua_binary.specs.Format.{◌>>=◌}
use Rattle.ua_binary.specs.declared.values.NodeId.{NodeId}
use Rattle.ua_binary.specs.declared.codes.Status.{Status}
use Rattle.ua_binary.specs.declared.codes.TheConstants.Status.{GOOD, GOOD_NO_DATA, BAD_CONTINUATION_POINT_INVALID, BAD_HISTORY_OPERATION_INVALID, BAD_INVALID_ARGUMENT}
use Rattle.ua_services.specs.declared.history.ReadRawModifiedDetails.{ReadRawModifiedDetails as Details}
use Rattle.ua_services.specs.contracts.history.ReadRawModifiedDetails as details
use Rattle.ua_services.specs.declared.history.HistoryReadResult.{HistoryReadResult}
use Rattle.ua_services.specs.declared.history.HistoryData.{HistoryData}
use Rattle.ua_services.specs.declared.history.HistoryData.TheVariants.{Raw, Modified, Nothing}
use Rattle.records.specs.Contents.{Content, numbers_of, cut}
use Rattle.records.specs.Same.{is_same, same_node}
use Rattle.archive.specs.Fault.{status_told}
use Rattle.archive.specs.Steps.{Fallible, give, step}
use Rattle.hist_read.specs.declared.query.Query.{Query}
use Rattle.hist_read.specs.declared.point.Position.{Position}
use Rattle.hist_read.specs.Asking.{is_given}
use Rattle.hist_read.specs.Point.{Point, point, point_in}
use Rattle.hist_read.specs.Reads.{page, raw, raw_position, modified, modified_position, next_place}
use Rattle.hist_read.specs.Showing.{shown, shown_entry, info}

-- ---- what is refused, and where reading begins

-- two at least of start, end and count are given
abbrev pub is_enough : Details → Bool
is_enough q =
    if is_given q.start_time.0 then is_given q.end_time.0 || not (q.num_values_per_node == 0)
    else is_given q.end_time.0 && not (q.num_values_per_node == 0)

abbrev pub IsOfRead : List ℕ → NodeId → Details → Point → Type 0
IsOfRead id node q p = (p.archive ≡ id) × (p.node ≡ node) × (p.details ≡ q)

-- where reading goes on: behind this place, of what the vector of the first page covers
abbrev pub Behind : Type 0
Behind = Position × List ℕ

-- the place that a continuation point tells, if there is one
abbrev pub resume_place : List ℕ → NodeId → Details → Option (List ℕ)
    → Result (Option Behind) Status
resume_place id node q None = Ok None
resume_place id node q (Some bytes) =
    ok_or (point_in bytes) BAD_CONTINUATION_POINT_INVALID >>= λ p.
    if pointwise nat_eq p.archive id
    && (same_node p.node node && is_same details.the_row.coded p.details q)
    then Ok (Some (p.position, p.vector))
    else Err BAD_CONTINUATION_POINT_INVALID

-- where reading goes on, or why the read is refused, whatever is held
abbrev pub checked_read : List ℕ → NodeId → Details → Option (List ℕ)
    → Result (Option Behind) Status
checked_read id node q continuation =
    if q.is_read_modified && q.return_bounds then Err BAD_INVALID_ARGUMENT else
    if not (is_enough q) then Err BAD_HISTORY_OPERATION_INVALID else
    resume_place id node q continuation

-- ---- a page

-- the answer to a read that is refused with this status
abbrev pub refused_read : Status → HistoryReadResult
refused_read status = record { status = status; continuation_point = None; history_data = Nothing }

-- the status of a page: whether it has an item
abbrev pub status_for : {X : Type 0} → List X → Status
status_for list = elim list [ [] ↦ GOOD_NO_DATA | x ∷ xs ↦ GOOD ]

-- the continuation point of a place, of reading what this vector covers
abbrev pub point_at : List ℕ → NodeId → Details → List ℕ → Position → List ℕ
point_at id node q v p =
    point.canon (record { archive = id; node = node; details = q; position = p; vector = v })

-- a page of some items, which are all that follow a place, and the point where it ends; v is the
-- vector that the point carries
abbrev pub page_of : {X : Type 0} → (List X → HistoryData) → (X → Position) → List ℕ → List ℕ
    → NodeId → Details → Option Position → List X → HistoryReadResult
page_of show position v id node q p all =
    record {
      status = status_for (page q p all);
      continuation_point = option_map (point_at id node q v) (next_place position q p all);
      history_data = show (page q p all);
    }

-- a page of raw values, from the front or behind a place
abbrev pub raw_page : Content → List ℕ → List ℕ → NodeId → Query → Option Position
    → HistoryReadResult
raw_page R v id node query p =
    let q = query.details in
    page_of (λ xs. Raw (map (shown query.stamps) xs)) (raw_position q p) v id node q p
    (raw R node q p)

-- a page of modifications: the values, and beside each what is told of it
abbrev pub modified_page : Content → List ℕ → List ℕ → NodeId → Query → Option Position
    → HistoryReadResult
modified_page R v id node query p =
    let q = query.details in
    page_of (λ es. Modified (map (shown_entry query.stamps) es) (map info es))
    (modified_position q p) v id node q p (modified R node q p)

-- a page of a content, from the front or behind a place
abbrev pub page_result : Content → List ℕ → List ℕ → NodeId → Query → Option Position
    → HistoryReadResult
page_result R v id node query p =
    if query.details.is_read_modified then modified_page R v id node query p
    else raw_page R v id node query p

-- a first page is one of the content, and carries its vector; a later one is one of what the vector
-- of the first page covers, and carries that
abbrev pub page_from : Content → List ℕ → NodeId → Query → Option Behind → HistoryReadResult
page_from R id node query None = page_result R (numbers_of R) id node query None
page_from R id node query (Some behind) =
    if pointwise nat_le behind.1 (numbers_of R)
    then page_result (cut R (number_of behind.1)) behind.1 id node query (Some behind.0)
    else refused_read BAD_CONTINUATION_POINT_INVALID

-- ---- a read

-- a read of a node's history, by what comes in its way: first what is refused whatever is held, and
-- then a page, which is one step; the content stays
abbrev pub read_node : List ℕ → NodeId → Query → Option (List ℕ) → Content
    → Fallible (HistoryReadResult × Content)
read_node id node query continuation R =
    elim (checked_read id node query.details continuation) [
      | Err status ↦ give (refused_read status, R)
      | Ok behind ↦ step
          (λ mark.
          (option_map_or refused_read (status_told mark) (page_from R id node query behind), R))
    ]
