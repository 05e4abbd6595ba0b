-- How many bytes the values of a page have: at least as many are carried in its result.
use Rattle.std.proofs.Common.{◌≡◌, ◌∙◌, ℕ, zero, suc, ◌+◌, ◌-◌, ◌^◌, min, ◌<◌, ◌≤◌, pos, Bool, true, false, cond, List, [], ◌∷◌, ◌++◌, map, take, replicate, length, Option, Some, None, is_some, unwrap_or, refl, sym, ap, subst, arith}
use Rattle.std.specs.List.{flat_map}
use Rattle.std.specs.Option.{option_map_or}
use Rattle.std.specs.Int.{w32}
use Rattle.std.proofs.lemmas.List.{length-append, length-replicate}
use Rattle.std.proofs.lemmas.List.Concat.{flat_map-cons}
use Rattle.ua_binary.specs.Format.{flagged, saturated}
use Rattle.ua_binary.specs.Binary.{unsigned, signed, byte_string, IsCounted, status, node_id}
use Rattle.ua_binary.specs.declared.codes.Status.{Status}
use Rattle.ua_binary.specs.declared.codes.TheConstants.Status.{GOOD}
use Rattle.ua_binary.specs.declared.values.NodeId.{NodeId}
use Rattle.ua_binary.specs.declared.values.NodeId.TheVariants.{Numeric}
use Rattle.ua_binary.proofs.Sizes.{count_length, byte_string_length, no_byte_string_length, array_length}
use Rattle.ua_variant.specs.DataValue.{data_value}
use Rattle.ua_variant.specs.Raise.{variant_fault}
use Rattle.ua_variant.specs.Variant.{variant}
use Rattle.ua_variant.specs.declared.data.DataValue.{DataValue}
use Rattle.ua_variant.specs.declared.value.Variant.{Variant}
use Rattle.ua_variant.proofs.Sizes.{data_length}
use Rattle.ua_services.specs.Attributes.{data_values}
use Rattle.ua_services.specs.History.{History, history_of, history_bytes, history_data, history_read_result, info_fields, modification_info, IsShortHistory, IsShortHistoryRead}
use Rattle.ua_services.specs.Unkept.{many}
use Rattle.ua_services.specs.declared.attributes.TimestampsToReturn.{TimestampsToReturn}
use Rattle.ua_services.specs.declared.attributes.TimestampsToReturn.TheVariants.{Source, Server, Both, Neither}
use Rattle.ua_services.specs.declared.history.HistoryData.{HistoryData}
use Rattle.ua_services.specs.declared.history.HistoryData.TheVariants.{Raw, Modified, Nothing}
use Rattle.ua_services.specs.declared.history.HistoryReadResult.{HistoryReadResult}
use Rattle.ua_services.specs.declared.history.ModificationInfo.{ModificationInfo}
use Rattle.ua_services.specs.declared.history.ReadRawModifiedDetails.{ReadRawModifiedDetails as Details}
use Rattle.ua_services.proofs.Canons.{canon_nothing, canon_raw, canon_modified}
use Rattle.records.specs.Contents.{Content}
use Rattle.records.specs.Spelling.{empty}
use Rattle.records.specs.declared.shown.Held.{Held}
use Rattle.records.specs.declared.shown.Entry.{Entry}
use Rattle.hist_read.specs.declared.item.Item.{Item}
use Rattle.hist_read.specs.declared.item.Item.TheVariants.{Value}
use Rattle.hist_read.specs.declared.point.Position.{Position}
use Rattle.hist_read.specs.declared.query.Query.{Query}
use Rattle.hist_read.specs.Carrying.{read_length, value_length, values_length, Exceeds, TellsWithin}
use Rattle.hist_read.specs.Node.{status_for, refused_read, raw_page, modified_page}
use Rattle.hist_read.specs.Reads.{near, body_part, value_items, time_before, last_time, before_far, raw, modified, page_size, page}
use Rattle.hist_read.specs.Showing.{shown, shown_entry, info}
use Rattle.hist_read.proofs.ReadsParts.{near_part, far_part}

-- ---- values

-- two lists have the bytes of one and of the other
pub size_more : (vs ws : List DataValue) → values_length (vs ++ ws)
    ≡ values_length vs + values_length ws
size_more [] ws = omega arith
size_more (v ∷ vs) ws = omega (arith, size_more vs ws)

-- the first of them have no more than all
pub values_take_le : (k : ℕ) (vs : List DataValue) → values_length (take k vs) ≤ values_length vs
values_take_le zero [] = omega arith
values_take_le zero (v ∷ vs) = omega arith
values_take_le (suc k) [] = omega arith
values_take_le (suc k) (v ∷ vs) = omega (arith, values_take_le k vs)

-- a live value is shown with its bytes
pub shown_length : (stamps : TimestampsToReturn) (h : Held)
    → value_length (shown stamps (Value h)) ≡ value_length h.value
shown_length Source h = refl
shown_length Server h = refl
shown_length Both h = refl
shown_length Neither h = refl

-- and so is that of a modification
pub entry_length : (stamps : TimestampsToReturn) (e : Entry)
    → value_length (shown_entry stamps e) ≡ value_length (unwrap_or e.value empty)
entry_length Source e = refl
entry_length Server e = refl
entry_length Both e = refl
entry_length Neither e = refl

-- ---- a result

-- the bytes of what is there
there_length : (o : Option Variant) → length ((flagged (is_some o) variant).canon o)
    ≡ option_map_or (λ x. length (variant.canon x)) o 0
there_length None = refl
there_length (Some x) = refl

-- a value's bytes are among those of all that is told with it
value_in : (v : DataValue) → value_length v ≤ length (data_value.canon v)
value_in v = omega (arith, data_length v, there_length v.value)

-- and those of several, one behind the other
joined_in : (vs : List DataValue) → values_length vs ≤ length (flat_map data_value.canon vs)
joined_in [] = omega arith
joined_in (v ∷ vs) =
    let both = ap length (flat_map-cons data_value.canon v vs)
    ∙ length-append (data_value.canon v) (flat_map data_value.canon vs) in
    omega (arith, value_in v, joined_in vs, both)

-- and of an array of them
values_in : (vs : List DataValue) → values_length vs ≤ length (data_values.canon vs)
values_in vs = omega (arith, joined_in vs, array_length variant_fault data_value vs)

-- of a result there are at least the bytes of its history
history_in : (s : Status) (point : Option (List ℕ)) (h : History)
    → length (history_data.canon h) ≤ length (history_read_result.canon (s, (point, h)))
unfolding history_read_result
history_in s point h = omega (
  arith,
  length-append (status.canon s) (byte_string.canon point ++ history_data.canon h),
  length-append (byte_string.canon point) (history_data.canon h),
)

-- and those of its continuation point
point_in : (s : Status) (point : Option (List ℕ)) (h : History)
    → length (byte_string.canon point) ≤ length (history_read_result.canon (s, (point, h)))
unfolding history_read_result
point_in s point h = omega (
  arith,
  length-append (status.canon s) (byte_string.canon point ++ history_data.canon h),
  length-append (byte_string.canon point) (history_data.canon h),
)

-- what stands behind some bytes and one more
behind_in : (x : List ℕ) (b : ℕ) (y z : List ℕ) → length z ≤ length (x ++ (b ∷ (y ++ z)))
behind_in x b y z = omega (arith, length-append x (b ∷ (y ++ z)), length-append y z)

-- the values' bytes are among those of a result that shows them
pub raw_long : (s : Status) (point : Option (List ℕ)) (vs : List DataValue) → values_length vs
    ≤ read_length (record { status = s; continuation_point = point; history_data = Raw vs })
raw_long s point vs =
    let inside = ap length (canon_raw vs) in
    let behind = behind_in (node_id.canon (Numeric 0 658)) 1
    ((signed w32).canon (pos (length (data_values.canon vs)))) (data_values.canon vs) in
    omega (arith, values_in vs, inside, behind, history_in s point (history_of (Raw vs)))

-- and of one that shows them with how each was modified
pub modified_long : (s : Status) (point : Option (List ℕ)) (vs : List DataValue)
    (infos : List ModificationInfo) → values_length vs ≤ read_length
    (record { status = s; continuation_point = point; history_data = Modified vs infos })
modified_long s point vs infos =
    let told = (many modification_info).canon (map info_fields infos) in
    let inside = ap length (canon_modified vs (map info_fields infos)) in
    let behind = behind_in (node_id.canon (Numeric 0 11227)) 1
    ((signed w32).canon (pos (length (data_values.canon vs ++ told))))
    (data_values.canon vs ++ told) in
    let both = length-append (data_values.canon vs) told in
    omega (
      arith,
      values_in vs,
      both,
      inside,
      behind,
      history_in s point (history_of (Modified vs infos)),
    )

-- a good result may be longer than any limit
pub long_read : (longest : ℕ) → (r : HistoryReadResult) × (longest < read_length r)
    × (r.status ≡ GOOD)
long_read longest =
    let bytes : List ℕ = replicate longest 0 in
    let size = byte_string_length bytes in
    let many_bytes = length-replicate {A = ℕ} longest 0 in (
      record { status = GOOD; continuation_point = Some bytes; history_data = Nothing },
      omega (arith, size, many_bytes, point_in GOOD (Some bytes) (history_of Nothing)),
      refl,
    )

-- ---- how many bytes a result has

-- the bytes before what was read
pub nothing_head : length (history_data.canon (history_of Nothing))
    ≡ 3 + length (history_bytes (history_of Nothing))
unfolding node_id unsigned
nothing_head = ap length canon_nothing

raw_id : length (node_id.canon (Numeric 0 658)) ≡ 4
unfolding node_id unsigned
raw_id = refl

modified_id : length (node_id.canon (Numeric 0 11227)) ≡ 4
unfolding node_id unsigned
modified_id = refl

-- an id of four bytes, one more, a count, and the body
headed : (id body : List ℕ) → length id ≡ 4
    → length (id ++ (1 ∷ ((signed w32).canon (pos (length body)) ++ body))) ≡ 9 + length body
headed id body four = omega (
  arith,
  four,
  length-append id (1 ∷ ((signed w32).canon (pos (length body)) ++ body)),
  length-append ((signed w32).canon (pos (length body))) body,
  count_length (length body),
)

pub raw_head : (vs : List DataValue) → length (history_data.canon (history_of (Raw vs)))
    ≡ 9 + length (history_bytes (history_of (Raw vs)))
raw_head vs = ap length (canon_raw vs)
    ∙ headed (node_id.canon (Numeric 0 658)) (data_values.canon vs) raw_id

pub modified_head : (vs : List DataValue) (infos : List ModificationInfo)
    → length (history_data.canon (history_of (Modified vs infos)))
    ≡ 9 + length (history_bytes (history_of (Modified vs infos)))
modified_head vs infos = ap length (canon_modified vs (map info_fields infos))
    ∙ headed (node_id.canon (Numeric 0 11227))
    (data_values.canon vs ++ (many modification_info).canon (map info_fields infos)) modified_id

-- of one that is such a one
pub head_is : (read other : HistoryData) (size : ℕ) → read ≡ other
    → length (history_data.canon (history_of other))
    ≡ size + length (history_bytes (history_of other))
    → length (history_data.canon (history_of read)) ≡ size + length (history_bytes (history_of read))
head_is read other size is known =
    subst (λ (d : HistoryData). length (history_data.canon (history_of d))
    ≡ size + length (history_bytes (history_of d))) (sym is) known

status_length : (s : Status) → length (status.canon s) ≡ 4
unfolding status unsigned
status_length s = refl

-- the status, the continuation point, and what was read
whole_length : (s : Status) (point : Option (List ℕ)) (h : History)
    → length (history_read_result.canon (s, (point, h)))
    ≡ 4 + length (byte_string.canon point) + length (history_data.canon h)
unfolding history_read_result
whole_length s point h = omega (
  arith,
  status_length s,
  length-append (status.canon s) (byte_string.canon point ++ history_data.canon h),
  length-append (byte_string.canon point) (history_data.canon h),
)

point_short : (point : Option (List ℕ)) → IsCounted point
    → length (byte_string.canon point) < 4 + 2 ^ 31
point_short None h = omega (arith, no_byte_string_length)
point_short (Some bytes) h = omega (arith, h, byte_string_length bytes)

body_short : (read : HistoryData) → IsShortHistory read
    → length (history_bytes (history_of read)) < 2 ^ 31
body_short Nothing h = omega arith
body_short (Raw vs) h = h.1
body_short (Modified vs infos) h = h.3

-- the bytes of one that can be written, counted by its parts
pub size_is : (r : HistoryReadResult) (point front head body all : ℕ) (before : ℕ)
    → IsShortHistoryRead r
    → point ≡ saturated (length (byte_string.canon r.continuation_point))
    → front ≡ min (point + 4) (2 ^ 64 - 1)
    → length (history_data.canon (history_of r.history_data))
    ≡ before + length (history_bytes (history_of r.history_data))
    → before ≤ 9
    → head ≡ min (front + before) (2 ^ 64 - 1)
    → body ≡ saturated (length (history_bytes (history_of r.history_data)))
    → all ≡ min (head + body) (2 ^ 64 - 1) → all ≡ read_length r
size_is r point front head body all before short p f whole few h b e =
    let known = body_short r.history_data short.1 in
    let counted = point_short r.continuation_point short.0 in
    let parts = whole_length r.status r.continuation_point (history_of r.history_data) in
    omega (arith, known, counted, parts, p, f, whole, few, h, b, e)

-- one that is refused has eleven bytes
refused_length : (code : Status) → read_length (refused_read code) ≡ 11
refused_length code = omega (
  arith,
  whole_length code None (history_of Nothing),
  no_byte_string_length,
  nothing_head,
)

-- so no limit of as many bytes or more leaves it out
pub refused_within : (limit : ℕ) (code : Status) (read : HistoryReadResult)
    → read ≡ refused_read code → 11 ≤ limit → TellsWithin (Some limit) (Some read) read
refused_within limit code read is enough = (
  refl,
  λ long. let size = ap read_length is ∙ refused_length code in omega (arith, size, enough, long.0),
)

-- ---- a page

-- the first of some items have at least the bytes of the first of some values among them
taken_shows : (stamps : TimestampsToReturn) (k n : ℕ) (hs : List Held) (rest : List Item) → k ≤ n
    → values_length (map (λ h. h.value) (take k hs))
    ≤ values_length (map (shown stamps) (take n (value_items hs ++ rest)))
taken_shows stamps zero n [] rest le = omega arith
taken_shows stamps zero n (h ∷ hs) rest le = omega arith
taken_shows stamps (suc k) n [] rest le = omega arith
taken_shows stamps (suc k) zero (h ∷ hs) rest le = absurd (omega (arith, le))
taken_shows stamps (suc k) (suc n) (h ∷ hs) rest le =
    let more = taken_shows stamps k n hs rest (omega (arith, le)) in
    omega (arith, more, shown_length stamps h)

-- the same behind one item at most
behind_shows : (stamps : TimestampsToReturn) (k n : ℕ) (xs : List Item) (hs : List Held)
    (rest : List Item) → length xs ≤ 1 → k < n → values_length (map (λ h. h.value) (take k hs))
    ≤ values_length (map (shown stamps) (take n ((xs ++ value_items hs) ++ rest)))
behind_shows stamps k n [] hs rest few lt = taken_shows stamps k n hs rest (omega (arith, lt))
behind_shows stamps k zero (x ∷ []) hs rest few lt = absurd (omega (arith, lt))
behind_shows stamps k (suc n) (x ∷ []) hs rest few lt =
    omega (arith, taken_shows stamps k n hs rest (omega (arith, lt)))
behind_shows stamps k n (x ∷ y ∷ xs) hs rest few lt = absurd (omega (arith, few))

-- there is one near bound at most
near_few : (R : Content) (node : NodeId) (q : Details) (p : Option Position)
    → length (near_part R node q p) ≤ 1
near_few R node q (Some p) = omega arith
near_few R node q None = go q.return_bounds (near R node q)
  where
    go : (b : Bool) (x : Item) → length (cond b (x ∷ []) []) ≤ 1
    go true x = omega arith
    go false x = omega arith

-- a page has at least the bytes of fewer values of the body than it has items
pub raw_shows : (R : Content) (node : NodeId) (q : Details) (p : Option Position)
    (stamps : TimestampsToReturn) (k : ℕ) → k < page_size q p
    → values_length (map (λ h. h.value) (take k (body_part R node q p)))
    ≤ values_length (map (shown stamps) (page q p (raw R node q p)))
raw_shows R node q p stamps k lt =
    behind_shows stamps k (page_size q p) (near_part R node q p) (body_part R node q p)
    (far_part R node q (last_time (time_before q p) (before_far R node q p)))
    (near_few R node q p) lt

-- the first of some modifications have at least the bytes of fewer of them
taken_entries : (stamps : TimestampsToReturn) (k n : ℕ) (es : List Entry) → k ≤ n
    → values_length (map (λ e. unwrap_or e.value empty) (take k es))
    ≤ values_length (map (shown_entry stamps) (take n es))
taken_entries stamps zero n [] le = omega arith
taken_entries stamps zero n (e ∷ es) le = omega arith
taken_entries stamps (suc k) n [] le = omega arith
taken_entries stamps (suc k) zero (e ∷ es) le = absurd (omega (arith, le))
taken_entries stamps (suc k) (suc n) (e ∷ es) le =
    let more = taken_entries stamps k n es (omega (arith, le)) in
    omega (arith, more, entry_length stamps e)

-- a page of modifications has at least the bytes of as many or fewer of them
pub modified_shows : (R : Content) (node : NodeId) (q : Details) (p : Option Position)
    (stamps : TimestampsToReturn) (k : ℕ) → k ≤ page_size q p
    → values_length (map (λ e. unwrap_or e.value empty) (take k (modified R node q p)))
    ≤ values_length (map (shown_entry stamps) (page q p (modified R node q p)))
modified_shows R node q p stamps k le =
    taken_entries stamps k (page_size q p) (modified R node q p) le

-- ---- what exceeds a limit

-- more bytes exceed it too
exceeds_more : (longest : Option ℕ) (m n : ℕ) → m ≤ n → Exceeds longest m → Exceeds longest n
exceeds_more None m n le more = absurd more
exceeds_more (Some l) m n le more = omega (arith, le, more)

-- what exceeds any limit is something
good_status : {X : Type 0} (f : X → DataValue) (longest : Option ℕ) (m : ℕ) (xs : List X)
    → m ≤ values_length (map f xs) → Exceeds longest m → status_for xs ≡ GOOD
good_status f None m xs le more = absurd more
good_status f (Some l) m [] le more = absurd (omega (arith, le, more))
good_status f (Some l) m (x ∷ xs) le more = refl

-- a page exceeds a limit where fewer values of the body than it has items do
pub raw_exceeds : (R : Content) (v id : List ℕ) (node : NodeId) (query : Query)
    (p : Option Position) (longest : Option ℕ) (k : ℕ) → k < page_size query.details p
    → Exceeds longest
    (values_length (map (λ h. h.value) (take k (body_part R node query.details p))))
    → Exceeds longest (read_length (raw_page R v id node query p))
    × ((raw_page R v id node query p).status ≡ GOOD)
raw_exceeds R v id node query p longest k lt more =
    let q = query.details in
    let xs = page q p (raw R node q p) in
    let size = raw_shows R node q p query.stamps k lt in
    let whole = raw_long (status_for xs) (raw_page R v id node query p).continuation_point
    (map (shown query.stamps) xs) in (
      exceeds_more longest _ _ (omega (arith, size, whole)) more,
      good_status (shown query.stamps) longest _ xs size more,
    )

-- a page of modifications does where as many or fewer of them do
pub modified_exceeds : (R : Content) (v id : List ℕ) (node : NodeId) (query : Query)
    (p : Option Position) (longest : Option ℕ) (k : ℕ) → k ≤ page_size query.details p
    → Exceeds longest (values_length
    (map (λ e. unwrap_or e.value empty) (take k (modified R node query.details p))))
    → Exceeds longest (read_length (modified_page R v id node query p))
    × ((modified_page R v id node query p).status ≡ GOOD)
modified_exceeds R v id node query p longest k le more =
    let q = query.details in
    let es = page q p (modified R node q p) in
    let size = modified_shows R node q p query.stamps k le in
    let whole = modified_long (status_for es)
    (modified_page R v id node query p).continuation_point
    (map (shown_entry query.stamps) es) (map info es) in (
      exceeds_more longest _ _ (omega (arith, size, whole)) more,
      good_status (shown_entry query.stamps) longest _ es size more,
    )
