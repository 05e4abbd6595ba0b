-- The bytes of a page of what is held can be counted.
use Rattle.std.proofs.Common.{◌≡◌, ℕ, ◌+◌, ◌*◌, ◌≤◌, ◌==◌, ◌&&◌, not, min, ℤ, pos, Bool, true, false, cond, filter, reverse, List, [], ◌∷◌, map, length, Option, Some, None, IfSome, is_some, refl, sym, ap, ◌∙◌, subst, arith, inl, inr}
use Rattle.std.specs.List.{flat_map, All}
use Rattle.std.specs.Option.{option_or, option_map_or, unwrap_or}
use Rattle.std.specs.Ordering.{int_eq}
use Rattle.std.proofs.lemmas.List.{length-append, length-take, length-map}
use Rattle.std.proofs.lemmas.List.Concat.{flat_map-cons}
use Rattle.ua_binary.specs.Format.{flagged}
use Rattle.ua_binary.specs.Binary.{unsigned, signed, ticks, status}
use Rattle.ua_binary.specs.declared.values.NodeId.{NodeId}
use Rattle.ua_binary.specs.declared.values.Ticks.{Ticks}
use Rattle.ua_binary.specs.declared.codes.Status.{Status}
use Rattle.ua_binary.proofs.Sizes.{array_length, text_length, no_text_length}
use Rattle.ua_variant.specs.DataValue.{data_value, picoseconds, IsPicoseconds}
use Rattle.ua_variant.specs.Variant.{variant}
use Rattle.ua_variant.specs.declared.data.DataValue.{DataValue}
use Rattle.ua_variant.proofs.Sizes.{data_length}
use Rattle.ua_services.specs.declared.attributes.TimestampsToReturn.{TimestampsToReturn}
use Rattle.ua_services.specs.declared.attributes.TimestampsToReturn.TheVariants.{Source, Server, Both, Neither}
use Rattle.ua_binary.specs.declared.codes.TheConstants.Status.{BAD_CONTINUATION_POINT_INVALID}
use Rattle.ua_variant.specs.Raise.{variant_fault}
use Rattle.ua_variant.specs.UpdateType.{update_number}
use Rattle.ua_services.specs.Attributes.{data_values}
use Rattle.ua_services.specs.Unkept.{many}
use Rattle.ua_services.specs.History.{info_fields, modification_info}
use Rattle.ua_services.specs.declared.history.ModificationInfo.{ModificationInfo}
use Rattle.stamp.specs.Numbers.{number_of}
use Rattle.ua_services.specs.declared.history.ReadRawModifiedDetails.{ReadRawModifiedDetails as Details}
use Rattle.records.specs.Lists.{Has}
use Rattle.records.specs.Contents.{Content, numbers_of, cut}
use Rattle.records.specs.Records.{write, value_shown, live_value, versions, modifications_at, entries_after, is_delete}
use Rattle.records.proofs.ContentsParts.{held_of}
use Rattle.records.specs.Spelling.{empty, longest}
use Rattle.records.specs.declared.record.Record.{Record}
use Rattle.records.specs.declared.shown.Held.{Held}
use Rattle.records.specs.declared.shown.Entry.{Entry}
use Rattle.records.proofs.LatestLemmas.{story_has}
use Rattle.records.proofs.Sizes.{fields_length}
use Rattle.records.proofs.Sorting.{has_from_filter}
use Rattle.archive.specs.Reading.{times, lives, log, in_direction, is_past, outside_of, follows}
use Rattle.archive.proofs.ReadingParts.{opposite}
use Rattle.archive.specs.Store.{IsLawfulContent}
use Rattle.archive.specs.declared.reading.Direction.{Direction}
use Rattle.archive.specs.declared.reading.Direction.TheVariants.{Forward, Backward}
use Rattle.archive.proofs.Timing.{has_from_get}
use Rattle.archive.proofs.Turning.{has_from_filter_map, has_from_flat_map, has_from_reverse, has-in_direction}
use Rattle.hist_read.specs.declared.query.Query.{Query}
use Rattle.hist_read.specs.Short.{IsWritable, AreWritable, IsWritableHistory}
use Rattle.hist_read.specs.Node.{Behind, refused_read, page_result, page_from}
use Rattle.hist_read.proofs.NodeParts.{covers}
use Rattle.hist_read.proofs.Results.{raw_result, modified_result}
use Rattle.hist_read.proofs.Cutting.{lawful_cut}
use Rattle.hist_read.proofs.Lists.{all_start}
use Rattle.hist_read.specs.declared.point.Position.{Position}
use Rattle.hist_read.specs.declared.item.Item.{Item}
use Rattle.hist_read.specs.declared.item.Item.TheVariants.{Value, Missing}
use Rattle.hist_read.specs.Asking.{far_limit, origin_time, direction}
use Rattle.hist_read.specs.Reads.{nearest_from, value_or_missing, near, open_bound, far_value, far, last_within, is_near_alone, limit_at, is_past_any, in_body, values_inside, body_part, value_items, last_time, time_before, before_far, raw, modified, place_at, page_size, page}
use Rattle.hist_read.proofs.ReadsParts.{near_part, lives_in, far_part}
use Rattle.hist_read.specs.Showing.{item_value, at_time, with_stamps, shown, shown_entry, info}
use Rattle.hist_read.proofs.Nexts.{has_take, has_from_append, has_from_map}

-- ---- what is stored

-- of a value that a lawful record has
abbrev pub IsStored : DataValue → Type 0
IsStored v = IfSome v.source_pico IsPicoseconds × IfSome v.server_pico IsPicoseconds
    × (length (data_value.canon v) ≤ longest)

record_stored : (R : Content) (r : Record) → IsLawfulContent R → Has R r → IsStored r.value
record_stored R r lawful h = let l = lawful.records r h in let size = l.size in
    (l.value.3, l.value.5, omega (arith, fields_length r, size))

held_value : (extra : Bool) (o : Option Record) (h : Held) → held_of extra (write o) ≡ Some h
    → (r : Record) × (o ≡ Some r) × (r.value ≡ h.value)
held_value extra None h e = cc
held_value extra (Some r) h e = go (is_delete r.asked) e
  where
    go : (b : Bool) → held_of extra (cond b None (Some r)) ≡ Some h
        → (s : Record) × (Some r ≡ Some s) × (s.value ≡ h.value)
    go true k = cc
    go false k = (r, refl, cc)

module _ (R : Content) (node : NodeId) (lawful : IsLawfulContent R) where
  story_stored : (t : ℤ) (r : Record) → Has (versions R node t) r → IsStored r.value
  story_stored t r h = record_stored R r lawful ((story_has R node t r).0 h).0

  current_stored : (t : ℤ) (h : Held) → live_value R node t ≡ Some h → IsStored h.value
  current_stored t h e = let r = held_value _ _ h e in
      subst IsStored r.2 (story_stored t r.0 (has_from_get (versions R node t) _ r.0 r.1))

  lives_stored : (h : Held) → Has (lives R node) h → IsStored h.value
  lives_stored h k = let t = has_from_filter_map (live_value R node) (times R node) h k in
      current_stored t.0 h t.2

  outside_stored : (t : ℤ) (d : Direction) (h : Held) → outside_of R node t d ≡ Some h
      → IsStored h.value
  outside_stored t d h e =
      let there = (has-in_direction d (filter (λ x. is_past d t x.time) (lives R node)) h).0
      (has_from_get _ 0 h e) in
      lives_stored h (has_from_filter (λ (x : Held). is_past d t x.time) (lives R node) h there).0

  nearest_stored : (t : ℤ) (d : Direction) (h : Held) → nearest_from R node d t ≡ Some h
      → IsStored h.value
  nearest_stored t d h e = go (live_value R node t) refl e
    where
      go : (o : Option Held) → live_value R node t ≡ o
          → option_or o (outside_of R node t d) ≡ Some h → IsStored h.value
      go None f e = outside_stored t d h e
      go (Some x) f e = current_stored t h (f ∙ e)

  -- ---- items

  abbrev pub IsGood : Item → Type 0
  IsGood (Value h) = IsStored h.value
  IsGood (Missing time) = Unit {0}

  bound_good : (t : ℤ) (o : Option Held) → ((h : Held) → o ≡ Some h → IsStored h.value)
      → IsGood (value_or_missing t o)
  bound_good t None all = tt
  bound_good t (Some h) all = all h refl

  module _ (q : Details) where
    near_good : IsGood (near R node q)
    near_good = bound_good (origin_time q) (nearest_from R node (opposite (direction q))
        (origin_time q)) (nearest_stored (origin_time q) (opposite (direction q)))

    far_good : (before : ℤ) → IsGood (far R node q before)
    far_good before = go (far_limit q)
      where
        away : (d : Direction) → IsGood (open_bound d before)
        away Forward = tt
        away Backward = tt

        valued : (f : ℤ) (b : Bool) (h : Held)
            → cond b (outside_of R node (last_within f) (direction q))
            (nearest_from R node (direction q) f) ≡ Some h → IsStored h.value
        valued f true h e = outside_stored (last_within f) (direction q) h e
        valued f false h e = nearest_stored f (direction q) h e

        go : (o : Option ℤ) → IsGood (option_map_or
            (λ f. value_or_missing f (far_value R node q f)) o (open_bound (direction q) before))
        go None = away (direction q)
        go (Some f) = bound_good f (far_value R node q f) (valued f (int_eq (origin_time q) f))

    one_of : (b : Bool) (y x : Item) → IsGood y → Has (cond b (y ∷ []) []) x → IsGood x
    one_of true y x good h = elim h [ inl e ↦ subst IsGood e good | inr k ↦ absurd k ]
    one_of false y x good h = absurd h

    near_in : (p : Option Position) (x : Item) → Has (near_part R node q p) x → IsGood x
    near_in (Some p) x h = absurd h
    near_in None x h = one_of q.return_bounds (near R node q) x near_good h

    body_in : (p : Option Position) (h : Held) → Has (body_part R node q p) h → IsStored h.value
    body_in p h k = go (is_near_alone q) k
      where
        rest : List Held
        rest = filter (λ x. is_past_any (direction q) (limit_at q p) x.time)
            (values_inside R node q)

        go : (b : Bool) → Has (cond b [] rest) h → IsStored h.value
        go true i = absurd i
        go false i =
            let one = (has_from_filter (λ (x : Held).
            is_past_any (direction q) (limit_at q p) x.time) (values_inside R node q) h i).0 in
            let two = (has_from_filter (λ (x : Held). in_body q x.time) (lives_in R node q) h one).0
            in
            lives_stored h ((has-in_direction (direction q) (lives R node) h).0 two)

    pub item_good : (p : Option Position) (x : Item) → Has (raw R node q p) x → IsGood x
    item_good p x h = elim (has_from_append (before_far R node q p)
        (far_part R node q (last_time (time_before q p) (before_far R node q p))) x h) [
          | inl i ↦ elim (has_from_append (near_part R node q p)
              (value_items (body_part R node q p)) x i) [
                | inl j ↦ near_in p x j
                | inr j ↦ let s = has_from_map (λ h. Value h) (body_part R node q p) x j in
                    subst IsGood s.2 (body_in p s.0 s.1)
              ]
          | inr j ↦ one_of (q.return_bounds && not (is_near_alone q))
              (far R node q (last_time (time_before q p) (before_far R node q p))) x
              (far_good (last_time (time_before q p) (before_far R node q p))) j
        ]

  -- ---- modifications

  pub record IsGoodEntry (e : Entry) : Type 0 where
    pub value : IfSome e.value IsStored
    pub user : length e.user ≤ 256

  entry_good : (before : Option Record) (rs : List Record) (e : Entry) → IfSome before (Has R)
      → ((r : Record) → Has rs r → Has R r) → Has (entries_after before rs) e → IsGoodEntry e
  entry_good before [] e known all h = absurd h
  entry_good before (r ∷ rs) e known all h = elim h [
    | inl same ↦
        let there = all r (inl refl) in
        let named = (lawful.records r there).user.0 in
        subst IsGoodEntry same (record { value = valued before known; user = named })
    | inr k ↦ entry_good (Some r) rs e (all r (inl refl)) (λ s i. all s (inr i)) k
  ]
    where
      own : (b : Bool) → IfSome (cond b None (Some r.value)) IsStored
      own true = tt
      own false = record_stored R r lawful (all r (inl refl))

      valued : (before : Option Record) → IfSome before (Has R)
          → IfSome (value_shown (write before) r) IsStored
      valued None k = own (is_delete r.asked)
      valued (Some w) k = go (is_delete w.asked)
        where
          go : (b : Bool) → IfSome (value_shown (cond b None (Some w)) r) IsStored
          go true = own (is_delete r.asked)
          go false = record_stored R w lawful k

  pub modified_good : (q : Details) (p : Option Position) (e : Entry) → Has (modified R node q p) e
      → IsGoodEntry e
  modified_good q p e h =
      let one = (has_from_filter (follows (direction q) (place_at p)) _ e h).0 in
      let two = (has_from_filter (λ (x : Entry). in_body q x.time)
      (in_direction (direction q) (log R node)) e one).0 in
      let t = has_from_flat_map (λ t. reverse (modifications_at R node t)) (times R node) e
      ((has-in_direction (direction q) (log R node) e).0 two) in
      entry_good None (versions R node t.0) e tt (λ r i. ((story_has R node t.0 r).0 i).0)
      (has_from_reverse (modifications_at R node t.0) e t.2)

-- ---- how many bytes

-- the most bytes of a value that is shown
abbrev pub most : ℕ
most = 1048603

-- a value that is shown, and what may be said of it
abbrev pub IsSmall : DataValue → Type 0
IsSmall v = IfSome v.source_pico IsPicoseconds × IfSome v.server_pico IsPicoseconds
    × (length (data_value.canon v) ≤ most)

status_short : (o : Option Status) → length ((flagged (is_some o) status).canon o) ≤ 4
unfolding status unsigned
status_short None = omega arith
status_short (Some s) = omega arith

ticks_short : (o : Option Ticks) → length ((flagged (is_some o) ticks).canon o) ≤ 8
unfolding ticks signed unsigned
ticks_short None = omega arith
ticks_short (Some t) = omega arith

pico_short : (o : Option ℕ) → length ((flagged (is_some o) picoseconds).canon o) ≤ 2
unfolding picoseconds unsigned
pico_short None = omega arith
pico_short (Some n) = omega arith

-- with another status and other stamps it has few bytes more
same_value : (v w : DataValue) → w.value ≡ v.value
    → length (data_value.canon w) ≤ length (data_value.canon v) + 24
same_value v w e =
    let a = data_length v in
    let b = data_length w in
    let s = status_short w.status in
    let t = ticks_short w.source_time in
    let n = pico_short w.source_pico in
    let u = ticks_short w.server_time in
    let m = pico_short w.server_pico in
    let same : length ((flagged (is_some w.value) variant).canon w.value)
    ≡ length ((flagged (is_some v.value) variant).canon v.value) =
    ap (λ x. length ((flagged (is_some x) variant).canon x)) e in
    omega (arith, a, b, s, t, n, u, m, same)

no_value_short : (w : DataValue) → w.value ≡ None → length (data_value.canon w) ≤ 25
no_value_short w e =
    let b = data_length w in
    let s = status_short w.status in
    let t = ticks_short w.source_time in
    let n = pico_short w.source_pico in
    let u = ticks_short w.server_time in
    let m = pico_short w.server_pico in
    let same : length ((flagged (is_some w.value) variant).canon w.value) ≡ 0 =
    ap (λ x. length ((flagged (is_some x) variant).canon x)) e in
    omega (arith, b, s, t, n, u, m, same)

stamped_value : (stamps : TimestampsToReturn) (v : DataValue)
    → (with_stamps stamps v).value ≡ v.value
stamped_value Source v = refl
stamped_value Server v = refl
stamped_value Both v = refl
stamped_value Neither v = refl

stamped_source : (stamps : TimestampsToReturn) (v : DataValue) → IfSome v.source_pico IsPicoseconds
    → IfSome (with_stamps stamps v).source_pico IsPicoseconds
stamped_source Source v h = h
stamped_source Server v h = tt
stamped_source Both v h = h
stamped_source Neither v h = tt

stamped_server : (stamps : TimestampsToReturn) (v : DataValue) → IfSome v.server_pico IsPicoseconds
    → IfSome (with_stamps stamps v).server_pico IsPicoseconds
stamped_server Source v h = tt
stamped_server Server v h = h
stamped_server Both v h = h
stamped_server Neither v h = tt

-- a stored value, with another status and another source time, as it is shown
stored_small : (stamps : TimestampsToReturn) (v w : DataValue) → IsStored v → w.value ≡ v.value
    → w.source_pico ≡ v.source_pico → w.server_pico ≡ v.server_pico → IsSmall (with_stamps stamps w)
stored_small stamps v w stored e f g =
    let size = stored.2 in
    let bound = same_value v (with_stamps stamps w) (stamped_value stamps w ∙ e) in (
      stamped_source stamps w (subst (λ o. IfSome o IsPicoseconds) (sym f) stored.0),
      stamped_server stamps w (subst (λ o. IfSome o IsPicoseconds) (sym g) stored.1),
      omega (arith, size, bound),
    )

empty_small : (stamps : TimestampsToReturn) (w : DataValue) → w.value ≡ None → w.source_pico ≡ None
    → w.server_pico ≡ None → IsSmall (with_stamps stamps w)
empty_small stamps w e f g =
    let bound = no_value_short (with_stamps stamps w) (stamped_value stamps w ∙ e) in (
      stamped_source stamps w (subst (λ o. IfSome o IsPicoseconds) (sym f) tt),
      stamped_server stamps w (subst (λ o. IfSome o IsPicoseconds) (sym g) tt),
      omega (arith, bound),
    )

pub shown_small : (R : Content) (node : NodeId) (lawful : IsLawfulContent R)
    (stamps : TimestampsToReturn) (x : Item) → IsGood R node lawful x → IsSmall (shown stamps x)
shown_small R node lawful stamps (Value h) good =
    stored_small stamps h.value (item_value (Value h)) good refl refl refl
shown_small R node lawful stamps (Missing time) good =
    empty_small stamps (item_value (Missing time)) refl refl refl

pub entry_small : (R : Content) (node : NodeId) (lawful : IsLawfulContent R)
    (stamps : TimestampsToReturn) (e : Entry) → IsGoodEntry R node lawful e
    → IsSmall (shown_entry stamps e)
entry_small R node lawful stamps e good = go e.value good.value
  where
    go : (o : Option DataValue) → IfSome o IsStored
        → IsSmall (with_stamps stamps (at_time e.time (unwrap_or o empty)))
    go None k = empty_small stamps (at_time e.time empty) refl refl refl
    go (Some v) k = stored_small stamps v (at_time e.time v) k refl refl refl

-- ---- of a page

-- lists of at most so many bytes each
pub joined_short : {X : Type 0} (f : X → List ℕ) (xs : List X)
    → ((x : X) → Has xs x → length (f x) ≤ most) → length (flat_map f xs) ≤ length xs * 1048603
joined_short f [] all = omega arith
joined_short f (x ∷ xs) all =
    let first = all x (inl refl) in
    let rest = joined_short f xs (λ y h. all y (inr h)) in
    let both = ap length (flat_map-cons f x xs) ∙ length-append (f x) (flat_map f xs) in
    omega (arith, first, rest, both)

pub size_small : (q : Details) (p : Option Position) → page_size q p ≤ 1000
size_small q p = go (q.num_values_per_node == 0) _
  where
    go : (b : Bool) (n : ℕ) → cond b 1000 (min 1000 n) ≤ 1000
    go true n = omega arith
    go false n = omega arith

pub page_small : {X : Type 0} (q : Details) (p : Option Position) (xs : List X)
    → length (page q p xs) ≤ 1000
page_small q p xs = let n = size_small q p in let l = length-take (page_size q p) xs in
    omega (arith, n, l)

all_shown : {X Y : Type 0} (P : Y → Type 0) (f : X → Y) (xs : List X)
    → ((x : X) → Has xs x → P (f x)) → All P (map f xs)
all_shown P f [] all = λ k d l. absurd (omega (arith, l))
all_shown P f (x ∷ xs) all = all_start P (f x) (map f xs) (all x (inl refl))
    (all_shown P f xs (λ y h. all y (inr h)))

writable : (v : DataValue) → IsSmall v → IsWritable v
writable v small = let size = small.2 in (small.0, small.1, omega (arith, size))

-- the values of a page
module _ {X : Type 0} (f : X → DataValue) (xs : List X) (few : length xs ≤ 1000)
    (small : (x : X) → Has xs x → IsSmall (f x)) where
  shown_few : length (map f xs) ≤ 1000
  shown_few = omega (arith, few, length-map xs f)

  values_writable : AreWritable (map f xs)
  values_writable = let n = shown_few in
      (all_shown IsWritable f xs (λ x h. writable (f x) (small x h)), omega (arith, n))

  values_bytes : length (data_values.canon (map f xs)) ≤ 1048603004
  values_bytes =
      let n = shown_few in
      let whole = array_length variant_fault data_value (map f xs) in
      let sum = joined_short data_value.canon (map f xs)
      (λ v h. let s = has_from_map f xs v h in
      subst (λ w. length (data_value.canon w) ≤ most) s.2 (small s.0 s.1).2) in
      omega (arith, n, whole, sum)

info_short : (i : ModificationInfo) → IfSome i.user_name (λ name. length name ≤ 256)
    → length (modification_info.canon (info_fields i)) ≤ most
unfolding modification_info ticks signed unsigned
info_short i named = go i.user_name named
  where
    go : (o : Option (List ℕ)) → IfSome o (λ name. length name ≤ 256)
        → length (modification_info.canon (
          i.modification_time,
          (pos (update_number i.update_type), o),
        )) ≤ most
    go None h = omega (arith, no_text_length)
    go (Some name) h = omega (arith, h, text_length name)

infos_bytes : (xs : List Entry) → length xs ≤ 1000 → ((e : Entry) → Has xs e → length e.user ≤ 256)
    → length ((many modification_info).canon (map info_fields (map info xs))) ≤ 1048603004
infos_bytes xs few named =
    let n = length-map xs info in
    let m = length-map (map info xs) info_fields in
    let whole = array_length (λ e. e) modification_info (map info_fields (map info xs)) in
    let sum = joined_short modification_info.canon (map info_fields (map info xs)) (λ v h.
    let s = has_from_map info_fields (map info xs) v h in
    let t = has_from_map info xs s.0 s.1 in
    subst (λ w. length (modification_info.canon w) ≤ most) s.2
    (subst (λ i. length (modification_info.canon (info_fields i)) ≤ most) t.2
    (info_short (info t.0) (named t.0 t.1)))) in
    omega (arith, few, n, m, whole, sum)

module _ (R : Content) (v id : List ℕ) (node : NodeId) (query : Query) (p : Option Position)
    (lawful : IsLawfulContent R) where
  raw_writable : IsWritableHistory (raw_result R v id node query p).history_data
  raw_writable =
      let q = query.details in
      let xs = page q p (raw R node q p) in
      let few = page_small q p (raw R node q p) in
      let small : (x : Item) → Has xs x → IsSmall (shown query.stamps x) =
      λ x h. shown_small R node lawful query.stamps x
      (item_good R node lawful q p x (has_take (page_size q p) (raw R node q p) x h)) in
      let bytes = values_bytes (shown query.stamps) xs few small in
      (values_writable (shown query.stamps) xs few small, omega (arith, bytes))

  modified_writable : IsWritableHistory (modified_result R v id node query p).history_data
  modified_writable =
      let q = query.details in
      let xs = page q p (modified R node q p) in
      let few = page_small q p (modified R node q p) in
      let good : (e : Entry) → Has xs e → IsGoodEntry R node lawful e =
      λ e h. modified_good R node lawful q p e
      (has_take (page_size q p) (modified R node q p) e h) in
      let small : (e : Entry) → Has xs e → IsSmall (shown_entry query.stamps e) =
      λ e h. entry_small R node lawful query.stamps e (good e h) in
      let bytes = values_bytes (shown_entry query.stamps) xs few small in
      let more = infos_bytes xs few (λ e h. (good e h).user) in
      let both = length-append (data_values.canon (map (shown_entry query.stamps) xs))
      ((many modification_info).canon (map info_fields (map info xs))) in
      (values_writable (shown_entry query.stamps) xs few small, omega (arith, bytes, more, both))

  page_writable : IsWritableHistory (page_result R v id node query p).history_data
  page_writable = go query.details.is_read_modified
    where
      go : (b : Bool) → IsWritableHistory (cond b (modified_result R v id node query p)
          (raw_result R v id node query p)).history_data
      go true = modified_writable
      go false = raw_writable

-- each page of a lawful content can be written
pub read_writable : (R : Content) (id : List ℕ) (node : NodeId) (query : Query)
    (behind : Option Behind) → IsLawfulContent R
    → IsWritableHistory (page_from R id node query behind).history_data
read_writable R id node query None lawful = page_writable R (numbers_of R) id node query None lawful
read_writable R id node query (Some b) lawful = go (covers R b.1)
  where
    go : (c : Bool) → IsWritableHistory (cond c
        (page_result (cut R (number_of b.1)) b.1 id node query (Some b.0))
        (refused_read BAD_CONTINUATION_POINT_INVALID)).history_data
    go true = page_writable (cut R (number_of b.1)) b.1 id node query (Some b.0)
        (lawful_cut R (number_of b.1) lawful)
    go false = tt
