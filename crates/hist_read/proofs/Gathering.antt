-- What is gathered by asking for a few rows at a time.
use Rattle.std.proofs.Common.{◌≡◌, ℕ, zero, suc, ◌+◌, ◌-◌, ◌^◌, ◌<◌, ◌≤◌, ◌⊎◌, inl, inr, ℤ, ◌≤ℤ◌, true, false, Bool, cond, List, [], ◌∷◌, ◌++◌, map, min, take, drop, length, get_or, slice_get, Option, Some, None, IfSome, refl, sym, ap, ◌∙◌, subst, arith}
use Rattle.std.specs.Prelude.{if◌then◌else◌}
use Rattle.std.proofs.lemmas.List.{length-append, length-take, length-drop, take-take, take_all, drop-drop, drop-take, take-append-drop, map-append, map_more}
use Rattle.std.proofs.lemmas.Option.{none-some}
use Rattle.ua_binary.specs.Format.{saturated}
use Rattle.ua_binary.specs.declared.values.NodeId.{NodeId}
use Rattle.ua_variant.specs.declared.data.DataValue.{DataValue}
use Rattle.records.specs.Lists.{Has, IsPairwise, last}
use Rattle.records.specs.Contents.{Content}
use Rattle.records.specs.declared.shown.Held.{Held}
use Rattle.records.specs.declared.shown.Entry.{Entry}
use Rattle.records.proofs.Sorting.{has_from_filter}
use Rattle.records.proofs.LatestLemmas.{story_has}
use Rattle.archive.specs.Reading.{is_past, is_between, range_of, log_of, place_of}
use Rattle.archive.specs.Store.{IsLawfulContent}
use Rattle.archive.specs.declared.reading.LogPlace.{LogPlace}
use Rattle.archive.proofs.Ranges.{range_goes, range_has}
use Rattle.archive.proofs.Timing.{has_from_get, current_from}
use Rattle.archive.proofs.Resuming.{log_resumes}
use Rattle.ua_services.specs.declared.history.ReadRawModifiedDetails.{ReadRawModifiedDetails as Details}
use Rattle.hist_read.specs.Asking.{first_time, direction}
use Rattle.hist_read.specs.Reads.{greatest_time, in_body, values_inside, is_past_any, values_beyond, is_near_alone, limit_at, body_part, entries_behind, page_size}
use Rattle.hist_read.specs.Pages.{body_limit}
use Rattle.hist_read.specs.Carrying.{value_length, values_length, Exceeds}
use Rattle.hist_read.specs.Gathering.{IsGathered, GathersOn, AreTooLong, IsBodyTooLong, AreGathered, EntriesGatherOn}
use Rattle.hist_read.specs.declared.point.Position.{Position}
use Rattle.hist_read.specs.declared.raw.Gathered.{Gathered}
use Rattle.hist_read.specs.declared.modified.GatheredEntries.{GatheredEntries}
use Rattle.hist_read.proofs.Carried.{size_more}
use Rattle.hist_read.proofs.Lives.{IsSpanOf, span_reads, log_reads, record_time}
use Rattle.hist_read.proofs.Passing.{past_is_drop, past_passes}
use Rattle.hist_read.proofs.RawJoining.{past_back, past_on}

-- ---- lists of which a part more is taken

take_length : {X : Type 0} (n : ℕ) (xs : List X) → take (length (take n xs)) xs ≡ take n xs
take_length zero xs = refl
take_length (suc n) [] = refl
take_length (suc n) (x ∷ xs) = ap (λ l. x ∷ l) (take_length n xs)

take_add : {X : Type 0} (n m : ℕ) (xs : List X) → take n xs ++ take m (drop n xs) ≡ take (n + m) xs
take_add n m xs =
    let whole = take (n + m) xs in
    sym (sym (take-append-drop n whole)
    ∙ (λ i. take-take n (n + m) xs (omega arith) i ++ drop-take n m xs i))

last_of : {X : Type 0} (xs : List X) (x : X) → last xs ≡ Some x
    → (k : ℕ) × (length xs ≡ suc k) × (slice_get xs k ≡ Some x)
last_of [] x e = absurd (none-some _ e)
last_of (y ∷ ys) x e =
    let less : suc (length ys) - 1 ≡ length ys = omega arith in
    (length ys, refl, ap (slice_get (y ∷ ys)) (sym less) ∙ e)

got_of_take : {X : Type 0} (k n : ℕ) (xs : List X) (x : X) → slice_get (take n xs) k ≡ Some x
    → slice_get xs k ≡ Some x
got_of_take k zero xs x e = absurd (none-some _ e)
got_of_take k (suc n) [] x e = e
got_of_take zero (suc n) (y ∷ ys) x e = e
got_of_take (suc k) (suc n) (y ∷ ys) x e = got_of_take k n ys x e

last_none : {X : Type 0} (xs : List X) → last xs ≡ None → length xs ≡ 0
last_none [] e = refl
last_none (x ∷ xs) e = absurd (some_last x xs e)
  where
    less : (n : ℕ) → suc n - 1 ≡ n
    less n = omega arith

    some_last : {X : Type 0} (x : X) (xs : List X) → last (x ∷ xs) ≡ None → ⊥
    some_last x [] e = none-some _ (sym e)
    some_last x (y ∷ ys) e = some_last y ys (sym (ap (slice_get (x ∷ y ∷ ys)) (less (suc (length ys)))
        ∙ sym (ap (slice_get (y ∷ ys)) (less (length ys)))) ∙ e)

-- the first of a list were gathered, then a few of the others
module _ {X : Type 0} (all old next behind : List X) (most limit : ℕ)
    (first : old ≡ take (length old) all) (others : behind ≡ drop (length old) all)
    (taken : next ≡ take limit behind) (few : length old ≤ most)
    (small : limit ≤ most - length old) where
  grown : old ++ next ≡ take (length old + limit) all
  grown = (λ i. first i ++ (taken ∙ ap (take limit) others) i) ∙ take_add (length old) limit all

  pub gathered_first : old ++ next ≡ take (length (old ++ next)) all
  gathered_first = grown ∙ sym (ap (λ l. take (length l) all) grown
      ∙ take_length (length old + limit) all)

  next_short : length next ≤ limit
  next_short = omega (arith, ap length taken, length-take limit behind)

  pub gathered_few : length (old ++ next) ≤ most
  gathered_few = omega (arith, next_short, few, small, length-append old next)

  pub gathered_others : (drop (length next) behind) ≡ drop (length (old ++ next)) all
  gathered_others = ap (drop (length next)) others
      ∙ drop-drop (length next) (length old) all
      ∙ ap (λ n. drop n all) (sym (length-append old next))

  -- where the others are fewer than were asked for, or the count was reached, these are all that are
  -- wanted
  pub gathered_all : (length next < limit) ⊎ (most ≤ length (old ++ next))
      → old ++ next ≡ take most all
  gathered_all (inl less) =
      let none : length behind < limit = omega (arith, less, ap length taken, length-take limit behind) in
      let rest : length behind ≡ length all - length old =
      ap length others ∙ length-drop (length old) all in
      grown ∙ take_all _ all (omega (arith, none, rest))
      ∙ sym (take_all most all (omega (arith, none, rest, small)))
  gathered_all (inr many) =
      let size : length (old ++ next) ≡ most = omega (arith, gathered_few, many) in
      gathered_first ∙ ap (λ n. take n all) size

-- the next round has fewer to ask for
pub fewer : (more next : Bool) (most later n m : ℕ) → more ≡ true → later ≡ most
    → (next ≡ true → (n < m) × (m < later))
    → (if next then later - m + 1 else 0) < (if more then most - n + 1 else 0)
fewer true true most later n m is same grows = let g = grows refl in
    omega (arith, same, g.0, g.1)
fewer true false most later n m is same grows = omega arith
fewer false next most later n m is same grows = absurd cc

-- ---- sizes

-- a portion more
pub size_append : {X : Type 0} (value : X → DataValue) (xs ys : List X) (size more after : ℕ)
    → size ≡ saturated (values_length (map value xs))
    → more ≡ saturated (values_length (map value ys)) → after ≡ min (size + more) (2 ^ 64 - 1)
    → after ≡ saturated (values_length (map value (xs ++ ys)))
size_append value xs ys size more after s m e =
    let sum = ap values_length (map-append value xs ys)
    ∙ size_more (map value xs) (map value ys) in
    omega (arith, sum, s, m, e)

-- one more
pub size_one : {X : Type 0} (value : X → DataValue) (xs : List X) (i size bytes after : ℕ) (d x : X)
    → i < length xs → x ≡ get_or xs i d → size ≡ saturated (values_length (map value (take i xs)))
    → bytes ≡ saturated (value_length (value x)) → after ≡ min (size + bytes) (2 ^ 64 - 1)
    → after ≡ saturated (values_length (map value (take (i + 1) xs)))
size_one value xs i size bytes after d x within is so_far b e =
    let more = ap values_length (map_more value xs i d within)
    ∙ size_more (map value (take i xs)) (value (get_or xs i d) ∷ []) in
    let one = ap (λ y. value_length (value y)) (sym is) in
    omega (arith, more, one, so_far, b, e)

-- those that were gathered are too long, and a page shows them
pub too_long : {X : Type 0} (value : X → DataValue) (longest : Option ℕ) (count size : ℕ)
    (all gathered : List X) → length gathered < count
    → size ≡ saturated (values_length (map value gathered)) → Exceeds longest size
    → (limit : ℕ) × (longest ≡ Some limit)
    × (gathered ≡ take (length gathered) all → AreTooLong value count all limit)
too_long value None count size all gathered few is e = absurd e
too_long value (Some limit) count size all gathered few is e = (
  limit,
  refl,
  λ first. (
    length gathered,
    few,
    subst (λ xs. limit < values_length (map value xs)) first (omega (arith, is, e)),
  ),
)

-- ---- values

-- the moment where these values end, in case there is a last one
abbrev pub end_behind : Option Held → Option ℤ → Option ℤ
end_behind found end = elim found [ Some value ↦ Some value.time | None ↦ end ]

module _ (R : Content) (node : NodeId) (q : Details) (lawful : IsLawfulContent R) (from to : ℤ)
    (behind : Option ℤ) (span : IsSpanOf q behind from to) where
  range_is : range_of R node from to (direction q) ≡ values_beyond R node q behind
  range_is = span_reads R node q behind from to lawful span

  goes : IsPairwise (λ a b. is_past (direction q) a.time b.time ≡ true)
      (values_beyond R node q behind)
  goes = subst (IsPairwise (λ a b. is_past (direction q) a.time b.time ≡ true)) range_is
      (range_goes R node from to (direction q))

  -- what is beyond a value's time is what stands behind it
  beyond_value : (k : ℕ) (h : Held) → slice_get (values_beyond R node q behind) k ≡ Some h
      → values_beyond R node q (Some h.time) ≡ drop (suc k) (values_beyond R node q behind)
  beyond_value k h e =
      let d = direction q in
      let on : is_past_any d behind h.time ≡ true =
      (has_from_filter (λ g. is_past_any d behind g.time) (values_inside R node q) h
      (has_from_get (values_beyond R node q behind) k h e)).1 in
      sym (past_passes (λ g. is_past d h.time g.time) (λ g. is_past_any d behind g.time)
      (λ g m. past_on d behind h g on m) (values_inside R node q))
      ∙ past_is_drop (λ a b. is_past d a.time b.time) (past_back d)
      (values_beyond R node q behind) k h goes e

  -- and the time is a lawful one
  value_late : (k : ℕ) (h : Held) → slice_get (values_beyond R node q behind) k ≡ Some h
      → first_time ≤ℤ h.time
  value_late k h e =
      let has : Has (range_of R node from to (direction q)) h =
      subst (λ l. Has l h) (sym range_is) (has_from_get (values_beyond R node q behind) k h e) in
      let live = ((range_has R node from to (direction q) h).0 has).live in
      let r = current_from R node h.time h live in
      subst (λ t. first_time ≤ℤ t) r.2
      (record_time R r.0 lawful ((story_has R node h.time r.0).0 r.1).0).0

  -- where the next values end, those that follow them begin
  pub gathers_on : (start : Option ℤ) (limit : ℕ) (next : List Held) (g h : Gathered) (more : Bool)
      → g.reached ≡ behind → next ≡ take limit (range_of R node from to (direction q))
      → h.values.items ≡ g.values.items ++ next → h.wanted ≡ g.wanted
      → limit ≤ g.wanted - length g.values.items
      → h.reached ≡ end_behind (last next) g.reached
      → (more ≡ false → (length next < limit) ⊎ (g.wanted ≤ length h.values.items))
      → IsGathered R node q start g → GathersOn R node q start more h
  gathers_on start limit next g h more ends taken values most small end ending so_far = (
    record {
      first = values ∙ gathered_first all old next beyond g.wanted limit so_far.first others is
          so_far.few small ∙ ap (λ l. take (length l) all) (sym values);
      others = at (last next) refl
          ∙ gathered_others all old next beyond g.wanted limit so_far.first others is so_far.few small
          ∙ ap (λ l. drop (length l) all) (sym values);
      late = subst (λ o. IfSome o (λ t. first_time ≤ℤ t)) (sym end) (late_at (last next) refl);
      few = subst (λ n. length h.values.items ≤ n) (sym most)
          (subst (λ l. length l ≤ g.wanted) (sym values)
          (gathered_few all old next beyond g.wanted limit so_far.first others is so_far.few small));
    },
    λ e. values
        ∙ gathered_all all old next beyond g.wanted limit so_far.first others is so_far.few small
        (by_count (ending e))
        ∙ ap (λ n. take n all) (sym most),
  )
    where
      all : List Held
      all = values_beyond R node q start

      old : List Held
      old = g.values.items

      beyond : List Held
      beyond = values_beyond R node q behind

      others : beyond ≡ drop (length old) all
      others = ap (values_beyond R node q) (sym ends) ∙ so_far.others

      is : next ≡ take limit beyond
      is = taken ∙ ap (take limit) range_is

      by_count : (length next < limit) ⊎ (g.wanted ≤ length h.values.items)
          → (length next < limit) ⊎ (g.wanted ≤ length (old ++ next))
      by_count (inl e) = inl e
      by_count (inr e) = inr (subst (λ l. g.wanted ≤ length l) values e)

      at : (o : Option Held) → last next ≡ o
          → values_beyond R node q h.reached ≡ drop (length next) beyond
      at None e =
          let none = last_none next e in
          ap (values_beyond R node q) (end ∙ ap (λ o. end_behind o g.reached) e ∙ ends)
          ∙ ap (λ n. drop n beyond) (sym none)
      at (Some x) e =
          let k = last_of next x e in
          ap (values_beyond R node q) (end ∙ ap (λ o. end_behind o g.reached) e)
          ∙ beyond_value k.0 x (got_of_take k.0 limit beyond x
          (ap (λ l. slice_get l k.0) (sym is) ∙ k.2))
          ∙ ap (λ n. drop n beyond) (sym k.1)

      late_at : (o : Option Held) → last next ≡ o
          → IfSome (end_behind (last next) g.reached) (λ t. first_time ≤ℤ t)
      late_at None e =
          subst (λ o. IfSome (end_behind o g.reached) (λ t. first_time ≤ℤ t)) (sym e) so_far.late
      late_at (Some x) e =
          let k = last_of next x e in
          subst (λ o. IfSome (end_behind o g.reached) (λ t. first_time ≤ℤ t)) (sym e)
          (value_late k.0 x (got_of_take k.0 limit beyond x
          (ap (λ l. slice_get l k.0) (sym is) ∙ k.2)))

-- all that are wanted are those of the body that a page looks at
pub body_all : (R : Content) (node : NodeId) (q : Details) (p : Option Position) (most : ℕ)
    (values : List Held) → values ≡ take most (values_beyond R node q (limit_at q p))
    → most ≡ body_limit q p → values ≡ take (page_size q p + 1) (body_part R node q p)
body_all R node q p most values is wanted =
    is ∙ ap (λ n. take n (values_beyond R node q (limit_at q p))) wanted ∙ by (is_near_alone q)
  where
    by : (alone : Bool)
        → take (cond alone 0 (page_size q p + 1)) (values_beyond R node q (limit_at q p))
        ≡ take (page_size q p + 1) (cond alone [] (values_beyond R node q (limit_at q p)))
    by true = sym (take_all (page_size q p + 1) [] (omega arith))
    by false = refl

-- and those that are too long are too long there
pub body_long : (R : Content) (node : NodeId) (q : Details) (p : Option Position) (most limit : ℕ)
    → most ≡ body_limit q p
    → AreTooLong (λ h. h.value) (most - 1) (values_beyond R node q (limit_at q p)) limit
    → IsBodyTooLong R node q p limit
body_long R node q p most limit wanted long = by (is_near_alone q)
    (subst (λ n. AreTooLong (λ h. h.value) (n - 1) (values_beyond R node q (limit_at q p)) limit)
    wanted long)
  where
    by : (alone : Bool) → AreTooLong (λ h. h.value) (cond alone 0 (page_size q p + 1) - 1)
        (values_beyond R node q (limit_at q p)) limit
        → AreTooLong (λ h. h.value) (page_size q p)
        (cond alone [] (values_beyond R node q (limit_at q p))) limit
    by true (k, less, more) = absurd (omega (arith, less))
    by false (k, less, more) = (k, omega (arith, less), more)

-- before any is gathered
pub gathered_none : (R : Content) (node : NodeId) (q : Details) (start : Option ℤ) (g : Gathered)
    → g.values.items ≡ [] → g.reached ≡ start → IfSome start (λ t. first_time ≤ℤ t)
    → IsGathered R node q start g
gathered_none R node q start g none is late = record {
  first = none ∙ sym (ap (λ l. take (length l) (values_beyond R node q start)) none);
  others = ap (values_beyond R node q) is
      ∙ sym (ap (λ l. drop (length l) (values_beyond R node q start)) none);
  late = subst (λ o. IfSome o (λ t. first_time ≤ℤ t)) (sym is) late;
  few = subst (λ l. length l ≤ g.wanted) (sym none) (omega arith);
}

-- ---- modifications

-- the place where these modifications end, in case there is a last one
abbrev pub place_behind : Option Entry → Option LogPlace → Option LogPlace
place_behind found end = elim found [ Some entry ↦ Some (place_of entry) | None ↦ end ]

module _ (R : Content) (node : NodeId) (q : Details) (lawful : IsLawfulContent R) (from to : ℤ)
    (span : (t : ℤ) → first_time ≤ℤ t → t ≤ℤ greatest_time → is_between from to t ≡ in_body q t)
  where
    log_is : (after : Option LogPlace)
        → log_of R node from to after (direction q) ≡ entries_behind R node q after
    log_is after = log_reads R node q after from to lawful span

    -- what follows a modification's place is what stands behind it
    behind_entry : (after : Option LogPlace) (k : ℕ) (e : Entry)
        → slice_get (entries_behind R node q after) k ≡ Some e
        → entries_behind R node q (Some (place_of e)) ≡ drop (suc k) (entries_behind R node q after)
    behind_entry after k e is =
        let one : k + 1 ≡ suc k = omega arith in
        sym (log_is (Some (place_of e)))
        ∙ log_resumes R node from to after (direction q) k e lawful.closed
        (ap (λ l. slice_get l k) (log_is after) ∙ is)
        ∙ ap (drop (k + 1)) (log_is after)
        ∙ ap (λ n. drop n (entries_behind R node q after)) one

    -- where the next modifications end, those that follow them begin
    pub entries_gather_on : (start : Option LogPlace) (limit : ℕ) (next : List Entry)
        (g h : GatheredEntries) (more : Bool)
        → next ≡ take limit (log_of R node from to g.reached (direction q))
        → h.entries.items ≡ g.entries.items ++ next → h.wanted ≡ g.wanted
        → limit ≤ g.wanted - length g.entries.items
        → h.reached ≡ place_behind (last next) g.reached
        → (more ≡ false → (length next < limit) ⊎ (g.wanted ≤ length h.entries.items))
        → AreGathered R node q start g → EntriesGatherOn R node q start more h
    entries_gather_on start limit next g h more taken entries most small end ending so_far = (
      record {
        first = entries ∙ gathered_first all old next behind g.wanted limit so_far.first so_far.others
            is so_far.few small ∙ ap (λ l. take (length l) all) (sym entries);
        others = at (last next) refl
            ∙ gathered_others all old next behind g.wanted limit so_far.first so_far.others is
            so_far.few small
            ∙ ap (λ l. drop (length l) all) (sym entries);
        few = subst (λ n. length h.entries.items ≤ n) (sym most)
            (subst (λ l. length l ≤ g.wanted) (sym entries)
            (gathered_few all old next behind g.wanted limit so_far.first so_far.others is so_far.few
            small));
      },
      λ e. entries
          ∙ gathered_all all old next behind g.wanted limit so_far.first so_far.others is so_far.few
          small (by_count (ending e))
          ∙ ap (λ n. take n all) (sym most),
    )
      where
        all : List Entry
        all = entries_behind R node q start

        old : List Entry
        old = g.entries.items

        behind : List Entry
        behind = entries_behind R node q g.reached

        is : next ≡ take limit behind
        is = taken ∙ ap (take limit) (log_is g.reached)

        by_count : (length next < limit) ⊎ (g.wanted ≤ length h.entries.items)
            → (length next < limit) ⊎ (g.wanted ≤ length (old ++ next))
        by_count (inl e) = inl e
        by_count (inr e) = inr (subst (λ l. g.wanted ≤ length l) entries e)

        at : (o : Option Entry) → last next ≡ o
            → entries_behind R node q h.reached ≡ drop (length next) behind
        at None e =
            let none = last_none next e in
            ap (entries_behind R node q) (end ∙ ap (λ o. place_behind o g.reached) e)
            ∙ ap (λ n. drop n behind) (sym none)
        at (Some x) e =
            let k = last_of next x e in
            ap (entries_behind R node q) (end ∙ ap (λ o. place_behind o g.reached) e)
            ∙ behind_entry g.reached k.0 x (got_of_take k.0 limit behind x
            (ap (λ l. slice_get l k.0) (sym is) ∙ k.2))
            ∙ ap (λ n. drop n behind) (sym k.1)

-- before any is gathered
pub entries_none : (R : Content) (node : NodeId) (q : Details) (start : Option LogPlace)
    (g : GatheredEntries) → g.entries.items ≡ [] → g.reached ≡ start → AreGathered R node q start g
entries_none R node q start g none is = record {
  first = none ∙ sym (ap (λ l. take (length l) (entries_behind R node q start)) none);
  others = ap (entries_behind R node q) is
      ∙ sym (ap (λ l. drop (length l) (entries_behind R node q start)) none);
  few = subst (λ l. length l ≤ g.wanted) (sym none) (omega arith);
}
