-- What whole reads show of a record.
use Rattle.std.proofs.Common.{◌≡◌, ℕ, suc, ◌==◌, ℤ, pos, ◌≤ℤ◌, Bool, true, false, cond, ◌&&◌, not, arith, List, [], ◌∷◌, map, filter, take, reverse, Option, Some, None, option_map, refl, sym, ap, ◌∙◌, subst, inl, inr, Less}
use Rattle.std.specs.Prelude.{slice_get, ◌↔◌}
use Rattle.std.proofs.lemmas.Option.{none-some, same_Some, slice_get-map}
use Rattle.ua_binary.specs.declared.values.NodeId.{NodeId}
use Rattle.ua_services.specs.declared.attributes.TimestampsToReturn.{TimestampsToReturn}
use Rattle.ua_services.specs.declared.history.ReadRawModifiedDetails.{ReadRawModifiedDetails as Details}
use Rattle.ua_services.specs.declared.history.HistoryData.TheVariants.{Raw, Modified}
use Rattle.records.specs.Lists.{Has, IsPairwise, Rises, last}
use Rattle.records.specs.Records.{is_delete, record_stamp_cmp, versions, live_value, modifications_at, entries_after, entry, write}
use Rattle.records.specs.Contents.{Content, IsClosed, IsLatest}
use Rattle.records.specs.declared.record.Record.{Record}
use Rattle.records.specs.declared.shown.Held.{Held}
use Rattle.records.specs.declared.shown.Entry.{Entry}
use Rattle.records.proofs.CloseLemmas.{closed_stamps}
use Rattle.records.proofs.FoundLemmas.{found, last_more}
use Rattle.records.proofs.LatestLemmas.{latest_written, latest_deleted, story_rises, story_has}
use Rattle.records.proofs.Orders.{stamp_total}
use Rattle.records.proofs.Sorting.{all-has, has-filter, has_from_filter, pairwise-filter, asymmetric, irreflexive}
use Rattle.archive.specs.Store.{IsLawfulContent}
use Rattle.archive.specs.declared.reading.Direction.{Direction}
use Rattle.archive.specs.declared.reading.Direction.TheVariants.{Forward, Backward}
use Rattle.archive.specs.Reading.{times, lives, log, in_direction, is_between, is_past}
use Rattle.archive.proofs.Ranges.{IsAhead, chosen_go, between_from}
use Rattle.archive.proofs.SetLemmas.{exact_test}
use Rattle.records.specs.Moments.{moment, ticks_of, whole_again, pico_within}
use Rattle.std.specs.Ordering.{int_eq}
use Rattle.std.proofs.lemmas.Int.{ints}
use Rattle.std.proofs.lemmas.Bool.Decides.{nat_tests}
use Rattle.std.proofs.lemmas.Bool.{cases_Bool, true≢false}
use Rattle.archive.proofs.Turning.{has-filter_map, has_from_filter_map, has-flat_map, has-reverse, has-in_direction}
use Rattle.archive.proofs.Timing.{has_from_get, current_time, entry_time}
use Rattle.hist_read.specs.declared.query.Query.{Query}
use Rattle.hist_read.specs.Asking.{is_given, has_both, direction}
use Rattle.hist_read.specs.Reads.{in_body, in_body_of, is_from, last_within, values_inside, value_items, near, raw, modified}
use Rattle.hist_read.proofs.ReadsParts.{lives_in}
use Rattle.hist_read.specs.Wholes.{behind_origin, with_far}
use Rattle.hist_read.proofs.Wholes.{whole_is}
use Rattle.hist_read.proofs.Filters.{filter_all}
use Rattle.hist_read.specs.Showing.{shown, shown_entry, info}
use Rattle.hist_read.specs.Chains.{Page, limited, whole_read, values_in, infos_in, joined_values, joined_infos}
use Rattle.headline.specs.Readings.{Reaches, at_one_time, IsOfRaw, ShowsModification, ShowsAt}
use Rattle.headline.proofs.Updates.{HasLater}

get_from_has : {X : Type 0} (xs : List X) (x : X) → Has xs x → (k : ℕ) × (slice_get xs k ≡ Some x)
get_from_has [] x h = absurd h
get_from_has (y ∷ ys) x h = elim h [
  | inl e ↦ (0, ap Some e)
  | inr k ↦ let m = get_from_has ys x k in
      (suc m.0, m.1)
]

-- ---- members of what is read

module _ (R : Content) (node : NodeId) (q : Details) where
  body_has : (h : Held) → Has (values_inside R node q) h ↔
      ((live_value R node h.time ≡ Some h) × (in_body q h.time ≡ true))
  body_has h = (
    λ k.
        let m = has_from_filter (λ (x : Held). in_body q x.time) (lives_in R node q) h k in
        let t = has_from_filter_map (live_value R node) (times R node) h
        ((has-in_direction (direction q) (lives R node) h).0 m.0) in (
          subst (λ s. live_value R node s ≡ Some h) (sym (current_time R node t.0 h t.2).1) t.2,
          m.1,
        ),
    λ k. has-filter (λ (x : Held). in_body q x.time) (lives_in R node q) h
        ((has-in_direction (direction q) (lives R node) h).1
        (has-filter_map (live_value R node) (times R node) h.time h
        (current_time R node h.time h k.0).0 k.0)) k.1,
  )

  modified_has : (e : Entry) → Has (modifications_at R node e.time) e → in_body q e.time ≡ true
      → Has (modified R node q None) e
  modified_has e h within =
      subst (λ l. Has l e) (sym
      (filter_all (filter (λ (x : Entry). in_body q x.time)
      (in_direction (direction q) (log R node)))))
      (has-filter (λ (x : Entry). in_body q x.time) (in_direction (direction q) (log R node)) e
      ((has-in_direction (direction q) (log R node) e).1
      (has-flat_map (λ t. reverse (modifications_at R node t)) (times R node) e.time e
      (entry_time R node e.time e h).0 (has-reverse (modifications_at R node e.time) e h)))
      within)

  -- in the direction each value is beyond those before it
  body_goes : IsPairwise (IsAhead (direction q)) (values_inside R node q)
  body_goes = pairwise-filter (IsAhead (direction q)) (λ (h : Held). in_body q h.time)
      (lives_in R node q) (subst
      (λ l. IsPairwise (IsAhead (direction q)) (in_direction (direction q) l))
      (filter_all (lives R node)) (chosen_go R node (λ h. true) (direction q)))

-- ---- the values of one time

int_eq_same : (x y : ℤ) → x ≡ y → int_eq x y ≡ true
int_eq_same x y e = grind (arith, nat_tests, ints, e)

differ : (x y : ℤ) → (x ≡ y → ⊥) → int_eq x y ≡ false
differ x y f = elim (cases_Bool (int_eq x y)) [ inl e ↦ absurd (f (exact_test x y e)) | inr e ↦ e ]

ahead_differ : (d : Direction) (s t u : ℤ) → is_past d s t ≡ true → t ≡ u → int_eq s u ≡ false
ahead_differ Forward s t u e k = grind (arith, nat_tests, ints, e, k)
ahead_differ Backward s t u e k = grind (arith, nat_tests, ints, e, k)

behind_differ : (d : Direction) (s t u : ℤ) → is_past d s t ≡ true → s ≡ u → int_eq t u ≡ false
behind_differ Forward s t u e k = grind (arith, nat_tests, ints, e, k)
behind_differ Backward s t u e k = grind (arith, nat_tests, ints, e, k)

none_at : (time : ℤ) (xs : List Held) → ((h : Held) → Has xs h → h.time ≡ time → ⊥)
    → filter (λ h. int_eq h.time time) xs ≡ []
none_at time [] absent = refl
none_at time (x ∷ xs) absent = ap (λ b.
    cond b (x ∷ filter (λ (h : Held). int_eq h.time time) xs)
    (filter (λ (h : Held). int_eq h.time time) xs)) (differ x.time time (absent x (inl refl)))
    ∙ none_at time xs (λ h m. absent h (inr m))

-- of values that go on in a direction there is one of a time
only_at : (d : Direction) (xs : List Held) (h : Held) (time : ℤ) → IsPairwise (IsAhead d) xs
    → Has xs h → h.time ≡ time → filter (λ x. int_eq x.time time) xs ≡ h ∷ []
only_at d [] h time goes m at = absurd m
only_at d (x ∷ xs) h time goes m at =
    let chosen = λ (b : Bool). cond b (x ∷ filter (λ (y : Held). int_eq y.time time) xs)
    (filter (λ (y : Held). int_eq y.time time) xs) in
    elim m [
      | inl e ↦
          let here : x.time ≡ time = ap (λ (y : Held). y.time) e ∙ at in
          let rest : filter (λ (y : Held). int_eq y.time time) xs ≡ [] =
          none_at time xs (λ y k same.
          true≢false (sym (int_eq_same y.time time same)
          ∙ behind_differ d x.time y.time time (all-has (IsAhead d x) xs y goes.0 k) here)) in
          ap chosen (int_eq_same x.time time here) ∙ (ap (λ l. x ∷ l) rest ∙ ap (λ y. y ∷ []) e)
      | inr k ↦ ap chosen (ahead_differ d x.time h.time time
          (all-has (IsAhead d x) xs h goes.0 k) at) ∙ only_at d xs h time goes.1 k at
    ]

-- ---- whole reads between two times

module _ (R : Content) (node : NodeId) (q : Details) (stamps : TimestampsToReturn) where
  abbrev query : Query
  query = record { details = q; stamps = stamps }

  abbrev entries_read : List Entry
  entries_read = limited q (modified R node q None)

  all_counted : {X : Type 0} (xs : List X) → has_both q ≡ true → limited q xs ≡ xs
  all_counted xs both = ap (λ b. cond b xs (take q.num_values_per_node xs)) both

  raw_shown : IsOfRaw q → has_both q ≡ true
      → values_in (whole_read R node query)
      ≡ map (shown stamps) (value_items (values_inside R node q))
  raw_shown is both =
      ap (λ b. values_in (cond b
      (Modified (map (shown_entry stamps) entries_read) (map info entries_read))
      (Raw (map (shown stamps) (limited q (raw R node q None)))))) is.0
      ∙ (ap (map (shown stamps)) (all_counted (raw R node q None) both)
      ∙ ap (map (shown stamps)) (whole_is R node q
      ∙ ap (λ b. cond (not b) (value_items (values_inside R node q))
      (cond (q.num_values_per_node == 1) (near R node q ∷ [])
      (with_far R node q (near R node q ∷ value_items (behind_origin R node q))))) is.1))

  modified_shown : q.is_read_modified ≡ true → has_both q ≡ true
      → (values_in (whole_read R node query) ≡ map (shown_entry stamps) (modified R node q None))
      × (infos_in (whole_read R node query) ≡ map info (modified R node q None))
  modified_shown is both =
      let mods = Modified (map (shown_entry stamps) entries_read) (map info entries_read) in
      let raws = Raw (map (shown stamps) (limited q (raw R node q None))) in (
        ap (λ b. values_in (cond b mods raws)) is
            ∙ ap (map (shown_entry stamps)) (all_counted (modified R node q None) both),
        ap (λ b. infos_in (cond b mods raws)) is
            ∙ ap (map info) (all_counted (modified R node q None) both),
      )

  module _ (pages : List Page) (shows : joined_values pages ≡ values_in (whole_read R node query))
      (told : joined_infos pages ≡ infos_in (whole_read R node query)) where
    modification : (e : Entry) → q.is_read_modified ≡ true → has_both q ≡ true
        → Has (modified R node q None) e → ShowsModification stamps pages e
    modification e is both h =
        let found = get_from_has (modified R node q None) e h in
        let all = modified_shown is both in (
          found.0,
          ap (λ l. slice_get l found.0) (shows ∙ all.0)
              ∙ (slice_get-map (shown_entry stamps) (modified R node q None) found.0
              ∙ ap (option_map (shown_entry stamps)) found.1),
          ap (λ l. slice_get l found.0) (told ∙ all.1)
              ∙ (slice_get-map info (modified R node q None) found.0
              ∙ ap (option_map info) found.1),
        )

-- ---- a record's own modification

own_in : (before : Option Record) (rs : List Record) (r : Record) → Has rs r
    → (behind : Option Record) × Has (entries_after before rs) (entry behind r)
own_in before [] r h = absurd h
own_in before (a ∷ rs) r h = elim h [
  | inl e ↦ (write before, inl (ap (entry (write before)) e))
  | inr k ↦ let m = own_in (Some a) rs r k in (m.0, inr m.1)
]

-- of a list that rises, nothing is above the last
last_greatest : (xs : List Record) (r z : Record) → Rises record_stamp_cmp xs → last xs ≡ Some r
    → Has xs z → record_stamp_cmp r z ≡ Less → ⊥
last_greatest [] r z up e h less = absurd h
last_greatest (x ∷ []) r z up e h less = elim h [
  | inl k ↦
      irreflexive record_stamp_cmp stamp_total z (subst (λ a. record_stamp_cmp a z ≡ Less)
      (sym (same_Some _ _ e) ∙ k) less)
  | inr k ↦ absurd k
]
last_greatest (x ∷ y ∷ ys) r z up e h less =
    let rest : last (y ∷ ys) ≡ Some r = sym (last_more x y ys) ∙ e in
    elim h [
      | inl k ↦
          let there : Has (y ∷ ys) r = has_from_get (y ∷ ys) _ r rest in
          asymmetric record_stamp_cmp stamp_total x r
          (all-has (λ b. record_stamp_cmp x b ≡ Less) (y ∷ ys) r up.0 there)
          (subst (λ a. record_stamp_cmp r a ≡ Less) (sym k) less)
      | inr m ↦ last_greatest (y ∷ ys) r z up.1 rest m less
    ]

-- ---- what is shown of a record

module _ (R : Content) (closed : IsClosed R) (r : Record) (q : Details)
    (stamps : TimestampsToReturn) (reaches : Reaches q r.time) (pages : List Page)
    (shows : joined_values pages ≡ values_in (whole_read R r.node
    (record { details = q; stamps = stamps })))
    (told : joined_infos pages
    ≡ infos_in (whole_read R r.node (record { details = q; stamps = stamps })))
  where
    shown_so : (e : Entry) → q.is_read_modified ≡ true → Has (modifications_at R r.node r.time) e
        → (e.time ≡ r.time) × ShowsModification stamps pages e
    shown_so e is h =
        let time : e.time ≡ r.time = (entry_time R r.node r.time e h).1 in (
          time,
          modification R r.node q stamps pages shows told e is reaches.0
              (modified_has R r.node q e (subst (λ t. Has (modifications_at R r.node t) e)
              (sym time) h) (ap (in_body q) time ∙ reaches.1)),
        )

    pub own_shown : q.is_read_modified ≡ true → Has R r
        → (before : Option Record) × ShowsModification stamps pages (entry before r)
    own_shown is h =
        let own = own_in None (versions R r.node r.time) r
        ((story_has R r.node r.time r).1 (h, refl, refl)) in
        (own.0, (shown_so (entry own.0 r) is own.1).1)

    pub replaced_shown : q.is_read_modified ≡ true → Has R r → HasLater R r
        → is_delete r.asked ≡ false
        → (e : Entry) × (e.time ≡ r.time) × (e.value ≡ Some r.value)
        × ShowsModification stamps pages e
    replaced_shown is h later written = elim ((found R r h).1 written) [
      | inl live ↦ absurd (last_greatest (versions R r.node r.time) r later.later
          (story_rises R r.node r.time (closed_stamps R closed)) live.0
          ((story_has R r.node r.time later.later).1 (later.there, later.node, later.time))
          later.greater)
      | inr next ↦
          let e = next.1.next in
          let s = shown_so e is (has_from_get (modifications_at R r.node r.time) _ e next.1.after)
          in
          (e, s.0, next.1.shows, s.1)
    ]

    pub live_shown : IsOfRaw q → IsLatest R r → is_delete r.asked ≡ false
        → (h : Held) × (h.time ≡ r.time) × (h.value ≡ r.value)
        × ShowsAt stamps pages R r.node r.time (h ∷ [])
    live_shown is latest written =
        let h = latest_written R r (closed_stamps R closed) latest written in
        let now : live_value R r.node h.0.time ≡ Some h.0 = ap (live_value R r.node) h.3 ∙ h.1 in (
          h.0,
          h.3,
          h.2,
          (
            values_inside R r.node q,
            λ g m. ((body_has R r.node q g).0 m).0,
            shows ∙ raw_shown R r.node q stamps is reaches.0,
            only_at (direction q) (values_inside R r.node q) h.0 r.time (body_goes R r.node q)
                ((body_has R r.node q h.0).1 (now, ap (in_body q) h.3 ∙ reaches.1)) h.3,
          ),
        )

    pub none_shown : IsOfRaw q → IsLatest R r → is_delete r.asked ≡ true
        → ShowsAt stamps pages R r.node r.time []
    none_shown is latest deleted = (
      values_inside R r.node q,
      λ g m. ((body_has R r.node q g).0 m).0,
      shows ∙ raw_shown R r.node q stamps is reaches.0,
      none_at r.time (values_inside R r.node q) (λ g m at.
          none-some _ (sym (latest_deleted R r (closed_stamps R closed) latest deleted)
          ∙ (sym (ap (live_value R r.node) at) ∙ ((body_has R r.node q g).0 m).0))),
    )

-- ---- reads that reach a record

given_at : (t : ℤ) → pos 1 ≤ℤ t → is_given t ≡ true
given_at t le = grind (arith, nat_tests, ints)

same_moment : (m : ℤ) → int_eq m m ≡ true
same_moment m = grind (arith, nat_tests, ints)

pub reached : (R : Content) (r : Record) (modified : Bool) → IsLawfulContent R → Has R r
    → Reaches (at_one_time (ticks_of r.time) modified) r.time
reached R r modified lawful h =
    let t = ticks_of r.time in
    let given = given_at t (lawful.records r h).time.0 in (
      ap (λ b. b && b) given,
      by_given (is_given t) given (direction (at_one_time t modified)),
    )
  where
    inside : is_between (moment (ticks_of r.time) 0)
        (last_within (moment (ticks_of r.time) 0)) r.time ≡ true
    inside =
        let few = pico_within r.time in
        let whole_read = whole_again r.time in
        between_from (moment (ticks_of r.time) 0) (last_within (moment (ticks_of r.time) 0)) r.time
        (omega (arith, ints, few, whole_read)) (omega (arith, ints, few, whole_read))

    by_given : (g : Bool) → g ≡ true → (d : Direction)
        → in_body_of d (moment (cond g (ticks_of r.time) (ticks_of r.time)) 0)
        (cond (g && g) (Some (moment (ticks_of r.time) 0)) None) r.time ≡ true
    by_given false e d = absurd (cc)
    by_given true e d = ap (λ b. cond b
        (is_between (moment (ticks_of r.time) 0) (last_within (moment (ticks_of r.time) 0)) r.time)
        (is_from d (moment (ticks_of r.time) 0) r.time
        && is_past d r.time (moment (ticks_of r.time) 0)))
        (same_moment (moment (ticks_of r.time) 0)) ∙ inside
