-- What is shown of a node, by the times at which an archive has records of it.
use Rattle.std.proofs.Common.{◌≡◌, ℕ, zero, suc, ◌<◌, ℤ, pos, negsuc, ◌≤ℤ◌, ◌+ℤ◌, Bool, true, false, not, ◌&&◌, cond, List, [], ◌∷◌, ◌++◌, filter, take, length, reverse, slice_get, Option, Some, None, refl, sym, ap, ap₂, subst, ◌∙◌, inl, inr, arith, append-nil, Less}
use Rattle.std.specs.List.{flat_map, cons_option, filter_map}
use Rattle.std.specs.Int.{w64}
use Rattle.std.specs.Int.RustNames.{FitsSigned}
use Rattle.std.specs.Ordering.{int_cmp}
use Rattle.std.proofs.lemmas.Cmp.{int_cmp_total}
use Rattle.std.proofs.lemmas.Bool.{true≢false}
use Rattle.std.proofs.lemmas.Bool.Decides.{nat_tests}
use Rattle.std.proofs.lemmas.Int.{ints}
use Rattle.std.proofs.lemmas.List.{reverse-append}
use Rattle.std.proofs.lemmas.List.Elements.{filter-append}
use Rattle.std.proofs.lemmas.Grind.{flat_map-append}
use Rattle.ua_binary.specs.declared.values.NodeId.{NodeId}
use Rattle.records.specs.Lists.{Has}
use Rattle.records.proofs.SameParts.{node_code}
use Rattle.records.specs.Contents.{Content, cut}
use Rattle.records.specs.Records.{is_beyond, held, versions, live_value, modifications_at, entries_after}
use Rattle.records.specs.Moments.{ticks_of, whole_again, pico_within}
use Rattle.records.specs.declared.record.Record.{Record}
use Rattle.records.specs.declared.shown.Held.{Held}
use Rattle.records.specs.declared.shown.Entry.{Entry}
use Rattle.records.proofs.Same.{Decides-is_same}
use Rattle.records.proofs.LatestLemmas.{story_has}
use Rattle.records.proofs.Sorting.{same_members, has-filter, has_from_filter, pairwise-filter}
use Rattle.archive.specs.Reading.{times, lives, log, in_direction, is_past, is_between, follows, range_of, log_of, outside_of}
use Rattle.archive.specs.declared.reading.Direction.{Direction}
use Rattle.archive.specs.declared.reading.Direction.TheVariants.{Forward, Backward}
use Rattle.archive.specs.declared.reading.LogPlace.{LogPlace}
use Rattle.archive.proofs.Turning.{has_from_reverse, has-in_direction}
use Rattle.archive.proofs.Timing.{times_rise, current_time, entry_time}
use Rattle.sql_reading.specs.Walking.{ShowSame, stretch, IsSpan, values_at, entries_at}
use Rattle.ua_binary.specs.Binary.{node_id}
use Rattle.sqlite_trees.specs.Tree.{Trees}
use Rattle.records.specs.Spelling.{longest}
use Rattle.sql_tables.specs.Rows.{content_in, IsFilled}
use Rattle.sql_reading.specs.Walking.{end_of_time}
use Rattle.sql_tables.proofs.RowLemmas.{content_is}
use Rattle.sql_reading.proofs.StoryLemmas.{node_within, filter_as}
use Rattle.sql_reading.proofs.PageLemmas.{time_there, at_time}

-- ---- lists

module _ {X Y : Type 0} where
  flat_map-same : (f g : X → List Y) (xs : List X) → ((x : X) → Has xs x → f x ≡ g x)
      → flat_map f xs ≡ flat_map g xs
  flat_map-same f g [] same = refl
  flat_map-same f g (x ∷ xs) same =
      ap₂ ◌++◌ (same x (inl refl)) (flat_map-same f g xs (λ z h. same z (inr h)))

  -- those of which nothing is shown may be left out
  pub flat_map-filter : (f : X → List Y) (p : X → Bool) (xs : List X)
      → ((x : X) → p x ≡ false → f x ≡ []) → flat_map f (filter p xs) ≡ flat_map f xs
  flat_map-filter f p [] none = refl
  flat_map-filter f p (x ∷ xs) none = go (p x) refl (flat_map-filter f p xs none)
    where
      go : (b : Bool) → p x ≡ b → flat_map f (filter p xs) ≡ flat_map f xs
          → flat_map f (cond b (x ∷ filter p xs) (filter p xs)) ≡ f x ++ flat_map f xs
      go true e more = ap (λ l. f x ++ l) more
      go false e more = more ∙ ap (λ l. l ++ flat_map f xs) (sym (none x e))

  filter-flat_map : (q : Y → Bool) (f : X → List Y) (xs : List X)
      → filter q (flat_map f xs) ≡ flat_map (λ x. filter q (f x)) xs
  filter-flat_map q f [] = refl
  filter-flat_map q f (x ∷ xs) = filter-append q (f x) (flat_map f xs)
      ∙ ap (λ l. filter q (f x) ++ l) (filter-flat_map q f xs)

  reverse-flat_map : (f : X → List Y) (xs : List X)
      → reverse (flat_map f xs) ≡ flat_map (λ x. reverse (f x)) (reverse xs)
  reverse-flat_map f [] = refl
  reverse-flat_map f (x ∷ xs) =
      reverse-append (f x) (flat_map f xs) ∙ (ap (λ l. l ++ reverse (f x)) (reverse-flat_map f xs)
      ∙ (ap (λ l. flat_map (λ y. reverse (f y)) (reverse xs) ++ l)
      (sym (append-nil (reverse (f x))))
      ∙ (sym (flat_map-append (λ y. reverse (f y)) (reverse xs) (x ∷ []))
      ∙ ap (flat_map (λ y. reverse (f y))) (sym (reverse-append (x ∷ []) xs)))))

  -- of each x, all of what is shown passes or nothing does
  flat_map-chosen : (q : Y → Bool) (b : X → Bool) (f : X → List Y) (xs : List X)
      → ((x : X) (y : Y) → Has (f x) y → q y ≡ b x)
      → flat_map (λ x. filter q (f x)) xs ≡ flat_map f (filter b xs)
  flat_map-chosen q b f [] all = refl
  flat_map-chosen q b f (x ∷ xs) all = go (b x) refl (flat_map-chosen q b f xs all)
    where
      kept : (ys : List Y) → ((y : Y) → Has ys y → q y ≡ true) → filter q ys ≡ ys
      kept [] each = refl
      kept (y ∷ ys) each = rw (each y (inl refl)) (ap (λ l. y ∷ l)
          (kept ys (λ z h. each z (inr h))))

      dropped : (ys : List Y) → ((y : Y) → Has ys y → q y ≡ false) → filter q ys ≡ []
      dropped [] each = refl
      dropped (y ∷ ys) each = rw (each y (inl refl)) (dropped ys (λ z h. each z (inr h)))

      go : (c : Bool) → b x ≡ c → flat_map (λ z. filter q (f z)) xs ≡ flat_map f (filter b xs)
          → filter q (f x) ++ flat_map (λ z. filter q (f z)) xs
          ≡ flat_map f (cond c (x ∷ filter b xs) (filter b xs))
      go true e more = ap₂ ◌++◌ (kept (f x) (λ y h. all x y h ∙ e)) more
      go false e more = ap₂ ◌++◌ (dropped (f x) (λ y h. all x y h ∙ e)) more

module _ {X : Type 0} where
  reverse-filter : (p : X → Bool) (xs : List X) → reverse (filter p xs) ≡ filter p (reverse xs)
  reverse-filter p [] = refl
  reverse-filter p (x ∷ xs) = go (p x) refl (reverse-filter p xs)
    where
      last : (b : Bool) → p x ≡ b → filter p (x ∷ []) ≡ cond b (x ∷ []) []
      last b e = ap (λ c. cond c (x ∷ []) []) e

      whole : filter p (reverse (x ∷ xs)) ≡ filter p (reverse xs) ++ filter p (x ∷ [])
      whole = ap (filter p) (reverse-append (x ∷ []) xs) ∙ filter-append p (reverse xs) (x ∷ [])

      go : (b : Bool) → p x ≡ b → reverse (filter p xs) ≡ filter p (reverse xs)
          → reverse (cond b (x ∷ filter p xs) (filter p xs)) ≡ filter p (reverse (x ∷ xs))
      go true e more = reverse-append (x ∷ []) (filter p xs)
          ∙ (ap₂ ◌++◌ more (sym (last true e)) ∙ sym whole)
      go false e more = more ∙ (sym (append-nil (filter p (reverse xs)))
          ∙ (ap (λ l. filter p (reverse xs) ++ l) (sym (last false e)) ∙ sym whole))

  filter-filter : (p q r : X → Bool) (xs : List X) → ((x : X) → Has xs x → r x ≡ (p x && q x))
      → filter q (filter p xs) ≡ filter r xs
  filter-filter p q r [] both = refl
  filter-filter p q r (x ∷ xs) both =
      go (p x) (q x) refl refl (filter-filter p q r xs (λ z h. both z (inr h)))
    where
      go : (a b : Bool) → p x ≡ a → q x ≡ b → filter q (filter p xs) ≡ filter r xs
          → filter q (cond a (x ∷ filter p xs) (filter p xs)) ≡ filter r (x ∷ xs)
      go true true e k more = rw (both x (inl refl), e, k) (ap (λ l. x ∷ l) more)
      go true false e k more = rw (both x (inl refl), e, k) more
      go false b e k more = rw (both x (inl refl), e) more

turned-filter : {X : Type 0} (d : Direction) (p : X → Bool) (xs : List X)
    → in_direction d (filter p xs) ≡ filter p (in_direction d xs)
turned-filter Forward p xs = refl
turned-filter Backward p xs = reverse-filter p xs

turned-flat_map : {X Y : Type 0} (d : Direction) (f : X → List Y) (xs : List X)
    → in_direction d (flat_map f xs) ≡ flat_map (λ x. in_direction d (f x)) (in_direction d xs)
turned-flat_map Forward f xs = refl
turned-flat_map Backward f xs = reverse-flat_map f xs

-- ---- the ends of a range

span_as : (d : Direction) (from to near far t : ℤ) → IsSpan d from to near far
    → is_between from to t ≡ (is_past d near t && not (is_past d far t))
span_as Forward from to near far t span = rw (span.0, span.1) (forward from to t)
  where
    forward : (x y z : ℤ) → is_between x y z
        ≡ (is_past Forward (x +ℤ negsuc 0) z && not (is_past Forward y z))
    forward x y z = grind (arith, nat_tests, ints)
span_as Backward from to near far t span = rw (span.0, span.1) (backward from to t)
  where
    backward : (x y z : ℤ) → is_between x y z
        ≡ (is_past Backward (y +ℤ pos 1) z && not (is_past Backward x z))
    backward x y z = grind (arith, nat_tests, ints)

-- ---- a log behind a place

-- what is shown behind a place between these times and those
pub log_as : (C : Content) (node : NodeId) (d : Direction) (after : Option LogPlace)
    (from to new_from new_to : ℤ) → ShowSame d after from to new_from new_to
    → log_of C node from to after d ≡ log_of C node new_from new_to after d
log_as C node d after from to new_from new_to same =
    both from to ∙ (filter_as (shows from to) (shows new_from new_to) (in_direction d (log C node))
    (λ e h. same e) ∙ sym (both new_from new_to))
  where
    shows : ℤ → ℤ → Entry → Bool
    shows x y e = is_between x y e.time && follows d after e

    both : (x y : ℤ) → log_of C node x y after d ≡ filter (shows x y) (in_direction d (log C node))
    both x y = ap (filter (follows d after)) (turned-filter d (λ e. is_between x y e.time)
        (log C node)) ∙ filter-filter (λ e. is_between x y e.time) (follows d after) (shows x y)
        (in_direction d (log C node)) (λ e h. refl)

-- ---- the times of a part

abbrev is_there : List Record → Bool
is_there [] = false
is_there (r ∷ rs) = true

there_has : (rs : List Record) → is_there rs ≡ true → (r : Record) × Has rs r
there_has [] e = absurd (true≢false (sym e))
there_has (r ∷ rs) e = (r, inl refl)

has_there : (rs : List Record) (r : Record) → Has rs r → is_there rs ≡ true
has_there [] r h = absurd h
has_there (x ∷ rs) r h = refl

none_there : (rs : List Record) → is_there rs ≡ false → rs ≡ []
none_there [] e = refl
none_there (r ∷ rs) e = absurd (true≢false e)

module _ (R : Content) (node : NodeId) (v : ℕ → ℕ) where
  times_cut : times (cut R v) node
      ≡ filter (λ t. is_there (versions (cut R v) node t)) (times R node)
  times_cut =
      same_members int_cmp int_cmp_total (times (cut R v) node)
      (filter (λ t. is_there (versions (cut R v) node t)) (times R node))
      (times_rise (cut R v) node) (pairwise-filter (λ s t. int_cmp s t ≡ Less)
      (λ t. is_there (versions (cut R v) node t)) (times R node) (times_rise R node))
      (λ t h.
      let r = at_time (cut R v) node t h in
      let own = has_from_filter (λ s. not (is_beyond v s)) R r.0 r.1 in
      has-filter (λ s. is_there (versions (cut R v) node s)) (times R node) t
      (subst (Has (times R node)) r.3 (time_there R node r.0 own.0 r.2))
      (has_there (versions (cut R v) node t) r.0 ((story_has (cut R v) node t r.0).1
      (r.1, (Decides-is_same node_code r.0.node node).0 r.2, r.3))))
      (λ t h.
      let p = has_from_filter (λ s. is_there (versions (cut R v) node s)) (times R node) t h in
      let r = there_has (versions (cut R v) node t) p.1 in
      let q = (story_has (cut R v) node t r.0).0 r.1 in
      subst (Has (times (cut R v) node)) q.2 (time_there (cut R v) node r.0 q.0
      ((Decides-is_same node_code r.0.node node).1 q.1)))

  module _ {X : Type 0} (time : X → ℤ) (f : ℤ → List X)
      (own : (t : ℤ) (x : X) → Has (f t) x → time x ≡ t)
      (none : (t : ℤ) → versions (cut R v) node t ≡ [] → f t ≡ []) where
    -- what is shown of the part's times that pass, by the times of the whole
    pub over : (d : Direction) (b : ℤ → Bool)
        → in_direction d (filter (λ x. b (time x)) (flat_map f (times (cut R v) node)))
        ≡ flat_map (λ t. in_direction d (f t)) (filter b (in_direction d (times R node)))
    over d b =
        ap (λ l. in_direction d (filter (λ x. b (time x)) l))
        (ap (flat_map f) times_cut
        ∙ flat_map-filter f (λ t. is_there (versions (cut R v) node t)) (times R node)
        (λ t e. none t (none_there (versions (cut R v) node t) e)))
        ∙ (ap (in_direction d) (filter-flat_map (λ x. b (time x)) f (times R node)
        ∙ flat_map-chosen (λ x. b (time x)) b f (times R node) (λ t x h. ap b (own t x h)))
        ∙ (turned-flat_map d f (filter b (times R node))
        ∙ ap (flat_map (λ t. in_direction d (f t))) (turned-filter d b (times R node))))

  values_own : (t : ℤ) (h : Held) → Has (values_at (cut R v) node t) h → h.time ≡ t
  values_own t h k = go (live_value (cut R v) node t) refl k
    where
      go : (o : Option Held) → live_value (cut R v) node t ≡ o → Has (cons_option o []) h
          → h.time ≡ t
      go None e k = absurd k
      go (Some x) e k = elim k [
        | inl same ↦
            ap (λ (y : Held). y.time) (sym same) ∙ (current_time (cut R v) node t x e).1
        | inr n ↦
            absurd n
      ]

  values_none : (t : ℤ) → versions (cut R v) node t ≡ [] → values_at (cut R v) node t ≡ []
  values_none t e = ap (λ rs. cons_option (held rs) []) e

  lives_over : lives (cut R v) node ≡ flat_map (values_at (cut R v) node) (times (cut R v) node)
  lives_over = go (times (cut R v) node)
    where
      one : (o : Option Held) (hs : List Held) → cons_option o hs ≡ cons_option o [] ++ hs
      one None hs = refl
      one (Some h) hs = refl

      go : (ts : List ℤ) → filter_map (live_value (cut R v) node) ts
          ≡ flat_map (values_at (cut R v) node) ts
      go [] = refl
      go (t ∷ ts) = one (live_value (cut R v) node t) (filter_map (live_value (cut R v) node) ts)
          ∙ ap (λ l. values_at (cut R v) node t ++ l) (go ts)

  turned_values : (d : Direction) (ts : List ℤ)
      → flat_map (λ t. in_direction d (values_at (cut R v) node t)) ts
      ≡ flat_map (values_at (cut R v) node) ts
  turned_values d ts = flat_map-same _ _ ts (λ t h. one d (live_value (cut R v) node t))
    where
      one : (way : Direction) (o : Option Held)
          → in_direction way (cons_option o []) ≡ cons_option o []
      one Forward o = refl
      one Backward None = refl
      one Backward (Some x) = refl

  values_over : (d : Direction) (b : ℤ → Bool)
      → in_direction d (filter (λ (h : Held). b h.time) (lives (cut R v) node))
      ≡ flat_map (values_at (cut R v) node) (filter b (in_direction d (times R node)))
  values_over d b = ap (λ l. in_direction d (filter (λ (h : Held). b h.time) l)) lives_over
      ∙ (over (λ (h : Held). h.time) (values_at (cut R v) node) values_own values_none d b
      ∙ turned_values d (filter b (in_direction d (times R node))))

  -- the stretch from a near place to a far time is that of the times that pass
  stretch_as : (d : Direction) (near far : ℤ) (b : ℤ → Bool)
      → ((t : ℤ) → Has (times R node) t → b t ≡ (is_past d near t && not (is_past d far t)))
      → filter b (in_direction d (times R node)) ≡ stretch d near far (times R node)
  stretch_as d near far b same = sym (filter-filter (is_past d near) (λ t. not (is_past d far t)) b
      (in_direction d (times R node)) (λ t h. same t ((has-in_direction d (times R node) t).0 h)))

  -- the ends of a range, as places
  pub range_found : (d : Direction) (from to near far : ℤ) → IsSpan d from to near far
      → range_of (cut R v) node from to d
      ≡ flat_map (values_at (cut R v) node) (stretch d near far (times R node))
  range_found d from to near far span =
      values_over d (is_between from to)
      ∙ ap (flat_map (values_at (cut R v) node)) (stretch_as d near far (is_between from to)
      (λ t h. span_as d from to near far t span))

  pub outside_found : (d : Direction) (time far : ℤ)
      → ((t : ℤ) → Has (times R node) t → is_past d far t ≡ false)
      → outside_of (cut R v) node time d
      ≡ slice_get (flat_map (values_at (cut R v) node) (stretch d time far (times R node))) 0
  outside_found d time far none =
      ap (λ hs. slice_get hs 0) (values_over d (is_past d time)
      ∙ ap (flat_map (values_at (cut R v) node))
      (stretch_as d time far (is_past d time) (λ t h.
      sym (ap (λ c. is_past d time t && not c) (none t h) ∙ yes (is_past d time t)))))
    where
      yes : (c : Bool) → (c && true) ≡ c
      yes true = refl
      yes false = refl

  entries_own : (t : ℤ) (e : Entry) → Has (reverse (modifications_at (cut R v) node t)) e
      → e.time ≡ t
  entries_own t e h = (entry_time (cut R v) node t e
      (has_from_reverse (modifications_at (cut R v) node t) e h)).1

  pub log_found : (d : Direction) (from to near far : ℤ) (after : Option LogPlace)
      → IsSpan d from to near far
      → log_of (cut R v) node from to after d
      ≡ flat_map (entries_at (cut R v) node after d) (stretch d near far (times R node))
  log_found d from to near far after span =
      ap (filter (follows d after)) (over (λ (e : Entry). e.time)
      (λ t. reverse (modifications_at (cut R v) node t)) entries_own
      (λ t e. ap (λ rs. reverse (entries_after None rs)) e) d (is_between from to)
      ∙ ap (flat_map (λ t. in_direction d (reverse (modifications_at (cut R v) node t))))
      (stretch_as d near far (is_between from to) (λ t h. span_as d from to near far t span)))
      ∙ filter-flat_map (follows d after) (λ t.
      in_direction d (reverse (modifications_at (cut R v) node t)))
      (stretch d near far (times R node))

  -- ---- a node of which there is nothing

  nothing_turned : (d : Direction) (b : ℤ → Bool) → filter b (in_direction d []) ≡ []
  nothing_turned Forward b = refl
  nothing_turned Backward b = refl

  pub no_range : (d : Direction) (from to : ℤ) → times R node ≡ []
      → range_of (cut R v) node from to d ≡ []
  no_range d from to none = values_over d (is_between from to)
      ∙ (ap (λ ts. flat_map (values_at (cut R v) node)
      (filter (is_between from to) (in_direction d ts))) none
      ∙ ap (flat_map (values_at (cut R v) node)) (nothing_turned d (is_between from to)))

  pub no_outside : (d : Direction) (time : ℤ) → times R node ≡ []
      → outside_of (cut R v) node time d ≡ None
  no_outside d time none = ap (λ hs. slice_get hs 0)
      (values_over d (is_past d time)
      ∙ (ap (λ ts. flat_map (values_at (cut R v) node)
      (filter (is_past d time) (in_direction d ts))) none
      ∙ ap (flat_map (values_at (cut R v) node)) (nothing_turned d (is_past d time))))

  pub no_log : (d : Direction) (from to : ℤ) (after : Option LogPlace) → times R node ≡ []
      → log_of (cut R v) node from to after d ≡ []
  no_log d from to after none =
      ap (filter (follows d after)) (over (λ (e : Entry). e.time)
      (λ t. reverse (modifications_at (cut R v) node t)) entries_own
      (λ t e. ap (λ rs. reverse (entries_after None rs)) e) d (is_between from to)
      ∙ (ap (λ ts. flat_map (λ t. in_direction d (reverse (modifications_at (cut R v) node t)))
      (filter (is_between from to) (in_direction d ts))) none
      ∙ ap (flat_map (λ t. in_direction d (reverse (modifications_at (cut R v) node t))))
      (nothing_turned d (is_between from to))))

pub take_nothing : {X : Type 0} (n : ℕ) → ◌≡◌ {A = List X} [] (take n [])
take_nothing zero = refl
take_nothing (suc n) = refl

-- a node that is too long for a record has none
pub no_times : (db : Trees) (node : NodeId) → IsFilled db → longest < length (node_id.canon node)
    → times (content_in db) node ≡ []
no_times db node (R, l, stand) long =
    ap (λ S. times S node) (content_is R db l stand) ∙ go (times R node) refl
  where
    go : (ts : List ℤ) → times R node ≡ ts → times R node ≡ []
    go [] e = e
    go (t ∷ ts) e =
        let r = at_time R node t (subst (λ us. Has us t) (sym e) (inl refl)) in
        let same = (Decides-is_same node_code r.0.node node).0 r.2 in
        let fits = (l.records r.0 r.1).size in
        let in_it = node_within r.0 in
        let too : longest < length (node_id.canon r.0.node) =
        subst (λ n. longest < length (node_id.canon n)) (sym same) long in
        absurd (omega (arith, fits, in_it, too))

-- no record is beyond the end of time
pub none_beyond : (db : Trees) (node : NodeId) (d : Direction) (t : ℤ) → IsFilled db
    → Has (times (content_in db) node) t → is_past d (end_of_time d) t ≡ false
none_beyond db node d t (R, l, stand) h =
    let r = at_time R node t (subst (λ S. Has (times S node) t) (content_is R db l stand) h) in
    subst (λ u. is_past d (end_of_time d) u ≡ false) r.3
    (within d r.0.time (l.records r.0 r.1).time)
  where
    within : (way : Direction) (z : ℤ) → (pos 1 ≤ℤ ticks_of z) × FitsSigned w64 (ticks_of z)
        → is_past way (end_of_time way) z ≡ false
    within Forward z fits = forward z (omega
        (arith, ints, fits.0, fits.1, whole_again z, pico_within z))
      where
        forward : (u : ℤ) → u ≤ℤ end_of_time Forward
            → is_past Forward (end_of_time Forward) u ≡ false
        forward u below = grind (arith, nat_tests, ints)
    within Backward z fits = backward z (omega (arith, ints, fits.0, whole_again z, pico_within z))
      where
        backward : (u : ℤ) → end_of_time Backward ≤ℤ u
            → is_past Backward (end_of_time Backward) u ≡ false
        backward u above = grind (arith, nat_tests, ints)

pub first_taken : {X : Type 0} (items all : List X) → items ≡ take 1 all
    → slice_get (take 1 items) 0 ≡ slice_get all 0
first_taken items all is = ap (λ l. slice_get (take 1 l) 0) is ∙ go all
  where
    go : {Y : Type 0} (xs : List Y) → slice_get (take 1 (take 1 xs)) 0 ≡ slice_get xs 0
    go [] = refl
    go (x ∷ xs) = refl
