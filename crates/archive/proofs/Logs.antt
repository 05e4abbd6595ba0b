-- Logs: their members and their order.
use Rattle.std.proofs.Common.{◌≡◌, ℤ, Bool, true, List, [], ◌∷◌, filter, reverse, Option, Some, None, refl, sym, ap, ◌∙◌, subst, inl, inr, Ordering, Less, is_lt}
use Rattle.std.specs.Prelude.{◌↔◌}
use Rattle.std.specs.List.{AllByRecursion}
use Rattle.std.specs.Ordering.{int_cmp, ordering_then}
use Rattle.std.proofs.lemmas.Cmp.{int_cmp_total, tied_itself}
use Rattle.stamp.specs.Stamp as stamps
use Rattle.ua_binary.specs.declared.values.NodeId.{NodeId}
use Rattle.records.specs.Lists.{Has, Rises, IsPairwise}
use Rattle.records.specs.Contents.{Content, IsClosed}
use Rattle.records.specs.Records.{record_stamp_cmp, write, versions, entry, entries_after, modifications_at}
use Rattle.records.specs.declared.record.Record.{Record}
use Rattle.records.specs.declared.shown.Entry.{Entry}
use Rattle.records.proofs.CloseLemmas.{closed_stamps}
use Rattle.records.proofs.ContentLemmas.{pairwise_weaker}
use Rattle.records.proofs.LatestLemmas.{story_rises, story_has}
use Rattle.records.proofs.Sorting.{all_from_has, has-filter, has_from_filter, pairwise-filter}
use Rattle.archive.specs.Reading.{times, log, in_direction, is_between, log_cmp, place_of, follows, log_of}
use Rattle.archive.specs.Queries.{IsInLog}
use Rattle.archive.specs.declared.reading.Direction.{Direction}
use Rattle.archive.specs.declared.reading.Direction.TheVariants.{Forward, Backward}
use Rattle.archive.specs.declared.reading.LogPlace.{LogPlace}
use Rattle.archive.proofs.Turning.{has-flat_map, has_from_flat_map, has-reverse, has_from_reverse, has-in_direction, pairwise-reverse, pairwise-flat_map}
use Rattle.archive.proofs.Timing.{times_rise, entry_time}
use Rattle.archive.proofs.Ranges.{between_parts, between_from}

log_has : (R : Content) (node : NodeId) (e : Entry)
    → Has (log R node) e ↔ Has (modifications_at R node e.time) e
log_has R node e = (
  λ k.
      let t = has_from_flat_map (λ t. reverse (modifications_at R node t)) (times R node) e k in
      let there = has_from_reverse (modifications_at R node t.0) e t.2 in
      subst (λ s. Has (modifications_at R node s) e) (sym (entry_time R node t.0 e there).1) there,
  λ k. has-flat_map (λ t. reverse (modifications_at R node t)) (times R node) e.time e
      (entry_time R node e.time e k).0 (has-reverse (modifications_at R node e.time) e k),
)

pub log_of_has : (R : Content) (node : NodeId) (from to : ℤ) (after : Option LogPlace)
    (d : Direction) (e : Entry) → Has
    (log_of R node from to after d) e ↔ IsInLog R node from to after d e
log_of_has R node from to after d e = (
  λ k.
      let m = has_from_filter (follows d after) (in_direction d (filter inside (log R node))) e k in
      let n = has_from_filter inside (log R node) e ((has-in_direction d _ e).0 m.0) in
      let parts = between_parts from to e.time n.1 in
      record { shown = (log_has R node e).0 n.0; low = parts.0; high = parts.1; behind = m.1 },
  λ k. has-filter (follows d after) _ e ((has-in_direction d _ e).1
      (has-filter inside (log R node) e ((log_has R node e).1 k.shown)
      (between_from from to e.time k.low k.high))) k.behind,
)
  where
    inside : Entry → Bool
    inside x = is_between from to x.time

-- ---- the order

abbrev IsBefore : Entry → Entry → Type 0
IsBefore a b = log_cmp (place_of a) (place_of b) ≡ Less

-- of a story, the entries of one time stand the newest last
entries_fall : (t : ℤ) (before : Option Record) (rs : List Record) → Rises record_stamp_cmp rs
    → ((r : Record) → Has rs r → r.time ≡ t)
    → IsPairwise (λ a b. IsBefore b a) (entries_after before rs)
entries_fall t before [] up at = tt
entries_fall t before (r ∷ rs) up at = (
  all_from_has (λ e. IsBefore e (entry (write before) r)) _
      (behind (Some r) rs up.0 (λ s h. at s (inr h))),
  entries_fall t (Some r) rs up.1 (λ s h. at s (inr h)),
)
  where
    older : (s : Record) (x : Option Record) → record_stamp_cmp r s ≡ Less → s.time ≡ r.time
        → IsBefore (entry x s) (entry (write before) r)
    older s x less e = subst (λ (o : Ordering). ordering_then o (record_stamp_cmp r s) ≡ Less)
        (sym (ap (int_cmp s.time) (sym e) ∙ tied_itself int_cmp_total s.time)) less

    behind : (b : Option Record) (ss : List Record)
        → AllByRecursion (λ s. record_stamp_cmp r s ≡ Less) ss
        → ((s : Record) → Has ss s → s.time ≡ t)
        → (e : Entry) → Has (entries_after b ss) e → IsBefore e (entry (write before) r)
    behind b [] all same e h = absurd h
    behind b (s ∷ ss) all same e h = elim h [
      | inl k ↦ subst (λ z. IsBefore z (entry (write before) r)) k
          (older s (write b) all.0 (same s (inl refl) ∙ sym (at r (inl refl))))
      | inr m ↦ behind (Some s) ss all.1 (λ z n. same z (inr n)) e m
    ]

earlier : (s t : ℤ) (a b : Entry) → int_cmp s t ≡ Less → a.time ≡ s → b.time ≡ t → IsBefore a b
earlier s t a b less e k =
    subst (λ (o : Ordering). ordering_then o (stamps.stamp_cmp (place_of b).stamp
    (place_of a).stamp) ≡ Less)
    (sym (ap (λ x. int_cmp x b.time) e ∙ (ap (int_cmp s) k ∙ less))) refl

log_rises : (R : Content) (node : NodeId) → IsClosed R → IsPairwise IsBefore (log R node)
log_rises R node closed =
    pairwise-flat_map (λ s t. int_cmp s t ≡ Less) IsBefore
    (λ t. reverse (modifications_at R node t))
    (λ s t a b less h k. earlier s t a b less (entry_time R node s a (has_from_reverse _ a h)).1
    (entry_time R node t b (has_from_reverse _ b k)).1)
    (λ t. pairwise-reverse (λ a b. IsBefore b a) (modifications_at R node t)
    (entries_fall t None (versions R node t) (story_rises R node t (closed_stamps R closed))
    (λ r h. ((story_has R node t r).0 h).2)))
    (times R node) (times_rise R node)

pub log_goes : (R : Content) (node : NodeId) (from to : ℤ) (after : Option LogPlace) (d : Direction)
    → IsClosed R → IsPairwise (λ a b. follows d (Some (place_of a)) b ≡ true)
    (log_of R node from to after d)
log_goes R node from to after d closed = pairwise-filter _ (follows d after) _ (go d)
  where
    inside : Entry → Bool
    inside x = is_between from to x.time

    rises : IsPairwise IsBefore (filter inside (log R node))
    rises = pairwise-filter IsBefore inside _ (log_rises R node closed)

    go : (way : Direction) → IsPairwise (λ a b. follows way (Some (place_of a)) b ≡ true)
        (in_direction way (filter inside (log R node)))
    go Forward = pairwise_weaker IsBefore _ (λ a b e. ap is_lt e) _ rises
    go Backward = pairwise_weaker (λ a b. IsBefore b a) _ (λ a b e. ap is_lt e) _
        (pairwise-reverse IsBefore _ rises)
