-- Live values and modifications have lawful times, and what the archive answers of them is what a
-- read asks for.
use Rattle.std.proofs.Common.{◌≡◌, ℕ, zero, suc, ◌+◌, ℤ, ◌≤ℤ◌, Bool, true, false, cond, ◌&&◌, List, [], ◌∷◌, filter, take, reverse, slice_get, Option, Some, None, refl, sym, ap, ◌∙◌, subst, arith, inl}
use Rattle.std.proofs.lemmas.Int.{ints}
use Rattle.ua_binary.specs.declared.values.NodeId.{NodeId}
use Rattle.records.specs.Lists.{Has}
use Rattle.records.specs.Contents.{Content}
use Rattle.records.specs.Records.{live_value, modifications_at, versions}
use Rattle.records.specs.declared.record.Record.{Record}
use Rattle.records.specs.declared.shown.Held.{Held}
use Rattle.records.specs.declared.shown.Entry.{Entry}
use Rattle.records.proofs.LatestLemmas.{story_has}
use Rattle.archive.specs.Reading.{times, lives, log, in_direction, is_between, range_of, log_of, follows}
use Rattle.archive.specs.Store.{IsLawfulContent}
use Rattle.archive.specs.declared.reading.Direction.{Direction}
use Rattle.archive.specs.declared.reading.LogPlace.{LogPlace}
use Rattle.archive.specs.Queries.{IsInRange}
use Rattle.archive.proofs.Ranges.{range_has}
use Rattle.archive.proofs.Timing.{current_from, current_time, entry_from}
use Rattle.archive.proofs.Turning.{has_from_filter_map, has_from_flat_map, has_from_reverse}
use Rattle.hist_read.specs.Asking.{first_time, direction}
use Rattle.records.specs.Moments.{whole_again, pico_within}
use Rattle.ua_services.specs.declared.history.ReadRawModifiedDetails.{ReadRawModifiedDetails as Details}
use Rattle.hist_read.specs.declared.point.Position.{Position}
use Rattle.hist_read.specs.Pages.{body_limit}
use Rattle.hist_read.specs.Reads.{is_near_alone, limit_at, body_part, page_size, greatest_time, in_body, values_inside, is_past_any}
use Rattle.hist_read.proofs.Filters.{filter_both, filter_same, filter_turned}

abbrev pub IsTime : ℤ → Type 0
IsTime t = (first_time ≤ℤ t) × (t ≤ℤ greatest_time)

pub record_time : (R : Content) (r : Record) → IsLawfulContent R → Has R r → IsTime r.time
record_time R r lawful h =
    let of_record = (lawful.records r h).time in (
      omega (arith, ints, of_record.0, whole_again r.time, pico_within r.time),
      omega (arith, ints, of_record.1, whole_again r.time, pico_within r.time),
    )

pub lives_lawful : (R : Content) (node : NodeId) (h : Held) → IsLawfulContent R
    → Has (lives R node) h → IsTime h.time
lives_lawful R node h lawful k =
    let t = has_from_filter_map (live_value R node) (times R node) h k in
    let r = current_from R node t.0 h t.2 in
    subst IsTime r.2 (record_time R r.0 lawful ((story_has R node t.0 r.0).0 r.1).0)

pub log_lawful : (R : Content) (node : NodeId) (e : Entry) → IsLawfulContent R → Has (log R node) e
    → IsTime e.time
log_lawful R node e lawful h =
    let t = has_from_flat_map (λ t. reverse (modifications_at R node t)) (times R node) e h in
    let r = entry_from None (versions R node t.0) e
    (has_from_reverse (modifications_at R node t.0) e t.2) in
    subst IsTime r.2 (record_time R r.0 lawful ((story_has R node t.0 r.0).0 r.1).0)

-- ---- the body, by a range

-- the times of a span are those of the body that are beyond a limit
abbrev pub IsSpanOf : Details → Option ℤ → ℤ → ℤ → Type 0
IsSpanOf q limit from to = (t : ℤ) → first_time ≤ℤ t → t ≤ℤ greatest_time
    → is_between from to t ≡ (in_body q t && is_past_any (direction q) limit t)

pub span_reads : (R : Content) (node : NodeId) (q : Details) (limit : Option ℤ) (from to : ℤ)
    → IsLawfulContent R → IsSpanOf q limit from to
    → range_of R node from to (direction q)
    ≡ filter (λ h. is_past_any (direction q) limit h.time) (values_inside R node q)
span_reads R node q limit from to lawful span =
    let d = direction q in
    ap (in_direction d) (filter_same _ (λ h. in_body q h.time && is_past_any d limit h.time)
    (lives R node) (λ h k. let l = lives_lawful R node h lawful k in span h.time l.0 l.1))
    ∙ (sym (filter_turned d _ (lives R node))
    ∙ sym (filter_both (λ h. is_past_any d limit h.time) (λ h. in_body q h.time) _))

take_nil : {X : Type 0} (n : ℕ) → ◌≡◌ {A = List X} (take n []) []
take_nil zero = refl
take_nil (suc n) = refl

pub body_found : (R : Content) (node : NodeId) (q : Details) (p : Option Position) (from to : ℤ)
    → IsLawfulContent R → IsSpanOf q (limit_at q p) from to
    → take (body_limit q p) (range_of R node from to (direction q))
    ≡ take (page_size q p + 1) (body_part R node q p)
body_found R node q p from to lawful span = go (is_near_alone q)
  where
    rest : List Held
    rest = filter (λ h. is_past_any (direction q) (limit_at q p) h.time) (values_inside R node q)

    go : (b : Bool) → take (cond b 0 (page_size q p + 1)) (range_of R node from to (direction q))
        ≡ take (page_size q p + 1) (cond b [] rest)
    go true = sym (take_nil (page_size q p + 1))
    go false = ap (take (page_size q p + 1)) (span_reads R node q
        (limit_at q p) from to lawful span)

-- ---- the bounds

first_take : {X : Type 0} (xs : List X) → slice_get (take 1 xs) 0 ≡ slice_get xs 0
first_take [] = refl
first_take (x ∷ xs) = refl

-- a range of one time has the live value there, if there is one
pub value_at_is : (R : Content) (node : NodeId) (d : Direction) (t : ℤ)
    → slice_get (take 1 (range_of R node t t d)) 0 ≡ live_value R node t
value_at_is R node d t = first_take _ ∙ go (range_of R node t t d) refl (live_value R node t) refl
  where
    go : (xs : List Held) → range_of R node t t d ≡ xs → (o : Option Held) → live_value R node t ≡ o
        → slice_get xs 0 ≡ o
    go [] e None f = refl
    go [] e (Some h) f =
        let own : h.time ≡ t = (current_time R node t h f).1 in
        let inside : IsInRange R node t t h =
        record {
          live = ap (live_value R node) own ∙ f;
          low = omega (arith, ints, own);
          high =
              omega (arith, ints, own);
        } in
        absurd (subst (λ xs. Has xs h) e ((range_has R node t t d h).1 inside))
    go (x ∷ xs) e o f =
        let inside = (range_has R node t t d x).0 (subst (λ xs. Has xs x) (sym e) (inl refl)) in
        let same : x.time ≡ t = omega (arith, ints, inside.low, inside.high) in
        sym inside.live ∙ (ap (live_value R node) same ∙ f)

-- ---- modifications

pub log_reads : (R : Content) (node : NodeId) (q : Details) (after : Option LogPlace) (from to : ℤ)
    → IsLawfulContent R
    → ((t : ℤ) → first_time ≤ℤ t → t ≤ℤ greatest_time → is_between from to t ≡ in_body q t)
    → log_of R node from to after (direction q)
    ≡ filter (follows (direction q) after) (filter (λ e. in_body q e.time)
    (in_direction (direction q) (log R node)))
log_reads R node q after from to lawful span =
    ap (filter (follows (direction q) after)) (
    ap (in_direction (direction q)) (filter_same _ (λ e. in_body q e.time) (log R node)
    (λ e k. let l = log_lawful R node e lawful k in span e.time l.0 l.1))
    ∙ sym (filter_turned (direction q) _ (log R node)))
