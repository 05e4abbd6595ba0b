-- The moments that a delete of a stretch of time deletes at.
use Rattle.std.proofs.Common.{◌≡◌, ℤ, pos, ◌≤ℤ◌, ◌<ℤ◌, ◌-ℤ◌, ◌↔◌, Bool, true, false, Option, Some, None, refl, sym, ap, ◌∙◌, subst, inl, inr, arith, is_some}
use Rattle.std.specs.Prelude.{if◌then◌else◌}
use Rattle.std.specs.Ordering.{int_eq}
use Rattle.std.proofs.lemmas.Bool.{true≢false}
use Rattle.std.proofs.lemmas.Bool.Decides.{Decides-int_eq}
use Rattle.std.proofs.lemmas.Int.{ints}
use Rattle.ua_binary.specs.declared.values.NodeId.{NodeId}
use Rattle.records.specs.declared.shown.Held.{Held}
use Rattle.records.specs.Lists.{Has, IsPairwise}
use Rattle.records.specs.Records.{live_value}
use Rattle.records.specs.Moments.{moment, ticks_of, whole_again, pico_within}
use Rattle.records.specs.Contents.{Content}
use Rattle.records.proofs.LearnLemmas.{lt_from_test}
use Rattle.archive.specs.declared.reading.Direction.TheVariants.{Forward}
use Rattle.archive.specs.Reading.{range_of, is_past}
use Rattle.archive.specs.Queries.{IsInRange}
use Rattle.archive.proofs.Ranges.{range_has, range_goes}
use Rattle.archive.proofs.Timing.{current_time}
use Rattle.archive.proofs.Turning.{has-map, has_from_map, pairwise-map}
use Rattle.hist_update.specs.Updates.{last_moment_of_range, live_times_in}
use Rattle.hist_update.specs.Laws.{IsInStretch, IsDoomed}

to_stretch : (start end_ time : ℤ) → moment start 0 ≤ℤ time
    → time ≤ℤ last_moment_of_range start end_ → IsInStretch start end_ time
to_stretch start end_ time low high = go (int_eq start end_) refl high
  where
    first : start ≤ℤ ticks_of time
    first = omega (arith, ints, low, whole_again time, pico_within time)

    go : (same : Bool) → int_eq start end_ ≡ same
        → time ≤ℤ moment (if same then end_ else end_ -ℤ pos 1) 9999 → IsInStretch start end_ time
    go true e h =
        let one = (Decides-int_eq start end_).0 e in
        let below : time ≤ℤ moment start 9999 = subst (λ x. time ≤ℤ moment x 9999) (sym one) h in
        (first, inr (one, omega (arith, ints, first, below, whole_again time, pico_within time)))
    go false e h = (first, inl (omega (arith, ints, h, whole_again time, pico_within time)))

from_stretch : (start end_ time : ℤ) → IsInStretch start end_ time
    → time ≤ℤ last_moment_of_range start end_
from_stretch start end_ time h = go (int_eq start end_) refl
  where
    under : (t : ℤ) → ticks_of time ≤ℤ t → time ≤ℤ moment t 9999
    under t k = omega (arith, ints, k, whole_again time, pico_within time)

    go : (same : Bool) → int_eq start end_ ≡ same
        → time ≤ℤ moment (if same then end_ else end_ -ℤ pos 1) 9999
    go true e = elim h.1 [
      | inl lt ↦ under end_ (omega (arith, ints, lt))
      | inr k ↦
          let below : ticks_of time ≤ℤ start = omega (arith, ints, k.1) in
          under end_ (subst (λ x. ticks_of time ≤ℤ x) ((Decides-int_eq start end_).0 e) below)
    ]
    go false e = elim h.1 [
      | inl lt ↦ under (end_ -ℤ pos 1) (omega (arith, ints, lt))
      | inr k ↦
          absurd (true≢false (sym ((Decides-int_eq start end_).1 k.0) ∙ e))
    ]

from_start : (start time : ℤ) → start ≤ℤ ticks_of time → moment start 0 ≤ℤ time
from_start start time h = omega (arith, ints, h, whole_again time, pico_within time)

to_doomed : (R : Content) (node : NodeId) (start end_ time : ℤ)
    → Has (live_times_in R node start end_) time → IsDoomed R node start end_ time
to_doomed R node start end_ time h =
    let found = has_from_map (λ (x : Held). x.time)
    (range_of R node (moment start 0) (last_moment_of_range start end_) Forward) time h in
    let held = found.0 in
    let within : IsInRange R node (moment start 0) (last_moment_of_range start end_) held =
    (range_has R node (moment start 0) (last_moment_of_range start end_) Forward held).0 found.1
    in
    subst (λ t. IsDoomed R node start end_ t) found.2
    (ap is_some within.live, to_stretch start end_ held.time within.low within.high)

from_doomed : (R : Content) (node : NodeId) (start end_ time : ℤ) → IsDoomed R node start end_ time
    → Has (live_times_in R node start end_) time
from_doomed R node start end_ time h = go (live_value R node time) refl (h.0)
  where
    go : (o : Option Held) → live_value R node time ≡ o → is_some o ≡ true
        → Has (live_times_in R node start end_) time
    go None e live = absurd (true≢false (sym live))
    go (Some held) e live =
        let at = (current_time R node time held e).1 in
        let within : IsInRange R node (moment start 0) (last_moment_of_range start end_) held =
        record {
          live = subst (λ t. live_value R node t ≡ Some held) (sym at) e;
          low = subst (λ t. moment start 0 ≤ℤ t) (sym at) (from_start start time h.1.0);
          high = subst (λ t. t ≤ℤ last_moment_of_range start end_) (sym at)
              (from_stretch start end_ time h.1);
        } in
        subst (Has (live_times_in R node start end_)) at
        (has-map (λ (x : Held).
        x.time) (range_of R node (moment start 0) (last_moment_of_range start end_) Forward)
        held ((range_has R node (moment start 0)
        (last_moment_of_range start end_) Forward held).1 within))

pub doomed_has : (R : Content) (node : NodeId) (start end_ time : ℤ)
    → Has (live_times_in R node start end_) time ↔ IsDoomed R node start end_ time
doomed_has R node start end_ time =
    (to_doomed R node start end_ time, from_doomed R node start end_ time)

pub doomed_rise : (R : Content) (node : NodeId) (start end_ : ℤ)
    → IsPairwise (λ a b. a <ℤ b) (live_times_in R node start end_)
doomed_rise R node start end_ =
    pairwise-map (λ (a b : Held). is_past Forward a.time b.time ≡ true) (λ a b. a <ℤ b)
    (λ (x : Held). x.time) (λ a b e. lt_from_test a.time b.time e)
    (range_of R node (moment start 0) (last_moment_of_range start end_) Forward)
    (range_goes R node (moment start 0) (last_moment_of_range start end_) Forward)

pub ruleset live_times = (doomed_has, doomed_rise)
