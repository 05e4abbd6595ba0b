-- How a new record came to be, and that it comes last.
use Rattle.std.proofs.Common.{◌≡◌, ℕ, ◌+◌, ℤ, ◌<ℤ◌, true, false, Option, Some, None, Result, Ok, Err, refl, sym, ap, subst, inl, inr, arith}
use Rattle.std.specs.declared.cmp.Ordering.{Ordering}
use Rattle.std.specs.declared.cmp.Ordering.TheVariants.{Less}
use Rattle.std.specs.Ordering.{nat_cmp, ordering_then}
use Rattle.std.specs.Cmp.{int_cmp_is}
use Rattle.std.proofs.lemmas.Int.{ints}
use Rattle.std.specs.Prelude.{pos, ◌≤ℤ◌}
use Rattle.std.specs.Int.{int_min}
use Rattle.stamp.specs.Limits.{greatest, lift}
use Rattle.records.specs.declared.record.Record.{Record}
use Rattle.records.specs.declared.shown.Held.{Held}
use Rattle.records.specs.Lists.{Has, last}
use Rattle.records.specs.Records.{is_delete, record_stamp_cmp, versions, live_value}
use Rattle.records.specs.Contents.{Content, vec, top, put, IsClosed, IsNext, IsLatest}
use Rattle.records.proofs.PutLemmas.{has-put, has_from_put, top_bounds}
use Rattle.records.proofs.CloseLemmas.{closed_stamps}
use Rattle.records.proofs.LearnLemmas.{closed-next}
use Rattle.records.proofs.LatestLemmas.{latest_last, latest_written, latest_deleted}
use Rattle.ua_binary.specs.declared.codes.Status.{Status}
use Rattle.hist_update.specs.declared.request.Request.{Request}
use Rattle.hist_update.specs.Outcome.{Operation, Change, Outcome, Refused, Added, change_by, outcome, conflict, done, is_live, record_by, checked_change}
use Rattle.hist_update.proofs.OutcomeParts.{stamped, outcome_of}
use Rattle.hist_update.proofs.Operating.{lifted, lifted_timed, is_new}

-- ---- how a record came to be

pub record Made (R : Content) (own : ℕ) (request : Request) (op : Operation) (code : Status)
    (r : Record) : Type 0 where
  pub change : Change
  pub asked : change_by request own op ≡ Ok change
  pub tick : ℤ
  pub lifts : lift request.reading (top R) ≡ Some tick
  pub free : conflict change.asked (is_live R request.node change.time) ≡ None
  pub is : r ≡ record_by request own (vec R own + 1) tick change
  pub told : code ≡ done change.asked (is_live R request.node change.time)

not_added : {X : Type 0} (c code : Status) (r : Record) → Refused c ≡ Added code r → X
not_added c code r e = absurd (cc)

abbrev code_of_added : Status → Outcome → Status
code_of_added other (Refused c) = other
code_of_added other (Added c r) = c

abbrev record_of_added : Record → Outcome → Record
record_of_added other (Refused c) = other
record_of_added other (Added c r) = r

pub made : (R : Content) (own : ℕ) (request : Request) (op : Operation) (code : Status) (r : Record)
    → outcome R own request op ≡ Added code r → Made R own request op code r
made R own request op code r e = by_change (change_by request own op) refl e
  where
    by_tick : (change : Change) (o : Option ℤ) → change_by request own op ≡ Ok change
        → lift request.reading (top R) ≡ o
        → conflict change.asked (is_live R request.node change.time) ≡ None
        → stamped R own request change (done change.asked (is_live R request.node change.time)) o
        ≡ Added code r → Made R own request op code r
    by_tick change None p q f h = not_added _ _ _ h
    by_tick change (Some t) p q f h = record {
      change = change;
      asked = p;
      tick = t;
      lifts = q;
      free = f;
      is = sym (ap (record_of_added r) h);
      told = sym (ap (code_of_added code) h);
    }

    by_conflict : (change : Change) (o : Option Status) → change_by request own op ≡ Ok change
        → conflict change.asked (is_live R request.node change.time) ≡ o
        → checked_change R own request change (is_live R request.node change.time) o ≡ Added code r
        → Made R own request op code r
    by_conflict change (Some c) p f h = not_added _ _ _ h
    by_conflict change None p f h = by_tick change (lift request.reading (top R)) p refl f h

    by_change : (x : Result Change Status) → change_by request own op ≡ x
        → outcome_of R own request x ≡ Added code r → Made R own request op code r
    by_change (Err c) p h = not_added _ _ _ h
    by_change (Ok change) p h = by_conflict change
        (conflict change.asked (is_live R request.node change.time)) p refl h

-- ---- new records come last

pub new_next : (R : Content) (own : ℕ) (request : Request) (op : Operation) (code : Status)
    (r : Record) → IsClosed R → outcome R own request op ≡ Added code r → IsNext R r
new_next R own request op code r closed e =
    let m = made R own request op code r e in
    let new = is_new R own request.reading m.tick closed m.lifts in
    subst (IsNext R) (sym m.is) (record { number = refl; rises = new.rises; within = new.within })

pub new_above : (R : Content) (own : ℕ) (request : Request) (op : Operation) (code : Status)
    (r s : Record) → outcome R own request op ≡ Added code r → Has R s → s.tick <ℤ r.tick
new_above R own request op code r s e h =
    let m = made R own request op code r e in
    let above = (lifted request.reading (top R) m.tick m.lifts).above in
    let below = top_bounds R s h in
    subst (λ (z : Record). s.tick <ℤ z.tick) (sym m.is) (omega (arith, ints, above, below))

pub new_timed : (R : Content) (own : ℕ) (request : Request) (op : Operation) (code : Status)
    (r : Record) → outcome R own request op ≡ Added code r
    → int_min request.reading (pos greatest) ≤ℤ r.tick
new_timed R own request op code r e =
    let m = made R own request op code r e in
    subst (λ (z : Record). int_min request.reading (pos greatest) ≤ℤ z.tick) (sym m.is)
    (lifted_timed request.reading (top R) m.tick m.lifts)

below_less : (s r : Record) → s.tick <ℤ r.tick → record_stamp_cmp s r ≡ Less
below_less s r lt = ap (λ (o : Ordering). ordering_then o (nat_cmp s.origin r.origin))
    (sym (int_cmp_is s.tick r.tick Less lt))

latest_new : (R : Content) (own : ℕ) (request : Request) (op : Operation) (code : Status)
    (r : Record) → outcome R own request op ≡ Added code r → IsLatest (put r R) r
latest_new R own request op code r e = record {
  there = has-put r R r (inl refl);
  above = λ s h p q. elim (has_from_put r R s h) [
    | inl k ↦ inl (sym k)
    | inr k ↦
        inr (below_less s r (new_above R own request op code r s e k))
  ];
}

apart_new : (R : Content) (own : ℕ) (request : Request) (op : Operation) (code : Status)
    (r : Record) → IsClosed R → outcome R own request op ≡ Added code r → IsClosed (put r R)
apart_new R own request op code r closed e =
    closed-next R r closed (new_next R own request op code r closed e)

pub new_last : (R : Content) (own : ℕ) (request : Request) (op : Operation) (code : Status)
    (r : Record) → IsClosed R → outcome R own request op ≡ Added code r
    → last (versions (put r R) r.node r.time) ≡ Some r
new_last R own request op code r closed e =
    latest_last (put r R) r (closed_stamps (put r R) (apart_new R own request op code r closed e))
    (latest_new R own request op code r e)

pub new_written : (R : Content) (own : ℕ) (request : Request) (op : Operation) (code : Status)
    (r : Record) → IsClosed R → outcome R own request op ≡ Added code r → is_delete r.asked ≡ false
    → (h : Held) × (live_value (put r R) r.node r.time ≡ Some h) × (h.value ≡ r.value)
new_written R own request op code r closed e w =
    let k = latest_written (put r R) r (closed_stamps (put r R)
    (apart_new R own request op code r closed e)) (latest_new R own request op code r e) w in
    (k.0, k.1, k.2)

pub new_deleted : (R : Content) (own : ℕ) (request : Request) (op : Operation) (code : Status)
    (r : Record) → IsClosed R → outcome R own request op ≡ Added code r → is_delete r.asked ≡ true
    → live_value (put r R) r.node r.time ≡ None
new_deleted R own request op code r closed e d =
    latest_deleted (put r R) r (closed_stamps (put r R)
    (apart_new R own request op code r closed e)) (latest_new R own request op code r e) d
