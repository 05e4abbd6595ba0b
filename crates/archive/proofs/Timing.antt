-- The times of live values and entries are times at which the node has records.
use Rattle.std.proofs.Common.{◌≡◌, ℕ, zero, suc, ℤ, Bool, true, false, cond, List, [], ◌∷◌, filter, map, slice_get, Option, Some, None, refl, sym, ap, ◌∙◌, subst, inl, inr}
use Rattle.std.specs.Ordering.{int_cmp}
use Rattle.ua_binary.specs.declared.values.NodeId.{NodeId}
use Rattle.records.specs.Lists.{Has, Rises}
use Rattle.records.proofs.SameParts.{node_code}
use Rattle.records.specs.Contents.{Content}
use Rattle.records.specs.Records.{is_delete, write, versions, live_value, entries_after, modifications_at}
use Rattle.records.proofs.ContentsParts.{held_of}
use Rattle.records.specs.declared.record.Record.{Record}
use Rattle.records.specs.declared.shown.Held.{Held}
use Rattle.records.specs.declared.shown.Entry.{Entry}
use Rattle.records.proofs.LatestLemmas.{story_has}
use Rattle.records.proofs.Same.{Decides-is_same}
use Rattle.records.proofs.Sorting.{has-filter}
use Rattle.archive.specs.Reading.{is_of, times}
use Rattle.archive.proofs.SetLemmas.{has-once, rises-once}
use Rattle.archive.proofs.Turning.{has-map}

pub times_rise : (R : Content) (node : NodeId) → Rises int_cmp (times R node)
times_rise R node = rises-once (map (λ (r : Record). r.time) (filter (is_of node) R))

has_time : (R : Content) (node : NodeId) (t : ℤ) (r : Record) → Has (versions R node t) r
    → Has (times R node) t
has_time R node t r h =
    let there = (story_has R node t r).0 h in
    let own = has-filter (is_of node) R r there.0
    ((Decides-is_same node_code r.node node).1 there.1) in
    subst (Has (times R node)) there.2 (has-once _ r.time
    (has-map (λ (s : Record). s.time) _ r own))

pub has_from_get : {X : Type 0} (xs : List X) (k : ℕ) (x : X) → slice_get xs k ≡ Some x → Has xs x
has_from_get [] k x e = cc
has_from_get (y ∷ ys) zero x e = inl (cc)
has_from_get (y ∷ ys) (suc k) x e = inr (has_from_get ys k x e)

-- a live value is of a record, and has its time
held_from : (extra : Bool) (o : Option Record) (h : Held) → held_of extra (write o) ≡ Some h
    → (r : Record) × (o ≡ Some r) × (r.time ≡ h.time)
held_from extra None h e = cc
held_from extra (Some r) h e = go (is_delete r.asked) e
  where
    go : (b : Bool) → held_of extra (cond b None (Some r)) ≡ Some h
        → (s : Record) × (Some r ≡ Some s) × (s.time ≡ h.time)
    go true k = cc
    go false k = (r, refl, cc)

pub current_from : (R : Content) (node : NodeId) (t : ℤ) (h : Held) → live_value R node t ≡ Some h
    → (r : Record) × Has (versions R node t) r × (r.time ≡ h.time)
current_from R node t h e = let r = held_from _ _ h e in
    (r.0, has_from_get (versions R node t) _ r.0 r.1, r.2)

pub current_time : (R : Content) (node : NodeId) (t : ℤ) (h : Held) → live_value R node t ≡ Some h
    → Has (times R node) t × (h.time ≡ t)
current_time R node t h e = let r = current_from R node t h e in
    (has_time R node t r.0 r.1, sym r.2 ∙ ((story_has R node t r.0).0 r.1).2)

pub entry_from : (before : Option Record) (rs : List Record) (e : Entry)
    → Has (entries_after before rs) e → (r : Record) × Has rs r × (r.time ≡ e.time)
entry_from before [] e h = absurd h
entry_from before (r ∷ rs) e h = elim h [
  | inl same ↦ (r, inl refl, ap (λ (x : Entry). x.time) same)
  | inr k ↦ let s = entry_from (Some r) rs e k in (s.0, inr s.1, s.2)
]

pub entry_time : (R : Content) (node : NodeId) (t : ℤ) (e : Entry)
    → Has (modifications_at R node t) e → Has (times R node) t × (e.time ≡ t)
entry_time R node t e h = let r = entry_from None (versions R node t) e h in
    (has_time R node t r.0 r.1, sym r.2 ∙ ((story_has R node t r.0).0 r.1).2)
