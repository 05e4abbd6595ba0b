-- The live value is that of the greatest stamp.
use Rattle.std.proofs.Common.{◌≡◌, ℕ, ◌<◌, nat_lt, true, false, cond, List, [], ◌∷◌, filter, take, length, Some, None, refl, sym, ap, ◌∙◌, subst, arith, inl, inr, ◌⊎◌, Less}
use Rattle.std.specs.Prelude.{◌↔◌}
use Rattle.std.proofs.lemmas.Bool.{lt-ltb, ltb-true, and_from, and_parts}
use Rattle.std.proofs.lemmas.Bool.Decides.{Decides-int_eq}
use Rattle.records.specs.declared.record.Record.{Record}
use Rattle.records.specs.declared.shown.Held.{Held}
use Rattle.ua_binary.specs.declared.values.NodeId.{NodeId}
use Rattle.std.proofs.Common.{ℤ}
use Rattle.records.specs.Lists.{Has, Rises, IsApart, sort_by, last}
use Rattle.records.proofs.ContentsParts.{held_of}
use Rattle.records.proofs.SameParts.{node_code}
use Rattle.records.specs.Records.{record_stamp_cmp, name_cmp, is_at, is_delete, is_beyond, write, held, versions, live_value, entries_after, modifications_at, missing}
use Rattle.records.specs.Contents.{Content, IsLatest, HasOther}
use Rattle.records.proofs.Same.{Decides-is_same}
use Rattle.records.proofs.Sorting.{all-has, has-filter, has_from_filter, pairwise-filter, has-sort_by, has_from_sort_by, rises-sort_by, same_members, asymmetric, irreflexive}
use Rattle.records.proofs.Orders.{stamp_total, name_total}
use Rattle.records.proofs.FoundLemmas.{last_more, in_story}

placed : (node : NodeId) (time : ℤ) (s : Record) → s.node ≡ node → s.time ≡ time
    → is_at node time s ≡ true
placed node time s p q = and_from _ _ ((Decides-is_same node_code s.node node).1 p)
    ((Decides-int_eq s.time time).1 q)

place_of : (node : NodeId) (time : ℤ) (s : Record) → is_at node time s ≡ true
    → (s.node ≡ node) × (s.time ≡ time)
place_of node time s e = let parts = and_parts _ _ e in
    ((Decides-is_same node_code s.node node).0 parts.0, (Decides-int_eq s.time time).0 parts.1)

from_story : (R : Content) (node : NodeId) (time : ℤ) (s : Record) → Has (versions R node time) s
    → Has R s × (s.node ≡ node) × (s.time ≡ time)
from_story R node time s h =
    let k = has_from_filter (is_at node time) R s (has_from_sort_by
    record_stamp_cmp stamp_total _ s h) in
    let p = place_of node time s k.1 in
    (k.0, p.0, p.1)

to_story : (R : Content) (node : NodeId) (time : ℤ) (s : Record) → Has R s → s.node ≡ node
    → s.time ≡ time → Has (versions R node time) s
to_story R node time s h p q = has-sort_by record_stamp_cmp stamp_total _ s
    (has-filter (is_at node time) R s h (placed node time s p q))

rises-story : (R : Content) (node : NodeId) (time : ℤ) → IsApart record_stamp_cmp R
    → Rises record_stamp_cmp (versions R node time)
rises-story R node time apart = rises-sort_by record_stamp_cmp stamp_total _
    (pairwise-filter _ (is_at node time) R apart)

not_before : (x y : Record) → record_stamp_cmp x y ≡ Less → (y ≡ x) ⊎ (record_stamp_cmp y x ≡ Less)
    → ⊥
not_before x y lt (inl e) = irreflexive record_stamp_cmp stamp_total x
    (subst (λ z. record_stamp_cmp x z ≡ Less) e lt)
not_before x y lt (inr k) = asymmetric record_stamp_cmp stamp_total x y lt k

-- of a list that rises, the element that none is above is the last
greatest_last : (xs : List Record) (r : Record) → Rises record_stamp_cmp xs → Has xs r
    → ((s : Record) → Has xs s → (s ≡ r) ⊎ (record_stamp_cmp s r ≡ Less)) → last xs ≡ Some r
greatest_last [] r up h all = absurd h
greatest_last (x ∷ []) r up h all = elim h [ inl e ↦ ap Some e | inr k ↦ absurd k ]
greatest_last (x ∷ y ∷ xs) r up h all = elim h [
  | inl e ↦ absurd (not_before x y up.0.0 (elim
      (all y (inr (inl refl))) [
        | inl k ↦ inl (k ∙ sym e)
        | inr k ↦
            inr (subst (λ z. record_stamp_cmp y z ≡ Less) (sym e) k)
      ]))
  | inr k ↦ last_more x y xs ∙ greatest_last (y ∷ xs) r up.1 k (λ s m. all s (inr m))
]

pub latest_last : (R : Content) (r : Record) → IsApart record_stamp_cmp R → IsLatest R r
    → last (versions R r.node r.time) ≡ Some r
latest_last R r apart latest =
    greatest_last (versions R r.node r.time) r (rises-story R r.node r.time apart)
    (in_story R r latest.there)
    (λ s h. let k = from_story R r.node r.time s h in latest.above s k.0 k.1 k.2)

two_or_more : (xs : List Record) (r s : Record) → Has xs r → Has xs s → (s ≡ r → ⊥) → 1 < length xs
two_or_more [] r s h k apart = absurd h
two_or_more (x ∷ []) r s h k apart = elim h [
  | inl e ↦
      elim k [ inl f ↦ absurd (apart (sym f ∙ e)) | inr m ↦ absurd m ]
  | inr m ↦ absurd m
]
two_or_more (x ∷ y ∷ xs) r s h k apart = omega arith

another : (xs : List Record) (r : Record) → Rises record_stamp_cmp xs → Has xs r → 1 < length xs
    → (s : Record) × Has xs s × (s ≡ r → ⊥)
another [] r up h lt = absurd h
another (x ∷ []) r up h lt = absurd (omega arith)
another (x ∷ y ∷ xs) r up h lt = elim h [
  | inl e ↦ (
    y,
    inr (inl refl),
    λ f.
        irreflexive record_stamp_cmp stamp_total x (subst (λ z. record_stamp_cmp x z ≡ Less)
        (f ∙ sym e) up.0.0),
  )
  | inr k ↦ (
    x,
    inl refl,
    λ f. irreflexive record_stamp_cmp stamp_total x
        (subst (λ z. record_stamp_cmp x z ≡ Less) (sym f)
        (all-has (λ z. record_stamp_cmp x z ≡ Less) (y ∷ xs) r up.0 k)),
  )
]

extra_other : (R : Content) (r : Record) → IsApart record_stamp_cmp R → Has R r
    → (nat_lt 1 (length (versions R r.node r.time)) ≡ true) ↔ HasOther R r
extra_other R r apart h = (
  λ e.
      let s = another (versions R r.node r.time) r (rises-story R r.node r.time apart)
      (in_story R r h) (ltb-true _ _ e) in
      let k = from_story R r.node r.time s.0 s.1 in
      (s.0, k.0, k.1, k.2, s.2),
  λ o. lt-ltb _ _ (two_or_more (versions R r.node r.time) r o.0 (in_story R r h)
      (to_story R r.node r.time o.0 o.1 o.2 o.3) o.4),
)

pub latest_deleted : (R : Content) (r : Record) → IsApart record_stamp_cmp R → IsLatest R r
    → is_delete r.asked ≡ true → live_value R r.node r.time ≡ None
latest_deleted R r apart latest d =
    let extra = nat_lt 1 (length (versions R r.node r.time)) in
    ap (λ o. held_of extra (write o)) (latest_last R r apart latest)
    ∙ ap (λ b. held_of extra (cond b None (Some r))) d

pub latest_written : (R : Content) (r : Record) → IsApart record_stamp_cmp R → IsLatest R r
    → is_delete r.asked ≡ false → (h : Held) × (live_value R r.node r.time ≡ Some h)
    × (h.value ≡ r.value) × (h.time ≡ r.time) × ((h.extra ≡ true) ↔ HasOther R r)
latest_written R r apart latest d =
    let extra = nat_lt 1 (length (versions R r.node r.time)) in (
      record { time = r.time; value = r.value; extra = extra },
      ap (λ o. held_of extra (write o)) (latest_last R r apart latest)
          ∙ ap (λ b. held_of extra (cond b None (Some r))) d,
      refl,
      refl,
      extra_other R r apart latest.there,
    )

nothing_there : (xs : List Record) → ((s : Record) → Has xs s → ⊥) → xs ≡ []
nothing_there [] none = refl
nothing_there (x ∷ xs) none = absurd (none x (inl refl))

pub none_current : (R : Content) (node : NodeId) (time : ℤ)
    → ((s : Record) → Has R s → s.node ≡ node → s.time ≡ time → ⊥) → live_value R node time ≡ None
none_current R node time none =
    ap held (nothing_there (versions R node time) (λ s h. let k = from_story R node time s h in
    none s k.0 k.1 k.2))

-- ---- the order of a list is free

pub story_rises : (R : List Record) (node : NodeId) (time : ℤ) → IsApart record_stamp_cmp R
    → Rises record_stamp_cmp (versions R node time)
story_rises R node time apart = rises-story R node time apart

pub story_has : (R : List Record) (node : NodeId) (time : ℤ) (r : Record)
    → Has (versions R node time) r ↔ (Has R r × (r.node ≡ node) × (r.time ≡ time))
story_has R node time r = (from_story R node time r, λ h. to_story R node time r h.0 h.1 h.2)

pub story_free : (R S : List Record) (node : NodeId) (time : ℤ) → IsApart record_stamp_cmp R
    → IsApart record_stamp_cmp S → ((r : Record) → Has R r ↔ Has S r)
    → versions R node time ≡ versions S node time
story_free R S node time a b same =
    same_members record_stamp_cmp stamp_total _ _ (rises-story R node time a)
    (rises-story S node time b)
    (λ r h. let k = from_story R node time r h in to_story S node time r ((same r).0 k.0) k.1 k.2)
    (λ r h. let k = from_story S node time r h in to_story R node time r ((same r).1 k.0) k.1 k.2)

pub current_free : (R S : List Record) (node : NodeId) (time : ℤ) → IsApart record_stamp_cmp R
    → IsApart record_stamp_cmp S → ((r : Record) → Has R r ↔ Has S r)
    → live_value R node time ≡ live_value S node time
current_free R S node time a b same = ap held (story_free R S node time a b same)

pub entries_free : (R S : List Record) (node : NodeId) (time : ℤ) → IsApart record_stamp_cmp R
    → IsApart record_stamp_cmp S → ((r : Record) → Has R r ↔ Has S r)
    → modifications_at R node time ≡ modifications_at S node time
entries_free R S node time a b same = ap (entries_after None) (story_free R S node time a b same)

pub from_beyond : (R : List Record) (v : ℕ → ℕ) (r : Record)
    → Has (sort_by name_cmp (filter (is_beyond v) R)) r → Has R r × (is_beyond v r ≡ true)
from_beyond R v r h = has_from_filter (is_beyond v) R r (has_from_sort_by name_cmp name_total _ r h)

pub to_beyond : (R : List Record) (v : ℕ → ℕ) (r : Record) → Has R r → is_beyond v r ≡ true
    → Has (sort_by name_cmp (filter (is_beyond v) R)) r
to_beyond R v r h e = has-sort_by name_cmp name_total _ r (has-filter (is_beyond v) R r h e)

pub rises-beyond : (R : List Record) (v : ℕ → ℕ) → IsApart name_cmp R
    → Rises name_cmp (sort_by name_cmp (filter (is_beyond v) R))
rises-beyond R v apart = rises-sort_by name_cmp name_total _
    (pairwise-filter _ (is_beyond v) R apart)

pub missing_free : (R S : List Record) (v : ℕ → ℕ) (limit : ℕ) → IsApart name_cmp R
    → IsApart name_cmp S → ((r : Record) → Has R r ↔ Has S r)
    → missing R v limit ≡ missing S v limit
missing_free R S v limit a b same =
    ap (take limit) (same_members name_cmp name_total _ _ (rises-beyond R v a) (rises-beyond S v b)
    (λ r h. let k = from_beyond R v r h in to_beyond S v r ((same r).0 k.0) k.1)
    (λ r h. let k = from_beyond S v r h in to_beyond R v r ((same r).1 k.0) k.1))

pub ruleset free = (story_rises, story_has, current_free, entries_free, missing_free)

pub ruleset latest = (latest_deleted, latest_written, none_current)
