-- Each record of a content is found.
use Rattle.std.proofs.Common.{◌≡◌, ℕ, suc, ◌+◌, ◌-◌, Bool, true, false, List, [], ◌∷◌, length, Option, Some, None, refl, sym, ap, ◌∙◌, arith, inl, inr, ◌⊎◌, slice_get, is_eq}
use Rattle.std.proofs.lemmas.Bool.{true≢false, and_from}
use Rattle.std.proofs.lemmas.Cmp.{tied_itself, int_cmp_total}
use Rattle.std.proofs.Common.{add-one}
use Rattle.records.specs.declared.record.Record.{Record}
use Rattle.records.specs.declared.shown.Entry.{Entry}
use Rattle.records.specs.declared.shown.Held.{Held}
use Rattle.ua_variant.specs.declared.update_type.HistoryUpdateType.{HistoryUpdateType}
use Rattle.ua_variant.specs.declared.update_type.HistoryUpdateType.TheVariants.{Insert, Replace, Update, Delete}
use Rattle.records.specs.Lists.{Has, last}
use Rattle.records.proofs.SameParts.{node_code}
use Rattle.records.specs.Records.{record_stamp_cmp, is_at, versions, is_delete, write, kind, entry, entries_after}
use Rattle.records.proofs.ContentsParts.{held_of}
use Rattle.records.specs.Contents.{Content, IsShownAt, IsFound}
use Rattle.records.proofs.Sorting.{has-filter, has-sort_by}
use Rattle.records.proofs.Orders.{stamp_total}
use Rattle.records.proofs.Same.{Decides-is_same}

pub last_more : (a b : Record) (rs : List Record) → last (a ∷ b ∷ rs) ≡ last (b ∷ rs)
last_more a b rs =
    let p : suc (suc (length rs)) - 1 ≡ suc (length rs) = omega arith in
    let q : suc (length rs) - 1 ≡ length rs = omega arith in
    ap (slice_get (a ∷ b ∷ rs)) p ∙ ap (slice_get (b ∷ rs)) (sym q)

kind_of_delete : (before : Option Record) (a : HistoryUpdateType) → is_delete a ≡ true
    → kind before a ≡ Delete
kind_of_delete before Delete e = refl
kind_of_delete before Insert e = absurd (true≢false (sym e))
kind_of_delete before Replace e = absurd (true≢false (sym e))
kind_of_delete before Update e = absurd (true≢false (sym e))

delete_in : (before : Option Record) (rs : List Record) (r : Record) → Has rs r
    → is_delete r.asked ≡ true → (e : Entry) × Has (entries_after before rs) e × (e.kind ≡ Delete)
    × (e.time ≡ r.time) × (e.tick ≡ r.tick) × (e.origin ≡ r.origin) × (e.user ≡ r.user)
delete_in before [] r h d = absurd h
delete_in before (a ∷ rs) r h d = elim h [
  | inl e ↦ (
    entry (write before) r,
    inl (ap (entry (write before)) e),
    kind_of_delete (write before) r.asked d,
    refl,
    refl,
    refl,
    refl,
  )
  | inr k ↦ let m = delete_in (Some a) rs r k d in (m.0, inr m.1, m.2, m.3, m.4, m.5, m.6)
]

after_live : (r s : Record) → is_delete r.asked ≡ false
    → (entry (write (Some r)) s).value ≡ Some r.value
after_live r s d = rw d

one_on : (k : ℕ) (e : Entry) (es : List Entry) (o : Option Entry) → slice_get es (k + 1) ≡ o
    → slice_get (e ∷ es) (suc k + 1) ≡ o
one_on k e es o h = rw add-one (rw add-one at h)

write_in : (before : Option Record) (rs : List Record) (r : Record) → Has rs r
    → is_delete r.asked ≡ false → (last rs ≡ Some r)
    ⊎ ((k : ℕ) × IsShownAt rs (entries_after before rs) k r)
write_in before [] r h d = absurd h
write_in before (a ∷ []) r h d = elim h [ inl e ↦ inl (ap Some e) | inr k ↦ absurd k ]
write_in before (a ∷ b ∷ rs) r h d = elim h [
  | inl e ↦ inr (
    0,
    record {
      place = ap Some e;
      next = entry (write (Some a)) b;
      after =
          refl;
      shows = after_live a b (ap (λ (x : Record). is_delete x.asked) e ∙ d)
          ∙ ap (λ (x : Record). Some x.value) e;
    },
  )
  | inr k ↦ elim (write_in (Some a) (b ∷ rs) r k d) [
    | inl e ↦ inl (last_more a b rs ∙ e)
    | inr m ↦ inr (
      suc m.0,
      record {
        place = m.1.place;
        next = m.1.next;
        after =
            one_on m.0 (entry (write before) a) (entries_after (Some a) (b ∷ rs)) _ m.1.after;
        shows =
            m.1.shows;
      },
    )
  ]
]

held_write : (extra : Bool) (o : Option Record) (r : Record) → o ≡ Some r
    → is_delete r.asked ≡ false → (h : Held) × (held_of extra (write o) ≡ Some h)
    × (h.value ≡ r.value) × (h.time ≡ r.time)
held_write extra o r e d = (
  record { time = r.time; value = r.value; extra = extra },
  rw (e, d),
  refl,
  refl,
)

at_its_place : (r : Record) → is_at r.node r.time r ≡ true
at_its_place r = and_from _ _ ((Decides-is_same node_code r.node r.node).1 refl)
    (ap is_eq (tied_itself int_cmp_total r.time))

pub in_story : (R : Content) (r : Record) → Has R r → Has (versions R r.node r.time) r
in_story R r h = has-sort_by record_stamp_cmp stamp_total _ r
    (has-filter (is_at r.node r.time) R r h (at_its_place r))

pub found : (R : Content) (r : Record) → Has R r → IsFound R r
found R r h =
    let there = in_story R r h in (
      λ d. delete_in None (versions R r.node r.time) r there d,
      λ d. elim (write_in None (versions R r.node r.time) r there d)
          [ inl e ↦ (let h = held_write _ _ r e d in inl (e, h.0, h.1, h.2, h.3)) | inr m ↦ inr m ],
    )
