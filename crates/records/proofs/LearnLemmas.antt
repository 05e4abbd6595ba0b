-- What learning leaves.
use Rattle.std.proofs.Common.{◌≡◌, ℕ, ◌+◌, nat_le, nat_lt, ℤ, pos, ◌≤ℤ◌, ◌<ℤ◌, Bool, true, false, ◌||◌, cond, List, [], ◌∷◌, Option, Some, None, refl, sym, ap, subst, arith, inl, inr, ◌⊎◌, int_lt}
use Rattle.std.specs.Prelude.{int_le, ◌↔◌}
use Rattle.std.specs.Option.{option_map_or}
use Rattle.std.specs.List.{list_any}
use Rattle.std.proofs.lemmas.Bool.{true≢false, lt-leb, le-leb, leb-false, ltb-false, le-ltb}
use Rattle.std.proofs.lemmas.Option.{none-some, same_Some}
use Rattle.std.proofs.lemmas.Int.{ints}
use Rattle.stamp.specs.Limits.{greatest}
use Rattle.records.specs.declared.record.Record.{Record}
use Rattle.records.specs.Lists.{Has}
use Rattle.records.specs.Contents.{Content, IsWithin, vec, last_tick, IsClosed, put, IsNext, Finding, Adds, Holds, Clash, Gap, TickTooFar, TickNotRising, finding, learned, merged}
use Rattle.records.proofs.ContentsParts.{after_finding}
use Rattle.records.specs.Same.{same_record}
use Rattle.records.proofs.SameParts.{record_code}
use Rattle.records.proofs.Same.{Decides-is_same}
use Rattle.records.proofs.ContentLemmas.{vec_bounds}
use Rattle.records.proofs.PutLemmas.{closed_put, has-put, has_from_put}

pub held_from_test : (R : Content) (r : Record) → list_any (same_record r) R ≡ true → Has R r
held_from_test [] r e = absurd (true≢false (sym e))
held_from_test (s ∷ R) r e = go (same_record r s) refl (held_from_test R r) e
  where
    go : (b : Bool) → same_record r s ≡ b → (list_any (same_record r) R ≡ true → Has R r)
        → (b || list_any (same_record r) R) ≡ true → Has (s ∷ R) r
    go true p more h = inl (sym ((Decides-is_same record_code r s).0 p))
    go false p more h = inr (more h)

pub le_from_not : (a b : ℤ) → int_lt b a ≡ false → a ≤ℤ b
le_from_not a b e = grind (arith, ints)

pub not_lt_test : (a b : ℤ) → b ≤ℤ a → int_lt a b ≡ false
not_lt_test a b e = grind (arith, ints)

pub not_le_test : (a b : ℤ) → b <ℤ a → int_le a b ≡ false
not_le_test a b e = grind (arith, ints)

pub le_from_test : (a b : ℤ) → int_le a b ≡ true → a ≤ℤ b
le_from_test a b e = grind (arith, ints)

pub lt_from_test : (a b : ℤ) → int_lt a b ≡ true → a <ℤ b
lt_from_test a b e = grind (arith, ints)

pub gt_from_test : (a b : ℤ) → int_le a b ≡ false → b <ℤ a
gt_from_test a b e = grind (arith, ints)

abbrev pub finding_by : (a b g f t : Bool) → ℕ → ℕ → Finding
finding_by a b g f t held got = cond a (cond b Holds Clash)
    (cond g (Gap held got) (cond f TickTooFar (cond t TickNotRising Adds)))

abbrev adds : Finding → Bool
adds Adds = true
adds _ = false

abbrev holds : Finding → Bool
holds Holds = true
holds _ = false

pub next_found : (R : Content) (r : Record) → finding R r ≡ Adds → IsNext R r
next_found R r e = go _ _ _ _ _ refl refl refl refl e
  where
    go : (a b g f t : Bool) → nat_le r.number (vec R r.origin) ≡ a
        → nat_lt (vec R r.origin + 1) r.number ≡ g → int_lt (pos greatest) r.tick ≡ f
        → int_le r.tick (last_tick R r.origin) ≡ t
        → finding_by a b g f t (vec R r.origin) r.number ≡ Adds → IsNext R r
    go true true g f t p q u v h = absurd (true≢false (sym (ap adds h)))
    go true false g f t p q u v h = absurd (true≢false (sym (ap adds h)))
    go false b true f t p q u v h = absurd (true≢false (sym (ap adds h)))
    go false b false true t p q u v h = absurd (true≢false (sym (ap adds h)))
    go false b false false true p q u v h = absurd (true≢false (sym (ap adds h)))
    go false b false false false p q u v h =
        let above = leb-false _ _ p in
        let below = ltb-false _ _ q in
        record { number = omega arith; rises = gt_from_test _ _ v; within = le_from_not _ _ u }

pub finding_next : (R : Content) (r : Record) → IsNext R r → finding R r ≡ Adds
finding_next R r next =
    let above : nat_le r.number (vec R r.origin) ≡ false =
    lt-leb _ _ (omega (arith, next.number)) in
    let here : nat_lt (vec R r.origin + 1) r.number ≡ false =
    le-ltb _ _ (omega (arith, next.number)) in
    let small : int_lt (pos greatest) r.tick ≡ false = not_lt_test _ _ next.within in
    let later : int_le r.tick (last_tick R r.origin) ≡ false = not_le_test _ _ next.rises in
    rw (above, here, small, later)

pub holds_found : (R : Content) (r : Record) → finding R r ≡ Holds → Has R r
holds_found R r e = go _ _ _ _ _ refl e
  where
    go : (a b g f t : Bool) → list_any (same_record r) R ≡ b
        → finding_by a b g f t (vec R r.origin) r.number ≡ Holds → Has R r
    go true true g f t p h = held_from_test R r p
    go true false g f t p h = absurd (true≢false (sym (ap holds h)))
    go false b true f t p h = absurd (true≢false (sym (ap holds h)))
    go false b false true t p h = absurd (true≢false (sym (ap holds h)))
    go false b false false true p h = absurd (true≢false (sym (ap holds h)))
    go false b false false false p h = absurd (true≢false (sym (ap holds h)))

pub closed-next : (R : Content) (r : Record) → IsClosed R → IsNext R r → IsClosed (put r R)
closed-next R r closed next = closed_put r R closed next.number next.rises next.within

pub learned_cases : (R : Content) (r : Record) (S : Content) → learned R r ≡ Some S
    → (R ≡ S) ⊎ (IsNext R r × (put r R ≡ S))
learned_cases R r S e = go (finding R r) refl e
  where
    go : (f : Finding) → finding R r ≡ f → after_finding R r f ≡ Some S
        → (R ≡ S) ⊎ (IsNext R r × (put r R ≡ S))
    go Adds p h = inr (next_found R r p, same_Some _ _ h)
    go Holds p h = inl (same_Some _ _ h)
    go Clash p h = absurd (none-some _ h)
    go (Gap m n) p h = absurd (none-some _ h)
    go TickTooFar p h = absurd (none-some _ h)
    go TickNotRising p h = absurd (none-some _ h)

-- what holds of a content and is kept by each step holds after a merge
pub merged_keeps : (P : Content → Type 0) (rs : List Record) (R : Content) → P R
    → ((S : Content) (r : Record) → Has rs r → P S → IsNext S r → P (put r S)) → P (merged rs R)
merged_keeps P [] R here step = here
merged_keeps P (r ∷ rs) R here step =
    go (learned R r) refl (λ S p. merged_keeps P rs S p (λ T s h. step T s (inr h)))
  where
    go : (o : Option Content) → learned R r ≡ o → ((S : Content) → P S → P (merged rs S))
        → P (option_map_or (merged rs) o R)
    go None e more = here
    go (Some S) e more = elim (learned_cases R r S e) [
      | inl same ↦ more S (subst P same here)
      | inr next ↦ more S (subst P next.1 (step R r (inl refl) here next.0))
    ]

pub closed-merged : (rs : List Record) (R : Content) → IsClosed R → IsClosed (merged rs R)
closed-merged rs R closed = merged_keeps IsClosed rs R closed (λ S r h p e. closed-next S r p e)

pub has-merged : (rs : List Record) (R : Content) (z : Record) → Has R z → Has (merged rs R) z
has-merged rs R z h = merged_keeps (λ S. Has S z) rs R h (λ S r k p e. has-put r S z (inr p))

abbrev FromEither : List Record → Content → Content → Type 0
FromEither rs R S = (z : Record) → Has S z → Has R z ⊎ Has rs z

pub has_from_merged : (rs : List Record) (R : Content) (z : Record) → Has (merged rs R) z
    → Has R z ⊎ Has rs z
has_from_merged rs R = merged_keeps (FromEither rs R) rs R (λ z h. inl h)
    (λ S r h p e z k. elim (has_from_put r S z k) [
      | inl same ↦ inr (subst (Has rs) same h)
      | inr m ↦
          p z m
    ])

pub learned_next : (R : Content) (r : Record) → IsNext R r → learned R r ≡ Some (put r R)
learned_next R r next = ap (after_finding R r) (finding_next R r next)

pub closed-learned : (R : Content) (r : Record) (S : Content) → IsClosed R → learned R r ≡ Some S
    → IsClosed S
closed-learned R r S closed e = elim
    (learned_cases R r S e) [
      | inl same ↦ subst IsClosed same closed
      | inr next ↦
          subst IsClosed next.1 (closed-next R r closed next.0)
    ]

or_true : (b : Bool) → (b || true) ≡ true
or_true true = refl
or_true false = refl

pub held_test : (R : Content) (r : Record) → Has R r → list_any (same_record r) R ≡ true
held_test [] r h = absurd h
held_test (s ∷ R) r h = elim h [
  | inl e ↦ rw ((Decides-is_same record_code r s).1 (sym e)) refl
  | inr k ↦ rw (held_test R r k) (or_true (same_record r s))
]

pub found_held : (R : Content) (r : Record) → Has R r → finding R r ≡ Holds
found_held R r h =
    let reached : nat_le r.number (vec R r.origin) ≡ true = le-leb _ _ (vec_bounds R r h) in
    rw (reached, held_test R r h) refl

pub adds_next : (R : Content) (r : Record) → (finding R r ≡ Adds) ↔ IsNext R r
adds_next R r = (next_found R r, finding_next R r)

pub learned_within : (R : Content) (r : Record) (S : Content) → learned R r ≡ Some S
    → IsWithin R S × Has S r
learned_within R r S e = go (finding R r) refl e
  where
    go : (f : Finding) → finding R r ≡ f → after_finding R r f ≡ Some S → IsWithin R S × Has S r
    go Adds p h = subst (λ T. IsWithin R T × Has T r) (same_Some _ _ h)
        (λ z k. has-put r R z (inr k), has-put r R r (inl refl))
    go Holds p h = subst (λ T. IsWithin R T × Has T r) (same_Some _ _ h)
        (λ z k. k, holds_found R r p)
    go Clash p h = absurd (none-some _ h)
    go (Gap m n) p h = absurd (none-some _ h)
    go TickTooFar p h = absurd (none-some _ h)
    go TickNotRising p h = absurd (none-some _ h)

pub learned_only : (R : Content) (r : Record) (S : Content) (z : Record) → learned R r ≡ Some S
    → Has S z → Has R z ⊎ (r ≡ z)
learned_only R r S z e k = elim (learned_cases R r S e) [
  | inl same ↦ inl (subst (λ T. Has T z) (sym same) k)
  | inr next ↦ elim (has_from_put r R z (subst (λ T. Has T z) (sym next.1) k))
      [ inl here ↦ inr here | inr there ↦ inl there ]
]

pub ruleset learning = (
  adds_next,
  holds_found,
  found_held,
  closed-learned,
  learned_within,
  learned_only,
)
