-- The part of a content that a vector covers.
use Rattle.std.proofs.Common.{◌≡◌, ℕ, ◌≤◌, min, Bool, true, not, sym, ap, ◌∙◌, subst, arith, inl, inr}
use Rattle.std.proofs.lemmas.Bool.{ltb-false, le-ltb, not-true, cases_eq}
use Rattle.records.specs.declared.record.Record.{Record}
use Rattle.records.specs.Lists.{Has, Rises}
use Rattle.records.specs.Records.{name_cmp, is_beyond}
use Rattle.records.specs.Contents.{Content, vec, HasName, IsClosed, AreCompatible, join, cut}
use Rattle.records.proofs.Sorting.{has-filter, has_from_filter, pairwise-filter, same_members}
use Rattle.records.proofs.Orders.{name_total}
use Rattle.records.proofs.ContentLemmas.{vec_bounds, vec_is, named_once, reached, compatible_back, rises-join, has_from_join, has-join_left, has-join_right, closed_join, vec_join}

-- whether a vector covers a record
abbrev covered : (ℕ → ℕ) → Record → Bool
covered v r = not (is_beyond v r)

covered_below : (v : ℕ → ℕ) (r : Record) → r.number ≤ v r.origin → covered v r ≡ true
covered_below v r le = ap not (le-ltb _ _ le)

below_covered : (v : ℕ → ℕ) (r : Record) → covered v r ≡ true → r.number ≤ v r.origin
below_covered v r e = let h = ltb-false _ _ (not-true _ e) in omega arith

has-cut : (R : Content) (v : ℕ → ℕ) (r : Record) → Has R r → r.number ≤ v r.origin → Has (cut R v) r
has-cut R v r h le = has-filter (covered v) R r h (covered_below v r le)

has_from_cut : (R : Content) (v : ℕ → ℕ) (r : Record) → Has (cut R v) r
    → Has R r × (r.number ≤ v r.origin)
has_from_cut R v r h = let k = has_from_filter (covered v) R r h in (k.0, below_covered v r k.1)

rises-cut : (R : Content) (v : ℕ → ℕ) → Rises name_cmp R → Rises name_cmp (cut R v)
rises-cut R v up = pairwise-filter _ (covered v) R up

named_cut : (R : Content) (v : ℕ → ℕ) (o n : ℕ) → IsClosed R → 1 ≤ n → n ≤ vec R o → n ≤ v o
    → HasName (cut R v) o n
named_cut R v o n closed one le small =
    let r = closed.whole o n one le in
    (r.0, has-cut R v r.0 r.1 (omega (arith, r.2.1, ap v r.2.0)), r.2)

pub vec_cut : (R : Content) (v : ℕ → ℕ) → IsClosed R → (o : ℕ)
    → vec (cut R v) o ≡ min (vec R o) (v o)
vec_cut R v closed o =
    vec_is (cut R v) o (min (vec R o) (v o))
    (λ r h e.
    let k = has_from_cut R v r h in
    let a : r.number ≤ vec R o = subst (λ p. r.number ≤ vec R p) e (vec_bounds R r k.0) in
    let b : r.number ≤ v o = subst (λ p. r.number ≤ v p) e k.1 in
    omega arith)
    (elim (cases_eq (min (vec R o) (v o)) 0) [
      | inl z ↦ inl z
      | inr some ↦ inr (named_cut R v o (min (vec R o) (v o)) closed (omega arith) (omega arith)
          (omega arith))
    ])

pub closed_cut : (R : Content) (v : ℕ → ℕ) → IsClosed R → IsClosed (cut R v)
closed_cut R v closed = record {
  ordered = rises-cut R v closed.ordered;
  numbers = λ r h. closed.numbers r (has_from_cut R v r h).0;
  whole = λ o n one le. let e = vec_cut R v closed o in
      named_cut R v o n closed one (omega arith) (omega arith);
  ticks = λ r h. closed.ticks r (has_from_cut R v r h).0;
  rising = λ r s h k e lt. closed.rising r s (has_from_cut R v r h).0 (has_from_cut R v s k).0 e lt;
}

pub cut_whole : (R : Content) → IsClosed R → cut R (vec R) ≡ R
cut_whole R closed =
    same_members name_cmp name_total _ _ (rises-cut R (vec R) closed.ordered) closed.ordered
    (λ r h. (has_from_cut R (vec R) r h).0)
    (λ r h. has-cut R (vec R) r h (vec_bounds R r h))

-- what two contents hold of what both cover is one
pub cut_same : (R S : Content) (v : ℕ → ℕ) → IsClosed R → IsClosed S → AreCompatible R S
    → ((o : ℕ) → v o ≤ vec R o) → ((o : ℕ) → v o ≤ vec S o) → cut R v ≡ cut S v
cut_same R S v closed closed' same le le' =
    same_members name_cmp name_total _ _ (rises-cut R v closed.ordered)
    (rises-cut S v closed'.ordered)
    (λ r h. let k = has_from_cut R v r h in
    has-cut S v r (reached S R closed' closed (compatible_back R S same) r k.0
    (omega (arith, k.1, le' r.origin))) k.1)
    (λ r h. let k = has_from_cut S v r h in
    has-cut R v r (reached R S closed closed' same r k.0 (omega (arith, k.1, le r.origin))) k.1)

compatible_cut : (R S : Content) (v : ℕ → ℕ) → AreCompatible R S → AreCompatible (cut R v) (cut S v)
compatible_cut R S v same r s h k e f =
    same r s (has_from_cut R v r h).0 (has_from_cut S v s k).0 e f

pub cut_join : (R S : Content) (v : ℕ → ℕ) → IsClosed R → IsClosed S → AreCompatible R S
    → cut (join R S) v ≡ join (cut R v) (cut S v)
cut_join R S v closed closed' same =
    same_members name_cmp name_total _ _
    (rises-cut (join R S) v (rises-join R S closed.ordered closed'.ordered))
    (rises-join (cut R v) (cut S v) (rises-cut R v closed.ordered) (rises-cut S v closed'.ordered))
    (λ r h.
    let k = has_from_cut (join R S) v r h in
    elim (has_from_join R S r k.0) [
      | inl m ↦ has-join_left (cut R v) (cut S v) r (has-cut R v r m k.1)
      | inr m ↦ has-join_right (cut R v) (cut S v) (compatible_cut R S v same) r
          (has-cut S v r m k.1)
    ])
    (λ r h. elim (has_from_join (cut R v) (cut S v) r h) [
      | inl m ↦ let k = has_from_cut R v r m in has-cut (join R S) v r (has-join_left R S r k.0) k.1
      | inr m ↦ let k = has_from_cut S v r m in
          has-cut (join R S) v r (has-join_right R S same r k.0) k.1
    ])

-- what was held before a merge is the part that the vector of then covers
pub cut_back : (R S : Content) → IsClosed R → IsClosed S → AreCompatible R S
    → cut (join R S) (vec R) ≡ R
cut_back R S closed closed' same =
    let both = closed_join R S closed closed' same in
    let compatible : AreCompatible (join R S) R = λ r s h k e f. elim (has_from_join R S r h) [
      | inl m ↦ named_once R closed.ordered r s m k e f
      | inr m ↦ sym (same s r k m (sym e) (sym f))
    ] in
    cut_same (join R S) R (vec R) both closed compatible
    (λ o. let e = vec_join R S same o in omega arith) (λ o. omega arith) ∙ cut_whole R closed

pub ruleset cuts = (vec_cut, closed_cut, cut_whole, cut_same, cut_join, cut_back)
