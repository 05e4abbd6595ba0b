-- Learning a first part of what is missing.
use Rattle.std.proofs.Common.{◌≡◌, ℕ, zero, suc, ◌+◌, List, [], ◌∷◌, filter, take, length, refl, sym, ap, ◌∙◌, subst, arith, inl, inr, ◌⊎◌}
use Rattle.std.specs.Prelude.{◌↔◌}
use Rattle.std.specs.Option.{option_map_or}
use Rattle.records.specs.declared.record.Record.{Record}
use Rattle.records.specs.Lists.{Has}
use Rattle.records.specs.Records.{name_cmp, is_beyond, missing}
use Rattle.records.specs.Contents.{Content, vec, IsClosed, AreCompatible, IsWithin, IsNext, AreNextInTurn, join, put, merged}
use Rattle.records.proofs.ContentLemmas.{named_once, compatible_back, has-join_left, has-join_right}
use Rattle.records.proofs.PutLemmas.{has-put}
use Rattle.records.proofs.LearnLemmas.{learned_next, closed-merged, has-merged, has_from_merged}
use Rattle.records.proofs.MissingLemmas.{missing_is, next_first, next_closed, next_compatible, next_rest}
use Rattle.records.proofs.LackLemmas.{has_from_take, missing_within, length-insert_sorted}

-- ---- in turn

pub turn_merged : (R : Content) (r : Record) (rs : List Record) → IsNext R r
    → merged (r ∷ rs) R ≡ merged rs (put r R)
turn_merged R r rs next = ap (λ o. option_map_or (merged rs) o R) (learned_next R r next)

pub turn_take : (n : ℕ) (rs : List Record) (R : Content) → AreNextInTurn R rs
    → AreNextInTurn R (take n rs)
turn_take zero rs R turn = tt
turn_take (suc n) [] R turn = tt
turn_take (suc n) (r ∷ rs) R turn = (turn.0, turn_take n rs (put r R) turn.1)

pub turn_has : (rs : List Record) (R : Content) (z : Record) → AreNextInTurn R rs → Has rs z
    → Has (merged rs R) z
turn_has [] R z turn h = absurd h
turn_has (r ∷ rs) R z turn h =
    subst (λ S. Has S z) (sym (turn_merged R r rs turn.0)) (elim h [
      | inl e ↦ has-merged rs (put r R) z (has-put r R z (inl e))
      | inr k ↦ turn_has rs (put r R) z turn.1 k
    ])

pub turn_length : (rs : List Record) (R : Content) → AreNextInTurn R rs
    → length (merged rs R) ≡ length R + length rs
turn_length [] R turn = omega arith
turn_length (r ∷ rs) R turn =
    let more = turn_length rs (put r R) turn.1 in
    let one = length-insert_sorted name_cmp r R in
    ap length (turn_merged R r rs turn.0) ∙ omega arith

turn_beyond : (S : Content) (xs : List Record) (R : Content) → IsClosed R → IsClosed S
    → AreCompatible R S → xs ≡ filter (is_beyond (vec R)) S → AreNextInTurn R xs
turn_beyond S [] R closed closed' same is = tt
turn_beyond S (x ∷ xs) R closed closed' same is = (
  next_first R S x xs closed closed' same is,
  turn_beyond S xs (put x R) (next_closed R S x xs closed closed' same is) closed'
      (next_compatible R S x xs closed closed' same is) (next_rest R S x xs closed closed' same is),
)

-- ---- any batch

pub batch_above : (R : Content) (rs : List Record) → IsWithin R (merged rs R)
batch_above R rs r h = has-merged rs R r h

pub batch_closed : (R : Content) (rs : List Record) → IsClosed R → IsClosed (merged rs R)
batch_closed R rs closed = closed-merged rs R closed

pub batch_only : (R : Content) (rs : List Record) (r : Record) → Has (merged rs R) r
    → Has R r ⊎ Has rs r
batch_only R rs r h = has_from_merged rs R r h

-- its records are those of a content that is compatible too
pub batch_compatible : (R S T : Content) (rs : List Record) → AreCompatible R T → AreCompatible S T
    → ((r : Record) → Has rs r → Has S r) → AreCompatible (merged rs R) T
batch_compatible R S T rs same same' from q t h j e f = elim (has_from_merged rs R q h) [
  | inl a ↦ same q t a j e f
  | inr b ↦ same' q t (from q b) j e f
]

-- ---- a first part

abbrev part : Content → Content → ℕ → ℕ → List Record
part R S k m = take m (missing S (vec R) k)

part_has : (R S : Content) (k m : ℕ) (z : Record) → Has (part R S k m) z → Has S z
part_has R S k m z h = (missing_within S (vec R) k z (has_from_take m _ z h)).0

pub part_turn : (R S : Content) (k m : ℕ) → IsClosed R → IsClosed S → AreCompatible R S
    → AreNextInTurn R (take m (missing S (vec R) k))
part_turn R S k m closed closed' same =
    turn_take m _ R (subst (AreNextInTurn R) (sym (missing_is S (vec R) k closed'.ordered))
    (turn_take k _ R (turn_beyond S _ R closed closed' same refl)))

pub part_members : (R S : Content) (k m : ℕ) (r : Record) → IsClosed R → IsClosed S
    → AreCompatible R S → Has (merged (take m (missing S (vec R) k)) R) r ↔
    (Has R r ⊎ Has (take m (missing S (vec R) k)) r)
part_members R S k m r closed closed' same = (
  has_from_merged (part R S k m) R r,
  λ h. elim h [
    | inl a ↦ has-merged (part R S k m) R r a
    | inr b ↦
        turn_has (part R S k m) R r (part_turn R S k m closed closed' same) b
  ],
)

pub part_length : (R S : Content) (k m : ℕ) → IsClosed R → IsClosed S → AreCompatible R S
    → length (merged (take m (missing S (vec R) k)) R)
    ≡ length R + length (take m (missing S (vec R) k))
part_length R S k m closed closed' same =
    turn_length (part R S k m) R (part_turn R S k m closed closed' same)

pub part_within : (R S : Content) (k m : ℕ) → AreCompatible R S
    → IsWithin (merged (take m (missing S (vec R) k)) R) (join R S)
part_within R S k m same r h = elim (has_from_merged (part R S k m) R r h) [
  | inl a ↦ has-join_left R S r a
  | inr b ↦ has-join_right R S same r (part_has R S k m r b)
]

pub part_own : (R S : Content) (k m : ℕ) → IsClosed R → AreCompatible R S
    → AreCompatible (merged (take m (missing S (vec R) k)) R) R
part_own R S k m closed same = batch_compatible R S R (part R S k m) (named_once R closed.ordered)
    (compatible_back R S same) (part_has R S k m)

pub part_theirs : (R S : Content) (k m : ℕ) → IsClosed S → AreCompatible R S
    → AreCompatible (merged (take m (missing S (vec R) k)) R) S
part_theirs R S k m closed' same =
    batch_compatible R S S (part R S k m) same (named_once S closed'.ordered) (part_has R S k m)

pub ruleset parts = (part_turn, part_members, part_length, part_within)
