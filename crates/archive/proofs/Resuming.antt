-- A log that goes on behind one of its entries.
use Rattle.std.proofs.Common.{◌≡◌, ℕ, zero, suc, ◌+◌, ℤ, Bool, true, false, cond, List, [], ◌∷◌, filter, drop, slice_get, Option, Some, None, refl, sym, ap, ◌∙◌, subst, Ordering, Less, Equal, Greater, is_lt}
use Rattle.std.proofs.Common.{add-one}
use Rattle.std.specs.List.{AllByRecursion}
use Rattle.std.specs.Cmp.{IsTotalOrder}
use Rattle.std.proofs.lemmas.Bool.{true≢false}
use Rattle.std.proofs.lemmas.Cmp.{then_total, on_total, back_total, int_cmp_total}
use Rattle.stamp.proofs.Orders.{stamp_total}
use Rattle.ua_binary.specs.declared.values.NodeId.{NodeId}
use Rattle.records.specs.Lists.{IsPairwise}
use Rattle.records.specs.Contents.{Content, IsClosed}
use Rattle.records.specs.declared.shown.Entry.{Entry}
use Rattle.records.proofs.Sorting.{asymmetric, has_from_filter}
use Rattle.archive.specs.Reading.{log, in_direction, is_between, log_cmp, place_of, follows, log_of}
use Rattle.archive.specs.declared.reading.Direction.{Direction}
use Rattle.archive.specs.declared.reading.Direction.TheVariants.{Forward, Backward}
use Rattle.archive.specs.declared.reading.LogPlace.{LogPlace}
use Rattle.archive.proofs.Timing.{has_from_get}
use Rattle.archive.proofs.Logs.{log_goes}

-- of a list in which each element is past those before it, what is past the k-th is what stands
-- behind it
module _ {X : Type 0} (past : X → X → Bool)
    (back : (x y : X) → past x y ≡ true → past y x ≡ false) where
  itself : (x : X) → past x x ≡ false
  itself x = go (past x x) refl
    where
      go : (b : Bool) → past x x ≡ b → b ≡ false
      go true e = sym e ∙ back x x e
      go false e = refl

  all_past : (x : X) (ys : List X) → AllByRecursion (λ y. past x y ≡ true) ys
      → filter (past x) ys ≡ ys
  all_past x [] h = refl
  all_past x (y ∷ ys) h = ap (λ b. cond b (y ∷ filter (past x) ys) (filter (past x) ys)) h.0
      ∙ ap (λ l. y ∷ l) (all_past x ys h.1)

  not_past : (x y : X) (ys : List X) (k : ℕ) → AllByRecursion (λ z. past y z ≡ true) ys
      → slice_get ys k ≡ Some x → past x y ≡ false
  not_past x y [] k h e = cc
  not_past x y (z ∷ ys) zero h e = let same : z ≡ x = cc in
      subst (λ w. past w y ≡ false) same (back y z h.0)
  not_past x y (z ∷ ys) (suc k) h e = not_past x y ys k h.1 e

  past_is_drop : (xs : List X) (k : ℕ) (x : X) → IsPairwise (λ a b. past a b ≡ true) xs
      → slice_get xs k ≡ Some x → filter (past x) xs ≡ drop (suc k) xs
  past_is_drop [] k x up e = cc
  past_is_drop (y ∷ xs) zero x up e =
      let same : y ≡ x = cc in
      subst (λ w. filter (past w) (y ∷ xs) ≡ xs) same
      (ap (λ b. cond b (y ∷ filter (past y) xs) (filter (past y) xs)) (itself y)
      ∙ all_past y xs up.0)
  past_is_drop (y ∷ xs) (suc k) x up e =
      ap (λ b. cond b (y ∷ filter (past x) xs) (filter (past x) xs)) (not_past x y xs k up.0 e)
      ∙ past_is_drop xs k x up.1 e

-- what is past an element passes a test that lets through all that is past it
pub past_passes : {X : Type 0} (p q : X → Bool) → ((x : X) → p x ≡ true → q x ≡ true)
    → (xs : List X) → filter p (filter q xs) ≡ filter p xs
past_passes p q on [] = refl
past_passes {X} p q on (x ∷ xs) = go (q x) (p x) refl refl (past_passes p q on xs)
  where
    go : (b c : Bool) → q x ≡ b → p x ≡ c → filter p (filter q xs) ≡ filter p xs
        → filter p (cond b (x ∷ filter q xs) (filter q xs)) ≡ cond c (x ∷ filter p xs) (filter p xs)
    go true c e k rest = ap (λ a. cond a (x ∷ filter p (filter q xs)) (filter p (filter q xs))) k
        ∙ ap (λ l. cond c (x ∷ l) l) rest
    go false true e k rest = absurd (true≢false (sym (on x k) ∙ e))
    go false false e k rest = rest

-- ---- places

log_total : IsTotalOrder log_cmp
log_total = then_total (on_total (λ p. p.time) int_cmp_total)
    (back_total (on_total (λ p. p.stamp) stamp_total))

less : (o : Ordering) → is_lt o ≡ true → o ≡ Less
less Less e = refl
less Equal e = absurd (true≢false (sym e))
less Greater e = absurd (true≢false (sym e))

not_less : (o : Ordering) → (o ≡ Less → ⊥) → is_lt o ≡ false
not_less Less f = absurd (f refl)
not_less Equal f = refl
not_less Greater f = refl

follows_back : (d : Direction) (a b : Entry) → follows d (Some (place_of a)) b ≡ true
    → follows d (Some (place_of b)) a ≡ false
follows_back Forward a b e = not_less _ (asymmetric log_cmp log_total (place_of a) (place_of b)
    (less (log_cmp (place_of a) (place_of b)) e))
follows_back Backward a b e = not_less _ (asymmetric log_cmp log_total (place_of b) (place_of a)
    (less (log_cmp (place_of b) (place_of a)) e))

follows_on : (d : Direction) (after : Option LogPlace) (a b : Entry) → follows d after a ≡ true
    → follows d (Some (place_of a)) b ≡ true → follows d after b ≡ true
follows_on d None a b e k = refl
follows_on Forward (Some p) a b e k =
    ap is_lt (log_total.trans p (place_of a) (place_of b) (less (log_cmp p (place_of a)) e)
    (less (log_cmp (place_of a) (place_of b)) k))
follows_on Backward (Some p) a b e k =
    ap is_lt (log_total.trans (place_of b) (place_of a) p
    (less (log_cmp (place_of b) (place_of a)) k) (less (log_cmp (place_of a) p) e))

pub log_resumes : (R : Content) (node : NodeId) (from to : ℤ) (after : Option LogPlace)
    (d : Direction) (k : ℕ) (e : Entry) → IsClosed R
    → slice_get (log_of R node from to after d) k ≡ Some e
    → log_of R node from to (Some (place_of e)) d ≡ drop (k + 1) (log_of R node from to after d)
log_resumes R node from to after d k e closed at =
    let all : List Entry = in_direction d (filter (λ x. is_between from to x.time) (log R node)) in
    let behind : follows d after e ≡ true =
    (has_from_filter (follows d after) all e (has_from_get
    (log_of R node from to after d) k e at)).1 in
    sym (past_passes (follows d (Some (place_of e))) (follows d after)
    (λ x h. follows_on d after e x behind h) all)
    ∙ (past_is_drop (λ a. follows d (Some (place_of a))) (follows_back d)
    (log_of R node from to after d) k e (log_goes R node from to after d closed) at
    ∙ ap (λ n. drop n (log_of R node from to after d)) (sym (add-one k)))
