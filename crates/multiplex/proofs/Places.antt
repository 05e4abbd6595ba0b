-- What is in a slot, and how many bytes wait in all of them: the contracts of `turns` and
-- `serving`.
use Rattle.std.proofs.Common.{◌≡◌, ℕ, zero, suc, ◌+◌, ◌*◌, ◌^◌, ◌<◌, ◌≤◌, Bool, true, take, List, [], ◌∷◌, length, get_or, refl, sym, ◌∙◌, ap, subst, arith, inl, inr}
use Rattle.std.specs.Prelude.{Option, None, Some, IfSome, IfNone, slice_get, slice_set, sum_by}
use Rattle.multiplex.specs.declared.handler.SlotEnd.{SlotEnd}
use Rattle.std.proofs.lemmas.Option.{slice_get-get_or, get_or_from_slice_get, same_Some, none-some}
use Rattle.std.proofs.lemmas.List.{set-get_or}
use Rattle.std.proofs.lemmas.List.Sums.{sum_by-cons, sum_by_more, get_or-le-sum_by}
use Rattle.std.proofs.lemmas.Bool.{lt-ltb, ltb-true}
use Rattle.std.proofs.lemmas.Bool.Decides.{eqb_tells}
use Rattle.multiplex.specs.Behavior.{Behavior}
use Rattle.multiplex.specs.Slots.{Slot, IsQuiet, IsQuietAt, IsAtRest, IsAtRestAt, MayClose, waiting_in, AreCountable, all_waiting, has_room}

-- what an index found is there
pub there : {X : Type 0} (xs : List X) (i : ℕ) (x y : X) → i < length xs → get_or xs i x ≡ y
    → slice_get xs i ≡ Some y
there xs i x y within is = slice_get-get_or xs i x within ∙ ap (λ z. Some z) is

-- what is there, written again, changes nothing
pub set_same : {X : Type 0} (xs : List X) (i : ℕ) (x : X) → slice_get xs i ≡ Some x
    → slice_set xs i x ≡ xs
set_same xs i x got = ap (λ y. slice_set xs i y) (sym (get_or_from_slice_get xs i x x got))
    ∙ set-get_or xs i x

pub get-set_same : {X : Type 0} (xs : List X) (i : ℕ) (v x : X) → slice_get xs i ≡ Some x
    → slice_get (slice_set xs i v) i ≡ Some v
get-set_same [] i v x e = absurd (none-some _ e)
get-set_same (y ∷ ys) zero v x e = refl
get-set_same (y ∷ ys) (suc i) v x e = get-set_same ys i v x e

pub get-set_other : {X : Type 0} (xs : List X) (i j : ℕ) (v : X) → (j ≡ i → ⊥)
    → slice_get (slice_set xs i v) j ≡ slice_get xs j
get-set_other [] i j v other = refl
get-set_other (y ∷ ys) zero zero v other = absurd (other refl)
get-set_other (y ∷ ys) zero (suc j) v other = refl
get-set_other (y ∷ ys) (suc i) zero v other = refl
get-set_other (y ∷ ys) (suc i) (suc j) v other = get-set_other ys i j v (λ p. other (ap suc p))

pub set-set : {X : Type 0} (xs : List X) (i : ℕ) (v w : X) → slice_set (slice_set xs i v) i w ≡
    slice_set xs i w
set-set [] i v w = refl
set-set (y ∷ ys) zero v w = refl
set-set (y ∷ ys) (suc i) v w = ap (λ l. y ∷ l) (set-set ys i v w)

-- the sum of what waits, once another connection is in a slot
pub all-set : {H R W E : Type 0} (slots : List (Option (Slot H R W E))) (i : ℕ)
    (old new : Option (Slot H R W E))
    → slice_get slots i ≡ Some old → all_waiting (slice_set slots i new) + waiting_in old ≡
    all_waiting slots + waiting_in new
all-set [] i old new got = absurd (none-some _ got)
all-set (y ∷ ys) zero old new got =
    let same : waiting_in y ≡ waiting_in old = ap waiting_in (same_Some y old got) in
    let before : all_waiting (y ∷ ys) ≡ waiting_in y + all_waiting ys = sum_by-cons waiting_in y ys
    in
    let behind : all_waiting (new ∷ ys) ≡ waiting_in new + all_waiting ys = sum_by-cons waiting_in
    new ys in
    omega (arith, same, before, behind)
all-set (y ∷ ys) (suc i) old new got =
    let rest = all-set ys i old new got in
    let before : all_waiting (y ∷ ys) ≡ waiting_in y + all_waiting ys = sum_by-cons waiting_in y ys
    in
    let behind : all_waiting (y ∷ slice_set ys i new) ≡ waiting_in y + all_waiting
    (slice_set ys i new) =
    sum_by-cons waiting_in y (slice_set ys i new) in
    omega (arith, rest, before, behind)

-- slots that are the same one by one are the same
same-slots : {X : Type 0} (xs ys : List X) → length ys ≡ length xs
    → ((j : ℕ) → slice_get ys j ≡ slice_get xs j) → ys ≡ xs
same-slots [] [] long each = refl
same-slots [] (y ∷ ys) long each = absurd (omega (arith, long))
same-slots (x ∷ xs) [] long each = absurd (omega (arith, long))
same-slots (x ∷ xs) (y ∷ ys) long each =
    subst (λ z. z ∷ ys ≡ x ∷ xs) (sym (same_Some y x (each 0)))
    (ap (λ l. x ∷ l) (same-slots xs ys (omega (arith, long)) (λ j. each (suc j))))

-- the sum of what waits, once one slot changed
pub all-changed : {H R W E : Type 0} (old new : List (Option (Slot H R W E))) (k a b : ℕ)
    → k < length old → length new ≡ length old
    → ((j : ℕ) → (j ≡ k → ⊥) → slice_get new j ≡ slice_get old j)
    → ((s : Option (Slot H R W E)) → slice_get old k ≡ Some s → a ≡ waiting_in s)
    → ((s : Option (Slot H R W E)) → slice_get new k ≡ Some s → b ≡ waiting_in s)
    → all_waiting new + a ≡ all_waiting old + b
all-changed [] new k a b within long others before behind = absurd (omega (arith, within))
all-changed (x ∷ xs) [] k a b within long others before behind = absurd (omega (arith, long))
all-changed (x ∷ xs) (y ∷ ys) zero a b within long others before behind =
    let rest : ys ≡ xs = same-slots xs ys (omega (arith, long)) (λ j. others (suc j)
    (λ e. absurd (omega (arith, e)))) in
    let same : all_waiting ys ≡ all_waiting xs = ap all_waiting rest in
    let was = sum_by-cons waiting_in x xs in
    let is = sum_by-cons waiting_in y ys in
    let first = before x refl in
    let last = behind y refl in
    omega (arith, same, was, is, first, last)
all-changed (x ∷ xs) (y ∷ ys) (suc k) a b within long others before behind =
    let rest = all-changed xs ys k a b (omega (arith, within)) (omega (arith, long))
    (λ j other. others (suc j) (λ e. other (omega (arith, e)))) before behind in
    let same : waiting_in y ≡ waiting_in x = ap waiting_in (same_Some y x (others 0
    (λ e. absurd (omega (arith, e))))) in
    let was = sum_by-cons waiting_in x xs in
    let is = sum_by-cons waiting_in y ys in
    omega (arith, same, was, is, rest)

-- what waits in one slot is part of what waits in all
pub part-of-all : {H R W E : Type 0} (slots : List (Option (Slot H R W E))) (k a : ℕ)
    → k < length slots
    → ((s : Option (Slot H R W E)) → slice_get slots k ≡ Some s → a ≡ waiting_in s)
    → a ≤ all_waiting slots
part-of-all slots k a within is =
    let here = is (get_or slots k None) (slice_get-get_or slots k None within) in
    let part = get_or-le-sum_by waiting_in slots k None within in
    omega (arith, here, part)

-- what waits in all slots fits 128 bits, where what waits in each fits 64
pub all-fit : {H R W E : Type 0} (slots : List (Option (Slot H R W E))) → AreCountable slots
    → all_waiting slots ≤ length slots * 18446744073709551615
all-fit [] each = omega arith
all-fit (x ∷ xs) each =
    let all = sum_by-cons waiting_in x xs in
    let first = each 0 x refl in
    let rest = all-fit xs (λ k. each (suc k)) in
    omega (arith, all, first, rest)

-- each slot is countable still, once one changed
pub countable-changed : {H R W E : Type 0} (old new : List (Option (Slot H R W E))) (k b : ℕ)
    → AreCountable old → ((j : ℕ) → (j ≡ k → ⊥) → slice_get new j ≡ slice_get old j)
    → ((s : Option (Slot H R W E)) → slice_get new k ≡ Some s → b ≡ waiting_in s) → b < 2 ^ 64
    → AreCountable new
countable-changed old new k b each others is small j slot got = elim (eqb_tells j k) [
  | inl same ↦
      let here = is slot (ap (λ i. slice_get new i) (sym same.1) ∙ got) in
      omega (arith, here, small)
  | inr apart ↦ each j slot (sym (others j apart.1) ∙ got)
]

-- the sum of the first slots, and of one more
pub sum-more : {H R W E : Type 0} (slots : List (Option (Slot H R W E))) (i w sum : ℕ)
    (slot : Option (Slot H R W E)) → sum ≡ sum_by waiting_in (take i slots) → i < length slots
    → slot ≡ get_or slots i slot → w ≡ waiting_in slot
    → sum + w ≡ sum_by waiting_in (take (i + 1) slots)
sum-more slots i w sum slot so_far within is waits =
    let same : waiting_in slot ≡ waiting_in (get_or slots i slot) = ap waiting_in is in
    let more = sum_by_more waiting_in slots i slot within in
    omega (arith, so_far, same, more, waits)

-- what waits where all was written of the connection of a slot
pub less-empty : {H R W E : Type 0} (slots : List (Option (Slot H R W E))) (most i : ℕ)
    (old new : Slot H R W E)
    → slice_get slots i ≡ Some (Some old) → new.waiting ≡ [] → has_room most slots ≡ true
    → has_room most (slice_set slots i (Some new)) ≡ true
less-empty slots most i old new got none room =
    let sums = all-set slots i (Some old) (Some new) got in
    let nothing : waiting_in (Some new) ≡ 0 = ap (λ l. length l) none in
    let below : all_waiting slots < most = ltb-true (all_waiting slots) most room in
    lt-ltb (all_waiting (slice_set slots i (Some new))) most (omega (arith, sums, nothing, below))

-- what waits is the same where it is the same in a slot that changed
pub all-kept : {H R W E : Type 0} (slots : List (Option (Slot H R W E))) (i : ℕ)
    (old new : Slot H R W E)
    → slice_get slots i ≡ Some (Some old) → new.waiting ≡ old.waiting
    → all_waiting (slice_set slots i (Some new)) ≡ all_waiting slots
all-kept slots i old new got same =
    let sums = all-set slots i (Some old) (Some new) got in
    let waits : waiting_in (Some new) ≡ waiting_in (Some old) = ap (λ l. length l) same in
    omega (arith, sums, waits)

-- what is quiet in a slot that changed
pub rests-set : {H R W V E : Type 0} (handler : Behavior H V E) (room : Bool)
    (slots : List (Option (Slot H R W E))) (k : ℕ)
    (old new : Slot H R W E) → slice_get slots k ≡ Some (Some old) → IsQuiet handler room new
    → IsQuietAt handler room (slice_set slots k (Some new)) k
rests-set {H} {R} {W} {V} {E} handler room slots k old new got rest slot found =
    subst (λ (s : Slot H R W E). IsQuiet handler room s)
    (same_Some new slot (same_Some (Some new) (Some slot) (sym
    (get-set_same slots k (Some new) (Some old) got) ∙ found))) rest

-- nothing is to be done in a slot that is free
pub rests-free : {H R W V E : Type 0} (handler : Behavior H V E) (room : Bool)
    (slots : List (Option (Slot H R W E))) (k : ℕ)
    (old left : Option (Slot H R W E)) → slice_get slots k ≡ Some old → left ≡ None
    → IsQuietAt handler room (slice_set slots k left) k
rests-free handler room slots k old left got none slot found =
    absurd (none-some slot (sym none ∙ same_Some left (Some slot)
    (sym (get-set_same slots k left old got) ∙ found)))

-- what is at rest in a slot stays so where nothing changed there
pub rests-kept : {H R W V E : Type 0} (handler : Behavior H V E) (room room' : Bool)
    (old new : List (Option (Slot H R W E))) (k : ℕ)
    → slice_get new k ≡ slice_get old k → room ≡ room' → IsAtRestAt handler room old k
    → IsAtRestAt handler room' new k
rests-kept handler room room' old new k same judged rest slot found =
    subst (λ b. IsAtRest handler b slot) judged (rest slot (sym same ∙ found))

-- a quiet connection that may not be closed is at rest
pub rests-open : {H R W V E : Type 0} (handler : Behavior H V E) (room : Bool)
    (slots : List (Option (Slot H R W E))) (k : ℕ)
    → IsQuietAt handler room slots k
    → ((slot : Slot H R W E) → slice_get slots k ≡ Some (Some slot) → MayClose slot → ⊥)
    → IsAtRestAt handler room slots k
rests-open handler room slots k quiet still slot found = (quiet slot found, still slot found)

-- how the connection in a slot ended, where it is known of the connection that was found there
pub end-some : {H R W E : Type 0} (slots : List (Option (Slot H R W E))) (k : ℕ)
    (slot : Slot H R W E) (end : Option (SlotEnd E)) → slice_get slots k ≡ Some (Some slot)
    → IfSome end (λ ending. MayClose slot × (slot.ending ≡ Some ending))
    → IfSome end (λ ending. (s : Slot H R W E) × (slice_get slots k ≡ Some (Some s))
    × MayClose s × (s.ending ≡ Some ending))
end-some slots k slot None got is = tt
end-some slots k slot (Some ending) got is = (slot, got, is.0, is.1)

pub end-none : {H R W E : Type 0} (slots : List (Option (Slot H R W E))) (k : ℕ)
    (slot : Slot H R W E) (end : Option (SlotEnd E)) → slice_get slots k ≡ Some (Some slot)
    → IfNone end (MayClose slot → ⊥)
    → IfNone end ((s : Slot H R W E) → slice_get slots k ≡ Some (Some s) → MayClose s → ⊥)
end-none {H} {R} {W} {E} slots k slot None got is = λ s found may.
    is (subst (λ (x : Slot H R W E). MayClose x) (same_Some s slot
    (same_Some (Some s) (Some slot) (sym found ∙ got))) may)
end-none slots k slot (Some ending) got is = tt

-- what waits in the first slots is countable, and in one more
pub countable-more : {H R W E : Type 0} (slots : List (Option (Slot H R W E))) (i w : ℕ)
    (slot : Option (Slot H R W E))
    → ((k : ℕ) (s : Option (Slot H R W E)) → k < i → slice_get slots k ≡ Some s
    → waiting_in s < 2 ^ 64)
    → i < length slots → slot ≡ get_or slots i slot → w ≡ waiting_in slot → w < 2 ^ 64
    → (k : ℕ) (s : Option (Slot H R W E)) → k < i + 1 → slice_get slots k ≡ Some s
    → waiting_in s < 2 ^ 64
countable-more slots i w slot each within is waits small k s below got = elim (eqb_tells k i) [
  | inl same ↦
      let here : slot ≡ s = same_Some slot s (sym (there slots i slot slot within (sym is))
      ∙ (ap (λ j. slice_get slots j) (sym same.1) ∙ got)) in
      let waits' : waiting_in slot ≡ waiting_in s = ap waiting_in here in
      omega (arith, waits, waits', small)
  | inr apart ↦ each k s (omega (arith, below, apart.1)) got
]
