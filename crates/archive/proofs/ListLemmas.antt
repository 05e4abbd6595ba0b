-- The loops of a list of records, step by step.
use Rattle.std.proofs.Common.{◌≡◌, ◌≢◌, ℕ, zero, suc, ◌+◌, ◌<◌, ◌≤ℤ◌, max, ℤ, pos, eqb, Bool, true, false, cond, List, [], ◌∷◌, ◌++◌, filter, get_or, take, drop, length, refl, sym, ap, ◌∙◌, arith, inl, inr, subst, is_gt}
use Rattle.std.specs.List.{insert}
use Rattle.std.specs.Int.{int_max}
use Rattle.std.proofs.lemmas.Int.{ints, clamps}
use Rattle.std.proofs.lemmas.List.{take_more, drop_more, append_assoc, append-nil}
use Rattle.std.proofs.lemmas.List.Elements.{filter-append}
use Rattle.std.proofs.lemmas.Bool.{eq-eqb, ne_eqb, cases_eq}
use Rattle.stamp.specs.Numbers.{number_of}
use Rattle.records.specs.declared.record.Record.{Record}
use Rattle.records.specs.Lists.{Has}
use Rattle.records.proofs.PutLemmas.{top_positive}
use Rattle.archive.specs.Listed.{tick_from}
use Rattle.records.specs.Records.{name_cmp}
use Rattle.records.specs.Contents.{Content, vec, top, last_tick, put}
use Rattle.records.proofs.ContentsParts.{number_from}

vec_push : (xs : Content) (r : Record) (origin : ℕ)
    → vec (xs ++ r ∷ []) origin ≡ max (vec xs origin) (number_from origin r)
vec_push [] r origin = grind arith
vec_push (x ∷ xs) r origin = let more = vec_push xs r origin in grind arith

top_push : (xs : Content) (r : Record) → top (xs ++ r ∷ []) ≡ int_max (top xs) r.tick
top_push [] r = omega (arith, ints, clamps)
top_push (x ∷ xs) r = let more = top_push xs r in omega (arith, ints, clamps)

pub vec_more : (xs : Content) (i : ℕ) (d : Record) (origin : ℕ) → i < length xs
    → vec (take (i + 1) xs) origin
    ≡ max (vec (take i xs) origin) (number_from origin (get_or xs i d))
vec_more xs i d origin h = ap (λ l. vec l origin) (take_more xs i d h)
    ∙ vec_push (take i xs) (get_or xs i d) origin

pub top_more : (xs : Content) (i : ℕ) (d : Record) → i < length xs
    → top (take (i + 1) xs) ≡ int_max (top (take i xs)) (get_or xs i d).tick
top_more xs i d h = ap top (take_more xs i d h) ∙ top_push (take i xs) (get_or xs i d)

int_max_zero : (t : ℤ) → pos 0 ≤ℤ t → int_max t (pos 0) ≡ t
int_max_zero t h = omega (arith, ints, clamps)

last_push : (xs : Content) (r : Record) (origin : ℕ)
    → last_tick (xs ++ r ∷ []) origin ≡ int_max (last_tick xs origin) (tick_from origin r)
last_push xs r origin = rw (filter-append (λ (s : Record). eqb s.origin origin) xs (r ∷ []))
    (go (eqb r.origin origin))
  where
    own : Content
    own = filter (λ s. eqb s.origin origin) xs

    go : (b : Bool) → top (own ++ cond b (r ∷ []) []) ≡ int_max (top own) (cond b r.tick (pos 0))
    go true = top_push own r
    go false = subst (λ (l : Content). top l ≡ int_max (top own) (pos 0)) (sym (append-nil own))
        (sym (int_max_zero (top own) (top_positive own)))

pub last_more : (xs : Content) (i : ℕ) (d : Record) (origin : ℕ) → i < length xs
    → last_tick (take (i + 1) xs) origin
    ≡ int_max (last_tick (take i xs) origin) (tick_from origin (get_or xs i d))
last_more xs i d origin h = ap (λ l. last_tick l origin) (take_more xs i d h)
    ∙ last_push (take i xs) (get_or xs i d) origin

pub has_at : (xs : Content) (i : ℕ) (d : Record) → i < length xs → Has xs (get_or xs i d)
has_at [] i d h = absurd (omega (arith, h))
has_at (x ∷ xs) zero d h = inl refl
has_at (x ∷ xs) (suc i) d h = inr (has_at xs i d (omega arith))

-- a vector that was raised to a record's number
pub raised_more : (xs : Content) (i : ℕ) (d : Record) (old new : List ℕ) → i < length xs
    → ((replica : ℕ) → number_of old replica ≡ vec (take i xs) replica)
    → number_of new (get_or xs i d).origin
    ≡ max (number_of old (get_or xs i d).origin) (get_or xs i d).number
    → ((other : ℕ) → other ≢ (get_or xs i d).origin → number_of new other ≡ number_of old other)
    → (replica : ℕ) → number_of new replica ≡ vec (take (i + 1) xs) replica
raised_more xs i d old new h so raised others replica =
    let r = get_or xs i d in
    let more = vec_more xs i d replica h in
    elim (cases_eq r.origin replica) [
      | inl e ↦
          let here : number_from replica r ≡ r.number = rw (eq-eqb r.origin replica e) refl in
          subst (λ o. number_of new o ≡ vec (take (i + 1) xs) replica) e
          (raised ∙ (ap (λ n. max n r.number) (so r.origin ∙ ap (vec (take i xs)) e)
          ∙ (ap (max (vec (take i xs) replica)) (sym here) ∙ sym more)))
      | inr f ↦
          let none : number_from replica r ≡ 0 = rw (ne_eqb r.origin replica f) refl in
          others replica (λ e. f (sym e)) ∙ (so replica ∙ omega (arith, more, none))
    ]

-- where a record goes
pub insert_here : (xs : Content) (i : ℕ) (r : Record) (d : Record) → i < length xs
    → put r xs ≡ take i xs ++ put r (drop i xs) → is_gt (name_cmp r (get_or xs i d)) ≡ false
    → insert xs i r ≡ put r xs
insert_here xs i r d h inv e =
    let more = drop_more xs i d h in
    let here : put r (drop i xs) ≡ r ∷ drop i xs =
    ap (put r) more ∙ (ap
    (λ b. cond b (get_or xs i d ∷ put r (drop (i + 1) xs))
    (r ∷ get_or xs i d ∷ drop (i + 1) xs)) e ∙ ap (λ l. r ∷ l) (sym more)) in
    sym (inv ∙ ap (λ l. take i xs ++ l) here)

pub insert_on : (xs : Content) (i : ℕ) (r : Record) (d : Record) → i < length xs
    → put r xs ≡ take i xs ++ put r (drop i xs) → is_gt (name_cmp r (get_or xs i d)) ≡ true
    → put r xs ≡ take (i + 1) xs ++ put r (drop (i + 1) xs)
insert_on xs i r d h inv e =
    let more = drop_more xs i d h in
    let here : put r (drop i xs) ≡ get_or xs i d ∷ put r (drop (i + 1) xs) =
    ap (put r) more ∙ ap (λ b.
    cond b (get_or xs i d ∷ put r (drop (i + 1) xs)) (r ∷ get_or xs i d ∷ drop (i + 1) xs)) e in
    inv ∙ (ap (λ l. take i xs ++ l) here ∙ (sym (append_assoc (take i xs) (get_or xs i d ∷ []) _)
    ∙ ap (λ l. l ++ put r (drop (i + 1) xs)) (sym (take_more xs i d h))))
