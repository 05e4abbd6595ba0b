-- Reading items one after the other and keeping the first so many, as a loop does; and what holds
-- of such an array.
use Rattle.std.proofs.Common.{◌≡◌, ℕ, zero, suc, ◌-◌, ◌+◌, ◌≤◌, ◌<◌, List, [], ◌∷◌, ◌++◌, length, take, map, Ok, Err, refl, sym, ap, subst, ◌∙◌, append_assoc, arith}
use Rattle.std.proofs.lemmas.List.{map_push, take_all, take-map, length-take}
use Rattle.std.proofs.lemmas.List.Elements.{All-take}
use Rattle.ua_binary.specs.declared.fault.BinaryFault.{BinaryFault}
use Rattle.ua_binary.specs.Format.{◌>>=◌, Reading, Format, IsLawful, items_at}
use Rattle.ua_binary.specs.Binary.{array}
use Rattle.ua_binary.proofs.Combined.{bind_ok, ok_is, Found}
use Rattle.ua_binary.proofs.Elements.{IsItemLawful}
use Rattle.ua_binary.proofs.Lawful.{array_of_items}
use Rattle.ua_binary.proofs.Counted.{SpellsOnly, IsFew, array_only}
use Rattle.ua_services.specs.Unkept.{first_items_of}

-- ---- the loop

-- of what was kept before and what is still read, the first so many items
abbrev pub firsts : {E A : Type 0} → ℕ → List A → Reading E (List A) → Reading E (List A)
firsts most front r = r >>= λ x. Ok (take most (front ++ x.0), x.1)

-- what is cut before is cut again
pub take_front : {A : Type 0} (n : ℕ) (xs ys : List A)
    → take n (take n xs ++ ys) ≡ take n (xs ++ ys)
take_front zero xs ys = refl
take_front (suc n) [] ys = refl
take_front (suc n) (x ∷ xs) ys = ap (λ l. x ∷ l) (take_front n xs ys)

regroup : {E A : Type 0} (most : ℕ) (front : List A) (v : A) (r : Reading E (List A))
    → firsts most front (r >>= λ x. Ok (v ∷ x.0, x.1)) ≡ firsts most (take most (front ++ v ∷ [])) r
regroup most front v (Ok x) =
    let one : (front ++ v ∷ []) ++ x.0 ≡ front ++ v ∷ x.0 = simp append_assoc in
    ap (λ vs. Ok (vs, x.1)) (sym
    (take_front most (front ++ v ∷ []) x.0 ∙ ap (λ l. take most l) one))
regroup most front v (Err e) = refl

pub goes_on : {E A : Type 0} (read : List ℕ → Reading E A) (most : ℕ) (front : List A) (count i : ℕ)
    (bytes : List ℕ) (v : A) (after : List ℕ) (total : Reading E (List A)) → i < count
    → read bytes ≡ Ok (v, after)
    → firsts most front (items_at read (count - i) bytes) ≡ total
    → firsts most (take most (front ++ v ∷ [])) (items_at read (count - (i + 1)) after) ≡ total
goes_on read most front count i bytes v after total lt h so_far =
    let k : count - i ≡ suc (count - (i + 1)) = omega arith in
    let one : firsts most front (items_at read (count - i) bytes)
    ≡ firsts most (take most (front ++ v ∷ [])) (items_at read (count - (i + 1)) after) =
    rw (k, h) (regroup most front v (items_at read (count - (i + 1)) after)) in
    sym one ∙ so_far

pub ends : {E A : Type 0} (read : List ℕ → Reading E A) (most : ℕ) (front : List A) (count i : ℕ)
    (bytes : List ℕ) (e : E) (total : Reading E (List A)) → i < count → read bytes ≡ Err e
    → firsts most front (items_at read (count - i) bytes) ≡ total → total ≡ Err e
ends read most front count i bytes e total lt h so_far =
    let k : count - i ≡ suc (count - (i + 1)) = omega arith in
    let one : firsts most front (items_at read (count - i) bytes) ≡ Err e = rw (k, h) refl in
    sym so_far ∙ one

-- the views of the first items are the first views
pub map_take : {A B : Type 0} (view : A → B) (n : ℕ) (xs : List A) (x : A)
    → map view (take n (xs ++ x ∷ [])) ≡ take n (map view xs ++ view x ∷ [])
map_take view n xs x = sym (take-map view n (xs ++ x ∷ []))
    ∙ ap (λ l. take n l) (map_push view xs x)

pub taken_length : {A : Type 0} (most : ℕ) (vs : List A) → length (take most vs) ≤ most
taken_length most vs = omega (arith, length-take most vs)

-- ---- the format

pub first_lawful : {E A : Type 0} (most : ℕ) (told : BinaryFault → E) {f : Format E A}
    → IsItemLawful f → IsLawful (first_items_of most told f)
unfolding first_items_of
first_lawful most told {f} p =
    let q : IsLawful (array told f) = array_of_items told p in
    record {
      found = λ bytes v rest e.
          let a = bind_ok ((array told f).read bytes) (λ a. Ok (take most a.0, a.1)) (v, rest) e in
          let x = q.found bytes a.0.0 a.0.1 a.1 in
          subst (Found (first_items_of most told f) bytes)
          (ok_is (take most a.0.0, a.0.1) (v, rest) a.2) (x.0, x.1, (a.0.0, x.2, refl));
      only = λ front v rest s. rw (q.only front s.0 rest s.1, s.2) refl;
      written = λ v h. (v, q.written v h.1, sym (take_all most v h.0));
    }

pub first_only : {E A : Type 0} {P : A → Type 0} (most : ℕ)
    (told : BinaryFault → E) {f : Format E A} → SpellsOnly f P
    → SpellsOnly (first_items_of most told f) (IsFew P)
unfolding first_items_of
first_only {P = P} most told {f} p = record {
  holds = λ bytes vs s.
      let few = (array_only told p).holds bytes s.0 s.1 in
      subst (IsFew P) (sym s.2) (
        omega (arith, length-take most s.0, few.0),
        All-take P most s.0 few.1,
      );
}
